-- The elements that stand at spans of a message's bytes.
use Rattle.std.specs.Prelude.{◌≡◌, ℕ, ◌+◌, nat_le, Bool, true, List, length, map, take, drop}
use Rattle.std.specs.List.{list_all}
use Rattle.iso_codec.specs.declared.span.Span.{Span}
use Rattle.iso_codec.specs.Message.{IsMessage}

-- whether the span stands within so many bytes
abbrev pub is_within : ℕ → Span → Bool
is_within size span = nat_le (span.start + span.len) size

abbrev pub element_at : List ℕ → Span → ℕ × List ℕ
element_at bytes span = (span.number, take span.len (drop span.start bytes))

abbrev pub elements_in : List ℕ → List Span → List (ℕ × List ℕ)
elements_in bytes spans = map (element_at bytes) spans

abbrev pub numbers_of : List Span → List ℕ
numbers_of spans = map (λ span. span.number) spans

-- The spans stand within the bytes, and what stands there is a message's elements.
pub record IsStored (kind bytes : List ℕ) (spans : List Span) : Type 0 where
  pub within : list_all (is_within (length bytes)) spans ≡ true
  pub message : IsMessage (record { kind = kind; elements = elements_in bytes spans })
