-- Which contents an element may be set to, where it goes, and the bits that elements mark.
use Rattle.std.specs.Prelude.{◌≡◌, ℕ, ◌<◌, ◌≤◌, ◌==◌, nat_lt, nat_le, Bool, true, false, List, []}
use Rattle.std.specs.Prelude.{◌∷◌, length, take, drop, Option, Some, None, if◌then◌else◌}
use Rattle.std.specs.List.{list_all, list_any}
use Rattle.iso_codec.specs.declared.bitmaps.Bitmaps.{Bitmaps}
use Rattle.iso_codec.specs.declared.form.Form.{Form}
use Rattle.iso_codec.specs.declared.form.Form.TheVariants.{Fixed, Llvar, Lllvar}
use Rattle.iso_codec.specs.declared.element_format.ElementFormat.{ElementFormat}
use Rattle.iso_codec.specs.declared.set_fault.SetFault.{SetFault}
use Rattle.iso_codec.specs.declared.set_fault.SetFault.TheVariants.{UnknownElement, BadLength}
use Rattle.iso_codec.specs.declared.set_fault.SetFault.TheVariants.{BadContent}
use Rattle.iso_codec.specs.Table.{format_of}
use Rattle.iso_codec.specs.Content.{has_length, has_class}
use Rattle.iso_codec.specs.Message.{bit, names}

-- an element outside the table; then a length, and then a class, that its format doesn't allow
abbrev pub set_fault_by : Option ElementFormat → ℕ → List ℕ → Option SetFault
set_fault_by None n text = Some (UnknownElement n)
set_fault_by (Some format) n text =
    if has_length format.form (length text)
    then (if has_class format.class text then None else Some (BadContent n))
    else Some (BadLength n)

-- why element n can't have this content
abbrev pub set_fault : ℕ → List ℕ → Option SetFault
set_fault n text = set_fault_by (format_of n) n text

abbrev pub is_below : ℕ → ℕ × List ℕ → Bool
is_below n e = nat_lt e.0 n

abbrev pub StartsFrom : ℕ → List (ℕ × List ℕ) → Type 0
StartsFrom n [] = Unit {0}
StartsFrom n (e ∷ es) = n ≤ e.0

-- those before the place are below n, and the one there isn't
pub record IsPlace (es : List (ℕ × List ℕ)) (n at : ℕ) : Type 0 where
  pub within : at ≤ length es
  pub before : list_all (is_below n) (take at es) ≡ true
  pub after : StartsFrom n (drop at es)

-- whether a number is among these
abbrev pub is_in : List ℕ → ℕ → Bool
is_in ns n = list_any (λ m. n == m) ns

-- the bitmaps name these numbers, and bit 1 says that one is above 64
pub record Marks (ns : List ℕ) (bitmaps : Bitmaps) : Type 0 where
  pub named_each : (n : ℕ) → 2 ≤ n → n ≤ 128 → names bitmaps n ≡ is_in ns n
  pub second : bit bitmaps.primary 1 ≡ list_any (λ n. nat_lt 64 n) ns
  pub none : bit bitmaps.primary 1 ≡ false → bitmaps.secondary ≡ 0

-- bit n is the first of these that is set
pub record IsFirstBit (bits n : ℕ) : Type 0 where
  pub low : 1 ≤ n
  pub high : n ≤ 64
  pub set : bit bits n ≡ true
  pub before : (k : ℕ) → 1 ≤ k → k < n → bit bits k ≡ false

-- a greatest length fits the digits before it
abbrev pub is_sound : Form → Bool
is_sound (Fixed k) = true
is_sound (Llvar greatest) = nat_le greatest 99
is_sound (Lllvar greatest) = nat_le greatest 999
