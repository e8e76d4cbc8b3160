-- The JSON value that bytes are.
use Rattle.std.proofs.Common.{◌≡◌, ℕ, Bool, true, false, List, Some, Err, refl, sym, ap, ◌∙◌}
use Rattle.std.specs.Str.{IsUtf8, is_utf8}
use Rattle.std.proofs.lemmas.Str.{IsUtf8-from_is_utf8, is_utf8-from_IsUtf8}
use Rattle.json.specs.Json.{Json, document}
use Rattle.acq_make.specs.declared.make_fault.MakeFault.TheVariants.{BadLine}
use Rattle.acq_json.specs.Said.{message_said, value_said}

pub valued : (bytes text : List ℕ) (j : Json) → text ≡ bytes → IsUtf8 bytes
    → document text ≡ Some j → value_said bytes ≡ Some j
unfolding value_said
valued bytes text j same is read =
    rw (is_utf8-from_IsUtf8 bytes is) (ap document (sym same) ∙ read)

not_utf8 : (bytes : List ℕ) (b : Bool) → is_utf8 bytes ≡ b → ¬ IsUtf8 bytes → b ≡ false
not_utf8 bytes true is none = absurd (none (IsUtf8-from_is_utf8 bytes is))
not_utf8 bytes false is none = refl

pub no_text : (number : ℕ) (bytes : List ℕ) → ¬ IsUtf8 bytes
    → message_said number bytes ≡ Err (BadLine number)
unfolding value_said
no_text number bytes none = rw (not_utf8 bytes (is_utf8 bytes) refl none) refl
