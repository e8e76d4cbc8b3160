-- What a parameter that may be absent is bound as.
use Rattle.std.proofs.Common.{◌≡◌, ℕ, List, Option, None, Some, refl}
use Rattle.sqlite.specs.Values.{bound_value}
use Rattle.row_lemmas.specs.Values.{number_or_null, text_or_null}

pub bound_number : (n : Option ℕ) → bound_value (number_or_null n) ≡ number_or_null n
bound_number None = refl
bound_number (Some n) = refl

pub bound_text : (t : Option (List ℕ)) → bound_value (text_or_null t) ≡ text_or_null t
bound_text None = refl
bound_text (Some t) = refl
