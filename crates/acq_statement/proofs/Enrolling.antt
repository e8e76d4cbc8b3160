-- The merchants that a walk collects.
use Rattle.std.proofs.Common.{◌≡◌, List, [], ◌∷◌, ◌++◌, false, inl, inr, sym, ap, ◌∙◌, append_assoc}
use Rattle.std.proofs.Common.{append-nil}
use Rattle.acq_core.specs.declared.merchant.Merchant.{Merchant}
use Rattle.acq_book.specs.Visits.{SawAll}
use Rattle.acq_statement.specs.declared.enrolled.Enrolled.{Enrolled}
use Rattle.acq_statement.specs.Rows.{EnrolsOne}

pub all_enrolled : (rows : List Merchant) (v w : Enrolled) → SawAll EnrolsOne rows v w →
    w.is_short ≡ false → w.merchants.items ≡ v.merchants.items ++ rows
all_enrolled [] v w same short =
    ap (λ u. u.merchants.items) (sym same) ∙ sym (append-nil v.merchants.items)
all_enrolled (row ∷ rows) v w (inl (u, seen, rest)) short =
    all_enrolled rows u w rest short
    ∙ (ap (λ xs. xs ++ rows) seen.0 ∙ append_assoc v.merchants.items (row ∷ []) rows)
all_enrolled (row ∷ rows) v w (inr seen) short = absurd (let a = seen in let b = short in cc)
