-- The names that a walk collects.
use Rattle.std.proofs.Common.{◌≡◌, List, [], ◌∷◌, ◌++◌, false, inl, inr, sym, ap, ◌∙◌, append_assoc}
use Rattle.std.proofs.Common.{append-nil}
use Rattle.acq_core.specs.declared.merchant.Merchant.{Merchant}
use Rattle.acq_book.specs.Visits.{SawAll}
use Rattle.acq_reports.specs.declared.names.Names.{Names}
use Rattle.acq_reports.specs.Naming.{NamesOne}
use Rattle.acq_reports.specs.SettlementReport.{names_of}

pub named : (rows : List Merchant) (v w : Names) → SawAll NamesOne rows v w → w.is_short ≡ false
    → w.names.items ≡ v.names.items ++ names_of rows
named [] v w same short = ap (λ u. u.names.items) (sym same) ∙ sym (append-nil v.names.items)
named (row ∷ rows) v w (inl (u, seen, rest)) short =
    named rows u w rest short
    ∙ (ap (λ xs. xs ++ names_of rows) seen.0 ∙ append_assoc v.names.items (row.id ∷ [])
    (names_of rows))
named (row ∷ rows) v w (inr seen) short = absurd (let a = seen in let b = short in cc)
