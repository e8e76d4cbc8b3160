-- The references of a merchant count up from its first.
use Rattle.std.proofs.Common.{◌≡◌, ◌+◌, List, ◌∷◌, Some, true, false, cond, refl, sym, ap, ◌∙◌}
use Rattle.std.proofs.Common.{arith}
use Rattle.std.specs.Option.{option_or}
use Rattle.std.specs.Prelude.{None, if◌then◌else◌}
use Rattle.acq_core.specs.declared.merchant.Merchant.{Merchant}
use Rattle.acq_history.specs.Entries.{Entry, is_performed, enrolment_in}
use Rattle.acq_history.specs.History.{enrolled, is_admission, admitted, first_reference}
use Rattle.acq_history.specs.History.{next_reference}
use Rattle.acq_history.specs.HistoryLaws.{CountsReferences}

pub references_count_up : (h : List Entry) (merchant : Merchant) → enrolled h ≡ Some merchant →
    CountsReferences h merchant
references_count_up h merchant there = record {
  first =
      λ none. let start : next_reference h ≡ merchant.first_reference + 0 =
      λ i. first_reference (there i) + none i in
      omega arith;
  later = λ e.
      let first = merchant.first_reference in
      let now : next_reference h ≡ first + admitted h =
      ap (λ o. first_reference o + admitted h) there in
      let enrolment = if is_performed e.outcome then enrolment_in e.arrival else None in
      let next : next_reference (e ∷ h) ≡ first + cond (is_admission e h) (1 + admitted h)
      (admitted h) =
      ap (λ o. first_reference (option_or o enrolment) + cond (is_admission e h) (1 + admitted h)
      (admitted h)) there in
      let counted : first + cond (is_admission e h) (1 + admitted h) (admitted h)
      ≡ cond (is_admission e h) (first + admitted h + 1) (first + admitted h) =
      elim (is_admission e h) as (λ b. first + cond b (1 + admitted h) (admitted h)
      ≡ cond b (first + admitted h + 1) (first + admitted h)) [
        | true ↦ omega arith
        | false ↦ refl
      ] in
      next ∙ (counted ∙ ap (λ n. cond (is_admission e h) (n + 1) n) (sym now));
}
