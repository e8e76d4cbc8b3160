-- What is read from a clearing file are the totals.
use Rattle.std.proofs.Common.{◌≡◌, ℕ, List, [], ◌∷◌, Bool, true, false, cond, map, filter, Some}
use Rattle.std.proofs.Common.{refl, sym, ap, ◌∙◌, arith}
use Rattle.std.specs.Prelude.{filter_map, option_map, None}
use Rattle.std.specs.List.{AllByRecursion, cons_option}
use Rattle.std.specs.Str.{bytes_eq}
use Rattle.std.specs.Str.Parse.{digits_value}
use Rattle.std.specs.Fmt.{decimal}
use Rattle.std.proofs.lemmas.Bool.Decides.{nat_tests}
use Rattle.std.proofs.lemmas.Fmt.{decimal_is_IsNumeral}
use Rattle.std.proofs.lemmas.List.Elements.{recursion_from_All}
use Rattle.day_totals.specs.declared.leg.Leg.{Leg}
use Rattle.day_totals.specs.declared.leg.Leg.TheVariants.{Credit, CreditReversal, Debit}
use Rattle.day_totals.specs.declared.leg.Leg.TheVariants.{DebitReversal}
use Rattle.day_totals.specs.Totals.{totals_of}
use Rattle.acq_message.specs.Numbers.{is_amount}
use Rattle.acq_core.specs.declared.posting.Posting.{Posting}
use Rattle.acq_core.specs.Tables.{Tables, postings_of}
use Rattle.acq_book.specs.Lookups.{is_posting_before, postings_at, totals_at}
use Rattle.acq_book.specs.Lookups.{last_reconciliation_at}
use Rattle.acq_book.specs.Order.{put_in_order, in_order}
use Rattle.acq_reports.specs.SettlementReport.{line_of}
use Rattle.acq_reports.proofs.SumsInOrder.{leg_and_amount, totals_of_day}
use Rattle.acq_clearing.specs.ClearedSums.{Clears, HasAmounts, cleared_in, cleared_totals}
use Rattle.acq_clearing.specs.ClearedSums.{leg_named}
use Rattle.acq_clearing.specs.ClearingFile.{clearing_text, leg_name, posting_fields}
use Rattle.acq_clearing.proofs.ReadBack.{reads_back}

-- ---- a record

-- a leg has its name
leg_of_name : (leg : Leg) → leg_named (leg_name leg) ≡ Some leg
leg_of_name Credit = refl
leg_of_name CreditReversal = refl
leg_of_name Debit = refl
leg_of_name DebitReversal = refl

-- an amount that may be one is what its digits say
abbrev IsAmountRow : ℕ × Posting → Type 0
IsAmountRow row = is_amount row.1.amount ≡ true

amount_of_digits : (n : ℕ) → is_amount n ≡ true → digits_value 10 (decimal n) ≡ n
amount_of_digits n fits = (decimal_is_IsNumeral n (grind (arith, nat_tests))).1

-- what a record of a posting says
says : (m : List ℕ) (row : ℕ × Posting) → IsAmountRow row →
    cleared_in m (posting_fields row) ≡ cond (bytes_eq row.1.merchant m)
    (Some (leg_and_amount row)) None
says m row fits =
    λ i. cond (bytes_eq row.1.merchant m)
    (option_map (λ leg. (leg, amount_of_digits row.1.amount fits i)) (leg_of_name row.1.leg i)) None

-- ---- all of them

read_of : (m : List ℕ) (rows : List (ℕ × Posting)) → AllByRecursion IsAmountRow rows →
    filter_map (cleared_in m) (map posting_fields rows) ≡ map leg_and_amount (postings_of m rows)
read_of m [] fit = refl
read_of m (row ∷ rows) fit =
    (λ i. cons_option (says m row fit.0 i) (read_of m rows fit.1 i))
    ∙ elim (bytes_eq row.1.merchant m) as
    (λ b. cons_option (cond b (Some (leg_and_amount row)) None)
    (map leg_and_amount (postings_of m rows))
    ≡ map leg_and_amount (cond b (row ∷ postings_of m rows) (postings_of m rows)))
    [ true ↦ refl | false ↦ refl ]

-- ---- what holds of all rows, holds of those of a day in order

module _ {X : Type 0} (P : X → Type 0) where
  pub all-filter : (p : X → Bool) (xs : List X) → AllByRecursion P xs → AllByRecursion P (filter p xs)
  all-filter p [] all = tt
  all-filter p (x ∷ xs) all =
      elim (p x) as (λ b. AllByRecursion P (cond b (x ∷ filter p xs) (filter p xs))) [
        | true ↦ (all.0, all-filter p xs all.1)
        | false ↦ all-filter p xs all.1
      ]

  pub all-put : (before : X → X → Bool) (x : X) (ys : List X) → P x → AllByRecursion P ys →
      AllByRecursion P (put_in_order before x ys)
  all-put before x [] one all = (one, tt)
  all-put before x (y ∷ ys) one all =
      elim (before y x) as
      (λ b. AllByRecursion P (cond b (y ∷ put_in_order before x ys) (x ∷ y ∷ ys))) [
        | true ↦ (all.0, all-put before x ys one all.1)
        | false ↦ (one, all)
      ]

  pub all-in_order : (before : X → X → Bool) (xs : List X) → AllByRecursion P xs →
      AllByRecursion P (in_order before xs)
  all-in_order before [] all = tt
  all-in_order before (x ∷ xs) all = all-put before x (in_order before xs) all.0
      (all-in_order before xs all.1)

-- ---- the sums

sums_are : (t : Tables) (day : ℕ) (m : List ℕ) → HasAmounts t →
    cleared_totals m (clearing_text t day) ≡ totals_at t m day
sums_are t day m fit =
    ap (λ records. totals_of (filter_map (cleared_in m) records)) (reads_back t day)
    ∙ (ap totals_of (read_of m (postings_at t day)
    (all-in_order IsAmountRow is_posting_before _
    (all-filter IsAmountRow _ t.postings (recursion_from_All IsAmountRow t.postings fit))))
    ∙ totals_of_day t m day)

pub clears : (t : Tables) (day : ℕ) (m : List ℕ) → HasAmounts t → Clears t day m
clears t day m fit = record {
  sums = sums_are t day m fit;
  settled = ap (λ totals. line_of m totals (last_reconciliation_at t m day))
      (sym (sums_are t day m fit));
}
