-- The sums of a day's postings, one posting after another.
use Rattle.std.proofs.Common.{◌≡◌, ℕ, List, [], ◌∷◌, ◌++◌, Bool, true, false, cond, map}
use Rattle.std.proofs.Common.{Some, inl, inr, refl, sym, ap, ◌∙◌, subst, append_assoc, append-nil}
use Rattle.std.proofs.lemmas.List.{map-append}
use Rattle.std.proofs.lemmas.List.Elements.{filter-append}
use Rattle.std.specs.HashMap.{HashMap, get}
use Rattle.std.specs.Map.{lookup}
use Rattle.std.specs.Str.{bytes_eq}
use Rattle.day_totals.specs.Totals.{DayTotals, totals_of, with_leg_amount}
use Rattle.day_totals.proofs.TotalsOfPostings.{totals_of-push}
use Rattle.acq_core.specs.declared.posting.Posting.{Posting}
use Rattle.acq_core.specs.Tables.{Tables, postings_of}
use Rattle.acq_book.specs.Keys.{merchant_eq}
use Rattle.acq_book.specs.Lookups.{postings_at}
use Rattle.acq_book.specs.Visits.{SawAll}
use Rattle.acq_book.proofs.Counting.{text_is}
use Rattle.acq_reports.specs.declared.merchant_sums.MerchantSums.{MerchantSums}
use Rattle.acq_reports.specs.declared.sums.Sums.{Sums}
use Rattle.acq_reports.specs.DaySums.{AddUpTo, AddsOne, AreSumsOf, sums_at, sums_of}
use Rattle.acq_reports.proofs.SumsInOrder.{leg_and_amount, totals_of_day}

-- a merchant's totals among these postings
abbrev totals_in : List (ℕ × Posting) → List ℕ → DayTotals
totals_in rows m = totals_of (map leg_and_amount (postings_of m rows))

totals-push : (rows : List (ℕ × Posting)) (row : ℕ × Posting) (m : List ℕ) →
    totals_in (rows ++ row ∷ []) m
    ≡ cond (bytes_eq row.1.merchant m)
    (with_leg_amount (totals_in rows m) row.1.leg row.1.amount) (totals_in rows m)
totals-push rows row m =
    ap (λ l. totals_of (map leg_and_amount l))
    (filter-append (λ r. bytes_eq r.1.merchant m) rows (row ∷ []))
    ∙ elim (bytes_eq row.1.merchant m) as
    (λ b. totals_of (map leg_and_amount (postings_of m rows ++ cond b (row ∷ []) []))
    ≡ cond b (with_leg_amount (totals_in rows m) row.1.leg row.1.amount) (totals_in rows m)) [
      | true ↦
          ap totals_of (map-append leg_and_amount (postings_of m rows) (row ∷ []))
          ∙ totals_of-push (map leg_and_amount (postings_of m rows)) row.1.leg row.1.amount
      | false ↦ ap (λ l. totals_of (map leg_and_amount l)) (append-nil (postings_of m rows))
    ]

pub none_yet : {S : Type 0} (sums : HashMap (List ℕ) MerchantSums S) → sums.entries ≡ []
    → AreSumsOf [] sums
unfolding totals_of
none_yet sums empty m = ap (λ entries. sums_at (lookup (merchant_eq m) entries)) empty

-- one posting more
pub one_more : {S : Type 0} (rows : List (ℕ × Posting)) (row : ℕ × Posting)
    (old new : HashMap (List ℕ) MerchantSums S) (sums : MerchantSums)
    → ((m : List ℕ) → get merchant_eq new m
    ≡ cond (merchant_eq row.1.merchant m) (Some sums) (get merchant_eq old m))
    → ((t : DayTotals) → sums_at (get merchant_eq old row.1.merchant) ≡ sums_of t
    → sums ≡ sums_of (with_leg_amount t row.1.leg row.1.amount))
    → AreSumsOf rows old → AreSumsOf (rows ++ row ∷ []) new
one_more rows row old new sums put adds are m =
    ap sums_at (put m)
    ∙ (at (bytes_eq row.1.merchant m) refl ∙ sym (ap sums_of (totals-push rows row m)))
  where
    at : (b : Bool) → bytes_eq row.1.merchant m ≡ b →
        sums_at (cond b (Some sums) (get merchant_eq old m))
        ≡ sums_of (cond b (with_leg_amount (totals_in rows m) row.1.leg row.1.amount)
        (totals_in rows m))
    at true e =
        adds (totals_in rows row.1.merchant) (are row.1.merchant)
        ∙ ap (λ q. sums_of (with_leg_amount (totals_in rows q) row.1.leg row.1.amount))
        (text_is row.1.merchant m e)
    at false e = are m

-- all postings of a walk
pub all_added : (rows done : List (ℕ × Posting)) (v w : Sums) → SawAll AddsOne rows v w →
    w.is_short ≡ false → AreSumsOf done v.by_merchant → AreSumsOf (done ++ rows) w.by_merchant
all_added [] done v w same short are =
    subst (λ u. AreSumsOf (done ++ []) u.by_merchant) same
    (subst (λ l. AreSumsOf l v.by_merchant) (sym (append-nil done)) are)
all_added (row ∷ rows) done v w (inl (u, seen, rest)) short are =
    subst (λ l. AreSumsOf l w.by_merchant) (append_assoc done (row ∷ []) rows)
    (all_added rows (done ++ row ∷ []) u w rest short (seen.0 done are))
all_added (row ∷ rows) done v w (inr seen) short are =
    absurd (let a = seen in let b = short in cc)

-- they add up to the totals
pub add_up : {S : Type 0} (t : Tables) (day : ℕ) (sums : HashMap (List ℕ) MerchantSums S)
    → AreSumsOf (postings_at t day) sums → AddUpTo t day sums
add_up t day sums are m = are m ∙ ap sums_of (totals_of_day t m day)
