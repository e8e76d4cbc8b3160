-- A merchant's day in numbers, when a posting comes.
use Rattle.std.proofs.Common.{◌≡◌, ℕ, ◌+◌, List, [], ◌∷◌, ◌++◌, Bool, true, false, cond, None, Some}
use Rattle.std.proofs.Common.{Option, refl, sym}
use Rattle.std.proofs.Common.{ap, ◌∙◌, arith, eqb, if◌then◌else◌}
use Rattle.std.specs.Prelude.{◌&&◌}
use Rattle.std.specs.Str.{bytes_eq}
use Rattle.std.proofs.lemmas.List.{append-nil}
use Rattle.std.proofs.lemmas.List.Elements.{filter-append}
use Rattle.indexmap.specs.IndexMap.{IndexMap, get}
use Rattle.day_totals.specs.Totals.{totals_of}
use Rattle.day_totals.specs.Totals.{with_leg_amount}
use Rattle.acq_core.specs.Tables.{count, postings_of, totals_on}
use Rattle.acq_core.specs.declared.posting.Posting.{Posting}
use Rattle.acq_lists.specs.declared.merchant_day.MerchantDay.{MerchantDay}
use Rattle.acq_lists.specs.declared.day_sums.DaySums.{DaySums}
use Rattle.acq_lists.specs.Keys.{day_eq}
use Rattle.acq_lists.specs.Sums.{sums_at, with_one, sums_in, reconciliations_in, number_in}
use Rattle.acq_book.specs.Order.{last_of}
use Rattle.acq_core.specs.declared.reconciliation.Reconciliation.{Reconciliation}
use Rattle.acq_core.proofs.Counts.{count-push}
use Rattle.acq_book.proofs.Days.{totals-push}
use Rattle.acq_lists.proofs.Counting.{day_more}

-- how many postings a merchant has on a day
abbrev posted_in : List (ℕ × Posting) → MerchantDay → ℕ
posted_in rows k = count (λ row. bytes_eq row.1.merchant k.merchant && eqb row.1.day k.day) rows

pub none_yet : (k : MerchantDay) → sums_at None ≡ sums_in [] k
unfolding totals_of
none_yet k = refl

pub sums-push : (rows : List (ℕ × Posting)) (y : ℕ × Posting) (k : MerchantDay) →
    sums_in (rows ++ y ∷ []) k
    ≡ cond (bytes_eq y.1.merchant k.merchant && eqb y.1.day k.day)
    (with_one (sums_in rows k) y.1.leg y.1.amount)
    (sums_in rows k)
sums-push rows y k =
    (λ i. record {
      posted = count-push (λ row. bytes_eq row.1.merchant k.merchant && eqb row.1.day k.day) rows y
          i;
      totals = totals-push rows y k.merchant k.day i;
    })
    ∙ at (bytes_eq y.1.merchant k.merchant && eqb y.1.day k.day)
  where
    at : (b : Bool) → ◌≡◌ {A = DaySums}
        (record {
          posted = cond b (1 + posted_in rows k) (posted_in rows k);
          totals = cond b
              (with_leg_amount (totals_on (postings_of k.merchant rows) k.day) y.1.leg y.1.amount)
              (totals_on (postings_of k.merchant rows) k.day);
        })
        (cond b (with_one (sums_in rows k) y.1.leg y.1.amount) (sums_in rows k))
    at true =
        let turn : 1 + posted_in rows k ≡ posted_in rows k + 1 = omega arith in
        λ i. record {
          posted = turn i;
          totals = with_leg_amount
              (totals_on (postings_of k.merchant rows) k.day) y.1.leg y.1.amount;
        }
    at false = refl

pub sums_more : {S : Type 0} (rows : List (ℕ × Posting)) (y : ℕ × Posting)
    (old new : IndexMap MerchantDay DaySums S)
    → ((k : MerchantDay) → sums_at (get day_eq old k) ≡ sums_in rows k)
    → ((k : MerchantDay) →
    sums_at (get day_eq new k)
    ≡ (if day_eq (record { merchant = y.1.merchant; day = y.1.day }) k
    then with_one (sums_at (get day_eq old (record { merchant = y.1.merchant; day = y.1.day })))
    y.1.leg y.1.amount
    else sums_at (get day_eq old k)))
    → (k : MerchantDay) → sums_at (get day_eq new k) ≡ sums_in (rows ++ y ∷ []) k
sums_more rows y old new was put k =
    day_more (sums_in rows) (λ (s : DaySums). with_one s y.1.leg y.1.amount)
    (λ (q : MerchantDay). sums_at (get day_eq old q))
    (λ (q : MerchantDay). sums_at (get day_eq new q))
    (record { merchant = y.1.merchant; day = y.1.day }) true was put k
    ∙ sym (sums-push rows y k)

last-one : {X : Type 0} (xs : List X) (y : X) → last_of (xs ++ y ∷ []) ≡ Some y
last-one [] y = refl
last-one (x ∷ []) y = refl
last-one (x ∷ z ∷ zs) y = last-one (z ∷ zs) y

last-push : (rows : List (ℕ × Reconciliation)) (y : ℕ × Reconciliation) (k : MerchantDay)
    → last_of (reconciliations_in (rows ++ y ∷ []) k)
    ≡ cond (bytes_eq y.1.merchant k.merchant && eqb y.1.day k.day) (Some y)
    (last_of (reconciliations_in rows k))
last-push rows y k =
    ap last_of (filter-append (λ row. bytes_eq row.1.merchant k.merchant && eqb row.1.day k.day)
    rows (y ∷ []))
    ∙ at (bytes_eq y.1.merchant k.merchant && eqb y.1.day k.day)
  where
    at : (b : Bool) → last_of (reconciliations_in rows k ++ cond b (y ∷ []) [])
        ≡ cond b (Some y) (last_of (reconciliations_in rows k))
    at true = last-one (reconciliations_in rows k) y
    at false = ap last_of (append-nil (reconciliations_in rows k))

-- the last of each day, when a reconciliation comes
pub last_more : {S : Type 0} (rows : List (ℕ × Reconciliation)) (y : ℕ × Reconciliation)
    (old new : IndexMap MerchantDay (ℕ × Reconciliation) S)
    → ((k : MerchantDay) → get day_eq old k ≡ last_of (reconciliations_in rows k))
    → ((k : MerchantDay) →
    get day_eq new k ≡ (if day_eq (record { merchant = y.1.merchant; day = y.1.day }) k then Some y
    else get day_eq old k))
    → (k : MerchantDay) → get day_eq new k ≡ last_of (reconciliations_in (rows ++ y ∷ []) k)
last_more rows y old new was put k =
    put k ∙ (ap (λ o. cond (bytes_eq y.1.merchant k.merchant && eqb y.1.day k.day) (Some y) o)
    (was k)
    ∙ sym (last-push rows y k))

-- how many reconciliations a merchant has of a day
abbrev made_on : List (ℕ × Reconciliation) → MerchantDay → ℕ
made_on rows k = count (λ row. bytes_eq row.1.merchant k.merchant && eqb row.1.day k.day) rows

-- and their numbers
pub number_more : {S : Type 0} (rows : List (ℕ × Reconciliation)) (y : ℕ × Reconciliation)
    (old new : IndexMap MerchantDay (ℕ × Reconciliation) S)
    → y.0 ≡ number_in (get day_eq old (record { merchant = y.1.merchant; day = y.1.day })) + 1
    → ((k : MerchantDay) → number_in (get day_eq old k) ≡ made_on rows k)
    → ((k : MerchantDay) →
    get day_eq new k ≡ (if day_eq (record { merchant = y.1.merchant; day = y.1.day }) k then Some y
    else get day_eq old k))
    → (k : MerchantDay) → number_in (get day_eq new k) ≡ made_on (rows ++ y ∷ []) k
number_more rows y old new next was put k =
    day_more (made_on rows) (λ (n : ℕ). n + 1) (λ (q : MerchantDay). number_in (get day_eq old q))
    (λ (q : MerchantDay). number_in (get day_eq new q))
    (record { merchant = y.1.merchant; day = y.1.day }) true was
    (λ q. ap number_in (put q) ∙ at (day_eq (record { merchant = y.1.merchant; day = y.1.day }) q)
    (get day_eq old q)) k
    ∙ (turn (bytes_eq y.1.merchant k.merchant && eqb y.1.day k.day) (made_on rows k)
    ∙ sym (count-push (λ row. bytes_eq row.1.merchant k.merchant && eqb row.1.day k.day) rows y))
  where
    at : (b : Bool) (o : Option (ℕ × Reconciliation)) →
        number_in (cond b (Some y) o)
        ≡ cond b (number_in (get day_eq old (record { merchant = y.1.merchant; day = y.1.day }))
        + 1) (number_in o)
    at true o = next
    at false o = refl

    turn : (b : Bool) (n : ℕ) → cond b (n + 1) n ≡ cond b (1 + n) n
    turn true n = omega arith
    turn false n = refl
