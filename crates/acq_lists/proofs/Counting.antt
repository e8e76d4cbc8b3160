-- Counts by merchant and by day, when a row comes.
use Rattle.std.proofs.Common.{◌≡◌, ℕ, ◌+◌, List, [], ◌∷◌, ◌++◌, Bool, true, false, cond, refl}
use Rattle.std.proofs.Common.{sym, ap, ◌∙◌, eqb, if◌then◌else◌}
use Rattle.std.specs.Prelude.{◌&&◌, is_some}
use Rattle.std.specs.Map.{count_at}
use Rattle.std.specs.Str.{bytes_eq}
use Rattle.indexmap.specs.IndexMap.{IndexMap, get}
use Rattle.acq_core.specs.Tables.{requests_of, used_in, admitted_in}
use Rattle.acq_core.specs.declared.request.Request.{Request}
use Rattle.acq_book.specs.Keys.{merchant_eq}
use Rattle.acq_book.proofs.Counting.{count-filter-push, text_is}
use Rattle.acq_lists.specs.declared.merchant_day.MerchantDay.{MerchantDay}
use Rattle.acq_lists.specs.Keys.{day_eq}
use Rattle.acq_lists.proofs.Places.{number_is}

-- a sum by merchant and day, with one more of a day
pub day_more : {X : Type 0} (of : MerchantDay → X) (more : X → X) (was now : MerchantDay → X)
    (key : MerchantDay)
    (a : Bool)
    → ((k : MerchantDay) → was k ≡ of k)
    → ((k : MerchantDay) → now k ≡ (if a && day_eq key k then more (was key) else was k))
    → (k : MerchantDay) →
    now k ≡ cond (bytes_eq key.merchant k.merchant && (a && eqb key.day k.day)) (more (of k)) (of k)
day_more {X} of more was now key a before put k =
    put k ∙ at a (bytes_eq key.merchant k.merchant) (eqb key.day k.day) refl refl
  where
    at : (a b c : Bool) → bytes_eq key.merchant k.merchant ≡ b → eqb key.day k.day ≡ c →
        cond (a && (b && c)) (more (was key)) (was k) ≡ cond (b && (a && c)) (more (of k)) (of k)
    at true true true m d =
        let same : key ≡ k =
        λ i. record {
          merchant = text_is key.merchant k.merchant m i;
          day =
              number_is key.day k.day d i;
        } in
        ap more (before key ∙ ap of same)
    at true true false m d = before k
    at true false c m d = before k
    at false true c m d = before k
    at false false c m d = before k

pub used_more : {S : Type 0} (rows : List Request) (y : Request)
    (old new : IndexMap MerchantDay ℕ S)
    → ((k : MerchantDay) →
    count_at (get day_eq old) k ≡ used_in (requests_of k.merchant rows) k.day)
    → ((k : MerchantDay) →
    count_at (get day_eq new) k
    ≡ (if y.admitted && day_eq (record { merchant = y.key.merchant; day = y.day }) k
    then 1 + count_at (get day_eq old) (record { merchant = y.key.merchant; day = y.day })
    else count_at (get day_eq old) k))
    → (k : MerchantDay) →
    count_at (get day_eq new) k ≡ used_in (requests_of k.merchant (rows ++ y ∷ [])) k.day
used_more rows y old new was put k =
    day_more (λ (q : MerchantDay). used_in (requests_of q.merchant rows) q.day) (λ (n : ℕ). 1 + n)
    (count_at (get day_eq old)) (count_at (get day_eq new))
    (record { merchant = y.key.merchant; day = y.day }) y.admitted was put k
    ∙ sym (count-filter-push (λ row. row.admitted && eqb row.day k.day)
    (λ row. bytes_eq row.key.merchant k.merchant) rows y)

pub given_more : {S : Type 0} (rows : List Request) (y : Request) (old new : IndexMap (List ℕ) ℕ S)
    → ((m : List ℕ) → count_at (get merchant_eq old) m ≡ admitted_in (requests_of m rows))
    → ((m : List ℕ) → count_at (get merchant_eq new) m
    ≡ (if is_some y.reference && merchant_eq y.key.merchant m then
    1 + count_at (get merchant_eq old) y.key.merchant
    else count_at (get merchant_eq old) m))
    → (m : List ℕ) → count_at (get merchant_eq new) m ≡ admitted_in (requests_of m (rows ++ y ∷ []))
given_more rows y old new was put m =
    put m ∙ (at (is_some y.reference) (bytes_eq y.key.merchant m) refl
    ∙ sym (count-filter-push (λ row. is_some row.reference) (λ row. bytes_eq row.key.merchant m)
    rows y))
  where
    at : (a b : Bool) → bytes_eq y.key.merchant m ≡ b →
        cond (a && b) (1 + count_at (get merchant_eq old) y.key.merchant)
        (count_at (get merchant_eq old) m)
        ≡ cond (b && a) (1 + admitted_in (requests_of m rows)) (admitted_in (requests_of m rows))
    at true true e =
        ap (λ n. 1 + n)
        (was y.key.merchant ∙ ap (λ q. admitted_in (requests_of q rows))
        (text_is y.key.merchant m e))
    at true false e = was m
    at false true e = was m
    at false false e = was m
