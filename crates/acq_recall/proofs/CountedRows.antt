-- What is recalled of counts, when a request comes or is changed.
use Rattle.std.proofs.Common.{◌≡◌, ◌⊎◌, inl, inr, ◌+◌, ◌==◌, ℕ, Bool, true, false, cond, List}
use Rattle.std.proofs.Common.{[], ◌∷◌, ◌++◌, refl, sym, ap, ◌∙◌, Option, Some, None, arith, eqb}
use Rattle.std.specs.Prelude.{◌&&◌, is_some}
use Rattle.std.specs.Str.{bytes_eq}
use Rattle.std.proofs.lemmas.Bool.Decides.{nat_tests}
use Rattle.acq_message.specs.declared.request_key.RequestKey.{RequestKey}
use Rattle.acq_message.specs.Elements.{same_key}
use Rattle.acq_core.specs.declared.request.Request.{Request}
use Rattle.acq_core.specs.Tables.{admitted_in, requests_of, used_in, with_changed}
use Rattle.acq_book.specs.Keys.{merchant_eq}
use Rattle.acq_book.proofs.Counting.{count-filter-map, count-filter-push, text_is}
use Rattle.acq_lists.specs.declared.merchant_day.MerchantDay.{MerchantDay}
use Rattle.acq_lists.specs.Keys.{day_eq}
use Rattle.acq_recall.specs.Kept.{CountsOneMore, SaysOf}

-- ---- keys

number_is : (a b : ℕ) → eqb a b ≡ true → a ≡ b
number_is a b e = grind (arith, nat_tests)

both : (a b : Bool) → (a && b) ≡ true → (a ≡ true) × (b ≡ true)
both true b e = (refl, e)
both false b e = absurd (cc)

pub day_is : (a b : MerchantDay) → day_eq a b ≡ true → a ≡ b
day_is a b same =
    let parts = both (bytes_eq a.merchant b.merchant) (eqb a.day b.day) same in
    let merchants : a.merchant ≡ b.merchant = text_is a.merchant b.merchant parts.0 in
    let days : a.day ≡ b.day = number_is a.day b.day parts.1 in
    λ i. record { merchant = merchants i; day = days i }

-- under a key of which nothing is kept there is no more
pub none_more : {K : Type 0} (eq : K → K → Bool) → ((a b : K) → eq a b ≡ true → a ≡ b)
    → (kept : K → Option ℕ) (key : K) → kept key ≡ None → CountsOneMore eq kept kept key
none_more eq is kept key none other value there = go (eq key other) refl
  where
    go : (b : Bool) → eq key other ≡ b
        → ((eq key other ≡ false) × (kept other ≡ Some value))
        ⊎ ((eq key other ≡ true) × ((n : ℕ) × (kept key ≡ Some n) × (value ≡ 1 + n)))
    go true same =
        absurd (let e : None ≡ Some value = sym none ∙ (ap kept (is key other same) ∙ there) in cc)
    go false another = inl (another, there)

-- ---- counts of which those under one key are one more

module _ {K : Type 0} (eq : K → K → Bool) (is : (a b : K) → eq a b ≡ true → a ≡ b)
    (was now : K → ℕ) (key : K) (more : Bool)
    (push : (k : K) → now k ≡ cond (eq key k && more) (1 + was k) (was k)) where
  pub counted : (old new : K → Option ℕ) → more ≡ true → CountsOneMore eq old new key
      → SaysOf (λ k n. n ≡ was k) old → SaysOf (λ k n. n ≡ now k) new
  counted old new one counts says k value there =
      elim (counts k value there) [
        | inl w ↦ (says k value w.1
            ∙ sym (push k ∙ ap (λ b. cond (b && more) (1 + was k) (was k)) w.0))
        | inr w ↦ (w.1.2
            ∙ (ap (λ n. 1 + n) (says key w.1.0 w.1.1 ∙ ap was (is key k w.0))
            ∙ sym (push k ∙ (ap (λ b. cond (b && more) (1 + was k) (was k)) w.0
            ∙ ap (λ b. cond b (1 + was k) (was k)) one))))
      ]

  pub uncounted : (kept : K → Option ℕ) → more ≡ false → SaysOf (λ k n. n ≡ was k) kept
      → SaysOf (λ k n. n ≡ now k) kept
  uncounted kept none says k value there =
      says k value there
      ∙ sym (push k ∙ (ap (λ b. cond (eq key k && b) (1 + was k) (was k)) none
      ∙ elim (eq key k) as (λ b. cond (b && false) (1 + was k) (was k) ≡ was k)
      [ true ↦ refl | false ↦ refl ]))

-- ---- those of a request that comes

pub admitted_push : (rows : List Request) (y : Request) (m : List ℕ)
    → admitted_in (requests_of m (rows ++ y ∷ []))
    ≡ cond (merchant_eq y.key.merchant m && is_some y.reference)
    (1 + admitted_in (requests_of m rows)) (admitted_in (requests_of m rows))
admitted_push rows y m =
    count-filter-push (λ row. is_some row.reference) (λ row. bytes_eq row.key.merchant m) rows y

pub used_push : (rows : List Request) (y : Request) (k : MerchantDay)
    → used_in (requests_of k.merchant (rows ++ y ∷ [])) k.day
    ≡ cond (day_eq (record { merchant = y.key.merchant; day = y.day }) k && y.admitted)
    (1 + used_in (requests_of k.merchant rows) k.day) (used_in (requests_of k.merchant rows) k.day)
used_push rows y k =
    count-filter-push (λ row. row.admitted && (row.day == k.day))
    (λ row. bytes_eq row.key.merchant k.merchant) rows y
    ∙ turn (bytes_eq y.key.merchant k.merchant) y.admitted (y.day == k.day)
  where
    turn : (a b c : Bool)
        → cond (a && (b && c)) (1 + used_in (requests_of k.merchant rows) k.day)
        (used_in (requests_of k.merchant rows) k.day)
        ≡ cond ((a && c) && b) (1 + used_in (requests_of k.merchant rows) k.day)
        (used_in (requests_of k.merchant rows) k.day)
    turn true true true = refl
    turn true true false = refl
    turn true false true = refl
    turn true false false = refl
    turn false b c = refl

-- ---- when a request is changed

module _ (key : RequestKey) (change : Request → Request)
    (keys : (row : Request) → (change row).key ≡ row.key) where
  abbrev changed : Request → Request
  changed row = cond (same_key row.key key) (change row) row

  of_merchant : (m : List ℕ) (row : Request)
      → bytes_eq (changed row).key.merchant m ≡ bytes_eq row.key.merchant m
  of_merchant m row =
      elim (same_key row.key key)
      as (λ b. bytes_eq (cond b (change row) row).key.merchant m ≡ bytes_eq row.key.merchant m)
      [ true ↦ ap (λ (k : RequestKey). bytes_eq k.merchant m) (keys row) | false ↦ refl ]

  counts_as : (counts : Request → Bool) → ((row : Request) → counts (change row) ≡ counts row)
      → (row : Request) → counts (changed row) ≡ counts row
  counts_as counts same row =
      elim (same_key row.key key) as (λ b. counts (cond b (change row) row) ≡ counts row)
      [ true ↦ same row | false ↦ refl ]

  pub admitted_changed : ((row : Request) → (change row).reference ≡ row.reference)
      → (rows : List Request) (m : List ℕ)
      → admitted_in (requests_of m (with_changed key change rows))
      ≡ admitted_in (requests_of m rows)
  admitted_changed references rows m =
      count-filter-map (λ row. is_some row.reference) (λ row. bytes_eq row.key.merchant m) changed
      (counts_as (λ row. is_some row.reference) (λ row. ap is_some (references row)))
      (of_merchant m) rows

  pub used_changed : ((row : Request) → (change row).admitted ≡ row.admitted)
      → ((row : Request) → (change row).day ≡ row.day) → (rows : List Request) (k : MerchantDay)
      → used_in (requests_of k.merchant (with_changed key change rows)) k.day
      ≡ used_in (requests_of k.merchant rows) k.day
  used_changed admitted days rows k =
      count-filter-map (λ row. row.admitted && (row.day == k.day))
      (λ row. bytes_eq row.key.merchant k.merchant) changed
      (counts_as (λ row. row.admitted && (row.day == k.day))
      (λ row i. admitted row i && (days row i == k.day))) (of_merchant k.merchant) rows
