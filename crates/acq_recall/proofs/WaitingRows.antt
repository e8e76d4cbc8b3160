-- What is recalled of requests that wait, when a request comes or is changed.
use Rattle.std.proofs.Common.{◌≡◌, ℕ, Bool, true, false, cond, List, [], ◌∷◌, ◌++◌, map, refl, sym}
use Rattle.std.proofs.Common.{ap, subst, ◌∙◌, arith, eqb, Option, Some, None, IfSome}
use Rattle.std.specs.Prelude.{filter, find, not, option_map}
use Rattle.std.specs.Option.{option_or}
use Rattle.std.specs.List.{AllByRecursion}
use Rattle.std.specs.Str.{bytes_eq}
use Rattle.std.proofs.lemmas.Bool.Decides.{nat_tests}
use Rattle.std.proofs.lemmas.List.{append-nil, append_assoc}
use Rattle.std.proofs.lemmas.List.Elements.{filter-append}
use Rattle.std.proofs.lemmas.List.Folds.{find-append}
use Rattle.std.proofs.lemmas.Slice.Eq.{bytes_eq-Decides}
use Rattle.acq_message.specs.declared.request_key.RequestKey.{RequestKey}
use Rattle.acq_message.specs.Elements.{same_key}
use Rattle.acq_message.specs.Numbers.{is_number}
use Rattle.acq_core.specs.declared.request.Request.{Request}
use Rattle.acq_core.specs.declared.status.Status.{Status}
use Rattle.acq_core.specs.Tables.{is_pending, requests_of, with_changed}
use Rattle.acq_recall.specs.Waiting.{HasNewReference, IsFoundAmong, RecallsWaiting, Restates}
use Rattle.acq_recall.specs.Waiting.{referred_among}
use Rattle.acq_recall.specs.declared.waiting.Waiting.{Waiting}

-- ---- all of a list

pub all_weaker : {X : Type 0} (P Q : X → Type 0) → ((x : X) → P x → Q x) → (xs : List X)
    → AllByRecursion P xs → AllByRecursion Q xs
all_weaker P Q each [] all = tt
all_weaker P Q each (x ∷ xs) all = (each x all.0, all_weaker P Q each xs all.1)

all_push : {X : Type 0} (P : X → Type 0) (xs : List X) (y : X) → AllByRecursion P xs → P y
    → AllByRecursion P (xs ++ y ∷ [])
all_push P [] y all last = (last, tt)
all_push P (x ∷ xs) y all last = (all.0, all_push P xs y all.1 last)

all_passed : {X : Type 0} (P Q : X → Type 0) (test : X → Bool)
    → ((x : X) → test x ≡ true → P x → Q x) → (xs : List X) → AllByRecursion P xs
    → AllByRecursion Q (filter test xs)
all_passed P Q test each [] all = tt
all_passed P Q test each (x ∷ xs) all = go (test x) refl (all_passed P Q test each xs all.1)
  where
    go : (b : Bool) → test x ≡ b → AllByRecursion Q (filter test xs)
        → AllByRecursion Q (cond b (x ∷ filter test xs) (filter test xs))
    go true passes rest = (each x passes all.0, rest)
    go false not rest = rest

-- ---- what a reference finds, when a request comes

referred_push : (rows : List Request) (y : Request) (m : List ℕ) (n : ℕ)
    → referred_among (rows ++ y ∷ []) m n
    ≡ option_or (referred_among rows m n) (referred_among (y ∷ []) m n)
referred_push rows y m n =
    ap (find (λ row. is_number n row.reference))
    (filter-append (λ row. bytes_eq row.key.merchant m) rows (y ∷ []))
    ∙ find-append (λ row. is_number n row.reference) (requests_of m rows)
    (requests_of m (y ∷ []))

found_stays : (rows : List Request) (y row : Request) → IsFoundAmong rows row
    → IsFoundAmong (rows ++ y ∷ []) row
found_stays rows y row = go row.reference
  where
    go : (o : Option ℕ) → IfSome o (λ n. referred_among rows row.key.merchant n ≡ Some row)
        → IfSome o (λ n. referred_among (rows ++ y ∷ []) row.key.merchant n ≡ Some row)
    go None is = tt
    go (Some n) is =
        referred_push rows y row.key.merchant n
        ∙ ap (λ o. option_or o (referred_among (y ∷ []) row.key.merchant n)) is

same_text : (a : List ℕ) → bytes_eq a a ≡ true
same_text a = (bytes_eq-Decides a a).1 refl

same_number : (n : ℕ) → eqb n n ≡ true
same_number n = grind (arith, nat_tests)

found_new : (rows : List Request) (y : Request) → HasNewReference rows y
    → IsFoundAmong (rows ++ y ∷ []) y
found_new rows y = go y.reference refl
  where
    alone : (n : ℕ) → y.reference ≡ Some n → referred_among (y ∷ []) y.key.merchant n ≡ Some y
    alone n is =
        ap (λ b. find (λ row. is_number n row.reference) (cond b (y ∷ []) []))
        (same_text y.key.merchant)
        ∙ ap (λ b. cond b (Some y) None) (ap (is_number n) is ∙ same_number n)

    go : (o : Option ℕ) → y.reference ≡ o
        → IfSome o (λ n. referred_among rows y.key.merchant n ≡ None)
        → IfSome o (λ n. referred_among (rows ++ y ∷ []) y.key.merchant n ≡ Some y)
    go None is new = tt
    go (Some n) is new =
        referred_push rows y y.key.merchant n
        ∙ (ap (λ o. option_or o (referred_among (y ∷ []) y.key.merchant n)) new ∙ alone n is)

abbrev waits : Request → Bool
waits row = is_pending row.status

waiting_push : (rows : List Request) (y : Request)
    → filter waits (rows ++ y ∷ []) ≡ filter waits rows ++ filter waits (y ∷ [])
waiting_push rows y = filter-append waits rows (y ∷ [])

waiting_more : (rows : List Request) (y : Request) → waits y ≡ true
    → filter waits (rows ++ y ∷ []) ≡ filter waits rows ++ y ∷ []
waiting_more rows y is =
    waiting_push rows y ∙ ap (λ b. filter waits rows ++ cond b (y ∷ []) []) is

waiting_same : (rows : List Request) (y : Request) → waits y ≡ false
    → filter waits (rows ++ y ∷ []) ≡ filter waits rows
waiting_same rows y not =
    waiting_push rows y
    ∙ (ap (λ b. filter waits rows ++ cond b (y ∷ []) []) not ∙ append-nil (filter waits rows))

-- one comes that doesn't wait
pub passes_by : (waiting : Waiting) (rows : List Request) (y : Request) → waits y ≡ false
    → RecallsWaiting waiting rows → RecallsWaiting waiting (rows ++ y ∷ [])
passes_by waiting rows y not is = record {
  found = all_weaker _ _ (found_stays rows y) waiting.rows.items is.found;
  all = λ so. is.all so ∙ sym (waiting_same rows y not);
}

-- one comes that waits, and is kept
pub joins : (waiting : Waiting) (kept : List Request) (rows : List Request) (y : Request)
    → waits y ≡ true → HasNewReference rows y → kept ≡ waiting.rows.items ++ y ∷ []
    → RecallsWaiting waiting rows
    → AllByRecursion (IsFoundAmong (rows ++ y ∷ [])) kept
    × (waiting.is_all ≡ true
    → waiting.earlier.items ++ kept ≡ filter waits (rows ++ y ∷ []))
joins waiting kept rows y wait new same is = (
  subst (AllByRecursion (IsFoundAmong (rows ++ y ∷ []))) (sym same)
      (all_push _ waiting.rows.items y
      (all_weaker _ _ (found_stays rows y) waiting.rows.items is.found) (found_new rows y new)),
  λ so. ap (λ l. waiting.earlier.items ++ l) same
      ∙ (sym (append_assoc waiting.earlier.items waiting.rows.items (y ∷ []))
      ∙ (ap (λ l. l ++ y ∷ []) (is.all so) ∙ sym (waiting_more rows y wait))),
)

-- one comes that waits, and isn't kept
pub is_left_out : (waiting : Waiting) (kept : List Request) (rows : List Request) (y : Request)
    → kept ≡ waiting.rows.items → RecallsWaiting waiting rows
    → AllByRecursion (IsFoundAmong (rows ++ y ∷ [])) kept
is_left_out waiting kept rows y same is =
    subst (AllByRecursion (IsFoundAmong (rows ++ y ∷ []))) (sym same)
    (all_weaker _ _ (found_stays rows y) waiting.rows.items is.found)

-- ---- when a request is changed

module _ (key : RequestKey) (change : Request → Request) where
  abbrev changed : Request → Request
  changed row = cond (same_key row.key key) (change row) row

  module _ (references : (row : Request) → (change row).reference ≡ row.reference)
      (keys : (row : Request) → (change row).key ≡ row.key) where
    keeps_reference : (n : ℕ) (row : Request)
        → is_number n (changed row).reference ≡ is_number n row.reference
    keeps_reference n row =
        elim (same_key row.key key)
        as (λ b. is_number n (cond b (change row) row).reference ≡ is_number n row.reference)
        [ true ↦ ap (is_number n) (references row) | false ↦ refl ]

    keeps_merchant : (m : List ℕ) (row : Request)
        → bytes_eq (changed row).key.merchant m ≡ bytes_eq row.key.merchant m
    keeps_merchant m row =
        elim (same_key row.key key)
        as (λ b. bytes_eq (cond b (change row) row).key.merchant m ≡ bytes_eq row.key.merchant m)
        [ true ↦ ap (λ (k : RequestKey). bytes_eq k.merchant m) (keys row) | false ↦ refl ]

    find-map : (p : Request → Bool) → ((row : Request) → p (changed row) ≡ p row)
        → (rows : List Request) → find p (map changed rows) ≡ option_map changed (find p rows)
    find-map p same [] = refl
    find-map p same (row ∷ rows) =
        ap (λ b. cond b (Some (changed row)) (find p (map changed rows))) (same row)
        ∙ elim (p row) as (λ b. cond b (Some (changed row)) (find p (map changed rows))
        ≡ option_map changed (cond b (Some row) (find p rows)))
        [ true ↦ refl | false ↦ find-map p same rows ]

    filter-map : (p : Request → Bool) → ((row : Request) → p (changed row) ≡ p row)
        → (rows : List Request) → filter p (map changed rows) ≡ map changed (filter p rows)
    filter-map p same [] = refl
    filter-map p same (row ∷ rows) =
        ap (λ b. cond b (changed row ∷ filter p (map changed rows)) (filter p (map changed rows)))
        (same row)
        ∙ elim (p row)
        as (λ b. cond b (changed row ∷ filter p (map changed rows)) (filter p (map changed rows))
        ≡ map changed (cond b (row ∷ filter p rows) (filter p rows))) [
          | true ↦ ap (λ l. changed row ∷ l) (filter-map p same rows)
          | false ↦ filter-map p same rows
        ]

    referred_changed : (rows : List Request) (m : List ℕ) (n : ℕ)
        → referred_among (with_changed key change rows) m n
        ≡ option_map changed (referred_among rows m n)
    referred_changed rows m n =
        ap (find (λ row. is_number n row.reference))
        (filter-map (λ row. bytes_eq row.key.merchant m) (keeps_merchant m) rows)
        ∙ find-map (λ row. is_number n row.reference) (keeps_reference n) (requests_of m rows)

    pub referred_restated : (rows : List Request) (m : List ℕ) (n : ℕ)
        → referred_among rows m n ≡ None
        → referred_among (with_changed key change rows) m n ≡ None
    referred_restated rows m n none = referred_changed rows m n ∙ ap (option_map changed) none

    found_still : (rows : List Request) (row : Request) → not (same_key row.key key) ≡ true
        → IsFoundAmong rows row → IsFoundAmong (with_changed key change rows) row
    found_still rows row other = go row.reference
      where
        same : changed row ≡ row
        same = ap (λ b. cond b (change row) row) (not_it (same_key row.key key) other)
          where
            not_it : (b : Bool) → not b ≡ true → b ≡ false
            not_it true e = absurd (cc)
            not_it false e = refl

        go : (o : Option ℕ) → IfSome o (λ n. referred_among rows row.key.merchant n ≡ Some row)
            → IfSome o
            (λ n. referred_among (with_changed key change rows) row.key.merchant n ≡ Some row)
        go None is = tt
        go (Some n) is =
            referred_changed rows row.key.merchant n
            ∙ (ap (option_map changed) is ∙ ap (λ r. Some r) same)

  abbrev others : List Request → List Request
  others = filter (λ row. not (same_key row.key key))

  module _ (settled : (row : Request) → waits (change row) ≡ false) where
    waiting_left : (rows : List Request)
        → filter waits (with_changed key change rows)
        ≡ filter (λ row. not (same_key row.key key)) (filter waits rows)
    waiting_left [] = refl
    waiting_left (row ∷ rows) =
        go (filter waits (with_changed key change rows)) (same_key row.key key) (waits row) refl
        refl (waiting_left rows)
      where
        go : (rest : List Request) (same w : Bool) → same_key row.key key ≡ same → waits row ≡ w
            → rest ≡ others (filter waits rows)
            → cond (waits (cond same (change row) row)) (cond same (change row) row ∷ rest) rest
            ≡ others (cond w (row ∷ filter waits rows) (filter waits rows))
        go rest true true is wait ih =
            ap (λ b. cond b (change row ∷ rest) rest) (settled row)
            ∙ (ih ∙ sym (ap (λ b. cond (not b) (row ∷ others (filter waits rows))
            (others (filter waits rows))) is))
        go rest true false is none ih =
            ap (λ b. cond b (change row ∷ rest) rest) (settled row) ∙ ih
        go rest false true is wait ih =
            ap (λ b. cond b (row ∷ rest) rest) wait
            ∙ (ap (λ l. row ∷ l) ih ∙ sym (ap (λ b. cond (not b)
            (row ∷ others (filter waits rows)) (others (filter waits rows))) is))
        go rest false false is none ih = ap (λ b. cond b (row ∷ rest) rest) none ∙ ih

-- the request with this key doesn't wait any more
pub leaves : (waiting : Waiting) (earlier kept rows : List Request) (key : RequestKey)
    (change : Request → Request) (status : Status) → Restates status change
    → earlier ≡ filter (λ row. not (same_key row.key key)) waiting.earlier.items
    → kept ≡ filter (λ row. not (same_key row.key key)) waiting.rows.items
    → RecallsWaiting waiting rows
    → AllByRecursion (IsFoundAmong (with_changed key change rows)) kept
    × (is_pending status ≡ false → waiting.is_all ≡ true
    → earlier ++ kept ≡ filter waits (with_changed key change rows))
leaves waiting earlier kept rows key change status restates first same is = (
  subst (AllByRecursion (IsFoundAmong (with_changed key change rows))) (sym same)
      (all_passed _ _ (λ row. not (same_key row.key key))
      (found_still key change restates.reference restates.key rows) waiting.rows.items is.found),
  λ settled so.
      (λ i. first i ++ same i)
      ∙ (sym (filter-append (λ row. not (same_key row.key key)) waiting.earlier.items
      waiting.rows.items)
      ∙ (ap (filter (λ row. not (same_key row.key key))) (is.all so)
      ∙ sym (waiting_left key change
      (λ row. ap is_pending (restates.status row) ∙ settled) rows))),
)
