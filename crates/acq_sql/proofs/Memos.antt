-- What a book recalls of its tables stays so.
use Rattle.std.proofs.Common.{◌≡◌, ◌==◌, ◌&&◌, ◌+◌, ◌<◌, ℕ, Bool, true, false, true≢false, cond}
use Rattle.std.proofs.Common.{List, [], ◌∷◌, ◌++◌, map, filter, length, refl, sym, ap, subst, ◌∙◌}
use Rattle.std.proofs.Common.{arith}
use Rattle.std.proofs.lemmas.Bool.Decides.{nat_tests}
use Rattle.std.proofs.lemmas.List.Elements.{All-head, All-tail}
use Rattle.std.specs.List.{All, AllByRecursion}
use Rattle.acq_message.specs.declared.request_key.RequestKey.{RequestKey}
use Rattle.acq_message.specs.Elements.{same_key}
use Rattle.acq_core.specs.declared.request.Request.{Request}
use Rattle.acq_core.specs.declared.status.Status.{Status}
use Rattle.acq_core.specs.Pasts.{HasPast}
use Rattle.acq_core.specs.Tables.{Tables, count, is_pending, used_in, with_changed}
use Rattle.acq_core.proofs.Counts.{count-push}
use Rattle.acq_soundness.specs.Bounds.{IsBoundedRow}
use Rattle.acq_soundness.proofs.BooksAreSound.{books_are_sound}
use Rattle.acq_sql.specs.Memos.{WaitsNoOther}
use Rattle.acq_sql.specs.declared.memo.may_wait.MayWait.{MayWait}
use Rattle.acq_sql.specs.declared.memo.may_wait.MayWait.TheVariants as may_wait

-- ---- all of a list

all_changed : {X : Type 0} (P Q : X → Type 0) (change : X → X) → ((x : X) → P x → Q (change x))
    → (xs : List X) → AllByRecursion P xs → AllByRecursion Q (map change xs)
all_changed P Q change each [] all = tt
all_changed P Q change each (x ∷ xs) all =
    (each x all.0, all_changed P Q change each xs all.1)

all_weaker : {X : Type 0} (P Q : X → Type 0) → ((x : X) → P x → Q x) → (xs : List X)
    → AllByRecursion P xs → AllByRecursion Q xs
all_weaker P Q each [] all = tt
all_weaker P Q each (x ∷ xs) all = (each x all.0, all_weaker P Q each xs all.1)

-- ---- who waits, when a request comes

abbrev waits : Request → Bool
waits row = is_pending row.status

-- where none waits, none does but any one
only_some : (key : RequestKey) (row : Request) → waits row ≡ false → waits row ≡ true
    → row.key ≡ key
only_some key row is not = absurd (true≢false (sym not ∙ is))

pub none_weaker : (w : MayWait) (rows : List Request) → WaitsNoOther may_wait.None rows
    → WaitsNoOther w rows
none_weaker may_wait.Any rows all = tt
none_weaker (may_wait.Only key) rows all = all_weaker _ _ (only_some key) rows all
none_weaker may_wait.None rows all = all

-- ---- who waits, when the requests with a key are changed so that they don't

module _ (key : RequestKey) (change : Request → Request) (status : Status)
    (settled : is_pending status ≡ false)
    (statuses : (row : Request) → (change row).status ≡ status) where
  abbrev changed : Bool → Request → Request
  changed here row = cond here (change row) row

  not_it : (row : Request) → waits (change row) ≡ false
  not_it row = ap is_pending (statuses row) ∙ settled

  none_more : (row : Request) → waits row ≡ false → waits (changed (same_key row.key key) row)
      ≡ false
  none_more row is =
      elim (same_key row.key key) as (λ b. waits (changed b row) ≡ false)
      [ true ↦ not_it row | false ↦ is ]

  only_more : (only : RequestKey) (row : Request) → (waits row ≡ true → row.key ≡ only)
      → waits (changed (same_key row.key key) row) ≡ true
      → (changed (same_key row.key key) row).key ≡ only
  only_more only row is =
      elim (same_key row.key key)
      as (λ b. waits (changed b row) ≡ true → (changed b row).key ≡ only)
      [ true ↦ (λ may. absurd (true≢false (sym may ∙ not_it row))) | false ↦ is ]

  none_left : (only : RequestKey) → same_key only key ≡ true → (row : Request)
      → (waits row ≡ true → row.key ≡ only)
      → waits (changed (same_key row.key key) row) ≡ false
  none_left only same row is = go (same_key row.key key) refl
    where
      stays : (w : Bool) → waits row ≡ w → same_key row.key key ≡ false → waits row ≡ false
      stays true may other =
          absurd (true≢false (sym same ∙ ap (λ k. same_key k key) (sym (is may)) ∙ other))
      stays false may other = may

      go : (b : Bool) → same_key row.key key ≡ b → waits (changed b row) ≡ false
      go true here = not_it row
      go false other = stays (waits row) refl other

  pub settled_stay : (w : MayWait) (rows : List Request) → WaitsNoOther w rows
      → WaitsNoOther w (with_changed key change rows)
  settled_stay may_wait.Any rows all = tt
  settled_stay (may_wait.Only only) rows all = all_changed _ _ _ (only_more only) rows all
  settled_stay may_wait.None rows all = all_changed _ _ _ none_more rows all

  pub last_settled : (only : RequestKey) → same_key only key ≡ true → (rows : List Request)
      → WaitsNoOther (may_wait.Only only) rows
      → WaitsNoOther may_wait.None (with_changed key change rows)
  last_settled only same rows all = all_changed _ _ _ (none_left only same) rows all

-- ---- how many wait

pub none_counted : (rows : List Request) → WaitsNoOther may_wait.None rows
    → length (filter waits rows) ≡ 0
none_counted [] all = refl
none_counted (row ∷ rows) all =
    subst (λ b. length (cond b (row ∷ filter waits rows) (filter waits rows)) ≡ 0) (sym all.0)
    (none_counted rows all.1)

pub none_found : (rows : List Request) → length (filter waits rows) ≡ 0
    → WaitsNoOther may_wait.None rows
none_found [] none = tt
none_found (row ∷ rows) none =
    go (waits row) refl none (none_found rows)
  where
    go : (b : Bool) → waits row ≡ b
        → length (cond b (row ∷ filter waits rows) (filter waits rows)) ≡ 0
        → (length (filter waits rows) ≡ 0 → WaitsNoOther may_wait.None rows)
        → WaitsNoOther may_wait.None (row ∷ rows)
    go true is one rest = absurd (let no = one in cc)
    go false is none rest = (is, rest none)

-- ---- how many count on a day

pub used_pushed : (rows : List Request) (row : Request) (day : ℕ)
    → used_in (rows ++ row ∷ []) day
    ≡ cond (row.admitted && (row.day == day)) (1 + used_in rows day) (used_in rows day)
used_pushed rows row day = count-push (λ row. row.admitted && (row.day == day)) rows row

count-changed : {X : Type 0} (p : X → Bool) (change : X → X) → ((x : X) → p (change x) ≡ p x)
    → (xs : List X) → count p (map change xs) ≡ count p xs
count-changed p change same [] = refl
count-changed p change same (x ∷ xs) =
    λ i. cond (same x i) (1 + count-changed p change same xs i) (count-changed p change same xs i)

pub used_stays : (key : RequestKey) (change : Request → Request)
    → ((row : Request) → (change row).admitted ≡ row.admitted)
    → ((row : Request) → (change row).day ≡ row.day) → (rows : List Request) (day : ℕ)
    → used_in (with_changed key change rows) day ≡ used_in rows day
used_stays key change admitted days rows day =
    count-changed counts _ same rows
  where
    counts : Request → Bool
    counts row = row.admitted && (row.day == day)

    same : (row : Request) → counts (cond (same_key row.key key) (change row) row) ≡ counts row
    same row =
        elim (same_key row.key key) as (λ b. counts (cond b (change row) row) ≡ counts row)
        [ true ↦ (λ i. admitted row i && (days row i == day)) | false ↦ refl ]

-- on a day after that of each row none counts
none_later : (today day : ℕ) → today < day → (rows : List Request) → All (IsBoundedRow today) rows
    → used_in rows day ≡ 0
none_later today day later [] all = refl
none_later today day later (row ∷ rows) all =
    let on = (All-head (IsBoundedRow today) row rows all).day in
    let other : (row.admitted && (row.day == day)) ≡ false = grind (arith, nat_tests) in
    subst (λ b. cond b (1 + used_in rows day) (used_in rows day) ≡ 0) (sym other)
    (none_later today day later rows (All-tail (IsBoundedRow today) row rows all))

-- so it is of tables that events led to, on a day after the business day
pub none_used_later : (t : Tables) → HasPast t → (day : ℕ) → t.day < day
    → used_in t.requests day ≡ 0
none_used_later t (opening, book) day later =
    none_later t.day day later t.requests (books_are_sound opening t book).numbers.requests
