-- A book blames its store only since the store failed.
use Rattle.std.proofs.Common.{◌≡◌, inl, inr, ⊎_elim, ℕ, suc, ◌==◌, Bool, true, false, ◌&&◌, cond}
use Rattle.std.proofs.Common.{List, [], ◌∷◌, length, filter, is_lt, nat_cmp, nat_lt}
use Rattle.std.proofs.Common.{Result, Ok, Err, IfOk, IfErr, IsErr, refl, sym, ap, subst, ◌∙◌, arith}
use Rattle.std.specs.Result.{IsErrAnd}
use Rattle.std.specs.Cmp.Lexicographic.{slice_cmp}
use Rattle.std.specs.Str.{bytes_eq}
use Rattle.sqlite_trees.specs.declared.store.Store.{Ghosts}
use Rattle.sqlite.specs.declared.error.Error.{Error}
use Rattle.sqlite.specs.State.{State}
use Rattle.sqlite.specs.Held.{Held, state}
use Rattle.row_lemmas.specs.Excused.{IsExcused}
use Rattle.row_lemmas.proofs.Elements.{length-map}
use Rattle.acq_core.specs.declared.change.Change.{Change}
use Rattle.acq_core.specs.declared.posting.Posting.{Posting}
use Rattle.acq_core.specs.declared.request.Request.{Request}
use Rattle.acq_core.specs.Pasts.{HasPast}
use Rattle.acq_core.specs.Tables.{Tables, after, requests_of, is_pending, is_approved}
use Rattle.acq_book.specs.declared.book_fault.BookFault.{BookFault}
use Rattle.acq_book.specs.declared.book_fault.BookFault.TheVariants.{Memory, Store}
use Rattle.acq_book.specs.Fits.{Fits, HasItsRequest}
use Rattle.acq_book.specs.Lookups.{terminal_count_at, range_count_at, pending_at, postings_at}
use Rattle.acq_book.specs.Lookups.{merchants_at, holds_at, waiting_at, is_posting_before}
use Rattle.acq_book.specs.Lookups.{is_merchant_before, is_terminal_before, terminals_at, ranges_at}
use Rattle.acq_book.specs.Lookups.{is_reference_before, is_authorization, used_on_at}
use Rattle.acq_book.specs.Lookups.{postings_above_at, postings_behind_at, waiting_count_at}
use Rattle.acq_book.specs.Order.{put_in_order, in_order}
use Rattle.acq_book.specs.Groups.{IsLive}
use Rattle.acq_book.specs.Promise.{BlamesStore, HasRisen}
use Rattle.acq_book.proofs.Counting.{count-le, length-filter}
use Rattle.acq_sql_rows.specs.Rows.{version, merchant_row, terminal_row, range_row, request_row}
use Rattle.acq_sql_rows.specs.Rows.{posting_row}
use Rattle.acq_sql_rows.specs.Schema.{merchants_tree, terminals_tree, requests_tree}
use Rattle.acq_sql_rows.specs.Schema.{postings_tree}
use Rattle.acq_sql_changes.specs.Refused.{FailsAmong, FailsInside}
use Rattle.acq_sql_writes.specs.Refused.{HasNumberLeft, HasNumbersLeft}
use Rattle.acq_sql_rows.specs.Standing.{FailsExcused, FailsExcusedAt, IsOpenOver}
use Rattle.acq_sql_changes.proofs.TakenTables.{number_left}
use Rattle.acq_sql_reads.specs.Failing.{AreNumbered, CanBeWalked, IsTold}
use Rattle.acq_sql.specs.Applied.{HasShortEnd}
use Rattle.acq_sql.specs.Faults.{book_fault_of}
use Rattle.acq_sql.specs.Kept.{Kept}
use Rattle.acq_sql.specs.Opened.{IsOpenAt, tables, is_honest, is_open, is_within, has_room}
use Rattle.acq_sql.specs.Opened.{store_faults}
use Rattle.acq_sql_checking.proofs.Blaming.{risen_by}
use Rattle.acq_sql.proofs.BookLooks.{looked}
use Rattle.acq_sql.proofs.PastRows.{past_ends, past_takes}

-- ---- what a book tells of what its database answered

fault_told : (T : Type 0) (f : BookFault) (old new : ℕ) → HasRisen old new
    → BlamesStore {T = T} (Err f) old new
fault_told T Memory old new risen = tt
fault_told T Store old new risen = risen

excused_told : (T : Type 0) (e : Error) (old new : State) → IsExcused old new e
    → BlamesStore {T = T} (Err (book_fault_of e)) old.faults new.faults
excused_told T e old new (inl memory) =
    subst (λ e. BlamesStore {T = T} (Err (book_fault_of e)) old.faults new.faults) (sym memory) tt
excused_told T e old new (inr more) =
    fault_told T (book_fault_of e) old.faults new.faults (risen_by more)

pub told : {T : Type 0} (answer : Result T Error) (result : Result T BookFault) (old new : State)
    → IfOk answer (λ x. result ≡ Ok x) → IfErr answer (λ e. result ≡ Err (book_fault_of e))
    → IfErr answer (IsExcused old new) → BlamesStore result old.faults new.faults
told {T} (Ok x) result old new same fault excused =
    subst (λ r. BlamesStore r old.faults new.faults) (sym same) tt
told {T} (Err e) result old new same fault excused =
    subst (λ r. BlamesStore r old.faults new.faults) (sym fault) (excused_told T e old new excused)

-- a call that fails only for memory or since the store failed, of what an open book with room
-- holds, is one of the book that blames the store only since it failed
blames_at : {S T : Type 0} (g : Ghosts S) (old seen new : Kept S) → old ≡ seen
    → (answer : Result T Error) (result : Result T BookFault) (fits : Tables → Type 0)
    → (HasNumbersLeft (state g old.connection).now
    → FailsExcused version (state g old.connection) (state g new.connection) answer fits)
    → IfOk answer (λ x. result ≡ Ok x) → IfErr answer (λ e. result ≡ Err (book_fault_of e))
    → is_honest g new → (o : is_open g seen) → has_room g seen → fits (tables g seen)
    → BlamesStore result (store_faults g seen) (store_faults g new)
blames_at {S} {T} g old seen new is answer result fits fails same fault clean o room fit =
    let was = subst (λ (k : Kept S). HasNumbersLeft (state g k.connection).now
    → FailsExcused version (state g k.connection) (state g new.connection) answer fits) is fails in
    told answer result (state g seen.connection) (state g new.connection) same fault
    (was room.numbers clean (tables g seen) o.opened.at fit room.unlimited)

-- so it is of a look-up, which may ask more of such tables
pub blames_of : {S T : Type 0} (g : Ghosts S) (old seen : Kept S) (connection : Held S)
    (failures : ℕ) → old ≡ seen
    → (answer : Result T Error) (result : Result T BookFault) (fits : Tables → Type 0)
    → FailsExcusedAt (IsOpenOver version) (state g old.connection) (state g connection) answer fits
    → IfOk answer (λ x. result ≡ Ok x) → IfErr answer (λ e. result ≡ Err (book_fault_of e))
    → ((s : State) (t : Tables) → IsOpenAt s t → HasNumbersLeft s.now → fits t)
    → is_honest g (looked old connection failures) → is_open g seen → has_room g seen
    → BlamesStore result (store_faults g seen) (store_faults g (looked old connection failures))
blames_of g old seen connection failures is answer result fits fails same fault fit clean o room =
    blames_at g old seen (looked old connection failures) is answer result fits
    (λ left clean t at. fails clean t (record { is_open = at.is_open; holds = at.holds }))
    same fault clean o room
    (fit (state g seen.connection) (tables g seen) o.opened room.numbers)

-- and of a change that fits and leads to tables with a past, where the request that it answers is
-- there, outside a group and within one
pub blames_change : {S T : Type 0} (g : Ghosts S) (old seen new : Kept S) → old ≡ seen
    → (answer : Result T Error) (result : Result T BookFault) (change : Change)
    → (old.in_group ≡ false → HasShortEnd change
    → FailsAmong (state g old.connection) (state g new.connection) answer change HasPast)
    → (old.in_group ≡ true → HasShortEnd change
    → FailsInside (state g old.connection) (state g new.connection) answer change HasPast)
    → IfOk answer (λ x. result ≡ Ok x) → IfErr answer (λ e. result ≡ Err (book_fault_of e))
    → (IsLive (is_open g) (is_within g) seen → Fits (tables g seen) change)
    → (IsLive (is_open g) (is_within g) seen → HasPast (after (tables g seen) change))
    → is_honest g new → IsLive (is_open g) (is_within g) seen → has_room g seen
    → HasItsRequest (tables g seen) change
    → BlamesStore result (store_faults g seen) (store_faults g new)
blames_change g old seen new is answer result change alone inside same fault fits past clean live
    room there =
    let t = tables g seen in
    let later = past live in
    let short = past_ends t change later there in
    let was_alone = subst (λ (k : Kept _). k.in_group ≡ false → HasShortEnd change
    → FailsAmong (state g k.connection) (state g new.connection) answer change HasPast) is alone in
    let was_inside = subst (λ (k : Kept _). k.in_group ≡ true → HasShortEnd change
    → FailsInside (state g k.connection) (state g new.connection) answer change HasPast) is
    inside in
    told answer result (state g seen.connection) (state g new.connection) same fault
    (⊎_elim
    (λ o. was_alone o.outside short room.numbers clean t o.opened.at
    (past_takes t change (fits live) o.opened.past later, o.opened.past) room.unlimited)
    (λ w. was_inside w.1.1.begun short room.numbers clean t (w.0, w.1.1.inside)
    (past_takes t change (fits live) w.1.1.past later, w.1.1.past) room.unlimited)
    live)

-- a fault that is passed on blames the store no more than before
pub passed_on : {T U : Type 0} (e : BookFault) (told : Result T BookFault)
    (result : Result U BookFault) (old new : ℕ) → told ≡ Err e
    → IsErr result × IsErrAnd result (λ f. f ≡ e) → BlamesStore told old new
    → BlamesStore result old new
passed_on e told (Ok x) old new was same blames = tt
passed_on {T} {U} e told (Err f) old new was same blames =
    subst (λ f. BlamesStore {T = U} (Err f) old new) (sym same.1)
    (turned e (subst (λ r. BlamesStore r old new) was blames))
  where
    turned : (e : BookFault) → BlamesStore {T = T} (Err e) old new →
        BlamesStore {T = U} (Err e) old new
    turned Memory is = tt
    turned Store is = is

-- ---- lists in order

put_length : {X : Type 0} (before : X → X → Bool) (x : X) (ys : List X)
    → length (put_in_order before x ys) ≡ suc (length ys)
put_length before x [] = refl
put_length before x (y ∷ ys) =
    elim (before y x) as
    (λ b. length (cond b (y ∷ put_in_order before x ys) (x ∷ y ∷ ys)) ≡ suc (suc (length ys)))
    [ true ↦ ap suc (put_length before x ys) | false ↦ refl ]

pub order_length : {X : Type 0} (before : X → X → Bool) (xs : List X)
    → length (in_order before xs) ≡ length xs
order_length before [] = refl
order_length before (x ∷ xs) =
    put_length before x (in_order before xs) ∙ ap suc (order_length before xs)

-- ---- what an open book with room holds

module _ (s : State) (t : Tables) (o : IsOpenAt s t) (left : HasNumbersLeft s.now) where
  few_terminals : HasNumberLeft t.terminals
  few_terminals =
      number_left terminal_row (s.now.trees terminals_tree) t.terminals o.at.holds.rows.terminals
      left.terminals

  few_ranges : HasNumberLeft t.ranges
  few_ranges =
      let same = ap length o.at.holds.rows.ranges ∙ length-map range_row t.ranges in
      let few = left.ranges in
      omega (arith, same, few)

  few_requests : HasNumberLeft t.requests
  few_requests =
      number_left request_row (s.now.trees requests_tree) t.requests o.at.holds.rows.requests
      left.requests

  pub has_past : HasPast t
  has_past = o.past

  pub terminals_told : HasPast t × IsTold (terminal_count_at t)
  terminals_told = let few = few_terminals in (o.past, omega (arith, few))

  pub ranges_told : HasPast t × IsTold (range_count_at t)
  ranges_told = let few = few_ranges in (o.past, omega (arith, few))

  pub merchants_walked : HasPast t × CanBeWalked (merchants_at t)
  merchants_walked =
      let few =
      number_left merchant_row (s.now.trees merchants_tree) t.merchants o.at.holds.rows.merchants
      left.merchants in
      let same = order_length is_merchant_before t.merchants in
      (o.past, omega (arith, few, same))

  pub terminals_walked : HasPast t × CanBeWalked (terminals_at t)
  terminals_walked =
      let few = few_terminals in
      let same = order_length is_terminal_before t.terminals in
      (o.past, omega (arith, few, same))

  pub ranges_walked : HasPast t × CanBeWalked (ranges_at t)
  ranges_walked = let few = few_ranges in (o.past, omega (arith, few))

  pub waiting_told : HasPast t × IsTold (waiting_count_at t)
  waiting_told =
      let few = few_requests in
      let some = length-filter (λ row. is_pending row.status) t.requests in
      (o.past, omega (arith, few, some))

  pub waiting_walked : HasPast t × CanBeWalked (waiting_at t)
  waiting_walked =
      let few = few_requests in
      let some = length-filter (λ row. is_pending row.status) t.requests in
      (o.past, omega (arith, few, some))

  pub requests_walked : HasPast t × AreNumbered t.requests
  requests_walked = let few = few_requests in (o.past, omega (arith, few))

-- what it holds of a day
module _ (day : ℕ) (s : State) (t : Tables) (o : IsOpenAt s t) (left : HasNumbersLeft s.now) where
  pub pending_told : HasPast t × IsTold (pending_at t day)
  pending_told =
      let few = few_requests s t o left in
      let some = count-le (λ row. is_pending row.status && (row.day == day)) t.requests in
      (o.past, omega (arith, few, some))

  pub used_told : HasPast t × IsTold (used_on_at t day)
  used_told =
      let few = few_requests s t o left in
      let some = count-le (λ row. row.admitted && (row.day == day)) t.requests in
      (o.past, omega (arith, few, some))

-- what it holds of postings
module _ (s : State) (t : Tables) (o : IsOpenAt s t) (left : HasNumbersLeft s.now) where
  some_walked : (passes : ℕ × Posting → Bool)
      → HasPast t × CanBeWalked (in_order is_posting_before (filter passes t.postings))
  some_walked passes =
      let few =
      number_left posting_row (s.now.trees postings_tree) t.postings o.at.holds.rows.postings
      left.postings in
      let some = length-filter passes t.postings in
      let same = order_length is_posting_before (filter passes t.postings) in
      (o.past, omega (arith, few, some, same))

pub postings_walked : (day : ℕ) (s : State) (t : Tables) → IsOpenAt s t → HasNumbersLeft s.now
    → HasPast t × CanBeWalked (postings_at t day)
postings_walked day s t o left = some_walked s t o left (λ row. row.1.day == day)

pub above_walked : (m : List ℕ) (day number : ℕ) (s : State) (t : Tables) → IsOpenAt s t
    → HasNumbersLeft s.now → HasPast t × CanBeWalked (postings_above_at t m day number)
above_walked m day number s t o left =
    some_walked s t o left
    (λ row. bytes_eq row.1.merchant m && (row.1.day == day) && nat_lt number row.0)

pub behind_walked : (m : List ℕ) (day : ℕ) (s : State) (t : Tables) → IsOpenAt s t
    → HasNumbersLeft s.now → HasPast t × CanBeWalked (postings_behind_at t m day)
behind_walked m day s t o left =
    some_walked s t o left
    (λ row. (row.1.day == day) && is_lt (slice_cmp nat_cmp m row.1.merchant))

-- what it holds of a merchant
pub holds_walked : (m : List ℕ) (s : State) (t : Tables) → IsOpenAt s t → HasNumbersLeft s.now
    → HasPast t × CanBeWalked (holds_at t m)
holds_walked m s t o left =
    let few = few_requests s t o left in
    let own = requests_of m t.requests in
    let mine = length-filter (λ row. bytes_eq row.key.merchant m) t.requests in
    let is_hold : Request → Bool =
    λ row. is_authorization row.key.service && is_approved row.status in
    let some = length-filter is_hold own in
    let same =
    order_length (λ a b. is_reference_before a.reference b.reference) (filter is_hold own) in
    (o.past, omega (arith, few, mine, some, same))
