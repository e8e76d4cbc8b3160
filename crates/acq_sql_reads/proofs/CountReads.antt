-- How many requests are pending or count against a limit, and how many terminals and ranges there
-- are.
use Rattle.std.proofs.Common.{◌≡◌, ◌==◌, ◌&&◌, ◌+◌, ℕ, pos, Bool, true, false, cond, List, [], ◌∷◌}
use Rattle.std.proofs.Common.{filter, length, suc}
use Rattle.std.proofs.Common.{refl, ap, ◌∙◌, arith}
use Rattle.sqlite_value.specs.declared.value.Value.TheVariants.{Int, Null}
use Rattle.sqlite_sql.specs.Aggregate.{count}
use Rattle.sqlite_schema.specs.declared.command.Command.TheVariants.{Select}
use Rattle.sqlite.specs.State.{State}
use Rattle.sqlite.proofs.Callers.{reads_as}
use Rattle.row_lemmas.specs.Queries.{alone}
use Rattle.row_lemmas.specs.Values.{number}
use Rattle.row_lemmas.proofs.ColumnTests.{number_test, and_true}
use Rattle.row_lemmas.proofs.QueryRows.{picked}
use Rattle.row_lemmas.proofs.CountedRows.{rows_counted}
use Rattle.row_lemmas.proofs.Elements.{length-map}
use Rattle.row_lemmas.proofs.ListReads.{shows_count}
use Rattle.acq_core.specs.declared.request.Request.{Request}
use Rattle.acq_core.specs.declared.status.Status.{Status}
use Rattle.acq_core.specs.Tables.{Tables, is_pending}
use Rattle.acq_core.specs.Tables as tables
use Rattle.acq_core.proofs.Statuses.{alike}
use Rattle.acq_book.specs.Lookups.{pending_at, terminal_count_at, range_count_at, used_on_at}
use Rattle.acq_book.specs.Lookups.{waiting_count_at}
use Rattle.acq_sql_rows.specs.Schema.{book_schema}
use Rattle.acq_core.specs.Statuses.{status_number}
use Rattle.acq_sql_rows.specs.Rows.{bit_of, range_row, request_row, terminal_row}
use Rattle.acq_sql_rows.specs.Tallies.{Running}
use Rattle.acq_sql_rows.specs.Relation.{HoldsRows}
use Rattle.acq_sql_reads.specs.Shown.{ShowsCount}
use Rattle.acq_sql_reads.specs.Texts as text
use Rattle.acq_sql_reads.specs.Queries as query
use Rattle.acq_sql_reads.proofs.TextLemmas as asks

-- the number of a pending request's status
pub pending_is : (s : Status) → (status_number s == 1) ≡ is_pending s
pending_is = alike (λ s. status_number s == 1) is_pending refl

pub counted : {X : Type 0} (p : X → Bool) (xs : List X) → length (filter p xs) ≡ tables.count p xs
counted p [] = refl
counted p (x ∷ xs) =
    let rest = counted p xs in
    elim (p x)
    as (λ b. length (cond b (x ∷ filter p xs) (filter p xs)) ≡ cond b (1 + tables.count p xs)
    (tables.count p xs))
    [ true ↦ omega (arith, rest) | false ↦ rest ]

module _ (day : ℕ) where
  abbrev waits : Request → Bool
  waits row = is_pending row.status && (row.day == day)

  tested : (id : ℕ) (x : Request)
      → picked query.pending_on (number day ∷ []) (Int (pos id) ∷ request_row x) ≡ waits x
  tested id x =
      rw (
        number_test (status_number x.status) 1,
        number_test x.day day,
        and_true,
        pending_is x.status,
      ) refl

  pub pending_found : (old new : State) (t : Tables) (runs : List Running)
      → HoldsRows old.now t runs
      → ShowsCount text.pending_text (number day ∷ []) old new (pending_at t day)
  pending_found old new t runs has rows shown =
      let ask = asks.pending_asks in
      shows_count request_row (book_schema has.schema.0) 6 t.requests old new has.schema.1
      has.requests
      text.pending_text
      (number day ∷ []) _ (ask.plain has.schema.0) (ask.unlisted has.schema.0) rows shown
      query.pending_on [] waits tested (ask.is has.schema.0)
      ∙ ap (λ n. (count n ∷ []) ∷ []) (counted waits t.requests)

-- of all days
waits_test : (id : ℕ) (x : Request)
    → picked query.waiting [] (Int (pos id) ∷ request_row x) ≡ is_pending x.status
waits_test id x =
    rw (number_test (status_number x.status) 1, and_true, pending_is x.status) refl

pub waiting_found : (old new : State) (t : Tables) (runs : List Running)
    → HoldsRows old.now t runs
    → ShowsCount text.waiting_count_text [] old new (waiting_count_at t)
waiting_found old new t runs has rows shown =
    let ask = asks.waiting_count_asks in
    shows_count request_row (book_schema has.schema.0) 6 t.requests old new has.schema.1
    has.requests
    text.waiting_count_text [] _ (ask.plain has.schema.0) (ask.unlisted has.schema.0) rows shown
    query.waiting []
    (λ x. is_pending x.status) waits_test (ask.is has.schema.0)

-- the bit of a request that was admitted
admitted_is : (b : Bool) → (bit_of b == 1) ≡ b
admitted_is true = refl
admitted_is false = refl

module _ (day : ℕ) where
  abbrev counts : Request → Bool
  counts row = row.admitted && (row.day == day)

  counts_test : (id : ℕ) (x : Request)
      → picked query.admitted_on (number day ∷ []) (Int (pos id) ∷ request_row x) ≡ counts x
  counts_test id x =
      rw (
        number_test (bit_of x.admitted) 1,
        number_test x.day day,
        and_true,
        admitted_is x.admitted,
      ) refl

  pub used_found : (old new : State) (t : Tables) (runs : List Running)
      → HoldsRows old.now t runs
      → ShowsCount text.used_on_text (number day ∷ []) old new (used_on_at t day)
  used_found old new t runs has rows shown =
      let ask = asks.used_on_asks in
      shows_count request_row (book_schema has.schema.0) 6 t.requests old new has.schema.1
      has.requests
      text.used_on_text
      (number day ∷ []) _ (ask.plain has.schema.0) (ask.unlisted has.schema.0) rows shown
      query.admitted_on [] counts counts_test
      (ask.is has.schema.0)
      ∙ ap (λ n. (count n ∷ []) ∷ []) (counted counts t.requests)

-- ---- whole tables

every : {X : Type 0} (xs : List X) → length (filter (λ x. true) xs) ≡ length xs
every [] = refl
every (x ∷ xs) = ap suc (every xs)

pub terminals_found : (old new : State) (t : Tables) (runs : List Running)
    → HoldsRows old.now t runs
    → ShowsCount text.terminal_count_text [] old new (terminal_count_at t)
terminals_found old new t runs has rows shown =
    let ask = asks.terminal_count_asks in
    shows_count terminal_row (book_schema has.schema.0) 3 t.terminals old new has.schema.1
    has.terminals
    text.terminal_count_text [] _ (ask.plain has.schema.0) (ask.unlisted has.schema.0) rows shown []
    [] (λ x. true)
    (λ id x. refl) (ask.is has.schema.0)
    ∙ ap (λ n. (count n ∷ []) ∷ []) (every t.terminals)

-- their rowids are keys of their own
pub ranges_found : (old new : State) (t : Tables) (runs : List Running)
    → HoldsRows old.now t runs
    → ShowsCount text.range_count_text [] old new (range_count_at t)
ranges_found old new t runs has rows shown =
    let ask = asks.range_count_asks in
    let read = reads_as text.range_count_text [] old new (book_schema has.schema.0) has.schema.1
    (Select (alone query.range_count_query) _) (ask.is has.schema.0) (ask.plain has.schema.0)
    (ask.unlisted has.schema.0) rows shown in
    rows_counted 5 [] old.now.trees [] rows (read.answer Null)
    ∙ ap (λ n. (count n ∷ []) ∷ [])
    (every (old.now.trees 5) ∙ (ap length has.ranges ∙ length-map range_row t.ranges))
