-- When a look-up fails.
use Rattle.std.proofs.Common.{◌≡◌, ◌≢◌, ◌↔◌, inl, inr, ℕ, zero, suc, ◌<◌, ◌≤◌, Bool, true}
use Rattle.std.proofs.Common.{true≢false}
use Rattle.std.proofs.Common.{List, [], ◌∷◌, length, find, slice_get, slice_index_or, Option, None}
use Rattle.std.proofs.Common.{Some, IsSome, SomeIff, option_map, Result, Ok, Err, IfErr, nat_le}
use Rattle.std.proofs.Common.{refl, sym, ap, ◌∙◌, subst, arith, ◌-◌, ◌^◌, min}
use Rattle.std.specs.Prelude.{All, IfSome}
use Rattle.std.specs.List.{list_all}
use Rattle.std.specs.Option.{option_to_list}
use Rattle.std.specs.Str.{bytes_eq}
use Rattle.std.proofs.Math.Nat.{min-eq_left}
use Rattle.std.proofs.lemmas.Bool.{and_parts, leb-true, le-leb}
use Rattle.std.proofs.lemmas.List.Elements.{All-contains}
use Rattle.sqlite_value.specs.Order.{Row, column}
use Rattle.sqlite_value.specs.declared.value.Value.TheVariants.{Text}
use Rattle.sqlite_value.specs.declared.keys.Key.{Key}
use Rattle.sqlite_sql.specs.Aggregate.{count}
use Rattle.sqlite_sql.specs.Group.{Aggregate, value_over}
use Rattle.sqlite_sql.specs.Query.{Query}
use Rattle.sqlite_sql.specs.Term.{Term, Env}
use Rattle.sqlite_schema.specs.declared.command.Command.TheVariants.{Select}
use Rattle.sqlite_rules.specs.Lists.{Has}
use Rattle.sqlite_rules.proofs.ListLemmas.{has_found, test_has}
use Rattle.sqlite_typing.specs.Types.{accepts_program}
use Rattle.sqlite_tied.specs.Compute.{everything}
use Rattle.sqlite.specs.declared.error.Error.{Error}
use Rattle.sqlite.specs.declared.error.Error.TheVariants.{SqliteFailure}
use Rattle.sqlite.specs.declared.error.ErrorCode.TheVariants.{DatabaseCorrupt}
use Rattle.sqlite.specs.Effect.{Database, RefusesQuery}
use Rattle.sqlite.specs.Listing.{understood}
use Rattle.sqlite.specs.State.{State, HasCleanDisk, FailsToQuery, Survives}
use Rattle.row_lemmas.specs.Excused.{IsExcused}
use Rattle.row_lemmas.specs.Queries.{table_query, alone, counting}
use Rattle.row_lemmas.specs.Values.{number, number_or_null}
use Rattle.row_lemmas.proofs.StatementFailures.{tail_of, names_of, fails_to_show}
use Rattle.row_lemmas.proofs.QueriesSucceed.{query_succeeds}
use Rattle.iso_codec.specs.Reading.{spelling}
use Rattle.iso_codec.proofs.ReadingComputes.{reads_as}
use Rattle.iso_codec.proofs.SpellingComputes.{spelling_writes}
use Rattle.iso_codec.proofs.WrittenIsRead.{is_read}
use Rattle.card_no.specs.declared.range.Range.{Range}
use Rattle.card_no.specs.Ranges.{are_apart, between, is_valid_range, overlaps}
use Rattle.day_totals.specs.Day.{IsDayNumber}
use Rattle.day_totals.specs.Totals.{DayTotals, AreWithinLimits}
use Rattle.acq_message.specs.declared.request_key.RequestKey.{RequestKey}
use Rattle.acq_message.specs.Elements.{same_key}
use Rattle.acq_message.specs.Numbers.{is_number, is_reference}
use Rattle.acq_core.specs.declared.reconciliation.Reconciliation.{Reconciliation}
use Rattle.acq_core.specs.declared.request.Request.{Request}
use Rattle.acq_core.specs.Numbers.{is_admitted_count, is_limit, is_used_count, greatest_limit}
use Rattle.acq_core.specs.Pasts.{HasPast}
use Rattle.acq_core.specs.Tables.{Tables, requests_of}
use Rattle.acq_book.specs.Lookups.{admitted_at, merchant_at, overlapping_at, referred_at}
use Rattle.acq_book.specs.Lookups.{request_at}
use Rattle.acq_soundness.specs.Rows.{FitsMerchant, FitsRequest, HasFittingRows}
use Rattle.acq_soundness.proofs.BooksAreSound.{books_are_sound}
use Rattle.acq_soundness.proofs.Members.{In, from_In, In-filtered, In-find}
use Rattle.acq_sql_rows.specs.Rows.{version, key_row, merchant_row, request_row, tally_row}
use Rattle.acq_sql_rows.specs.Tallies.{tally_of}
use Rattle.acq_sql_rows.specs.declared.form.Form.{Form}
use Rattle.acq_sql_rows.specs.Schema.{IsBookSchema, book_schema}
use Rattle.acq_sql_rows.specs.Standing.{IsOpenOver}
use Rattle.acq_sql_reads.specs.Failing.{FailsForMemory, FailsOnlyExcused, IsBalanceRow}
use Rattle.acq_sql_reads.specs.Failing.{IsMerchantRow, IsRangeRow, IsRequestRow, IsTallyRow}
use Rattle.acq_sql_reads.specs.Failing.{IsTold}
use Rattle.acq_sql_reads.specs.Looked.{IsNearest, LooksOnly, ShowsGreatest, ShowsTally}
use Rattle.acq_sql_reads.specs.Looked.{TellsCount, count_up_to}
use Rattle.acq_sql_reads.specs.Looked.{balance_cells, range_cells}
use Rattle.acq_sql_reads.specs.Recorded.{ShowsRequest}
use Rattle.acq_sql_reads.specs.Shown.{FailsToHandOver}
use Rattle.acq_sql_reads.proofs.Leaves.{open_unchanged, clean_before}
use Rattle.acq_sql_reads.proofs.RowReads.{first_row}
use Rattle.acq_sql_reads.specs.Texts as text
use Rattle.acq_sql_reads.specs.Queries as query
use Rattle.acq_sql_reads.proofs.TextLemmas.{Asks}
use Rattle.acq_sql_reads.proofs.TextLemmas as asks

-- ---- a SELECT

-- it has so many parameters, and nothing behind it
pub record IsAlone (text : List ℕ) (many : ℕ) : Type 0 where
  pub whole : (form : Form) → tail_of (understood (book_schema form) text) ≡ length text
  pub given : (form : Form) → names_of (understood (book_schema form) text) ≡ many

business_alone : IsAlone text.business_text 0
unfolding understood everything book_schema
business_alone = record { whole = λ form. refl; given = λ form. refl }

merchant_alone : IsAlone text.merchant_text 1
unfolding understood everything book_schema
merchant_alone = record { whole = λ form. refl; given = λ form. refl }

terminal_alone : IsAlone text.terminal_text 2
unfolding understood everything book_schema
terminal_alone = record { whole = λ form. refl; given = λ form. refl }

running_alone : IsAlone text.running_text 2
unfolding understood everything book_schema
running_alone = record { whole = λ form. refl; given = λ form. refl }

reconciliation_alone : IsAlone text.reconciliation_text 2
unfolding understood everything book_schema
reconciliation_alone = record { whole = λ form. refl; given = λ form. refl }

nearest_alone : IsAlone text.nearest_text 1
unfolding understood everything book_schema
nearest_alone = record { whole = λ form. refl; given = λ form. refl }

overlapping_alone : IsAlone text.overlapping_text 3
unfolding understood everything book_schema
overlapping_alone = record { whole = λ form. refl; given = λ form. refl }

pending_alone : IsAlone text.pending_text 1
unfolding understood everything book_schema
pending_alone = record { whole = λ form. refl; given = λ form. refl }

waiting_count_alone : IsAlone text.waiting_count_text 0
unfolding understood everything book_schema
waiting_count_alone = record { whole = λ form. refl; given = λ form. refl }

used_on_alone : IsAlone text.used_on_text 1
unfolding understood everything book_schema
used_on_alone = record { whole = λ form. refl; given = λ form. refl }

terminal_count_alone : IsAlone text.terminal_count_text 0
unfolding understood everything book_schema
terminal_count_alone = record { whole = λ form. refl; given = λ form. refl }

range_count_alone : IsAlone text.range_count_text 0
unfolding understood everything book_schema
range_count_alone = record { whole = λ form. refl; given = λ form. refl }

request_alone : IsAlone text.request_text 5
unfolding understood everything book_schema
request_alone = record { whole = λ form. refl; given = λ form. refl }

reference_alone : IsAlone text.reference_text 2
unfolding understood everything book_schema
reference_alone = record { whole = λ form. refl; given = λ form. refl }

greatest_alone : IsAlone text.greatest_text 1
unfolding understood everything book_schema
greatest_alone = record { whole = λ form. refl; given = λ form. refl }

typed_business : (form : Form) → accepts_program (book_schema form) [] query.business_query []
    ≡ true
unfolding book_schema
typed_business form = refl

typed_merchant : (form : Form) (id : List ℕ)
    → accepts_program (book_schema form) [] query.merchant_query (Text id ∷ []) ≡ true
unfolding book_schema
typed_merchant form id = refl

typed_terminal : (form : Form) (merchant id : List ℕ)
    → accepts_program (book_schema form) [] query.terminal_query (Text merchant ∷ Text id ∷ [])
    ≡ true
unfolding book_schema
typed_terminal form merchant id = refl

typed_running : (form : Form) (merchant : List ℕ) (day : ℕ)
    → accepts_program (book_schema form) [] query.running_query (Text merchant ∷ number day ∷ [])
    ≡ true
unfolding book_schema
typed_running form merchant day = refl

typed_reconciliation : (form : Form) (day : ℕ) (merchant : List ℕ)
    → accepts_program (book_schema form) [] query.reconciliation_query
    (number day ∷ Text merchant ∷ [])
    ≡ true
unfolding book_schema
typed_reconciliation form day merchant = refl

typed_nearest : (form : Form) (prefix : ℕ)
    → accepts_program (book_schema form) [] query.nearest_query (number prefix ∷ []) ≡ true
unfolding book_schema
typed_nearest form prefix = refl

typed_overlapping : (form : Form) (first low high : ℕ)
    → accepts_program (book_schema form) [] query.overlapping_query
    (number first ∷ number low ∷ number high ∷ [])
    ≡ true
unfolding book_schema
typed_overlapping form first low high = refl

typed_request : (form : Form) (key : RequestKey)
    → accepts_program (book_schema form) [] query.request_query (key_row key) ≡ true
unfolding book_schema
typed_request form key = refl

typed_reference : (form : Form) (merchant : List ℕ) (n : ℕ)
    → accepts_program (book_schema form) [] query.reference_query (Text merchant ∷ number n ∷ [])
    ≡ true
unfolding book_schema
typed_reference form merchant n = refl

typed_greatest : (form : Form) (merchant : List ℕ)
    → accepts_program (book_schema form) [] query.greatest_query (Text merchant ∷ []) ≡ true
unfolding book_schema
typed_greatest form merchant = refl

typed_pending : (form : Form) (day : ℕ)
    → accepts_program (book_schema form) [] query.pending_query (number day ∷ []) ≡ true
unfolding book_schema
typed_pending form day = refl

typed_waiting_count : (form : Form) → accepts_program (book_schema form) []
    query.waiting_count_query [] ≡ true
unfolding book_schema
typed_waiting_count form = refl

typed_used_on : (form : Form) (day : ℕ)
    → accepts_program (book_schema form) [] query.used_on_query (number day ∷ []) ≡ true
unfolding book_schema
typed_used_on form day = refl

typed_terminal_count : (form : Form) → accepts_program (book_schema form) []
    query.terminal_count_query [] ≡ true
unfolding book_schema
typed_terminal_count form = refl

typed_range_count : (form : Form) → accepts_program (book_schema form) [] query.range_count_query []
    ≡ true
unfolding book_schema
typed_range_count form = refl

-- the book's database refuses no query of this kind
abbrev pub IsNeverRefused : Query → Row → Type 0
IsNeverRefused q params =
    (db : Database) (e : Error) → IsBookSchema db.schema
    → ¬ RefusesQuery None db (alone q) params e

-- count(*) always tells a number
counted : (group : List Env) (j : ℕ) (a : Aggregate) → j < 1
    → slice_index_or counting.aggregates j a ≡ a → value_over group a ≡ None → ⊥
counted group zero a low at none =
    let one = subst (λ (b : Aggregate). value_over group b ≡ None) (sym at) none in cc
counted group (suc j) a low at none = absurd (omega arith)

count_succeeds : (tree : ℕ) (test : List Term) (params : Row)
    → ((form : Form) → accepts_program (book_schema form) [] (query.count_query tree test) params
    ≡ true)
    → IsNeverRefused (query.count_query tree test) params
count_succeeds tree test params typed db e has (inl h) =
    true≢false (sym (typed has.0)
    ∙ ap (λ s. accepts_program s [] (query.count_query tree test) params) (sym has.1) ∙ h.1)
count_succeeds tree test params typed db e has
    (inr (inl (is, inl (groups, all, (k, group, low, at, (j, a, below, here, none)))))) =
    counted group j a below here none
count_succeeds tree test params typed db e has (inr (inl (is, inr (i, d, low, at, none)))) =
    absurd none
count_succeeds tree test params typed db e has (inr (inr h)) = true≢false (sym h.1)

-- so the query fails only for memory or since the store failed
query_excused : (old new : State) (sql : List ℕ) (params : Row) (q : Query)
    (names : List (List ℕ)) → Asks sql q names → IsAlone sql (length params)
    → IsNeverRefused q params → (t : Tables) → IsOpenOver version old t → old.step_limit ≡ None
    → (e : Error) → FailsToQuery sql params old new e → IsExcused old new e
query_excused old new sql params q names ask lone succeeds t at free e h =
    let has = at.holds.rows.schema in
    elim (fails_to_show sql params old new (book_schema has.0) has.1
    (Select (alone q) names) (ask.is has.0) (ask.plain has.0)
    (omega (arith, lone.whole has.0)) (sym (lone.given has.0))
    at.is_open (alone q) names refl (ask.unlisted has.0) e h) [
      | inl why ↦ why
      | inr refuses ↦ absurd (succeeds old.now e has
          (subst (λ l. RefusesQuery l old.now (alone q) params e) free refuses))
    ]

module _ {V : Type 0} (old new : State) (res : Result V Error) where
  -- it failed to show its rows
  abbrev Failed : List ℕ → Row → Type 0
  Failed sql params = HasCleanDisk new → IfErr res (FailsToQuery sql params old new)

  never : (sql : List ℕ) (params : Row) (q : Query) (names : List (List ℕ)) → Asks sql q names
      → IsAlone sql (length params) → IsNeverRefused q params
      → Failed sql params → FailsOnlyExcused old new res
  never sql params q names ask lone succeeds failed clean t at past free =
      go res (failed clean)
    where
      go : (r : Result V Error) → IfErr r (FailsToQuery sql params old new)
          → IfErr r (IsExcused old new)
      go (Ok x) h = tt
      go (Err e) h = query_excused old new sql params q names ask lone succeeds t at free e h

  fails : (sql : List ℕ) (params : Row) (t : ℕ) (test project : List Term)
      (order : List (Term × Key)) (limit : Term) (names : List (List ℕ))
      → Asks sql (table_query t test None project order limit) names
      → IsAlone sql (length params)
      → ((form : Form) → accepts_program (book_schema form) []
      (table_query t test None project order limit) params ≡ true)
      → Failed sql params → FailsOnlyExcused old new res
  fails sql params t test project order limit names ask lone typed =
      never sql params _ names ask lone
      (λ db e has. query_succeeds t test project order limit (book_schema has.0) params
      (typed has.0) db e has.1)

  pub business_fails : Failed text.business_text [] → FailsOnlyExcused old new res
  business_fails =
      fails text.business_text [] _ _ _ _ _ _ asks.business_asks business_alone typed_business

  pub merchant_fails : (id : List ℕ) → Failed text.merchant_text (Text id ∷ [])
      → FailsOnlyExcused old new res
  merchant_fails id =
      fails text.merchant_text (Text id ∷ []) _ _ _ _ _ _ asks.merchant_asks merchant_alone
      (λ form. typed_merchant form id)

  pub terminal_fails : (merchant id : List ℕ)
      → Failed text.terminal_text (Text merchant ∷ Text id ∷ []) → FailsOnlyExcused old new res
  terminal_fails merchant id =
      fails text.terminal_text (Text merchant ∷ Text id ∷ []) _ _ _ _ _ _ asks.terminal_asks
      terminal_alone (λ form. typed_terminal form merchant id)

  pub running_fails : (merchant : List ℕ) (day : ℕ)
      → Failed text.running_text (Text merchant ∷ number day ∷ []) → FailsOnlyExcused old new res
  running_fails merchant day =
      fails text.running_text (Text merchant ∷ number day ∷ []) _ _ _ _ _ _ asks.running_asks
      running_alone (λ form. typed_running form merchant day)

  pub reconciliation_fails : (day : ℕ) (merchant : List ℕ)
      → Failed text.reconciliation_text (number day ∷ Text merchant ∷ [])
      → FailsOnlyExcused old new res
  reconciliation_fails day merchant =
      fails text.reconciliation_text (number day ∷ Text merchant ∷ []) _ _ _ _ _ _
      asks.reconciliation_asks reconciliation_alone (λ form. typed_reconciliation form day merchant)

  pub nearest_fails : (prefix : ℕ) → Failed text.nearest_text (number prefix ∷ [])
      → FailsOnlyExcused old new res
  nearest_fails prefix =
      fails text.nearest_text (number prefix ∷ []) _ _ _ _ _ _ asks.nearest_asks nearest_alone
      (λ form. typed_nearest form prefix)

  pub overlapping_fails : (first low high : ℕ)
      → Failed text.overlapping_text (number first ∷ number low ∷ number high ∷ [])
      → FailsOnlyExcused old new res
  overlapping_fails first low high =
      fails text.overlapping_text (number first ∷ number low ∷ number high ∷ []) _ _ _ _ _ _
      asks.overlapping_asks overlapping_alone (λ form. typed_overlapping form first low high)

  pub request_fails : (key : RequestKey) → Failed text.request_text (key_row key)
      → FailsOnlyExcused old new res
  request_fails key =
      fails text.request_text (key_row key) _ _ _ _ _ _ asks.request_asks request_alone
      (λ form. typed_request form key)

  pub reference_fails : (merchant : List ℕ) (n : ℕ)
      → Failed text.reference_text (Text merchant ∷ number n ∷ [])
      → FailsOnlyExcused old new res
  reference_fails merchant n =
      fails text.reference_text (Text merchant ∷ number n ∷ []) _ _ _ _ _ _
      asks.reference_asks reference_alone (λ form. typed_reference form merchant n)

  pub greatest_fails : (merchant : List ℕ) → Failed text.greatest_text (Text merchant ∷ [])
      → FailsOnlyExcused old new res
  greatest_fails merchant =
      fails text.greatest_text (Text merchant ∷ []) _ _ _ _ _ _ asks.greatest_asks greatest_alone
      (λ form. typed_greatest form merchant)

-- a call that fails for memory, or as its query does
module _ {V : Type 0} (old new : State) (res : Result V Error) (t : Tables)
    (at : IsOpenOver version old t) (free : old.step_limit ≡ None) where
  abbrev HandedOver : List ℕ → Row → Type 0
  HandedOver sql params = IfErr res (FailsToHandOver sql params old new)

  pub query_fails : (sql : List ℕ) (params : Row) (q : Query) (names : List (List ℕ))
      → Asks sql q names → IsAlone sql (length params) → IsNeverRefused q params
      → HandedOver sql params → IfErr res (IsExcused old new)
  query_fails sql params q names ask lone succeeds failed =
      go res failed
    where
      go : (r : Result V Error) → IfErr r (FailsToHandOver sql params old new)
          → IfErr r (IsExcused old new)
      go (Ok x) h = tt
      go (Err e) (inl memory) = inl memory
      go (Err e) (inr h) =
          query_excused old new sql params q names ask lone succeeds t at free e h

  pub pending_fails : (day : ℕ) → HandedOver text.pending_text (number day ∷ [])
      → IfErr res (IsExcused old new)
  pending_fails day =
      query_fails text.pending_text (number day ∷ []) query.pending_query _ asks.pending_asks
      pending_alone (count_succeeds 6 query.pending_on (number day ∷ [])
      (λ form. typed_pending form day))

  pub waiting_count_fails : HandedOver text.waiting_count_text [] → IfErr res (IsExcused old new)
  waiting_count_fails =
      query_fails text.waiting_count_text [] query.waiting_count_query _ asks.waiting_count_asks
      waiting_count_alone (count_succeeds 6 query.waiting [] typed_waiting_count)

  pub used_on_fails : (day : ℕ) → HandedOver text.used_on_text (number day ∷ [])
      → IfErr res (IsExcused old new)
  used_on_fails day =
      query_fails text.used_on_text (number day ∷ []) query.used_on_query _ asks.used_on_asks
      used_on_alone (count_succeeds 6 query.admitted_on (number day ∷ [])
      (λ form. typed_used_on form day))

  pub terminal_count_fails : HandedOver text.terminal_count_text [] → IfErr res (IsExcused old new)
  terminal_count_fails =
      query_fails text.terminal_count_text [] query.terminal_count_query _
      asks.terminal_count_asks terminal_count_alone (count_succeeds 3 [] [] typed_terminal_count)

  pub range_count_fails : HandedOver text.range_count_text [] → IfErr res (IsExcused old new)
  range_count_fails =
      query_fails text.range_count_text [] query.range_count_query _ asks.range_count_asks
      range_count_alone (count_succeeds 5 [] [] typed_range_count)

-- ---- a row that was found

-- want of memory is excused
pub memory_excused : {T : Type 0} (old new : State) (res : Result T Error) → FailsForMemory res
    → IfErr res (IsExcused old new)
memory_excused old new (Ok x) memory = tt
memory_excused old new (Err e) memory = inl memory

-- a number that fits is read
pub number_taken : {T : Type 0} (res : Result T Error) (o : Option T) (fits : Type 0) (n : T)
    (P : Error → Type 0) → IfErr res (λ e. (o ≡ None) × (e ≡ SqliteFailure DatabaseCorrupt))
    → SomeIff o fits n → fits → IfErr res P
number_taken (Ok x) o fits n P fault some fit = tt
number_taken (Err e) None fits n P fault some fit = absurd (some fit)
number_taken (Err e) (Some x) fits n P fault some fit =
    absurd (let none : Some x ≡ None = fault.0 in cc)

-- no row was read
pub none_first : (rows : List Row) (first : Row) → rows ≡ first ∷ [] → None ≢ slice_get rows 0
none_first rows first are none = let e = none ∙ ap (λ l. slice_get l 0) are in cc

pub one_first : (rows : List Row) (row first : Row) → rows ≡ first ∷ []
    → Some row ≡ slice_get rows 0 → row ≡ first
one_first rows row first are some =
    let e : Some row ≡ Some first = some ∙ ap (λ l. slice_get l 0) are in cc

-- the row of one that was found
pub row_shown : {X : Type 0} (row_of : X → Row) (o : Option X) (rows : List Row) (row : Row)
    → rows ≡ option_to_list (option_map row_of o) → Some row ≡ slice_get rows 0
    → (x : X) × (o ≡ Some x) × (row ≡ row_of x)
row_shown row_of None rows row are some =
    absurd (let e = some ∙ ap (λ l. slice_get l 0) are in cc)
row_shown row_of (Some x) rows row are some = (x, refl, one_first rows row (row_of x) are some)

-- what holds of all rows holds of one that was found
found_fits : {X : Type 0} (P : X → Type 0) (p : X → Bool) (xs : List X) (x : X) → All P xs
    → find p xs ≡ Some x → P x
found_fits P p xs x all found = All-contains P xs x all (from_In x xs (In-find p xs x found).0)

pub limit_fits : (t : Tables) → HasPast t → is_limit t.limit ≡ true
limit_fits t (opening, book) =
    ap is_limit (books_are_sound opening t book).numbers.limit ∙ book.opens.limit

pub day_fits : (t : Tables) → HasPast t → IsDayNumber t.day
day_fits t (opening, book) = (books_are_sound opening t book).numbers.day

pub rows_fit : (t : Tables) → HasPast t → HasFittingRows t
rows_fit t (opening, book) = (books_are_sound opening t book).rows

pub merchant_fits : (t : Tables) → HasPast t → (id : List ℕ) (rows : List Row) (row : Row)
    → rows ≡ option_to_list (option_map merchant_row (merchant_at t id))
    → Some row ≡ slice_get rows 0 → IsMerchantRow row
merchant_fits t past id rows row are some =
    let it = row_shown merchant_row (merchant_at t id) rows row are some in (
      it.0,
      it.2,
      found_fits FitsMerchant (λ row. bytes_eq row.id id) t.merchants it.0
          (rows_fit t past).merchants it.1,
    )

-- ---- ranges

pub ranges_apart : (t : Tables) → HasPast t → are_apart t.ranges ≡ true
ranges_apart t (opening, book) =
    (and_parts (list_all is_valid_range t.ranges) _ (books_are_sound opening t book).ranges).1

pub range_valid : (t : Tables) → HasPast t → (r : Range) → Has t.ranges r → is_valid_range r ≡ true
range_valid t (opening, book) r =
    test_has is_valid_range t.ranges r
    (and_parts (list_all is_valid_range t.ranges) _ (books_are_sound opening t book).ranges).0

pub range_shown : (t : Tables) → HasPast t → (prefix : ℕ) (rows : List Row) (row : Row)
    → IsNearest prefix t.ranges rows → Some row ≡ slice_get rows 0 → IsRangeRow row
range_shown t past prefix rows row (inl none) some =
    absurd (let e = some ∙ ap (λ l. slice_get l 0) none.0 in cc)
range_shown t past prefix rows row (inr (r, one, found, listed, below)) some =
    (r, one_first rows row (range_cells r) one some, range_valid t past r listed)

pub overlap_shown : (t : Tables) → HasPast t → (low high : ℕ) (rows : List Row) (row : Row)
    → rows ≡ option_to_list (option_map range_cells (overlapping_at t low high))
    → Some row ≡ slice_get rows 0 → IsRangeRow row
overlap_shown t past low high rows row are some =
    let it = row_shown range_cells (overlapping_at t low high) rows row are some in (
      it.0,
      it.2,
      range_valid t past it.0
          (has_found (overlaps (between low high)) t.ranges it.0 it.1).0,
    )

-- ---- requests

pub request_fits : (t : Tables) → HasPast t → (x : Request) → In x t.requests → FitsRequest x
request_fits t past x member =
    All-contains FitsRequest t.requests x (rows_fit t past).requests (from_In x t.requests member)

-- its row is read as the request
pub request_is_read : (x : Request) → FitsRequest x → IsRequestRow (request_row x)
request_is_read x fits = (
  x,
  (
    spelling x.reply,
    refl,
    reads_as (spelling x.reply) x.reply
        (is_read (spelling x.reply) x.reply (spelling_writes x.reply fits.reply)),
  ),
  fits,
)

recorded_shown : (o : Option Request) (rows : List Row) (row : Row) → ShowsRequest o rows
    → Some row ≡ slice_get rows 0 → ((x : Request) → o ≡ Some x → FitsRequest x)
    → IsRequestRow row
recorded_shown None rows row are some fits =
    absurd (let e = some ∙ ap (λ l. slice_get l 0) are in cc)
recorded_shown (Some x) rows row are some fits =
    subst IsRequestRow (sym (one_first rows row (request_row x) are.0 some))
    (request_is_read x (fits x refl))

pub request_shown : (t : Tables) → HasPast t → (key : RequestKey) (rows : List Row) (row : Row)
    → ShowsRequest (request_at t key) rows → Some row ≡ slice_get rows 0 → IsRequestRow row
request_shown t past key rows row are some =
    recorded_shown (request_at t key) rows row are some
    (λ x found. request_fits t past x (In-find (λ r. same_key r.key key) t.requests x found).0)

pub referred_shown : (t : Tables) → HasPast t → (m : List ℕ) (n : ℕ) (rows : List Row) (row : Row)
    → ShowsRequest (referred_at t m n) rows → Some row ≡ slice_get rows 0 → IsRequestRow row
referred_shown t past m n rows row are some =
    recorded_shown (referred_at t m n) rows row are some
    (λ x found. request_fits t past x
    (In-filtered (λ r. bytes_eq r.key.merchant m) x t.requests
    (In-find (λ r. is_number n r.reference) (requests_of m t.requests) x found).0).0)

-- ---- counts

-- what is told of fewer than the greatest number is their number
pub count_shown : (many : ℕ) (rows : List Row) (row : Row) → rows ≡ (count many ∷ []) ∷ []
    → Some row ≡ slice_get rows 0 → IsTold many → column row 0 ≡ number many
count_shown many rows row are some few =
    ap (λ l. column l 0) (one_first rows row (count many ∷ []) are some)
    ∙ ap number (min-eq_left (omega arith))

-- a number below the greatest is the one that was counted
pub count_told : (n many : ℕ) → number n ≡ count many → n < 2 ^ 63 - 1 → n ≡ many
count_told n many same few =
    let least : n ≡ min many 9223372036854775807 = cc in
    omega (arith, least, few)

pub admitted_fits : (t : Tables) → HasPast t → (m : List ℕ)
    → is_admitted_count (admitted_at t m) ≡ true
admitted_fits t (opening, book) m = ((books_are_sound opening t book).numbers.merchants m).admitted

-- a count that may be is made
pub count_made : {T : Type 0} (res : Result T Error) (P : Error → Type 0) (first many : ℕ)
    (o : Option ℕ) → TellsCount first many o → is_admitted_count many ≡ true
    → IfErr res (λ e. IfSome o (λ n. first ≤ n) → is_admitted_count (count_up_to first o) ≢ true)
    → IfErr res P
count_made (Ok x) P first many o tells fits refuses = tt
count_made (Err e) P first many o tells fits refuses =
    absurd (refuses (go o tells.given) (ap is_admitted_count (sym tells.counted) ∙ fits))
  where
    go : (o : Option ℕ) → IfSome o (λ n. (first ≤ n) × (is_reference n ≡ true))
        → IfSome o (λ n. first ≤ n)
    go None given = tt
    go (Some n) given = given.0

pub reference_shown : (first many : ℕ) (rows : List Row) (row : Row)
    → ShowsGreatest first many rows → Some row ≡ slice_get rows 0
    → (o : Option ℕ) × (row ≡ number_or_null o ∷ []) × IfSome o (λ n. is_reference n ≡ true)
reference_shown first many rows row (inl none) some =
    absurd (let e = some ∙ ap (λ l. slice_get l 0) none.0 in cc)
reference_shown first many rows row (inr (o, one, tells)) some =
    (o, one_first rows row (number_or_null o ∷ []) one some, go o tells.given)
  where
    go : (o : Option ℕ) → IfSome o (λ n. (first ≤ n) × (is_reference n ≡ true))
        → IfSome o (λ n. is_reference n ≡ true)
    go None given = tt
    go (Some n) given = given.1

-- ---- the running totals of a day

pub used_fits : (t : Tables) → HasPast t → (m : List ℕ) (day : ℕ)
    → is_used_count (tally_of t m day).used ≡ true
used_fits t (opening, book) m day =
    let top : t.limit ≤ greatest_limit = leb-true t.limit greatest_limit
    (and_parts (nat_le 1 t.limit) (nat_le t.limit greatest_limit)
    (limit_fits t (opening, book))).1 in
    let low = ((books_are_sound opening t book).numbers.merchants m).used day in
    le-leb (tally_of t m day).used greatest_limit (omega (arith, top, low))

pub used_shown : (t : Tables) (m : List ℕ) (day : ℕ) (rows : List Row) (row : Row)
    → ShowsTally (tally_of t m day) rows → Some row ≡ slice_get rows 0
    → column row 0 ≡ number (tally_of t m day).used
used_shown t m day rows row shown some =
    ap (λ r. column r 0) (first_row (tally_of t m day) rows row shown some)

pub tally_row_of : (t : Tables) → HasPast t → (m : List ℕ) (day : ℕ) (rows : List Row) (row : Row)
    → ShowsTally (tally_of t m day) rows → Some row ≡ slice_get rows 0 → IsTallyRow row
tally_row_of t (opening, book) m day rows row shown some = (
  tally_of t m day,
  first_row (tally_of t m day) rows row shown some,
  ((books_are_sound opening t book).numbers.merchants m).totals day,
)

-- four counts and four amounts that were read are within the limits
pub parts_fit : (row : Row) (a b c d e f g h : ℕ)
    → column row 1 ≡ number a → column row 2 ≡ number b → column row 3 ≡ number c
    → column row 4 ≡ number d → column row 5 ≡ number e → column row 6 ≡ number f
    → column row 7 ≡ number g → column row 8 ≡ number h → IsTallyRow row
    → AreWithinLimits (a ∷ b ∷ c ∷ d ∷ []) (e ∷ f ∷ g ∷ h ∷ [])
parts_fit row a b c d e f g h e1 e2 e3 e4 e5 e6 e7 e8 (tally, is, within) =
    let same : (k : ℕ) → column row k ≡ column (tally_row tally) k = λ k. ap (λ r. column r k) is in
    let k1 : a ≡ tally.totals.credits.count = let q = sym e1 ∙ same 1 in cc in
    let k2 : b ≡ tally.totals.credit_reversals.count = let q = sym e2 ∙ same 2 in cc in
    let k3 : c ≡ tally.totals.debits.count = let q = sym e3 ∙ same 3 in cc in
    let k4 : d ≡ tally.totals.debit_reversals.count = let q = sym e4 ∙ same 4 in cc in
    let k5 : e ≡ tally.totals.credits.amount = let q = sym e5 ∙ same 5 in cc in
    let k6 : f ≡ tally.totals.credit_reversals.amount = let q = sym e6 ∙ same 6 in cc in
    let k7 : g ≡ tally.totals.debits.amount = let q = sym e7 ∙ same 7 in cc in
    let k8 : h ≡ tally.totals.debit_reversals.amount = let q = sym e8 ∙ same 8 in cc in
    (omega (arith, within.0, k1, k2, k3, k4), omega (arith, within.1, k5, k6, k7, k8))

-- totals are made of parts within the limits
pub made_of_parts : (made : Option DayTotals) (res : Result DayTotals Error)
    (counts amounts : List ℕ)
    → IfErr res (λ e. (made ≡ None) × (e ≡ SqliteFailure DatabaseCorrupt))
    → IsSome made ↔ AreWithinLimits counts amounts → AreWithinLimits counts amounts
    → FailsForMemory res
made_of_parts made (Ok x) counts amounts fault within fit = tt
made_of_parts made (Err e) counts amounts fault within fit =
    absurd (true≢false (sym (subst (λ o. IsSome o) fault.0 (within.1 fit))))

-- ---- reconciliations

pub balance_shown : (o : Option (ℕ × Reconciliation)) (rows : List Row) (row : Row)
    → rows ≡ option_to_list (option_map balance_cells o) → Some row ≡ slice_get rows 0
    → IsBalanceRow row
balance_shown o rows row are some =
    let it = row_shown balance_cells o rows row are some in (it.0, it.2)

-- ---- one look-up after another that succeeded

pub excused_from : (old mid new : State) (e : Error) → old.faults ≤ mid.faults
    → IsExcused mid new e → IsExcused old new e
excused_from old mid new e up (inl memory) = inl memory
excused_from old mid new e up (inr more) = inr (omega (arith, up, more))

-- the second failed so
pub fails_then : (old mid new : State) (e : Error) (t : Tables) → LooksOnly old mid true
    → Survives mid new (λ _. ⊥) → HasCleanDisk new → IsOpenOver version old t
    → old.step_limit ≡ None
    → (IsOpenOver version mid t → mid.step_limit ≡ None → IsExcused mid new e) → IsExcused old new e
fails_then old mid new e t first stops clean at free second =
    let before = clean_before old mid new first stops clean in
    excused_from old mid new e first.stop.counts
    (second (open_unchanged old mid t (first.same before refl) at) (first.stop.limit ∙ free))
