-- No write is refused.
use Rattle.std.proofs.Common.{◌≡◌, ℕ, List, [], ◌∷◌, length, None, Option, Ok, Err, Result, IsTrue}
use Rattle.std.proofs.Common.{IfErr, sym, arith, true}
use Rattle.sqlite_value.specs.Order.{Row}
use Rattle.sqlite_schema.specs.declared.command.Command.{Command}
use Rattle.sqlite_schema.specs.declared.command.Command.TheVariants.{Insert, InsertOr, Update}
use Rattle.sqlite_schema.specs.declared.command.Command.TheVariants.{Delete}
use Rattle.sqlite_schema.specs.declared.command.Conflict.TheVariants.{Abort}
use Rattle.sqlite_schema.specs.declared.command.Source.TheVariants.{Values}
use Rattle.sqlite.specs.declared.error.Error.{Error}
use Rattle.sqlite.specs.Does.{Does}
use Rattle.sqlite.specs.Effect.{Database}
use Rattle.sqlite.specs.Listing.{understood}
use Rattle.sqlite.specs.State.{State, HasCleanDisk, mode_of}
use Rattle.sqlite.proofs.Callers.{statement_of}
use Rattle.row_lemmas.specs.Excused.{IsExcused}
use Rattle.row_lemmas.specs.Queries.{alone}
use Rattle.row_lemmas.specs.Values.{number}
use Rattle.row_lemmas.proofs.StatementFailures.{IsSteady, steady_insert, steady_update}
use Rattle.row_lemmas.proofs.StatementFailures.{steady_upsert, steady_delete}
use Rattle.row_lemmas.proofs.StatementFailures.{excused_alone, inside_excused}
use Rattle.card_no.specs.Prefix.{six_digits, eight_digits}
use Rattle.card_no.specs.declared.range.Range.{Range}
use Rattle.iso_codec.specs.Message.{IsoMessage, IsMessage}
use Rattle.acq_message.specs.declared.request_key.RequestKey.{RequestKey}
use Rattle.acq_message.specs.Names.{is_merchant, is_terminal, is_currency, is_trace}
use Rattle.acq_core.specs.declared.merchant.Merchant.{Merchant}
use Rattle.acq_core.specs.declared.terminal.Terminal.{Terminal}
use Rattle.acq_core.specs.declared.request.Request.{Request}
use Rattle.acq_core.specs.declared.status.Status.{Status}
use Rattle.acq_core.specs.declared.remains.Remains.{Remains}
use Rattle.acq_core.specs.declared.posting.Posting.{Posting}
use Rattle.acq_core.specs.declared.reconciliation.Reconciliation.{Reconciliation}
use Rattle.acq_core.specs.Tables.{Tables, Opening}
use Rattle.acq_sql_rows.specs.declared.form.Form.{Form}
use Rattle.acq_sql_rows.specs.Schema.{IsBookSchema, book_schema}
use Rattle.acq_sql_rows.specs.Texts as text
use Rattle.acq_sql_rows.specs.Queries.{widen_ranges_query, turn_ranges_query, set_version_query}
use Rattle.acq_sql_rows.specs.Queries.{new_row, set_day_query, answer_query, follow_query}
use Rattle.acq_sql_rows.specs.Rows.{book_row, merchant_row, terminal_row, request_row}
use Rattle.acq_sql_rows.specs.Rows.{posting_row, reconciliation_row, running_row}
use Rattle.acq_sql_rows.specs.Queries.{new_range, drop_range_query, raises}
use Rattle.acq_sql_rows.specs.Tallies.{Tally, Running}
use Rattle.acq_sql_rows.specs.Relation.{HoldsRows}
use Rattle.acq_sql_rows.proofs.TextLemmas as text_means
use Rattle.acq_sql_rows.proofs.TextLemmas.{Means, IsAlone}
use Rattle.acq_sql_writes.specs.Written.{Executes, ExecutesInside}
use Rattle.acq_sql_writes.specs.Refused.{AnyTables, HasTables, IsEmptyBook, HasShortRequests}
use Rattle.acq_sql_writes.specs.Refused.{TakesMerchant, TakesTerminal, TakesRequest, TakesPosting}
use Rattle.acq_sql_writes.specs.Refused.{TakesReconciliation, TakesRange, HasRuns, TakesMore}
use Rattle.acq_sql_writes.specs.Widened.{IsNeverRefused, HasRangesOf, HasTurnedRangesOf}
use Rattle.acq_sql_writes.proofs.Inside.{answer_params}
use Rattle.acq_sql_writes.proofs.ListWrites.{follow_params}
use Rattle.acq_sql_writes.proofs.NewRowsTaken.{book_succeeds, merchant_succeeds, terminal_succeeds}
use Rattle.acq_sql_writes.proofs.NewRowsTaken.{posting_succeeds, reconciliation_succeeds}
use Rattle.acq_sql_writes.proofs.RequestsTaken.{IsKey, request_succeeds, answer_succeeds}
use Rattle.acq_sql_writes.proofs.RequestsTaken.{follow_succeeds}
use Rattle.acq_sql_writes.proofs.RangeWrites.{range_params}
use Rattle.acq_sql_writes.proofs.RangesTaken.{range_succeeds, drop_succeeds}
use Rattle.acq_sql_writes.proofs.RaiseWrites.{it}
use Rattle.acq_sql_writes.proofs.RaisesTaken.{raise_succeeds}
use Rattle.acq_sql_writes.proofs.TextEnds as ends
use Rattle.acq_sql_writes.proofs.TextEnds.{IsWhole}
use Rattle.acq_sql_writes.proofs.Moves.{widening_succeeds, turning_succeeds, setting_succeeds}
use Rattle.acq_sql_writes.proofs.Moves.{day_succeeds}

-- a text with no parameters
alone_whole : (sql : List ℕ) → ((form : Form) → IsAlone form sql) → (form : Form)
    → IsWhole form sql 0
alone_whole sql lone form = record { whole = (lone form).whole; given = (lone form).given }

module _ (old new : State) (res : Result (Unit {0}) Error) where
  -- the statement was executed
  abbrev Executed : List ℕ → Row → Type 0
  Executed sql params = HasCleanDisk new → Executes sql params old new res

  -- or in a transaction that ends where it is dropped
  abbrev Guarded : List ℕ → Row → Type 0
  Guarded sql params =
      HasCleanDisk new → IsTrue old.in_transaction → ExecutesInside sql params old new res

  -- the command never stops
  abbrev NeverStops : Row → Command → Type 0
  NeverStops params command =
      (source : List ℕ) (stop : Option Error)
      → ¬ Does None (mode_of old) params old.now source None command (Err stop)

  -- where the command never stops
  never : (fits : Database → Type 0) (sql : List ℕ) (params : Row) (command : Command)
      → ((form : Form) → Means form sql command)
      → ((form : Form) → IsWhole form sql (length params)) → IsSteady old command
      → (fits old.now → IsBookSchema old.now.schema)
      → (fits old.now → NeverStops params command)
      → Executed sql params → IsNeverRefused old new res fits
  never fits sql params command means whole steady schema_is succeeds executed clean inside opened
      free fit =
      go res (executed clean)
    where
      go : (r : Result (Unit {0}) Error) → Executes sql params old new r
          → IfErr r (IsExcused old new)
      go (Ok done) h = tt
      go (Err e) h =
          let is = schema_is fit in
          excused_alone sql params old new (book_schema is.0) is.1 command (means is.0).0
          (means is.0).1 (omega (arith, (whole is.0).whole)) (sym (whole is.0).given) opened steady
          (λ (stop, does). succeeds fit (statement_of sql (understood (book_schema is.0) sql)) stop
          (rw free at does)) e h

  never_guarded : (fits : Database → Type 0) (sql : List ℕ) (params : Row) (command : Command)
      → ((form : Form) → Means form sql command)
      → ((form : Form) → IsWhole form sql (length params)) → IsSteady old command
      → (fits old.now → IsBookSchema old.now.schema)
      → (fits old.now → NeverStops params command)
      → Guarded sql params → IsNeverRefused old new res fits
  never_guarded fits sql params command means whole steady schema_is succeeds executed clean inside
      opened free fit =
      go res (executed clean inside)
    where
      go : (r : Result (Unit {0}) Error) → ExecutesInside sql params old new r
          → IfErr r (IsExcused old new)
      go (Ok done) h = tt
      go (Err e) h =
          let is = schema_is fit in
          inside_excused sql params old new (book_schema is.0) is.1 command (means is.0).0
          (means is.0).1 (omega (arith, (whole is.0).whole)) (sym (whole is.0).given) opened steady
          free (succeeds fit (statement_of sql (understood (book_schema is.0) sql))) (Err e) h

  -- of the rows of tables
  of_tables : (fits : Tables → Type 0) (sql : List ℕ) (params : Row) (command : Command)
      → ((form : Form) → Means form sql command)
      → ((form : Form) → IsWhole form sql (length params)) → IsSteady old command
      → ((t : Tables) (runs : List Running) → HoldsRows old.now t runs → fits t
      → NeverStops params command)
      → Executed sql params → IsNeverRefused old new res (HasTables fits)
  of_tables fits sql params command means whole steady succeeds =
      never (HasTables fits) sql params command means whole steady
      (λ (t, runs, fit, has). has.schema) (λ (t, runs, fit, has). succeeds t runs has fit)

  pub book_excused : (opening : Opening)
      → Guarded text.add_book_text (book_row opening.limit opening.first_day)
      → IsNeverRefused old new res IsEmptyBook
  book_excused opening =
      never_guarded IsEmptyBook text.add_book_text (book_row opening.limit opening.first_day)
      (Insert 0 (Values (new_row 3) 4)) text_means.add_book_means ends.add_book_whole
      (steady_insert old 0 (Values (new_row 3) 4)) (λ empty. (empty.form, empty.rows.schema_is))
      (λ empty source. book_succeeds (mode_of old) old.now source opening empty)

  pub day_excused : (day : ℕ) → Executed text.set_day_text (number day ∷ [])
      → IsNeverRefused old new res (HasTables AnyTables)
  day_excused day =
      of_tables AnyTables text.set_day_text (number day ∷ []) (Update 0 (alone set_day_query))
      text_means.set_day_means ends.set_day_whole (steady_update old 0 (alone set_day_query))
      (λ t runs has any source. day_succeeds (mode_of old) old.now
      source t runs has day)

  pub merchant_excused : (m : Merchant) → is_merchant m.id ≡ true → is_currency m.currency ≡ true
      → Executed text.add_merchant_text (merchant_row m)
      → IsNeverRefused old new res (HasTables (TakesMerchant m))
  merchant_excused m named priced =
      of_tables (TakesMerchant m) text.add_merchant_text (merchant_row m)
      (Insert 1 (Values (new_row 3) 4)) text_means.add_merchant_means ends.add_merchant_whole
      (steady_insert old 1 (Values (new_row 3) 4))
      (λ t runs has takes source. merchant_succeeds (mode_of old) old.now
      source t runs
      has m named priced takes.name takes.room)

  pub terminal_excused : (x : Terminal) → is_merchant x.merchant ≡ true → is_terminal x.id ≡ true
      → Executed text.add_terminal_text (terminal_row x)
      → IsNeverRefused old new res (HasTables (TakesTerminal x))
  terminal_excused x named numbered =
      of_tables (TakesTerminal x) text.add_terminal_text (terminal_row x)
      (Insert 2 (Values (new_row 2) 3)) text_means.add_terminal_means ends.add_terminal_whole
      (steady_insert old 2 (Values (new_row 2) 3))
      (λ t runs has takes source. terminal_succeeds (mode_of old) old.now
      source t runs
      has x named numbered takes.name takes.room)

  pub request_excused : (r : Request) → IsKey r.key → IsMessage r.reply
      → Executed text.add_request_text (request_row r)
      → IsNeverRefused old new res (HasTables (TakesRequest r))
  request_excused r key whole =
      of_tables (TakesRequest r) text.add_request_text (request_row r)
      (Insert 4 (Values (new_row 18) 19)) text_means.add_request_means ends.add_request_whole
      (steady_insert old 4 (Values (new_row 18) 19))
      (λ t runs has takes source. request_succeeds (mode_of old) old.now
      source t runs
      has r key whole takes)

  pub answer_excused : (key : RequestKey) (status : Status) (reply : IsoMessage)
      (hold_end : Option ℕ) → IsKey key → IsMessage reply
      → Executed text.answer_text (answer_params key status reply hold_end)
      → IsNeverRefused old new res (HasTables HasShortRequests)
  answer_excused key status reply hold_end valid whole =
      of_tables HasShortRequests text.answer_text (answer_params key status reply hold_end)
      (Update 4 (alone answer_query)) text_means.answer_means ends.answer_whole
      (steady_update old 4 (alone answer_query))
      (λ t runs has short source. answer_succeeds (mode_of old) old.now
      source t runs has
      key status reply hold_end valid whole short)

  pub follow_excused : (key : RequestKey) (remains : Remains) → IsKey key
      → Executed text.follow_text (follow_params key remains)
      → IsNeverRefused old new res (HasTables HasShortRequests)
  follow_excused key remains valid =
      of_tables HasShortRequests text.follow_text (follow_params key remains)
      (Update 4 (alone follow_query)) text_means.follow_means ends.follow_whole
      (steady_update old 4 (alone follow_query))
      (λ t runs has short source. follow_succeeds (mode_of old) old.now
      source t runs has
      key remains valid short)

  pub posting_excused : (n : ℕ) (p : Posting) → is_merchant p.merchant ≡ true
      → is_terminal p.terminal ≡ true → is_trace p.trace ≡ true
      → Executed text.add_posting_text (posting_row (n, p))
      → IsNeverRefused old new res (HasTables (TakesPosting n p))
  posting_excused n p named numbered traced =
      of_tables (TakesPosting n p) text.add_posting_text (posting_row (n, p))
      (Insert 5 (Values (new_row 9) 10)) text_means.add_posting_means ends.add_posting_whole
      (steady_insert old 5 (Values (new_row 9) 10))
      (λ t runs has takes source. posting_succeeds (mode_of old) old.now
      source t runs
      has n p named numbered traced takes)

  pub reconciliation_excused : (n : ℕ) (r : Reconciliation) → is_merchant r.merchant ≡ true
      → Executed text.add_reconciliation_text (reconciliation_row (n, r))
      → IsNeverRefused old new res (HasTables (TakesReconciliation n r))
  reconciliation_excused n r named =
      of_tables (TakesReconciliation n r) text.add_reconciliation_text
      (reconciliation_row (n, r)) (Insert 6 (Values (new_row 4) 5))
      text_means.add_reconciliation_means ends.add_reconciliation_whole
      (steady_insert old 6 (Values (new_row 4) 5))
      (λ t runs has takes source. reconciliation_succeeds (mode_of old) old.now
      source t runs has n r named takes)

  pub range_excused : (r : Range) → Executed text.add_range_text (range_params r)
      → IsNeverRefused old new res (HasTables (TakesRange r))
  range_excused r =
      of_tables (TakesRange r) text.add_range_text (range_params r) (Insert 3 (Values new_range 5))
      text_means.add_range_means ends.add_range_whole (steady_insert old 3 (Values new_range 5))
      (λ t runs has takes source. range_succeeds (mode_of old) old.now
      source t runs
      has r takes)

  pub drop_excused : (low high : ℕ)
      → Executed text.drop_range_text (number low ∷ number high ∷ [])
      → IsNeverRefused old new res (HasTables AnyTables)
  drop_excused low high =
      of_tables AnyTables text.drop_range_text (number low ∷ number high ∷ [])
      (Delete 3 (alone drop_range_query)) text_means.drop_range_means ends.drop_range_whole
      (steady_delete old 3 (alone drop_range_query))
      (λ t runs has any source. drop_succeeds (mode_of old) old.now
      source t runs
      has low high)

  pub raise_excused : (merchant : List ℕ) (day : ℕ) (more : Tally) → is_merchant merchant ≡ true
      → Executed text.raise_text (running_row (it merchant day more))
      → IsNeverRefused old new res (HasRuns (TakesMore merchant day more))
  raise_excused merchant day more named =
      never (HasRuns (TakesMore merchant day more)) text.raise_text
      (running_row (it merchant day more))
      (InsertOr 7 Abort (Values (new_row 11) 12) (raises ∷ [])) text_means.raise_means
      ends.raise_whole (steady_upsert old 7 Abort (Values (new_row 11) 12) (raises ∷ []))
      (λ (t, runs, takes, has). has.schema)
      (λ (t, runs, takes, has) source. raise_succeeds merchant day more (mode_of old) old.now
      source t runs has named
      takes)

  pub widening_excused : Guarded text.widen_ranges_text []
      → IsNeverRefused old new res (HasRangesOf six_digits)
  widening_excused =
      never_guarded (HasRangesOf six_digits) text.widen_ranges_text []
      (Update 3 (alone widen_ranges_query))
      text_means.widen_ranges_means
      (alone_whole text.widen_ranges_text text_means.widen_ranges_alone)
      (steady_update old 3 (alone widen_ranges_query))
      (λ (number, t, runs, six, has). has.schema)
      (λ (number, t, runs, six, has) source. widening_succeeds (mode_of old) old.now
      source number t
      runs six has)

  pub turning_excused : Guarded text.turn_ranges_text []
      → IsNeverRefused old new res (HasTurnedRangesOf eight_digits)
  turning_excused =
      never_guarded (HasTurnedRangesOf eight_digits) text.turn_ranges_text []
      (Update 3 (alone turn_ranges_query))
      text_means.turn_ranges_means (alone_whole text.turn_ranges_text text_means.turn_ranges_alone)
      (steady_update old 3 (alone turn_ranges_query))
      (λ (number, t, runs, eight, has). has.schema)
      (λ (number, t, runs, eight, has) source. turning_succeeds (mode_of old) old.now
      source number t
      runs eight has)

  pub setting_excused : Guarded text.set_version_text []
      → IsNeverRefused old new res (HasRangesOf eight_digits)
  setting_excused =
      never_guarded (HasRangesOf eight_digits) text.set_version_text []
      (Update 0 (alone set_version_query))
      text_means.set_version_means (alone_whole text.set_version_text text_means.set_version_alone)
      (steady_update old 0 (alone set_version_query))
      (λ (number, t, runs, eight, has). has.schema)
      (λ (number, t, runs, eight, has) source. setting_succeeds (mode_of old) old.now
      source number t
      runs has)
