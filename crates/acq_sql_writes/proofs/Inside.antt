-- What each write does inside a transaction.
use Rattle.std.proofs.Common.{ℕ, List, [], ◌∷◌, ◌++◌, Option, Result, IsTrue}
use Rattle.sqlite_value.specs.declared.value.Value.TheVariants.{Text}
use Rattle.sqlite_value.specs.Order.{Row}
use Rattle.sqlite_schema.specs.declared.command.Command.TheVariants.{Insert, InsertOr, Update}
use Rattle.sqlite_schema.specs.declared.command.Command.TheVariants.{Delete}
use Rattle.sqlite_schema.specs.declared.command.Conflict.TheVariants.{Abort}
use Rattle.sqlite_schema.specs.declared.command.Source.TheVariants.{Values}
use Rattle.sqlite.specs.declared.error.Error.{Error}
use Rattle.sqlite.specs.State.{State, HasCleanDisk, mode_of}
use Rattle.row_lemmas.specs.Values.{number, number_or_null}
use Rattle.row_lemmas.specs.Queries.{alone}
use Rattle.iso_codec.specs.Message.{IsoMessage, IsMessage}
use Rattle.iso_codec.specs.Reading.{spelling}
use Rattle.card_no.specs.declared.range.Range.{Range}
use Rattle.acq_message.specs.declared.request_key.RequestKey.{RequestKey}
use Rattle.acq_core.specs.declared.merchant.Merchant.{Merchant}
use Rattle.acq_core.specs.declared.terminal.Terminal.{Terminal}
use Rattle.acq_core.specs.declared.request.Request.{Request}
use Rattle.acq_core.specs.declared.status.Status.{Status}
use Rattle.acq_core.specs.declared.remains.Remains.{Remains}
use Rattle.acq_core.specs.declared.posting.Posting.{Posting}
use Rattle.acq_core.specs.declared.reconciliation.Reconciliation.{Reconciliation}
use Rattle.acq_core.specs.Tables.{Opening}
use Rattle.acq_sql_rows.specs.Tallies.{Tally}
use Rattle.acq_sql_rows.specs.Rows.{book_row, merchant_row, terminal_row, key_row, request_row}
use Rattle.acq_sql_rows.specs.Rows.{posting_row}
use Rattle.acq_core.specs.Statuses.{status_number}
use Rattle.acq_sql_rows.specs.Rows.{reconciliation_row, running_row}
use Rattle.acq_sql_rows.specs.Texts as text
use Rattle.acq_sql_rows.specs.Queries.{new_row, new_range, set_day_query, drop_range_query}
use Rattle.acq_sql_rows.specs.Queries.{answer_query, follow_query}
use Rattle.acq_sql_rows.specs.Queries.{raises}
use Rattle.acq_sql_rows.proofs.TextLemmas as text_means
use Rattle.acq_sql_writes.specs.Written as written
use Rattle.acq_sql_writes.specs.Written.{Executes, ExecutesInside, WritesInside, WritesGuarded}
use Rattle.acq_sql_writes.specs.Written.{CommitsNothing}
use Rattle.acq_sql_writes.specs.Written.{Changes, Raises, BeginsBook}
use Rattle.acq_sql_writes.specs.Widened.{WidensRanges, TurnsRanges, SetsVersion}
use Rattle.acq_sql_writes.proofs.Executed.{MayCommit, writes, writes_guarded}
use Rattle.acq_sql_writes.proofs.ListWrites as list
use Rattle.acq_sql_writes.proofs.ListWrites.{follow_params}
use Rattle.acq_sql_writes.proofs.RangeWrites as range
use Rattle.acq_sql_writes.proofs.RaiseWrites.{it, running_raised}
use Rattle.acq_sql_writes.proofs.Moves.{widening, turning, setting, ranges_widened, ranges_turned}
use Rattle.acq_sql_writes.proofs.Moves.{version_set}

abbrev pub answer_params : RequestKey → Status → IsoMessage → Option ℕ → Row
answer_params key status reply hold_end =
    key_row key
    ++ number (status_number status) ∷ number_or_null hold_end ∷ Text (spelling reply) ∷ []

module _ (old new : State) (res : Result (Unit {0}) Error) where
  -- the statement was executed
  abbrev Executed : List ℕ → Row → Type 0
  Executed sql params = HasCleanDisk new → Executes sql params old new res

  pub merchant_inside : (m : Merchant)
      → MayCommit old new res text.add_merchant_text
      → Executed text.add_merchant_text (merchant_row m)
      → WritesInside old new res (Changes (written.with_merchant m))
  merchant_inside m =
      writes old new res text.add_merchant_text (merchant_row m) (Changes (written.with_merchant m))
      (Insert 1 (Values (new_row 3) 4)) text_means.add_merchant_means tt (λ w. w.ran.shown)
      (λ ran t runs has. let w = ran has.schema in
      list.merchant_added old.step_limit (mode_of old) old.now new.now
      w.text w.ran.tally t runs has w.ran.sound m w.ran.changed)

  pub terminal_inside : (x : Terminal)
      → MayCommit old new res text.add_terminal_text
      → Executed text.add_terminal_text (terminal_row x)
      → WritesInside old new res (Changes (written.with_terminal x))
  terminal_inside x =
      writes old new res text.add_terminal_text (terminal_row x) (Changes (written.with_terminal x))
      (Insert 2 (Values (new_row 2) 3)) text_means.add_terminal_means tt (λ w. w.ran.shown)
      (λ ran t runs has. let w = ran has.schema in
      list.terminal_added old.step_limit (mode_of old) old.now new.now
      w.text w.ran.tally t runs has w.ran.sound x w.ran.changed)

  pub range_added_inside : (r : Range)
      → MayCommit old new res text.add_range_text
      → Executed text.add_range_text (range.range_params r)
      → WritesInside old new res (Changes (written.with_added_range r))
  range_added_inside r =
      writes old new res text.add_range_text (range.range_params r)
      (Changes (written.with_added_range r))
      (Insert 3 (Values new_range 5)) text_means.add_range_means tt (λ w. w.ran.shown)
      (λ ran t runs has. let w = ran has.schema in
      range.range_added old.step_limit (mode_of old) old.now new.now
      w.text w.ran.tally t runs has w.ran.sound r w.ran.changed)

  pub range_dropped_inside : (low high : ℕ)
      → MayCommit old new res text.drop_range_text
      → Executed text.drop_range_text (number low ∷ number high ∷ [])
      → WritesInside old new res (Changes (written.with_dropped_range low high))
  range_dropped_inside low high =
      writes old new res text.drop_range_text (number low ∷ number high ∷ [])
      (Changes (written.with_dropped_range low high))
      (Delete 3 (alone drop_range_query)) text_means.drop_range_means tt (λ w. w.ran.shown)
      (λ ran t runs has. let w = ran has.schema in
      range.range_dropped old.step_limit (mode_of old) old.now new.now
      w.text w.ran.tally t runs has w.ran.sound low high w.ran.changed)

  pub day_inside : (day : ℕ)
      → MayCommit old new res text.set_day_text
      → Executed text.set_day_text (number day ∷ [])
      → WritesInside old new res (Changes (written.on_day day))
  day_inside day =
      writes old new res text.set_day_text (number day ∷ []) (Changes (written.on_day day))
      (Update 0 (alone set_day_query)) text_means.set_day_means tt (λ w. w.ran.shown)
      (λ ran t runs has. let w = ran has.schema in
      list.day_set old.step_limit (mode_of old) old.now new.now
      w.text w.ran.tally t runs has w.ran.sound day w.ran.changed)

  pub request_inside : (r : Request) → IsMessage r.reply
      → MayCommit old new res text.add_request_text
      → Executed text.add_request_text (request_row r)
      → WritesInside old new res (Changes (written.with_request r))
  request_inside r whole =
      writes old new res text.add_request_text (request_row r) (Changes (written.with_request r))
      (Insert 4 (Values (new_row 18) 19)) text_means.add_request_means tt (λ w. w.ran.shown)
      (λ ran t runs has. let w = ran has.schema in
      list.request_added old.step_limit (mode_of old) old.now new.now
      w.text w.ran.tally t runs has w.ran.sound r whole w.ran.changed)

  pub answer_inside : (key : RequestKey) (status : Status) (reply : IsoMessage)
      (hold_end : Option ℕ) → IsMessage reply
      → MayCommit old new res text.answer_text
      → Executed text.answer_text (answer_params key status reply hold_end)
      → WritesInside old new res (Changes (written.with_answer key status reply hold_end))
  answer_inside key status reply hold_end whole =
      writes old new res text.answer_text (answer_params key status reply hold_end)
      (Changes (written.with_answer key status reply hold_end))
      (Update 4 (alone answer_query)) text_means.answer_means tt (λ w. w.ran.shown)
      (λ ran t runs has. let w = ran has.schema in
      list.request_answered old.step_limit (mode_of old) old.now new.now
      w.text w.ran.tally t runs has w.ran.sound key status reply hold_end whole w.ran.changed)

  pub follow_inside : (key : RequestKey) (remains : Remains)
      → MayCommit old new res text.follow_text
      → Executed text.follow_text (follow_params key remains)
      → WritesInside old new res (Changes (written.with_remains key remains))
  follow_inside key remains =
      writes old new res text.follow_text (follow_params key remains)
      (Changes (written.with_remains key remains))
      (Update 4 (alone follow_query)) text_means.follow_means tt (λ w. w.ran.shown)
      (λ ran t runs has. let w = ran has.schema in
      list.request_followed old.step_limit (mode_of old) old.now new.now
      w.text w.ran.tally t runs has w.ran.sound key remains w.ran.changed)

  pub posting_inside : (n : ℕ) (p : Posting)
      → MayCommit old new res text.add_posting_text
      → Executed text.add_posting_text (posting_row (n, p))
      → WritesInside old new res (Changes (written.with_posting n p))
  posting_inside n p =
      writes old new res text.add_posting_text (posting_row (n, p))
      (Changes (written.with_posting n p))
      (Insert 5 (Values (new_row 9) 10)) text_means.add_posting_means tt (λ w. w.ran.shown)
      (λ ran t runs has. let w = ran has.schema in
      list.posting_added old.step_limit (mode_of old) old.now new.now
      w.text w.ran.tally t runs has w.ran.sound n p w.ran.changed)

  pub reconciliation_inside : (n : ℕ) (r : Reconciliation)
      → MayCommit old new res text.add_reconciliation_text
      → Executed text.add_reconciliation_text (reconciliation_row (n, r))
      → WritesInside old new res (Changes (written.with_reconciliation n r))
  reconciliation_inside n r =
      writes old new res text.add_reconciliation_text (reconciliation_row (n, r))
      (Changes (written.with_reconciliation n r))
      (Insert 6 (Values (new_row 4) 5)) text_means.add_reconciliation_means tt (λ w. w.ran.shown)
      (λ ran t runs has. let w = ran has.schema in
      list.reconciliation_added old.step_limit (mode_of old) old.now new.now
      w.text w.ran.tally t runs has w.ran.sound n r w.ran.changed)

  pub raised_inside : (merchant : List ℕ) (day : ℕ) (more : Tally)
      → MayCommit old new res text.raise_text
      → Executed text.raise_text (running_row (it merchant day more))
      → WritesInside old new res (Raises merchant day more)
  raised_inside merchant day more =
      writes old new res text.raise_text (running_row (it merchant day more))
      (Raises merchant day more)
      (InsertOr 7 Abort (Values (new_row 11) 12) (raises ∷ [])) text_means.raise_means tt
      (λ w. w.ran.shown)
      (λ ran t runs has room. let w = ran has.schema in
      running_raised merchant day more old.step_limit (mode_of old) old.now new.now
      w.text w.ran.tally t runs has room w.ran.sound w.ran.changed)

-- ---- in a transaction that ends where it is dropped

module _ (old new : State) (res : Result (Unit {0}) Error) where
  abbrev Guarded : List ℕ → Row → Type 0
  Guarded sql params =
      HasCleanDisk new → IsTrue old.in_transaction → ExecutesInside sql params old new res

  pub book_inside : (opening : Opening)
      → CommitsNothing old new
      → Guarded text.add_book_text (book_row opening.limit opening.first_day)
      → WritesGuarded old new res (BeginsBook opening)
  book_inside opening =
      writes_guarded old new res text.add_book_text (book_row opening.limit opening.first_day)
      (BeginsBook opening)
      (Insert 0 (Values (new_row 3) 4)) text_means.add_book_means
      (λ ran form blank. let w = ran (form, blank.schema_is) in
      list.book_added form old.step_limit (mode_of old) old.now new.now w.text w.ran.tally opening
      blank
      w.ran.sound w.ran.changed)

  pub widening_inside : CommitsNothing old new → Guarded text.widen_ranges_text []
      → WritesGuarded old new res WidensRanges
  widening_inside =
      writes_guarded old new res text.widen_ranges_text []
      WidensRanges widening text_means.widen_ranges_means
      (λ ran number t runs six has. let w = ran has.schema in
      ranges_widened (mode_of old) old.now w.text number t runs six has old.step_limit w.ran.tally
      new.now w.ran.sound w.ran.changed)

  pub turning_inside : CommitsNothing old new → Guarded text.turn_ranges_text []
      → WritesGuarded old new res TurnsRanges
  turning_inside =
      writes_guarded old new res text.turn_ranges_text []
      TurnsRanges turning text_means.turn_ranges_means
      (λ ran number t runs eight has. let w = ran has.schema in
      ranges_turned (mode_of old) old.now w.text number t runs eight has old.step_limit w.ran.tally
      new.now w.ran.sound w.ran.changed)

  pub setting_inside : CommitsNothing old new → Guarded text.set_version_text []
      → WritesGuarded old new res SetsVersion
  setting_inside =
      writes_guarded old new res text.set_version_text []
      SetsVersion setting text_means.set_version_means
      (λ ran number t runs has. let w = ran has.schema in
      version_set (mode_of old) old.now w.text number t runs has old.step_limit w.ran.tally
      new.now w.ran.sound w.ran.changed)
