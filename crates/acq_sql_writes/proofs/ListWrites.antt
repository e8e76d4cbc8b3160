-- What each write does to its list.
use Rattle.std.proofs.Common.{◌≡◌, ◌&&◌, ℕ, pos, true, Bool, false, cond, List, [], ◌∷◌, ◌++◌, map}
use Rattle.std.proofs.Common.{drop, Option, None, Ok, refl}
use Rattle.std.specs.Str.{bytes_eq}
use Rattle.sqlite_value.specs.declared.value.Value.TheVariants.{Null, Int, Text}
use Rattle.sqlite_value.specs.Order.{Row}
use Rattle.sqlite_schema.specs.declared.command.Command.TheVariants.{Insert, Update}
use Rattle.sqlite_schema.specs.declared.command.Source.TheVariants.{Values}
use Rattle.sqlite_rules.specs.Cast.{cast_row}
use Rattle.sqlite.specs.declared.run.Mode.{Mode}
use Rattle.sqlite.specs.Effect.{Database, IsDatabase}
use Rattle.sqlite.specs.Does.{Tally as Noted, Does}
use Rattle.row_lemmas.specs.Values.{number, number_or_null}
use Rattle.row_lemmas.specs.Created.{IsBlank}
use Rattle.row_lemmas.specs.Queries.{alone}
use Rattle.row_lemmas.proofs.ColumnTests.{text_test, and_true, cast_int, cast_null, cast_number}
use Rattle.row_lemmas.proofs.ColumnTests.{cast_text}
use Rattle.row_lemmas.proofs.QueryRows.{picked}
use Rattle.row_lemmas.proofs.StatementEffects.{inserted, updated_by}
use Rattle.row_lemmas.proofs.RowChanges.{numbered_added, numbered_updated}
use Rattle.iso_codec.specs.Message.{IsoMessage, IsMessage}
use Rattle.iso_codec.specs.Reading.{spelling}
use Rattle.acq_message.specs.declared.request_key.RequestKey.{RequestKey}
use Rattle.acq_message.specs.Elements.{same_key}
use Rattle.acq_message.specs.Services.{digits_of, same_service}
use Rattle.acq_core.specs.declared.merchant.Merchant.{Merchant}
use Rattle.acq_core.specs.declared.terminal.Terminal.{Terminal}
use Rattle.acq_core.specs.declared.request.Request.{Request}
use Rattle.acq_core.specs.declared.status.Status.{Status}
use Rattle.acq_core.specs.declared.remains.Remains.{Remains}
use Rattle.acq_core.specs.declared.posting.Posting.{Posting}
use Rattle.acq_core.specs.declared.reconciliation.Reconciliation.{Reconciliation}
use Rattle.acq_core.specs.Tables.{Tables, Opening, new_tables, answered_row, followed_row}
use Rattle.acq_sql_rows.specs.declared.form.Form.{Form}
use Rattle.acq_sql_rows.specs.Schema.{book_schema}
use Rattle.acq_sql_rows.specs.Schema.{book_tree, merchants_tree, terminals_tree, requests_tree}
use Rattle.acq_sql_rows.specs.Schema.{postings_tree, reconciliations_tree}
use Rattle.acq_sql_rows.specs.Tallies.{Running}
use Rattle.acq_sql_rows.specs.Rows.{book_row, merchant_row, terminal_row, key_row, request_row}
use Rattle.acq_sql_rows.specs.Rows.{version, posting_row}
use Rattle.acq_core.specs.Statuses.{status_number}
use Rattle.acq_sql_rows.specs.Rows.{reconciliation_row, leg_number, bit_of}
use Rattle.acq_sql_rows.specs.Queries.{new_row, key_is, set_day_query, answer_query, follow_query}
use Rattle.acq_sql_rows.specs.Relation.{HoldsRows, AreRecorded}
use Rattle.acq_sql_writes.specs.Written.{with_merchant, with_terminal, with_request, with_answer}
use Rattle.acq_sql_writes.specs.Written.{with_remains, with_posting, with_reconciliation, on_day}
use Rattle.acq_sql_rows.proofs.TableTurns as at

-- ---- replies stay messages

recorded_more : (rows : List Request) (row : Request) → AreRecorded rows → IsMessage row.reply
    → AreRecorded (rows ++ row ∷ [])
recorded_more [] row all one = (one, tt)
recorded_more (r ∷ rows) row all one = (all.0, recorded_more rows row all.1 one)

recorded_changed : (p : Request → Bool) (u : Request → Request)
    → ((row : Request) → IsMessage row.reply → IsMessage (u row).reply)
    → (rows : List Request) → AreRecorded rows →
    AreRecorded (map (λ row. cond (p row) (u row) row) rows)
recorded_changed p u keeps [] all = tt
recorded_changed p u keeps (r ∷ rows) all = (
  elim (p r) as (λ b. IsMessage (cond b (u r) r).reply) [ true ↦ keeps r all.0 | false ↦ all.0 ],
  recorded_changed p u keeps rows all.1,
)

-- ---- the parts of a key

pub all_five : (a b c d e : Bool)
    → (a && (b && (c && (d && (e && true))))) ≡ (a && b && c && d && e)
all_five true true true true e = and_true e
all_five true true true false e = refl
all_five true true false d e = refl
all_five true false c d e = refl
all_five false b c d e = refl

-- the row of the request with this key passes
pub key_test : (key : RequestKey) (more : Row) (id : ℕ) (x : Request)
    → picked key_is (key_row key ++ more) (Int (pos id) ∷ request_row x) ≡ same_key x.key key
key_test key more id x =
    rw (
      text_test x.key.merchant key.merchant,
      text_test x.key.terminal key.terminal,
      text_test (digits_of x.key.service) (digits_of key.service),
      text_test x.key.trace key.trace,
      text_test x.key.transmission key.transmission,
    ) (all_five (bytes_eq x.key.merchant key.merchant) (bytes_eq x.key.terminal key.terminal)
    (same_service x.key.service key.service) (bytes_eq x.key.trace key.trace)
    (bytes_eq x.key.transmission key.transmission))

-- ---- the rows as the columns take them

pub laid_merchant : (m : Merchant) →
    cast_row at.the_merchants (Null ∷ merchant_row m) ≡ Null ∷ merchant_row m
laid_merchant m = rw (cast_null, cast_int (pos m.first_reference))

pub laid_terminal : (x : Terminal) →
    cast_row at.the_terminals (Null ∷ terminal_row x) ≡ Null ∷ terminal_row x
laid_terminal x = rw cast_null

pub laid_posting : (form : Form) (p : ℕ × Posting) →
    cast_row (at.the_postings form) (Null ∷ posting_row p) ≡ Null ∷ posting_row p
laid_posting form p =
    rw (
      cast_null,
      cast_int (pos p.1.day),
      cast_int (pos p.0),
      cast_int (pos (leg_number p.1.leg)),
      cast_int (pos p.1.amount),
      cast_int (pos p.1.reference),
    )

pub laid_reconciliation : (form : Form) (r : ℕ × Reconciliation)
    → cast_row (at.the_reconciliations form) (Null ∷ reconciliation_row r)
    ≡ Null ∷ reconciliation_row r
laid_reconciliation form r =
    rw (
      cast_null,
      cast_int (pos r.1.day),
      cast_int (pos r.0),
      cast_int (pos (bit_of r.1.in_balance)),
    )

pub laid_request : (form : Form) (r : Request) →
    cast_row (at.the_requests form) (Null ∷ request_row r) ≡ Null ∷ request_row r
laid_request form r =
    rw (
      cast_null,
      cast_int (pos r.day),
      cast_int (pos (status_number r.status)),
      cast_int (pos (bit_of r.admitted)),
      cast_number r.reference,
      cast_number r.follows,
      cast_int (pos r.amount),
      cast_int (pos (leg_number r.leg)),
      cast_text r.card,
      cast_text r.acquirer,
      cast_number r.hold_days,
      cast_number r.hold_end,
    )

pub laid_number : (form : Form) (id : ℕ) (r : Request)
    → cast_row (at.the_requests form) (Int (pos id) ∷ request_row r) ≡ Int (pos id) ∷ request_row r
laid_number form id r =
    rw (
      cast_int (pos id),
      cast_int (pos r.day),
      cast_int (pos (status_number r.status)),
      cast_int (pos (bit_of r.admitted)),
      cast_number r.reference,
      cast_number r.follows,
      cast_int (pos r.amount),
      cast_int (pos (leg_number r.leg)),
      cast_text r.card,
      cast_text r.acquirer,
      cast_number r.hold_days,
      cast_number r.hold_end,
    )

laid_book : (limit id day : ℕ)
    → cast_row at.the_book (Int (pos id) ∷ book_row limit day) ≡ Int (pos id) ∷ book_row limit day
laid_book limit id day =
    rw (cast_int (pos id), cast_int (pos version), cast_int (pos limit), cast_int (pos day))

pub laid_new_book : (limit day : ℕ) →
    cast_row at.the_book (Null ∷ book_row limit day) ≡ Null ∷ book_row limit day
laid_new_book limit day =
    rw (cast_null, cast_int (pos version), cast_int (pos limit), cast_int (pos day))

-- ---- what an UPDATE of a followed request is given

-- what remains of it
abbrev remains_row : Remains → Row
remains_row remains = number (status_number remains.status) ∷ number remains.amount ∷ []

abbrev pub follow_params : RequestKey → Remains → Row
follow_params key remains = key_row key ++ remains_row remains

-- INSERT of the book's row
pub book_added : (form : Form) (limit : Option ℕ) (mode : Mode) (old new : Database) (text : List ℕ)
    (noted : Noted)
    (opening : Opening) → IsBlank (book_schema form) old → IsDatabase new
    → Does limit mode (book_row opening.limit opening.first_day) old text None
    (Insert 0 (Values (new_row 3) 4))
    (Ok (noted, new))
    → HoldsRows new (new_tables opening) []
unfolding book_schema
book_added form limit mode old new text noted opening blank sound does =
    let row = book_row opening.limit opening.first_day in
    let w = inserted (book_schema form) 0 at.the_book (at.book_placed form)
    (at.lone form book_tree) limit mode old new blank.schema_is text
    row noted (new_row 3) 4 does in
    let added = numbered_added (λ (o : Opening). book_row o.limit o.first_day) (book_schema form)
    mode.keys
    old.trees new.trees
    at.the_book (Null ∷ row) [] opening blank.blank.0
    (laid_new_book opening.limit opening.first_day) w.1 in
    at.book_begun form old new blank w.0 sound (at.others_of form mode.keys old.trees new.trees _
    w.1) opening
    added

module _ (limit : Option ℕ) (mode : Mode) (old new : Database) (text : List ℕ) (noted : Noted)
    (t : Tables)
    (runs : List Running) (has : HoldsRows old t runs) (sound : IsDatabase new) where
  -- ---- INSERT

  pub merchant_added : (m : Merchant)
      → Does limit mode (merchant_row m) old text None (Insert 1 (Values (new_row 3) 4))
      (Ok (noted, new))
      → HoldsRows new (with_merchant m t) runs
  merchant_added m does =
      let w = inserted (book_schema has.schema.0) 1 at.the_merchants
      (at.merchants_placed has.schema.0)
      (at.lone has.schema.0 merchants_tree) limit mode old new has.schema.1 text
      (merchant_row m) noted (new_row 3) 4 does in
      let added = numbered_added merchant_row (book_schema has.schema.0) mode.keys old.trees
      new.trees
      at.the_merchants
      (Null ∷ merchant_row m) t.merchants m has.merchants (laid_merchant m) w.1 in
      at.turned old new t runs has w.0 sound merchants_tree _
      (at.others_of has.schema.0 mode.keys old.trees new.trees _ w.1) added (with_merchant m t) runs
      refl
      has.rising has.recorded has.apart

  pub terminal_added : (x : Terminal)
      → Does limit mode (terminal_row x) old text None (Insert 2 (Values (new_row 2) 3))
      (Ok (noted, new))
      → HoldsRows new (with_terminal x t) runs
  terminal_added x does =
      let w = inserted (book_schema has.schema.0) 2 at.the_terminals
      (at.terminals_placed has.schema.0)
      (at.lone has.schema.0 terminals_tree) limit mode old new has.schema.1 text
      (terminal_row x) noted (new_row 2) 3 does in
      let added = numbered_added terminal_row (book_schema has.schema.0) mode.keys old.trees
      new.trees
      at.the_terminals
      (Null ∷ terminal_row x) t.terminals x has.terminals (laid_terminal x) w.1 in
      at.turned old new t runs has w.0 sound terminals_tree _
      (at.others_of has.schema.0 mode.keys old.trees new.trees _ w.1) added (with_terminal x t) runs
      refl
      has.rising has.recorded has.apart

  pub request_added : (r : Request) → IsMessage r.reply
      → Does limit mode (request_row r) old text None (Insert 4 (Values (new_row 18) 19))
      (Ok (noted, new))
      → HoldsRows new (with_request r t) runs
  request_added r whole does =
      let w = inserted (book_schema has.schema.0) 4 (at.the_requests has.schema.0)
      (at.requests_placed has.schema.0)
      (at.lone has.schema.0 requests_tree) limit mode old new has.schema.1 text
      (request_row r) noted (new_row 18) 19 does in
      let added = numbered_added request_row (book_schema has.schema.0) mode.keys old.trees
      new.trees
      (at.the_requests has.schema.0)
      (Null ∷ request_row r) t.requests r has.requests (laid_request has.schema.0 r) w.1 in
      at.turned old new t runs has w.0 sound requests_tree _
      (at.others_of has.schema.0 mode.keys old.trees new.trees _ w.1) added (with_request r t) runs
      refl
      has.rising (recorded_more t.requests r has.recorded whole) has.apart

  pub posting_added : (n : ℕ) (p : Posting)
      → Does limit mode (posting_row (n, p)) old text None (Insert 5 (Values (new_row 9) 10))
      (Ok (noted, new))
      → HoldsRows new (with_posting n p t) runs
  posting_added n p does =
      let w = inserted (book_schema has.schema.0) 5 (at.the_postings has.schema.0)
      (at.postings_placed has.schema.0)
      (at.lone has.schema.0 postings_tree) limit mode old new has.schema.1 text
      (posting_row (n, p)) noted (new_row 9) 10 does in
      let added = numbered_added posting_row (book_schema has.schema.0) mode.keys old.trees
      new.trees
      (at.the_postings has.schema.0)
      (Null ∷ posting_row (n, p)) t.postings (n, p) has.postings (laid_posting has.schema.0 (n, p))
      w.1 in
      at.turned old new t runs has w.0 sound postings_tree _
      (at.others_of has.schema.0 mode.keys old.trees new.trees _ w.1) added (with_posting n p t)
      runs refl
      has.rising has.recorded has.apart

  pub reconciliation_added : (n : ℕ) (r : Reconciliation)
      → Does limit mode (reconciliation_row (n, r)) old text None (Insert 6 (Values (new_row 4) 5))
      (Ok (noted, new))
      → HoldsRows new (with_reconciliation n r t) runs
  reconciliation_added n r does =
      let w = inserted (book_schema has.schema.0) 6 (at.the_reconciliations has.schema.0)
      (at.reconciliations_placed has.schema.0)
      (at.lone has.schema.0 reconciliations_tree) limit mode old new
      has.schema.1 text (reconciliation_row (n, r)) noted (new_row 4) 5 does in
      let added = numbered_added reconciliation_row (book_schema has.schema.0) mode.keys old.trees
      new.trees
      (at.the_reconciliations has.schema.0)
      (Null ∷ reconciliation_row (n, r)) t.reconciliations (n, r) has.reconciliations
      (laid_reconciliation has.schema.0 (n, r)) w.1 in
      at.turned old new t runs has w.0 sound reconciliations_tree _
      (at.others_of has.schema.0 mode.keys old.trees new.trees _ w.1) added
      (with_reconciliation n r t) runs refl
      has.rising has.recorded has.apart

  -- ---- UPDATE of the book's row

  pub day_set : (day : ℕ)
      → Does limit mode (number day ∷ []) old text None (Update 0 (alone set_day_query))
      (Ok (noted, new))
      → HoldsRows new (on_day day t) runs
  day_set day does =
      let params = number day ∷ [] in
      let w = updated_by (book_schema has.schema.0) 0 at.the_book (at.book_placed has.schema.0)
      (at.lone has.schema.0 book_tree) limit mode old new has.schema.1 text
      params noted set_day_query does in
      let set = numbered_updated (book_row t.limit) (book_schema has.schema.0) mode.keys old.trees
      new.trees
      at.the_book (t.day ∷ [])
      has.book [] (drop 1 set_day_query.project) params w.1.0 (w.1.1.answer Null)
      (λ d. true) (λ d. day) (λ id d here among. refl)
      (λ id d here among is. laid_book t.limit id day) w.1.2 in
      at.turned old new t runs has w.0 sound book_tree _
      (at.others_of has.schema.0 mode.keys old.trees new.trees _ w.1.2) set (on_day day t) runs refl
      has.rising has.recorded has.apart

  -- ---- UPDATE of the request with a key

  module _ (key : RequestKey) where
    pub request_answered : (status : Status) (reply : IsoMessage) (hold_end : Option ℕ) →
        IsMessage reply
        → Does limit mode
        (key_row key ++ number (status_number status) ∷ number_or_null hold_end
        ∷ Text (spelling reply) ∷ [])
        old text None (Update 4 (alone answer_query)) (Ok (noted, new))
        → HoldsRows new (with_answer key status reply hold_end t) runs
    request_answered status reply hold_end whole does =
        let more = number (status_number status) ∷ number_or_null hold_end ∷ Text (spelling reply)
        ∷ [] in
        let params = key_row key ++ more in
        let w = updated_by (book_schema has.schema.0) 4 (at.the_requests has.schema.0)
        (at.requests_placed has.schema.0)
        (at.lone has.schema.0 requests_tree) limit mode old new has.schema.1 text
        params noted answer_query does in
        let u = answered_row status reply hold_end in
        let changed = numbered_updated request_row (book_schema has.schema.0) mode.keys old.trees
        new.trees
        (at.the_requests has.schema.0) t.requests
        has.requests key_is (drop 1 answer_query.project) params w.1.0 (w.1.1.answer Null)
        (λ x. same_key x.key key) u (λ id x here among. key_test key more id x)
        (λ id x here among is. laid_number has.schema.0 id (u x)) w.1.2 in
        at.turned old new t runs has w.0 sound requests_tree _
        (at.others_of has.schema.0 mode.keys old.trees new.trees _ w.1.2) changed
        (with_answer key status reply hold_end t) runs refl has.rising
        (recorded_changed (λ x. same_key x.key key) u (λ row is. whole) t.requests has.recorded)
        has.apart

    pub request_followed : (remains : Remains)
        → Does limit mode (follow_params key remains) old text None
        (Update 4 (alone follow_query)) (Ok (noted, new))
        → HoldsRows new (with_remains key remains t) runs
    request_followed remains does =
        let more = remains_row remains in
        let params = follow_params key remains in
        let w = updated_by (book_schema has.schema.0) 4 (at.the_requests has.schema.0)
        (at.requests_placed has.schema.0)
        (at.lone has.schema.0 requests_tree) limit mode old new has.schema.1 text
        params noted follow_query does in
        let u = followed_row remains in
        let changed = numbered_updated request_row (book_schema has.schema.0) mode.keys old.trees
        new.trees
        (at.the_requests has.schema.0) t.requests
        has.requests key_is (drop 1 follow_query.project) params w.1.0 (w.1.1.answer Null)
        (λ x. same_key x.key key) u (λ id x here among. key_test key more id x)
        (λ id x here among is. laid_number has.schema.0 id (u x)) w.1.2 in
        at.turned old new t runs has w.0 sound requests_tree _
        (at.others_of has.schema.0 mode.keys old.trees new.trees _ w.1.2) changed
        (with_remains key remains t)
        runs refl has.rising
        (recorded_changed (λ x. same_key x.key key) u (λ row is. is) t.requests has.recorded)
        has.apart
