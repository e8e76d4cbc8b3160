-- INSERT of a request with a new key never stops, nor does UPDATE of the one with a key.
use Rattle.std.proofs.Common.{◌≡◌, ◌+◌, ◌≤◌, ◌^◌, ℕ, pos, Bool, true, List, []}
use Rattle.std.proofs.Common.{◌∷◌, ◌++◌, length, map, filter, drop, find, Option, None, Some, Err}
use Rattle.std.proofs.Common.{IfSome, is_some, inl, inr, refl, sym, ap, subst, ◌∙◌, arith}
use Rattle.std.specs.List.{AllByRecursion}
use Rattle.std.specs.Str.{bytes_eq}
use Rattle.std.proofs.lemmas.Bool.{and_parts}
use Rattle.std.proofs.lemmas.Bool.Decides.{nat_tests}
use Rattle.sqlite_value.specs.declared.value.Value.TheVariants.{Int, Text}
use Rattle.sqlite_value.specs.Keys.{first_key}
use Rattle.sqlite_value.specs.Order.{Row}
use Rattle.sqlite_trees.specs.View.{IsShaped}
use Rattle.sqlite_trees.specs.declared.store.Shape.TheVariants as shape
use Rattle.sqlite_sql.specs.Term.{Term, col}
use Rattle.sqlite_schema.specs.declared.command.Command.TheVariants.{Insert, Update}
use Rattle.sqlite_schema.specs.declared.command.Source.TheVariants.{Values}
use Rattle.sqlite_schema.specs.declared.schema.Kind.TheVariants.{Integer, Text as KText}
use Rattle.sqlite_schema.specs.declared.schema.Index.{Index}
use Rattle.sqlite_schema.specs.Rules.{is_of, agree}
use Rattle.sqlite_catalog.specs.Listing.{automatic}
use Rattle.sqlite_typing.specs.Types.{class_of, accepts_terms, accepts_program}
use Rattle.sqlite_rules.specs.Lists.{Has}
use Rattle.sqlite_rules.specs.Steps.{PassAlone}
use Rattle.sqlite_rules.specs.InPlace.{KeepsKeys}
use Rattle.sqlite_rules.specs.Cast.{cast_row}
use Rattle.sqlite_rules.proofs.ListLemmas.{all_has}
use Rattle.sqlite.specs.declared.error.Error.{Error}
use Rattle.sqlite.specs.declared.run.Mode.{Mode}
use Rattle.sqlite.specs.Effect.{Database}
use Rattle.sqlite.specs.Does.{Does}
use Rattle.row_lemmas.specs.Queries.{alone, plain_query}
use Rattle.row_lemmas.specs.Values.{number, number_or_null, text_or_null}
use Rattle.row_lemmas.proofs.ColumnTests.{text_test, and_true}
use Rattle.row_lemmas.proofs.CountedRows.{numbered_counted}
use Rattle.row_lemmas.proofs.NewForms.{new_forms}
use Rattle.row_lemmas.proofs.NewRows.{HasNewKey}
use Rattle.row_lemmas.proofs.NumberedRows.{numbered_shaped}
use Rattle.row_lemmas.proofs.QueryRows.{picked, shown_of}
use Rattle.row_lemmas.proofs.ShortRows.{AreShort, IsShort}
use Rattle.row_lemmas.proofs.StatementEffects.{bare}
use Rattle.row_lemmas.proofs.UniqueKeys.{fits_of}
use Rattle.row_lemmas.proofs.UpdatesSucceed.{update_succeeds}
use Rattle.iso_codec.specs.Message.{IsoMessage, IsMessage}
use Rattle.iso_codec.specs.Reading.{spelling}
use Rattle.acq_message.specs.declared.request_key.RequestKey.{RequestKey}
use Rattle.acq_message.specs.declared.service.Service.{Service}
use Rattle.acq_message.specs.declared.service.Service.TheVariants as service
use Rattle.acq_message.specs.Elements.{same_key}
use Rattle.acq_message.specs.Names.{is_merchant, is_terminal, is_trace, is_transmission}
use Rattle.acq_message.specs.Services.{digits_of, same_service}
use Rattle.acq_core.specs.declared.request.Request.{Request}
use Rattle.acq_core.specs.declared.status.Status.{Status}
use Rattle.acq_core.specs.declared.remains.Remains.{Remains}
use Rattle.acq_core.specs.Statuses.{status_number}
use Rattle.acq_core.specs.Tables.{Tables, answered_row, followed_row}
use Rattle.acq_sql_rows.specs.declared.form.Form.{Form}
use Rattle.acq_sql_rows.specs.declared.form.Form.TheVariants.{Unique, Plain}
use Rattle.acq_sql_rows.specs.Schema.{book_schema}
use Rattle.acq_sql_rows.specs.Tallies.{Running}
use Rattle.acq_sql_rows.specs.Rows.{request_row, key_row}
use Rattle.acq_sql_rows.specs.Queries.{new_row as given_row, key_is, answer_query, follow_query}
use Rattle.acq_sql_rows.specs.Relation.{HoldsRows}
use Rattle.acq_sql_writes.specs.Refused.{HasShortTexts, IsShortText, TakesRequest, HasShortRequests}
use Rattle.acq_sql_writes.proofs.ListWrites.{laid_request, laid_number, all_five, key_test}
use Rattle.acq_sql_writes.proofs.ListWrites.{follow_params}
use Rattle.acq_sql_writes.proofs.MovedTables.{plain}
use Rattle.acq_sql_writes.proofs.NewRowsTaken.{row_succeeds, other, merchant_few, terminal_few}
use Rattle.acq_sql_writes.proofs.NewRowsTaken.{trace_few}
use Rattle.acq_sql_writes.proofs.ReplyLengths.{spelling_few}
use Rattle.acq_sql_rows.proofs.SameKeys.{bytes_same, bytes_itself}
use Rattle.acq_sql_writes.proofs.RunningTotals.{find_none}
use Rattle.acq_sql_writes.proofs.TableRules as rule
use Rattle.acq_sql_rows.proofs.DistinctKeys.{few_keyed}
use Rattle.acq_sql_rows.proofs.TableTurns as at

-- ---- values that may be absent

typed_number : (n : Option ℕ) → is_of Integer (number_or_null n) ≡ true
typed_number None = refl
typed_number (Some n) = refl

typed_text : (t : Option (List ℕ)) → is_of KText (text_or_null t) ≡ true
typed_text None = refl
typed_text (Some t) = refl

class_number : (n : Option ℕ) → is_some (class_of (number_or_null n)) ≡ true
class_number None = refl
class_number (Some n) = refl

class_text : (t : Option (List ℕ)) → is_some (class_of (text_or_null t)) ≡ true
class_text None = refl
class_text (Some t) = refl

short_number : (n : Option ℕ) → IsShort (number_or_null n)
short_number None = tt
short_number (Some n) = tt

short_text : (t : Option (List ℕ)) → IfSome t IsShortText → IsShort (text_or_null t)
short_text None h = tt
short_text (Some t) h = h

-- ---- keys

transmission_few : (text : List ℕ) → is_transmission text ≡ true → length text ≤ 10 ^ 6
transmission_few text valid = grind (arith, nat_tests, valid)

digits_few : (s : Service) → length (digits_of s) ≤ 10 ^ 6
digits_few service.Authorization = omega arith
digits_few service.Financial = omega arith
digits_few service.Completion = omega arith
digits_few service.Reversal = omega arith
digits_few service.ReversalAdvice = omega arith
digits_few service.Reconciliation = omega arith
digits_few service.NetworkManagement = omega arith

-- what the types hold of a key
pub record IsKey (key : RequestKey) : Type 0 where
  pub merchant : is_merchant key.merchant ≡ true
  pub terminal : is_terminal key.terminal ≡ true
  pub trace : is_trace key.trace ≡ true
  pub transmission : is_transmission key.transmission ≡ true

-- the texts of the key are those of another
record SameParts (a b : RequestKey) : Type 0 where
  merchant : a.merchant ≡ b.merchant
  terminal : a.terminal ≡ b.terminal
  kind : digits_of a.service ≡ digits_of b.service
  trace : a.trace ≡ b.trace
  stamp : a.transmission ≡ b.transmission

same_parts : (a b : RequestKey) → same_key a b ≡ true → SameParts a b
same_parts a b h =
    let four = and_parts _ (bytes_eq a.transmission b.transmission) h in
    let three = and_parts _ (bytes_eq a.trace b.trace) four.0 in
    let two = and_parts _ (same_service a.service b.service) three.0 in
    let one = and_parts _ (bytes_eq a.terminal b.terminal) two.0 in
    record {
      merchant = bytes_same a.merchant b.merchant one.0;
      terminal = bytes_same a.terminal b.terminal one.1;
      kind = bytes_same (digits_of a.service) (digits_of b.service) two.1;
      trace = bytes_same a.trace b.trace three.1;
      stamp = bytes_same a.transmission b.transmission four.1;
    }

key_of_same : (a b : RequestKey) → same_key a b ≡ true → IsKey b → IsKey a
key_of_same a b h key =
    let same = same_parts a b h in
    record {
      merchant = ap is_merchant same.merchant ∙ key.merchant;
      terminal = ap is_terminal same.terminal ∙ key.terminal;
      trace = ap is_trace same.trace ∙ key.trace;
      transmission = ap is_transmission same.stamp ∙ key.transmission;
    }

-- ---- a row

request_few : (r : Request) → IsKey r.key → HasShortTexts r → IsMessage r.reply
    → AreShort (request_row r)
request_few r key texts whole =
    let columns : AreShort (drop 6 (request_row r)) = (
      tt,
      (
        tt,
        (
          tt,
          (
            short_number r.reference,
            (
              short_number r.follows,
              (
                tt,
                (
                  tt,
                  (
                    short_text r.card texts.card,
                    (
                      short_text r.acquirer texts.acquirer,
                      (
                        short_number r.hold_days,
                        (
                          short_number r.hold_end,
                          (spelling_few r.reply whole, tt),
                        ),
                      ),
                    ),
                  ),
                ),
              ),
            ),
          ),
        ),
      ),
    ) in (
      merchant_few r.key.merchant key.merchant,
      (
        terminal_few r.key.terminal key.terminal,
        (
          digits_few r.key.service,
          (
            trace_few r.key.trace key.trace,
            (transmission_few r.key.transmission key.transmission, (texts.essence, columns)),
          ),
        ),
      ),
    )

request_passes : (form : Form) (id : ℕ) (r : Request)
    → PassAlone (bare (at.the_requests form)) ((Int (pos id) ∷ request_row r) ∷ [])
request_passes form id r =
    record {
      typed =
          rw (
            typed_number r.reference,
            typed_number r.follows,
            typed_text r.card,
            typed_text r.acquirer,
            typed_number r.hold_days,
            typed_number r.hold_end,
          ) refl;
      present = refl;
      checked = refl;
    }

request_accepted : (r : Request) → accepts_terms (given_row 18) (request_row r) ≡ true
request_accepted r =
    rw (
      class_number r.reference,
      class_number r.follows,
      class_text r.card,
      class_text r.acquirer,
      class_number r.hold_days,
      class_number r.hold_end,
    ) refl

abbrev request_key : Index
request_key = automatic (at.the_requests Unique) 0 (1 ∷ 2 ∷ 3 ∷ 4 ∷ 5 ∷ []) 7

request_new : (xs : List Request) (r : Request) → find (λ row. same_key row.key r.key) xs ≡ None
    → HasNewKey request_row xs r (bare (at.the_requests Unique)) request_key
unfolding first_key
request_new xs r none g id y h =
    rw (
      text_test y.key.merchant r.key.merchant,
      text_test y.key.terminal r.key.terminal,
      text_test (digits_of y.key.service) (digits_of r.key.service),
      text_test y.key.trace r.key.trace,
      text_test y.key.transmission r.key.transmission,
    ) (all_five (bytes_eq y.key.merchant r.key.merchant)
    (bytes_eq y.key.terminal r.key.terminal) (same_service y.key.service r.key.service)
    (bytes_eq y.key.trace r.key.trace) (bytes_eq y.key.transmission r.key.transmission)
    ∙ find_none (λ row. same_key row.key r.key) xs y none h)

request_keys : (form : Form) (xs : List Request) (r : Request)
    → find (λ row. same_key row.key r.key) xs ≡ None
    → AllByRecursion (HasNewKey request_row xs r (bare (at.the_requests form)))
    (book_schema form).indexes
unfolding book_schema
request_keys Unique xs r none =
    (other, (other, (request_new xs r none, (other, (other, (other, (other, tt)))))))
request_keys Plain xs r none =
    (other, (other, (other, (other, (other, (other, (other, tt)))))))

-- an update that leaves the key keeps the unique keys
keeps_keys : (form : Form) (id : ℕ) (x y : Request) → x.key ≡ y.key
    → KeepsKeys (book_schema form) (bare (at.the_requests form)) (Int (pos id) ∷ request_row x)
    (Int (pos id) ∷ request_row y)
unfolding book_schema
keeps_keys Unique id x y same =
    record {
      unique = (
        other,
        (
          other,
          (
            λ g. (
              ap (λ (k : RequestKey). Text k.merchant) same,
              (
                ap (λ (k : RequestKey). Text k.terminal) same,
                (
                  ap (λ (k : RequestKey). Text (digits_of k.service)) same,
                  (
                    ap (λ (k : RequestKey). Text k.trace) same,
                    (ap (λ (k : RequestKey). Text k.transmission) same, tt),
                  ),
                ),
              ),
            ),
            (other, (other, (other, (other, tt)))),
          ),
        ),
      );
      refers = tt;
    }
keeps_keys Plain id x y same =
    record {
      unique = (other, (other, (other, (other, (other, (other, (other, tt)))))));
      refers = tt;
    }

-- ---- the statements

module _ (mode : Mode) (old : Database) (text : List ℕ) (t : Tables) (runs : List Running)
    (has : HoldsRows old t runs) where
  pub request_succeeds : (r : Request) → IsKey r.key → IsMessage r.reply → TakesRequest r t
      → (stop : Option Error)
      → ¬ Does None mode (request_row r) old text None (Insert 4 (Values (given_row 18) 19))
      (Err stop)
  request_succeeds r key whole takes =
      row_succeeds has.schema.0 request_row 4 (at.the_requests has.schema.0)
      (at.requests_placed has.schema.0) (rule.requests_listed has.schema.0)
      (rule.requests_narrow has.schema.0) mode old has.schema.1 has.sound text t.requests r
      has.requests
      (record {
        room = takes.room;
        laid = laid_request has.schema.0 r;
        pass = request_passes has.schema.0 (1 + length t.requests) r;
        keys = request_keys has.schema.0 t.requests r takes.key;
        short = request_few r key takes.texts whole;
        some = omega arith;
        few = omega arith;
      }) (given_row 18) 19 refl (request_accepted r)

  -- UPDATE of the request with a key
  module _ (key : RequestKey) (valid : IsKey key) (short : HasShortRequests t) (more : Row)
      (u : Request → Request) (kept : (x : Request) → (u x).key ≡ x.key)
      (texts : (x : Request) → HasShortTexts x → HasShortTexts (u x))
      (whole : (x : Request) → IsMessage x.reply → IsMessage (u x).reply) where
    abbrev params : Row
    params = key_row key ++ more

    abbrev is_it : Request → Bool
    is_it x = same_key x.key key

    shaped : IsShaped shape.Table (old.trees (at.the_requests has.schema.0).tree)
    shaped = subst (IsShaped shape.Table) (sym has.requests)
        (numbered_shaped 1 (map request_row t.requests))

    tested : (id : ℕ) (x : Request)
        → picked key_is params (Int (pos id) ∷ request_row x) ≡ is_it x
    tested id x = key_test key more id x

    few_with_key : length (filter (picked key_is params)
        (old.trees (at.the_requests has.schema.0).tree)) ≤ 1
    few_with_key =
        let counted = numbered_counted request_row (picked key_is params) is_it t.requests tested in
        subst (λ n. n ≤ 1)
        (sym (ap (λ l. length (filter (picked key_is params) l)) has.requests ∙ counted))
        (few_keyed key t.requests short.keys)

    pub update_of_key_succeeds : (project : List Term)
        → ((id : ℕ) (x : Request) → shown_of project params (Int (pos id) ∷ request_row x)
        ≡ Int (pos id) ∷ request_row (u x))
        → accepts_program (book_schema has.schema.0) [] (plain_query 6 key_is (col 1 0 ∷ project)
        []) params ≡ true
        → (stop : Option Error)
        → ¬ Does None mode params old text None
        (Update 4 (alone (plain_query 6 key_is (col 1 0 ∷ project) []))) (Err stop)
    update_of_key_succeeds project shows typed =
        update_succeeds (book_schema has.schema.0) (plain has.schema.0) 4
        (at.the_requests has.schema.0) (at.requests_placed has.schema.0)
        (rule.requests_listed has.schema.0)
        mode old has.schema.1 (fits_of (book_schema has.schema.0) old.trees has.sound) shaped text
        params key_is
        project few_with_key
        (new_forms request_row t.requests (old.trees (at.the_requests has.schema.0).tree)
        has.requests (book_schema has.schema.0)
        (bare (at.the_requests has.schema.0)) (rule.requests_narrow has.schema.0) key_is project
        params is_it u
        (λ id x h. tested id x)
        (λ id x h is. ap (cast_row (bare (at.the_requests has.schema.0))) (shows id x)
        ∙ laid_number has.schema.0 id (u x))
        (omega (arith, short.room))
        (λ id x h is. request_passes has.schema.0 id (u x))
        (λ id x h is. keeps_keys has.schema.0 id x (u x) (sym (kept x)))
        (λ x h is. request_few (u x)
        (subst IsKey (sym (kept x)) (key_of_same x.key key is valid))
        (texts x (all_has HasShortTexts t.requests x short.texts h))
        (whole x (all_has (λ row. IsMessage row.reply) t.requests x has.recorded h)))
        (λ x. (omega arith, omega arith)))
        typed

  typed_answer : (key : RequestKey) (status : ℕ) (hold_end : Option ℕ) (reply : List ℕ)
      → accepts_program (book_schema has.schema.0) [] answer_query
      (key_row key ++ number status ∷ number_or_null hold_end ∷ Text reply ∷ []) ≡ true
  unfolding book_schema
  typed_answer key status None reply = refl
  typed_answer key status (Some n) reply = refl

  pub answer_succeeds : (key : RequestKey) (status : Status) (reply : IsoMessage)
      (hold_end : Option ℕ) → IsKey key → IsMessage reply → HasShortRequests t
      → (stop : Option Error)
      → ¬ Does None mode
      (key_row key ++ number (status_number status) ∷ number_or_null hold_end
      ∷ Text (spelling reply) ∷ []) old text None (Update 4 (alone answer_query)) (Err stop)
  answer_succeeds key status reply hold_end valid whole short =
      update_of_key_succeeds key valid short
      (number (status_number status) ∷ number_or_null hold_end ∷ Text (spelling reply) ∷ [])
      (answered_row status reply hold_end) (λ x. refl)
      (λ x h. record { essence = h.essence; card = h.card; acquirer = h.acquirer })
      (λ x h. whole) (drop 1 answer_query.project) (λ id x. refl)
      (typed_answer key (status_number status) hold_end (spelling reply))

  typed_follow : (key : RequestKey) (remains : Remains)
      → accepts_program (book_schema has.schema.0) [] follow_query (follow_params key remains)
      ≡ true
  unfolding book_schema
  typed_follow key remains = refl

  pub follow_succeeds : (key : RequestKey) (remains : Remains) → IsKey key → HasShortRequests t
      → (stop : Option Error)
      → ¬ Does None mode (follow_params key remains) old text None (Update 4 (alone follow_query))
      (Err stop)
  follow_succeeds key remains valid short =
      update_of_key_succeeds key valid short
      (number (status_number remains.status) ∷ number remains.amount ∷ [])
      (followed_row remains) (λ x. refl)
      (λ x h. record { essence = h.essence; card = h.card; acquirer = h.acquirer })
      (λ x h. h) (drop 1 follow_query.project) (λ id x. refl) (typed_follow key remains)
