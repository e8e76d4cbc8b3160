-- What the look-ups of requests answer.
use Rattle.std.proofs.Common.{◌≡◌, ◌&&◌, ℕ, pos, Bool, true, false, cond}
use Rattle.std.proofs.Common.{List, [], ◌∷◌}
use Rattle.std.proofs.Common.{filter, find, length, ◌≤◌, option_map, Option, None, Some, refl, sym}
use Rattle.std.proofs.Common.{ap, subst, ◌∙◌, arith}
use Rattle.std.specs.Prelude.{nat_eq}
use Rattle.std.specs.List.{list_any, cons_option}
use Rattle.std.specs.Str.{bytes_eq}
use Rattle.std.specs.Option.{option_to_list}
use Rattle.std.proofs.lemmas.Bool.{and_parts, or_parts, not-true}
use Rattle.std.proofs.lemmas.Bool.Decides.{nat_tests}
use Rattle.sqlite_value.specs.declared.keys.Collation.TheVariants.{Binary}
use Rattle.sqlite_value.specs.declared.value.Value.TheVariants.{Int, Text}
use Rattle.sqlite_value.specs.Order.{Row}
use Rattle.sqlite_sql.specs.declared.ops.BinaryOp.TheVariants.{Compare}
use Rattle.sqlite_sql.specs.declared.ops.CompareOp.TheVariants.{Eq}
use Rattle.sqlite_sql.specs.Ops.{binary, is_true}
use Rattle.sqlite_rules.proofs.ListLemmas.{all_has, has_found}
use Rattle.sqlite.specs.State.{State, Shown}
use Rattle.row_lemmas.specs.Values.{number, number_or_null}
use Rattle.row_lemmas.proofs.UniqueKeys.{one_of_few}
use Rattle.row_lemmas.proofs.ColumnTests.{text_test, number_test, and_true}
use Rattle.row_lemmas.proofs.CountedRows.{numbered_counted}
use Rattle.row_lemmas.proofs.QueryRows.{picked}
use Rattle.row_lemmas.proofs.ListReads.{shows_one}
use Rattle.acq_message.specs.declared.request_key.RequestKey.{RequestKey}
use Rattle.acq_message.specs.Numbers.{is_number}
use Rattle.acq_message.specs.Services.{digits_of, same_service}
use Rattle.acq_message.specs.Elements.{same_key}
use Rattle.acq_core.specs.declared.request.Request.{Request}
use Rattle.acq_core.specs.Pasts.{HasPast}
use Rattle.acq_core.specs.Tables.{Tables, requests_of}
use Rattle.acq_book.specs.Lookups.{request_at, referred_at}
use Rattle.acq_soundness.specs.Keys.{are_distinct}
use Rattle.acq_soundness.specs.References.{references_in}
use Rattle.acq_soundness.proofs.BooksAreSound.{books_are_sound}
use Rattle.acq_sql_rows.specs.Schema.{book_schema}
use Rattle.acq_sql_rows.specs.Rows.{request_row, key_row}
use Rattle.acq_sql_rows.specs.Queries.{key_is}
use Rattle.acq_sql_rows.specs.Tallies.{Running}
use Rattle.acq_sql_rows.specs.Relation.{HoldsRows, AreRecorded}
use Rattle.acq_sql_rows.proofs.DistinctKeys.{few_keyed}
use Rattle.acq_sql_reads.specs.Recorded.{ShowsRequest}
use Rattle.acq_sql_reads.specs.Texts as text
use Rattle.acq_sql_reads.specs.Queries as query
use Rattle.acq_sql_reads.proofs.TextLemmas as asks
use Rattle.acq_sql_reads.proofs.Ordering.{filter_both}

-- what was found of requests whose replies are messages
shown_request : (p : Request → Bool) (xs : List Request) (rows : List Row) → AreRecorded xs
    → rows ≡ option_to_list (option_map request_row (find p xs)) → ShowsRequest (find p xs) rows
shown_request p xs rows whole are = go (find p xs) refl are
  where
    go : (o : Option Request) → find p xs ≡ o → rows ≡ option_to_list (option_map request_row o) →
        ShowsRequest o rows
    go None is found = found
    go (Some x) is found = (found, all_has _ xs x whole (has_found p xs x is).0)

-- ---- by key

all_five : (a b c d e : Bool) → (a && (b && (c && (d && (e && true))))) ≡ (a && b && c && d && e)
all_five true true true true e = and_true e
all_five true true true false e = refl
all_five true true false d e = refl
all_five true false c d e = refl
all_five false b c d e = refl

module _ (key : RequestKey) where
  abbrev has_key : Request → Bool
  has_key row = same_key row.key key

  tested : (k : ℕ) (x : Request) →
      picked key_is (key_row key) (Int (pos k) ∷ request_row x) ≡ has_key x
  tested k x =
      rw (
        text_test x.key.merchant key.merchant,
        text_test x.key.terminal key.terminal,
        text_test (digits_of x.key.service) (digits_of key.service),
        text_test x.key.trace key.trace,
        text_test x.key.transmission key.transmission,
      ) (all_five (bytes_eq x.key.merchant key.merchant) (bytes_eq x.key.terminal key.terminal)
      (same_service x.key.service key.service) (bytes_eq x.key.trace key.trace)
      (bytes_eq x.key.transmission key.transmission))

  -- no two requests have one key
  one_key : (t : Tables) → HasPast t → length (filter has_key t.requests) ≤ 1
  one_key t (opening, book) =
      few_keyed key t.requests (books_are_sound opening t book).keys.requests

  pub request_found : (old new : State) (t : Tables) (runs : List Running) (rows : List Row) →
      HoldsRows old.now t runs → HasPast t
      → Shown text.request_text (key_row key) old new rows → ShowsRequest (request_at t key) rows
  request_found old new t runs rows has past shown =
      let ask = asks.request_asks in
      let counted = ap (λ l. length (filter (picked key_is (key_row key)) l)) has.requests
      ∙ numbered_counted request_row (picked key_is (key_row key)) has_key t.requests tested in
      shown_request has_key t.requests rows has.recorded
      (shows_one request_row (book_schema has.schema.0) 6 t.requests old new has.schema.1
      has.requests
      text.request_text (key_row key) _
      (ask.plain has.schema.0) (ask.unlisted has.schema.0) rows shown key_is
      query.request_query.project has_key tested
      request_row (λ k x. refl)
      (ask.is has.schema.0)
      (one_of_few (picked key_is (key_row key)) (old.now.trees 6)
      (subst (λ n. n ≤ 1) (sym counted) (one_key t past))))

-- ---- by reference

none_refer : (n : ℕ) (xs : List Request) → list_any (nat_eq n) (references_in xs) ≡ false →
    filter (λ x. is_number n x.reference) xs ≡ []
none_refer n [] none = refl
none_refer n (x ∷ xs) none = go x.reference none (none_refer n xs)
  where
    go : (o : Option ℕ) → list_any (nat_eq n) (cons_option o (references_in xs)) ≡ false →
        (list_any (nat_eq n) (references_in xs) ≡ false →
        filter (λ y. is_number n y.reference) xs ≡ []) →
        cond (is_number n o) (x ∷ filter (λ y. is_number n y.reference) xs)
        (filter (λ y. is_number n y.reference) xs) ≡ []
    go None none later = later none
    go (Some m) none later =
        let parts = or_parts _ _ none in
        let other : is_number n (Some m) ≡ false = grind (arith, nat_tests) in
        rw other (later parts.1)

-- of requests whose references are distinct, one at most has this one
few_refer : (n : ℕ) (xs : List Request) → are_distinct nat_eq (references_in xs) ≡ true →
    length (filter (λ x. is_number n x.reference) xs) ≤ 1
few_refer n [] distinct = omega arith
few_refer n (x ∷ xs) distinct = go x.reference distinct (few_refer n xs)
  where
    go : (o : Option ℕ) → are_distinct nat_eq (cons_option o (references_in xs)) ≡ true →
        (are_distinct nat_eq (references_in xs) ≡ true →
        length (filter (λ y. is_number n y.reference) xs) ≤ 1) →
        length (cond (is_number n o) (x ∷ filter (λ y. is_number n y.reference) xs)
        (filter (λ y. is_number n y.reference) xs)) ≤ 1
    go None distinct later = later distinct
    go (Some m) distinct later =
        let parts = and_parts _ _ distinct in
        let rest = filter (λ (y : Request). is_number n y.reference) xs in
        let step : (b : Bool) → is_number n (Some m) ≡ b → length (cond b (x ∷ rest) rest) ≤ 1 =
        elim [
          | true ↦ (λ is.
              let same : m ≡ n = grind (arith, nat_tests) in
              let none = subst (λ k. list_any (nat_eq k) (references_in xs) ≡ false) same
              (not-true _ parts.0) in
              subst (λ l. length (x ∷ l) ≤ 1) (sym (none_refer n xs none)) (omega arith))
          | false ↦ (λ is. later parts.1)
        ] in
        step (is_number n (Some m)) refl

find_filtered : {X : Type 0} (p q : X → Bool) (xs : List X) →
    find (λ x. p x && q x) xs ≡ find q (filter p xs)
find_filtered p q [] = refl
find_filtered p q (x ∷ xs) =
    let rest = find_filtered p q xs in
    elim (p x)
    as (λ b. cond (b && q x) (Some x) (find (λ y. p y && q y) xs)
    ≡ find q (cond b (x ∷ filter p xs) (filter p xs)))
    [ true ↦ ap (λ o. cond (q x) (Some x) o) rest | false ↦ rest ]

reference_test : (o : Option ℕ) (n : ℕ)
    → is_true (binary (Compare Eq Binary) (number_or_null o) (number n)) ≡ is_number n o
unfolding binary
reference_test None n = refl
reference_test (Some m) n = number_test m n

module _ (merchant : List ℕ) (reference : ℕ) where
  abbrev is_it : Request → Bool
  is_it x = bytes_eq x.key.merchant merchant && is_number reference x.reference

  abbrev sought : Row
  sought = Text merchant ∷ number reference ∷ []

  refers : (k : ℕ) (x : Request)
      → picked query.reference_query.filter sought (Int (pos k) ∷ request_row x) ≡ is_it x
  refers k x = rw (
    text_test x.key.merchant merchant,
    reference_test x.reference reference,
    and_true,
  ) refl

  -- no two requests of the merchant have one reference
  pub one_reference : (t : Tables) → HasPast t → length (filter is_it t.requests) ≤ 1
  one_reference t (opening, book) =
      let distinct = (books_are_sound opening t book).unique_references merchant in
      subst (λ l. length l ≤ 1)
      (filter_both (λ (x : Request). bytes_eq x.key.merchant merchant)
      (λ (x : Request). is_number reference x.reference) t.requests)
      (few_refer reference (requests_of merchant t.requests) distinct)

  pub reference_found : (old new : State) (t : Tables) (runs : List Running) (rows : List Row)
      → HoldsRows old.now t runs → HasPast t → Shown text.reference_text sought old new rows
      → ShowsRequest (referred_at t merchant reference) rows
  reference_found old new t runs rows has past shown =
      let ask = asks.reference_asks in
      let test = query.reference_query.filter in
      let counted = ap (λ l. length (filter (picked test sought) l)) has.requests
      ∙ numbered_counted request_row (picked test sought) is_it t.requests refers in
      let few = subst (λ n. n ≤ 1) (sym counted) (one_reference t past) in
      let found = shown_request is_it t.requests rows has.recorded
      (shows_one request_row (book_schema has.schema.0) 6 t.requests old new has.schema.1
      has.requests
      text.reference_text sought _
      (ask.plain has.schema.0) (ask.unlisted has.schema.0) rows shown test
      query.reference_query.project is_it refers request_row
      (λ k x. refl)
      (ask.is has.schema.0)
      (one_of_few (picked test sought) (old.now.trees 6) few)) in
      rw (find_filtered (λ (x : Request). bytes_eq x.key.merchant merchant)
      (λ (x : Request). is_number reference x.reference) t.requests) at found
