-- What the look-up of a merchant's greatest reference answers: how many references it has given.
use Rattle.std.proofs.Common.{◌≡◌, ◌+◌, ◌≤◌, ◌<◌, ℕ, zero, suc, pos, inl, inr, Bool, true, false}
use Rattle.std.proofs.Common.{true≢false, List, []}
use Rattle.std.proofs.Common.{◌∷◌, Option, None, Some, Ok, Err, Result, SomeIff, IfOk, Less, refl}
use Rattle.std.proofs.Common.{sym, ap, subst}
use Rattle.std.proofs.Common.{subst₂, ◌∙◌, arith, slice_get}
use Rattle.std.specs.Prelude.{IfSome}
use Rattle.std.proofs.lemmas.Result.{IfOk-weaker}
use Rattle.std.specs.List.{cons_option, range_with_len}
use Rattle.std.specs.Ordering.{is_gt, ordering_reverse}
use Rattle.std.specs.Str.{bytes_eq}
use Rattle.sqlite_value.specs.declared.value.Value.TheVariants.{Int, Null, Text}
use Rattle.sqlite_value.specs.Order.{Row, column, value_cmp}
use Rattle.sqlite_value.proofs.OrderLemmas.{then-Equal, value_cmp-Null, value_cmp_total}
use Rattle.sqlite_trees.proofs.ListLemmas.{ascending_weaker}
use Rattle.sqlite_sql.specs.Query.{Output}
use Rattle.sqlite_rules.specs.Lists.{Has}
use Rattle.sqlite_rules.proofs.ListLemmas.{has_filtered}
use Rattle.sqlite.specs.declared.error.Error.{Error}
use Rattle.sqlite.specs.State.{State, Shown}
use Rattle.row_lemmas.specs.Values.{number, number_or_null}
use Rattle.row_lemmas.proofs.ColumnTests.{text_test, number_at_most, and_true}
use Rattle.row_lemmas.proofs.ListReads.{shows_ordered}
use Rattle.row_lemmas.proofs.OrderedRows.{IsFirst, first_element}
use Rattle.row_lemmas.proofs.QueryRows.{picked}
use Rattle.acq_message.specs.Numbers.{is_reference}
use Rattle.acq_core.specs.declared.merchant.Merchant.{Merchant}
use Rattle.acq_core.specs.declared.request.Request.{Request}
use Rattle.acq_core.specs.Pasts.{HasPast}
use Rattle.acq_core.specs.Tables.{Tables, requests_of, admitted_in}
use Rattle.acq_book.specs.Lookups.{merchant_at, admitted_at}
use Rattle.acq_soundness.specs.References.{references_in, AreRowsOf}
use Rattle.acq_soundness.proofs.BooksAreSound.{books_are_sound}
use Rattle.acq_sql_rows.specs.Schema.{book_schema}
use Rattle.acq_sql_rows.specs.Rows.{request_row}
use Rattle.acq_sql_rows.specs.Tallies.{Running}
use Rattle.acq_sql_rows.specs.Relation.{HoldsRows}
use Rattle.acq_sql_reads.specs.Looked.{count_up_to, ShowsGreatest, TellsCount}
use Rattle.acq_sql_reads.proofs.Failing.{request_fits}
use Rattle.acq_sql_reads.proofs.HoldReferences.{in_from_has}
use Rattle.acq_sql_reads.specs.Texts as text
use Rattle.acq_sql_reads.specs.Queries as query
use Rattle.acq_sql_reads.proofs.TextLemmas as asks

-- ---- in the order of values, none comes before each

abbrev IsAtMost : Option ℕ → Option ℕ → Type 0
IsAtMost None b = Unit {0}
IsAtMost (Some a) (Some b) = a ≤ b
IsAtMost (Some a) None = ⊥

null_first : (a : ℕ) → is_gt (value_cmp (number a) Null) ≡ false → ⊥
null_first a h =
    let low : value_cmp Null (number a) ≡ Less = value_cmp-Null (number a) in
    true≢false (sym (ap is_gt (value_cmp_total.antisymm (number a) Null ∙ ap ordering_reverse low))
    ∙ h)

reference_at_most : (a b : Option ℕ) →
    is_gt (value_cmp (number_or_null a) (number_or_null b)) ≡ false → IsAtMost a b
reference_at_most None b h = tt
reference_at_most (Some a) (Some b) h = number_at_most a b h
reference_at_most (Some a) None h = null_first a h

-- ---- the references of requests

has_reference : (xs : List Request) (x : Request) (n : ℕ) → Has xs x → x.reference ≡ Some n →
    Has (references_in xs) n
has_reference [] x n here is = absurd here
has_reference (y ∷ xs) x n here is =
    go y.reference refl here (λ later. has_reference xs x n later is)
  where
    go : (o : Option ℕ) → y.reference ≡ o → Has (y ∷ xs) x → (Has xs x → Has (references_in xs) n)
        → Has (cons_option o (references_in xs)) n
    go None none (inl same) later =
        absurd (let e = sym none ∙ ap (λ (r : Request). r.reference) (sym same) ∙ is in cc)
    go None none (inr there) later = later there
    go (Some m) some (inl same) later =
        inl (let e : Some n ≡ Some m = sym is ∙ ap (λ (r : Request). r.reference) same ∙ some in cc)
    go (Some m) some (inr there) later = inr (later there)

reference_of : (xs : List Request) (n : ℕ) → Has (references_in xs) n
    → (x : Request) × Has xs x × (x.reference ≡ Some n)
reference_of [] n here = absurd here
reference_of (y ∷ xs) n here = go y.reference refl here (λ later. reference_of xs n later)
  where
    go : (o : Option ℕ) → y.reference ≡ o → Has (cons_option o (references_in xs)) n
        → (Has (references_in xs) n → (x : Request) × Has xs x × (x.reference ≡ Some n))
        → (x : Request) × Has (y ∷ xs) x × (x.reference ≡ Some n)
    go None none h later = let it = later h in (it.0, inr it.1, it.2)
    go (Some m) some (inl same) later = (y, inl refl, some ∙ ap Some (sym same))
    go (Some m) some (inr there) later = let it = later there in (it.0, inr it.1, it.2)

within : (first many n : ℕ) → Has (range_with_len first many) n → (first ≤ n) × (n < first + many)
within first zero n here = absurd here
within first (suc many) n (inl is) = (omega (arith, is), omega (arith, is))
within first (suc many) n (inr later) =
    let it = within (first + 1) many n later in (omega (arith, it.0), omega (arith, it.1))

last_of_range : (first many : ℕ) → Has (range_with_len first (suc many)) (first + many)
last_of_range first zero = inl (omega arith)
last_of_range first (suc many) =
    let later = last_of_range (first + 1) many in
    let same : first + 1 + many ≡ first + suc many = omega arith in
    inr (subst (Has (range_with_len (first + 1) (suc many))) same later)

-- ---- the greatest tells how many there are

abbrev Later : Request → Request → Type 0
Later x y = IsAtMost y.reference x.reference

abbrev reference_cells : Request → Row
reference_cells r = number_or_null r.reference ∷ []

module _ (first : ℕ) (xs : List Request) (x : Request) (here : Has xs x)
    (later : (y : Request) → Has xs y → IsAtMost y.reference x.reference) where
  counted_up_to : (many : ℕ) (o : Option ℕ) → x.reference ≡ o →
      references_in xs ≡ range_with_len first many
      → many ≡ count_up_to first o
  counted_up_to zero None is run = refl
  counted_up_to (suc many) None is run =
      let it = reference_of xs first (subst (λ l. Has l first) (sym run) (inl refl)) in
      absurd (subst₂ IsAtMost it.2 is (later it.0 it.1))
  counted_up_to zero (Some greatest) is run =
      absurd (subst (λ l. Has l greatest) run (has_reference xs x greatest here is))
  counted_up_to (suc many) (Some greatest) is run =
      let among = within first (suc many) greatest
      (subst (λ l. Has l greatest) run (has_reference xs x greatest here is)) in
      let it = reference_of xs (first + many)
      (subst (λ l. Has l (first + many)) (sym run) (last_of_range first many)) in
      let most : first + many ≤ greatest = subst₂ IsAtMost it.2 is (later it.0 it.1) in
      omega (arith, among.0, among.1, most)

own_at_most : (a : Option ℕ) → IsAtMost a a
own_at_most None = tt
own_at_most (Some a) = omega arith

-- a reference of one of them is from the first on
given_from : (first : ℕ) (xs : List Request) (x : Request) → Has xs x
    → references_in xs ≡ range_with_len first (admitted_in xs)
    → (o : Option ℕ) → x.reference ≡ o → IfSome o (λ n. is_reference n ≡ true)
    → IfSome o (λ n. (first ≤ n) × (is_reference n ≡ true))
given_from first xs x here run None is fits = tt
given_from first xs x here run (Some n) is fits = (
  (within first (admitted_in xs) n (subst (λ l. Has l n) run (has_reference xs x n here is))).0,
  fits,
)

greatest_shown : (first : ℕ) (xs : List Request) (rows : List Row)
    → references_in xs ≡ range_with_len first (admitted_in xs)
    → ((x : Request) → Has xs x → IfSome x.reference (λ n. is_reference n ≡ true))
    → IsFirst Later xs reference_cells rows
    → ShowsGreatest first (admitted_in xs) rows
greatest_shown first xs rows run fits (inl none) = inl (none.0, ap admitted_in none.1)
greatest_shown first xs rows run fits (inr (x, here, is, later)) =
    let most : (y : Request) → Has xs y →
    IsAtMost y.reference x.reference = λ y h. elim (later y h) [
      | inl same ↦ subst (λ (z : Request). IsAtMost z.reference x.reference) (sym same)
          (own_at_most x.reference)
      | inr before ↦ before
    ] in
    inr (
      x.reference,
      is,
      record {
        counted = counted_up_to first xs x here most (admitted_in xs) x.reference refl run;
        given = given_from first xs x here run x.reference refl (fits x here);
      },
    )

-- what was read of a number that is given
pub number_read : {T : Type 0} (r : Result T Error) (o : Option T) (fits : Type 0) (n : T)
    → IfOk r (λ x. o ≡ Some x) → SomeIff o fits n → IfOk r (λ x. x ≡ n)
number_read (Ok x) None fits n is found = absurd (let e : None ≡ Some x = is in cc)
number_read (Ok x) (Some y) fits n is found = let e : x ≡ y = cc in e ∙ found.1
number_read (Err e) o fits n is found = tt

-- ---- what was read of the row

same_reference : (a b : Option ℕ) → number_or_null a ≡ number_or_null b → a ≡ b
same_reference None None h = refl
same_reference None (Some b) h = absurd (cc)
same_reference (Some a) None h = absurd (cc)
same_reference (Some a) (Some b) h = let e : a ≡ b = cc in ap Some e

pub greatest_read : (first many : ℕ) (rows : List Row) (row : Row) (r : Result (Option ℕ) Error)
    → ShowsGreatest first many rows → Some row ≡ slice_get rows 0
    → IfOk r (λ o. column row 0 ≡ number_or_null o) → IfOk r (TellsCount first many)
greatest_read first many rows row r (inl none) some =
    absurd (let e = some ∙ ap (λ l. slice_get l 0) none.0 in cc)
greatest_read first many rows row r (inr (o, one, tells)) some =
    let shown : row ≡ number_or_null o ∷ [] =
    let e : Some row ≡ Some (number_or_null o ∷ []) = some ∙ ap (λ l. slice_get l 0) one in cc in
    IfOk-weaker r _ _ (λ p here. subst (TellsCount first many)
    (same_reference o p (sym (ap (λ l. column l 0) shown) ∙ here)) tells)

pub none_greatest : (first many : ℕ) (rows : List Row) → ShowsGreatest first many rows
    → None ≡ slice_get rows 0 → many ≡ 0
none_greatest first many rows (inl none) is = none.1
none_greatest first many rows (inr (o, one, more)) is =
    absurd (let e = is ∙ ap (λ l. slice_get l 0) one in cc)

-- ---- the rows

module _ (m : List ℕ) where
  abbrev mine : Request → Bool
  mine row = bytes_eq row.key.merchant m

  abbrev out : Request → Output
  out x = (reference_cells x, reference_cells x)

  tested : (k : ℕ) (x : Request)
      → picked query.greatest_query.filter (Text m ∷ []) (Int (pos k) ∷ request_row x) ≡ mine x
  tested k x = rw (text_test x.key.merchant m, and_true) refl

  pub greatest_first : (old new : State) (t : Tables) (runs : List Running) (rows : List Row)
      → HoldsRows old.now t runs → Shown text.greatest_text (Text m ∷ []) old new rows
      → IsFirst Later (requests_of m t.requests) reference_cells rows
  greatest_first old new t runs rows has shown =
      let ask = asks.greatest_asks in
      let it = query.greatest_query in
      let all = shows_ordered request_row (book_schema has.schema.0) 6 t.requests old new
      has.schema.1 has.requests
      text.greatest_text (Text m ∷ []) _ (ask.plain has.schema.0) (ask.unlisted has.schema.0) rows
      shown it.filter it.project mine
      tested
      it.order it.limit out (λ id x. refl) (ask.is has.schema.0) in
      first_element Later (requests_of m t.requests) all.0 reference_cells rows all.1
      (ascending_weaker _ Later (λ x y h. reference_at_most y.reference x.reference
      (ap is_gt (sym (then-Equal
      (value_cmp (number_or_null y.reference) (number_or_null x.reference)))) ∙ h))
      all.0 all.2) all.3

  -- tables with a past have consecutive references
  rows_of_merchant : (t : Tables) → HasPast t →
      AreRowsOf (merchant_at t m) (requests_of m t.requests)
  rows_of_merchant t (opening, book) = (books_are_sound opening t book).references m

  references_fit : (t : Tables) → HasPast t → (x : Request) → Has (requests_of m t.requests) x
      → IfSome x.reference (λ n. is_reference n ≡ true)
  references_fit t past x here =
      let member = in_from_has t.requests x (has_filtered mine t.requests x here).0 in
      (request_fits t past x member).reference

  pub greatest_found : (old new : State) (t : Tables) (runs : List Running) (rows : List Row)
      (enrolled : Merchant)
      → HoldsRows old.now t runs → HasPast t → merchant_at t m ≡ Some enrolled
      → Shown text.greatest_text (Text m ∷ []) old new rows
      → ShowsGreatest enrolled.first_reference (admitted_at t m) rows
  greatest_found old new t runs rows enrolled has past is shown =
      greatest_shown enrolled.first_reference (requests_of m t.requests) rows
      (subst (λ o. AreRowsOf o (requests_of m t.requests)) is (rows_of_merchant t past))
      (references_fit t past)
      (greatest_first old new t runs rows has shown)

  -- a merchant that isn't enrolled has none
  pub none_admitted : (t : Tables) → HasPast t → None ≡ merchant_at t m → 0 ≡ admitted_at t m
  none_admitted t past is =
      ap admitted_in
      (sym (subst (λ o. AreRowsOf o (requests_of m t.requests)) (sym is)
      (rows_of_merchant t past)))
