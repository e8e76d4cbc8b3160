-- What the walk over a merchant's holds answers.
use Rattle.std.proofs.Common.{◌≡◌, ◌&&◌, ◌||◌, ◌==◌, ◌≤◌, Bool, true, false, true≢false, inl, inr}
use Rattle.std.proofs.Common.{ℕ, pos}
use Rattle.std.proofs.Common.{Ordering, Less}
use Rattle.std.proofs.Common.{Equal}
use Rattle.std.proofs.Common.{cond, codes, Option, None, Some, List, [], ◌∷◌, map, filter, length}
use Rattle.std.proofs.Common.{nat_lt, refl, sym}
use Rattle.std.proofs.Common.{ap}
use Rattle.std.proofs.Common.{subst, ◌∙◌, arith}
use Rattle.std.specs.List.Sorted.{IsPermutation}
use Rattle.std.specs.Str.{bytes_eq}
use Rattle.std.specs.Ordering.{is_lt, nat_cmp, ordering_reverse}
use Rattle.std.proofs.lemmas.Bool.{and_parts}
use Rattle.std.proofs.lemmas.Bool.Decides.{nat_tests}
use Rattle.sqlite_value.specs.declared.value.Value.TheVariants.{Int, Null, Text}
use Rattle.sqlite_value.specs.Order.{Row, value_cmp}
use Rattle.sqlite_value.proofs.OrderLemmas.{then-Equal, value_cmp-Null, value_cmp_total}
use Rattle.sqlite_sql.specs.Query.{Output, output_cmp}
use Rattle.sqlite_rules.specs.Lists.{Has}
use Rattle.sqlite_rules.proofs.ListLemmas.{all_has, has_filtered}
use Rattle.sqlite.specs.State.{State, Shown}
use Rattle.row_lemmas.specs.Values.{number, number_or_null}
use Rattle.row_lemmas.proofs.ColumnTests.{text_test, either_number_test, and_true}
use Rattle.row_lemmas.proofs.ListReads.{shows_ordered}
use Rattle.row_lemmas.proofs.QueryRows.{picked}
use Rattle.acq_message.specs.declared.service.Service.{Service}
use Rattle.acq_message.specs.declared.service.Service.TheVariants.{Authorization, Financial}
use Rattle.acq_message.specs.declared.service.Service.TheVariants.{Completion, Reversal}
use Rattle.acq_message.specs.declared.service.Service.TheVariants.{ReversalAdvice, Reconciliation}
use Rattle.acq_message.specs.declared.service.Service.TheVariants.{NetworkManagement}
use Rattle.acq_message.specs.Numbers.{is_number}
use Rattle.acq_message.specs.Services.{digits_of}
use Rattle.acq_core.specs.declared.request.Request.{Request}
use Rattle.acq_core.specs.declared.status.Status.{Status}
use Rattle.acq_core.specs.Pasts.{HasPast}
use Rattle.acq_core.specs.Tables.{Tables, is_approved}
use Rattle.acq_core.proofs.Statuses.{alike}
use Rattle.acq_book.specs.Lookups.{holds_at, is_authorization, is_reference_before}
use Rattle.acq_sql_rows.specs.Schema.{book_schema}
use Rattle.acq_core.specs.Statuses.{status_number}
use Rattle.acq_sql_rows.specs.Rows.{request_row}
use Rattle.acq_sql_rows.specs.Tallies.{Running}
use Rattle.acq_sql_rows.specs.Relation.{Holds, HoldsRows, AreRecorded}
use Rattle.acq_sql_reads.specs.Recorded.{IsRowOf}
use Rattle.acq_sql_reads.proofs.RequestReads.{one_reference}
use Rattle.acq_sql_reads.proofs.RequestRows.{same_request}
use Rattle.acq_sql_reads.specs.WalkTexts as text
use Rattle.acq_sql_reads.specs.WalkQueries as query
use Rattle.acq_sql_reads.proofs.WalkTextLemmas as asks
use Rattle.acq_sql_reads.proofs.Visiting.{AreOwn}
use Rattle.acq_sql_reads.proofs.Walking.{ShowsList}
use Rattle.acq_sql_reads.proofs.Ordering.{sorted_total, ordered_is, in_order_has, filter_both}
use Rattle.acq_sql_reads.proofs.Ordering.{fewer, numbers_compare, numbers_tied}
use Rattle.acq_sql_reads.proofs.HoldReferences.{holds_referred, in_from_has}

-- ---- by reference: none comes before each

abbrev out : Request → Output
out x = (number_or_null x.reference ∷ [], request_row x)

abbrev by_reference : Request → Request → Ordering
by_reference a b = output_cmp query.holds_query (out a) (out b)

null_before : (n : ℕ) → value_cmp Null (number n) ≡ Less
null_before n = value_cmp-Null (number n)

less_test : (a b : ℕ) → is_lt (nat_cmp a b) ≡ nat_lt a b
less_test a b = grind (arith, nat_tests)

references_compare : (a b : Option ℕ)
    → is_lt (value_cmp (number_or_null a) (number_or_null b)) ≡ is_reference_before a b
references_compare None None = ap is_lt (value_cmp-Null Null)
references_compare None (Some n) = ap is_lt (null_before n)
references_compare (Some n) None =
    ap is_lt (value_cmp_total.antisymm (number n) Null ∙ ap ordering_reverse (null_before n))
references_compare (Some n) (Some m) = ap is_lt (numbers_compare n m) ∙ less_test n m

-- the reference is this one
abbrev same_reference : Option ℕ → Option ℕ → Bool
same_reference None None = true
same_reference None (Some m) = false
same_reference (Some n) o = is_number n o

references_tied : (a b : Option ℕ) → value_cmp (number_or_null a) (number_or_null b) ≡ Equal
    → same_reference a b ≡ true
references_tied None None is = refl
references_tied None (Some n) is = absurd (let e : Less ≡ Equal = sym (null_before n) ∙ is in cc)
references_tied (Some n) None is =
    absurd (let e =
    sym (value_cmp_total.antisymm (number n) Null ∙ ap ordering_reverse (null_before n)) ∙ is in
    cc)
references_tied (Some n) (Some m) is = numbers_tied n m (sym (numbers_compare n m) ∙ is)

compare : (a b : Request) → is_lt (by_reference a b) ≡ is_reference_before a.reference b.reference
compare a b =
    ap is_lt (then-Equal (value_cmp (number_or_null a.reference) (number_or_null b.reference)))
    ∙ references_compare a.reference b.reference

abbrev same : Request → Request → Bool
same a b = same_reference a.reference b.reference

tied : (a b : Request) → by_reference a b ≡ Equal → same a b ≡ true
tied a b is =
    references_tied a.reference b.reference
    (sym (then-Equal (value_cmp (number_or_null a.reference) (number_or_null b.reference))) ∙ is)

-- ---- those that pass

kind_is : (s : Service) → bytes_eq (digits_of s) (codes "010") ≡ is_authorization s
kind_is Authorization = refl
kind_is Financial = refl
kind_is Completion = refl
kind_is Reversal = refl
kind_is ReversalAdvice = refl
kind_is Reconciliation = refl
kind_is NetworkManagement = refl

status_is : (s : Status) → ((status_number s == 3) || (status_number s == 8)) ≡ is_approved s
status_is = alike (λ s. (status_number s == 3) || (status_number s == 8)) is_approved refl

none_pass : {X : Type 0} (p : X → Bool) (xs : List X) → ((x : X) → Has xs x → p x ≡ true → ⊥)
    → length (filter p xs) ≤ 1
none_pass p [] none = omega arith
none_pass p (x ∷ xs) none = go (p x) refl (none_pass p xs (λ y h. none y (inr h)))
  where
    go : (b : Bool) → p x ≡ b → length (filter p xs) ≤ 1 →
        length (cond b (x ∷ filter p xs) (filter p xs)) ≤ 1
    go true is rest = absurd (none x (inl refl) is)
    go false is rest = rest

module _ (m : List ℕ) where
  abbrev mine : Request → Bool
  mine row = bytes_eq row.key.merchant m

  abbrev is_open : Request → Bool
  is_open row = is_authorization row.key.service && is_approved row.status

  abbrev passes : Request → Bool
  passes row = mine row && is_open row

  abbrev holds : List Request → List Request
  holds rows = filter is_open (filter mine rows)

  tested : (k : ℕ) (x : Request)
      → picked query.holds_query.filter (Text m ∷ []) (Int (pos k) ∷ request_row x) ≡ passes x
  tested k x =
      rw (
        text_test x.key.merchant m,
        text_test (digits_of x.key.service) (codes "010"),
        either_number_test (status_number x.status) 3 8,
        and_true,
        kind_is x.key.service,
        status_is x.status,
      ) refl

  once : (t : Tables) → HasPast t → (o : Option ℕ) →
      length (filter (λ x. same_reference o x.reference) (holds t.requests)) ≤ 1
  once t past None =
      none_pass (λ x. same_reference None x.reference) (holds t.requests) (λ x here is.
      let opened = has_filtered is_open (filter mine t.requests) x here in
      let among = has_filtered mine t.requests x opened.0 in
      let both = and_parts _ _ opened.1 in
      holds_referred t past x (in_from_has t.requests x among.0) both.0 both.1
      (none_is x.reference is))
    where
      none_is : (r : Option ℕ) → same_reference None r ≡ true → r ≡ None
      none_is None is = refl
      none_is (Some n) is = absurd (true≢false (sym is))
  once t past (Some n) =
      let few = one_reference m n t past in
      let more = fewer (λ x. passes x && is_number n x.reference)
      (λ x. mine x && is_number n x.reference)
      (λ x h. keep (mine x) (is_open x) (is_number n x.reference) h) t.requests in
      let numbered = λ (x : Request). is_number n x.reference in
      let same_list = ap length (ap (filter numbered) (filter_both mine is_open t.requests)
      ∙ filter_both passes numbered t.requests) in
      omega (arith, few, more, same_list)
    where
      keep : (a b c : Bool) → ((a && b) && c) ≡ true → (a && c) ≡ true
      keep true true c h = h
      keep true false c h = absurd (true≢false (sym h))
      keep false b c h = h

  holds_found : (old : State) (t : Tables) (runs : List Running) → HoldsRows old.now t runs →
      HasPast t
      → (rows : List Row) → Shown text.holds_text (Text m ∷ []) old old rows →
      rows ≡ map request_row (holds_at t m)
  holds_found old t runs has past rows shown =
      let ask = asks.holds_asks in
      let it = query.holds_query in
      let all = shows_ordered request_row (book_schema has.schema.0) 6 t.requests old old
      has.schema.1 has.requests
      text.holds_text
      (Text m ∷ []) _ (ask.plain has.schema.0) (ask.unlisted has.schema.0) rows shown it.filter
      it.project passes tested it.order
      it.limit out
      (λ id x. refl) (ask.is has.schema.0) in
      all.3
      ∙ ap (map request_row) (ordered_is by_reference (sorted_total query.holds_query out)
      (λ a b. is_reference_before a.reference b.reference) compare same tied
      (holds t.requests) all.0
      (subst (λ l. IsPermutation l all.0) (sym (filter_both mine is_open t.requests)) all.1) all.2
      (λ a. once t past a.reference))

  -- ---- a row is one request's

  pub holds_among : (t : Tables) (y : Request) → Has (holds_at t m) y → Has t.requests y
  holds_among t y here =
      let among = in_order_has by_reference (sorted_total query.holds_query out)
      (λ a b. is_reference_before a.reference b.reference)
      compare same tied (holds t.requests) y here in
      let opened = has_filtered is_open (filter mine t.requests) y among in
      (has_filtered mine t.requests y opened.0).0

  holds_own : (t : Tables) → AreRecorded t.requests
      → AreOwn (λ row r. length row ≡ 18 → IsRowOf row r) request_row (holds_at t m)
  holds_own t recorded y x here read =
      let it = read refl in
      same_request x y it.0 it.2 (all_has _ t.requests y recorded (holds_among t y here)) (sym it.1)

  pub holds_list : (old : State) (t : Tables) → Holds old.now t → HasPast t →
      ShowsList text.holds_text
      (Text m ∷ []) old (λ row r. length row ≡ 18 → IsRowOf row r) query.holds_query request_row
      (holds_at t m)
  holds_list old t kept past =
      record {
        names = _;
        ask = asks.holds_asks;
        has = kept.rows.schema;
        found = holds_found old t kept.runs kept.rows past;
        own = holds_own t kept.rows.recorded;
      }
