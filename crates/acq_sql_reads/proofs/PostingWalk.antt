-- What the walks over the postings of a day answer.
use Rattle.std.proofs.Common.{◌++◌}
use Rattle.std.proofs.Common.{◌≡◌, ◌&&◌, ◌==◌, ◌≤◌, Bool, true, false, ℕ, pos, Ordering}
use Rattle.std.proofs.Common.{Equal, List}
use Rattle.std.proofs.Common.{[]}
use Rattle.std.proofs.Common.{◌∷◌, map, filter, length, refl, sym, ap, ap₂, subst, ◌∙◌, min, arith}
use Rattle.std.proofs.Common.{nat_lt, true≢false}
use Rattle.std.specs.Str.{bytes_eq}
use Rattle.std.specs.Ordering.{is_lt, nat_cmp, ordering_then}
use Rattle.std.specs.Cmp.Lexicographic.{slice_cmp}
use Rattle.std.proofs.lemmas.Bool.{and_from, and_parts}
use Rattle.sqlite_value.specs.declared.value.Value.TheVariants.{Int, Text}
use Rattle.sqlite_value.specs.Order.{Row, value_cmp}
use Rattle.sqlite_value.proofs.OrderLemmas.{then-Equal, value_cmp-Text}
use Rattle.sqlite_sql.specs.Query.{Output, output_cmp}
use Rattle.sqlite_sql.specs.Term.{Term}
use Rattle.sqlite_rules.specs.Lists.{Has}
use Rattle.sqlite_rules.proofs.ListLemmas.{has_filtered}
use Rattle.sqlite.specs.State.{State, Shown}
use Rattle.row_lemmas.specs.Values.{number}
use Rattle.row_lemmas.proofs.ColumnTests.{text_test, number_test, and_true}
use Rattle.row_lemmas.proofs.ListReads.{shows_ordered}
use Rattle.row_lemmas.proofs.QueryRows.{picked}
use Rattle.acq_core.specs.declared.posting.Posting.{Posting}
use Rattle.acq_core.specs.Pasts.{HasPast}
use Rattle.acq_core.specs.Tables.{Tables}
use Rattle.acq_book.specs.Lookups.{is_posting_before, postings_at, postings_above_at}
use Rattle.acq_book.specs.Lookups.{postings_behind_at}
use Rattle.acq_book.specs.Order.{in_order}
use Rattle.acq_sql_rows.specs.Schema.{book_schema}
use Rattle.acq_sql_rows.specs.Rows.{posting_row, leg_number}
use Rattle.acq_sql_rows.specs.Tallies.{Running}
use Rattle.acq_sql_rows.specs.Relation.{Holds, HoldsRows}
use Rattle.acq_sql_reads.proofs.AboveTests.{number_above, text_behind}
use Rattle.acq_sql_reads.proofs.PostingNumbers.{postings_on, one_numbered}
use Rattle.acq_sql_reads.proofs.PostingsAbove.{above_greatest, greatest_number}
use Rattle.acq_sql_reads.proofs.RequestRows.{leg_same}
use Rattle.acq_sql_reads.specs.WalkTexts as text
use Rattle.acq_sql_reads.specs.WalkQueries as query
use Rattle.acq_sql_reads.proofs.WalkTextLemmas as asks
use Rattle.acq_sql_reads.proofs.TextLemmas.{Asks}
use Rattle.acq_sql_reads.proofs.Visiting.{AreOwn}
use Rattle.acq_sql_reads.proofs.Walking.{ShowsList}
use Rattle.acq_sql_reads.proofs.Ordering.{sorted_total, ordered_is, filter_both, numbers_compare}
use Rattle.acq_sql_reads.proofs.Ordering.{fewer, in_order_has, numbers_tied, texts_tied, both_tied}

abbrev Numbered : Type 0
Numbered = ℕ × Posting

-- ---- by merchant, and of one merchant by number

abbrev out : Numbered → Output
out x = (Text x.1.merchant ∷ number x.0 ∷ [], posting_row x)

abbrev by_number : Numbered → Numbered → Ordering
by_number a b = output_cmp query.postings_query (out a) (out b)

postings_compare : (a b : Numbered)
    → by_number a b ≡ ordering_then (slice_cmp nat_cmp a.1.merchant b.1.merchant) (nat_cmp a.0 b.0)
postings_compare a b =
    ap₂ ordering_then (value_cmp-Text a.1.merchant b.1.merchant)
    (then-Equal (value_cmp (number a.0) (number b.0)) ∙ numbers_compare a.0 b.0)

abbrev same_number : Numbered → Numbered → Bool
same_number a b = bytes_eq b.1.merchant a.1.merchant && (b.0 == a.0)

tied : (a b : Numbered) → by_number a b ≡ Equal → same_number a b ≡ true
tied a b is =
    let parts = both_tied _ _ (sym (postings_compare a b) ∙ is) in
    and_from (bytes_eq b.1.merchant a.1.merchant) (b.0 == a.0)
    (texts_tied a.1.merchant b.1.merchant parts.0) (numbers_tied a.0 b.0 parts.1)

-- ---- one at most has a number

day_first : (a b c : Bool) → ((a && b) && c) ≡ (b && (a && c))
day_first true true c = refl
day_first true false c = refl
day_first false true c = refl
day_first false false c = refl

module _ (day : ℕ) where
  abbrev on_day : Numbered → Bool
  on_day row = row.1.day == day

  module _ (a : Numbered) where
    same_rows : (rows : List Numbered)
        → filter (λ (row : Numbered). row.0 == a.0) (postings_on a.1.merchant day rows)
        ≡ filter (same_number a) (filter on_day rows)
    same_rows rows =
        filter_both (λ (row : Numbered). bytes_eq row.1.merchant a.1.merchant && (row.1.day == day))
        (λ (row : Numbered). row.0 == a.0) rows
        ∙ (λ i. filter (λ (row : Numbered). day_first (bytes_eq row.1.merchant a.1.merchant)
        (row.1.day == day) (row.0 == a.0) i) rows)
        ∙ sym (filter_both on_day (same_number a) rows)

    -- a merchant's postings of a day are numbered
    one_posting : (t : Tables) → HasPast t
        → length (filter (same_number a) (filter on_day t.postings)) ≤ 1
    one_posting t past =
        subst (λ l. length l ≤ 1) (same_rows t.postings)
        (one_numbered t past a.1.merchant day a.0)

-- ---- a row is one posting's

same_posting : (a b : Numbered) → posting_row a ≡ posting_row b → a ≡ b
same_posting a b h =
    let e0 : a.1.merchant ≡ b.1.merchant = cc in
    let e1 : a.1.day ≡ b.1.day = cc in
    let e2 : a.0 ≡ b.0 = cc in
    let legs : leg_number a.1.leg ≡ leg_number b.1.leg = cc in
    let e3 = leg_same a.1.leg b.1.leg legs in
    let e4 : a.1.amount ≡ b.1.amount = cc in
    let e5 : a.1.reference ≡ b.1.reference = cc in
    let e6 : a.1.card ≡ b.1.card = cc in
    let e7 : a.1.terminal ≡ b.1.terminal = cc in
    let e8 : a.1.trace ≡ b.1.trace = cc in
    λ i. (
      e2 i,
      record {
        merchant = e0 i;
        day = e1 i;
        leg = e3 i;
        amount = e4 i;
        reference = e5 i;
        card = e6 i;
        terminal = e7 i;
        trace = e8 i;
      },
    )

postings_own : (ys : List Numbered) →
    AreOwn (λ row p. length row ≡ 9 → row ≡ posting_row p) posting_row ys
postings_own ys y x here read = same_posting x y (sym (read refl))

-- ---- those of a day that pass a test

same_too : (a b c : Bool) → (a ≡ true → b ≡ true) → (a && c) ≡ true → (b && c) ≡ true
same_too true b c over h = and_from b c (over refl) h
same_too false b c over h = absurd (true≢false (sym h))

abbrev passing : (Numbered → Bool) → Tables → List Numbered
passing passes t = in_order is_posting_before (filter passes t.postings)

passing_among : (passes : Numbered → Bool) (t : Tables) (y : Numbered) → Has (passing passes t) y
    → Has t.postings y
passing_among passes t y here =
    let among = in_order_has by_number (sorted_total query.postings_query out) is_posting_before
    (λ a b. ap is_lt (postings_compare a b)) same_number tied (filter passes t.postings) y here in
    (has_filtered passes t.postings y among).0

module _ (sql : List ℕ) (params : Row) (test : List Term)
    (ask : Asks sql (query.query_of_postings test) asks.columns_of_postings)
    (day : ℕ) (passes : Numbered → Bool)
    (narrower : (x : Numbered) → passes x ≡ true → on_day day x ≡ true)
    (tested : (k : ℕ) (x : Numbered)
    → picked test params (Int (pos k) ∷ posting_row x) ≡ passes x)
    (old : State) (t : Tables) (past : HasPast t) where
  once : (a : Numbered) → length (filter (same_number a) (filter passes t.postings)) ≤ 1
  once a =
      let few = one_posting day a t past in
      let more = fewer (λ x. passes x && same_number a x) (λ x. on_day day x && same_number a x)
      (λ x. same_too (passes x) (on_day day x) (same_number a x) (narrower x)) t.postings in
      let some = ap length (filter_both passes (same_number a) t.postings) in
      let all = ap length (filter_both (on_day day) (same_number a) t.postings) in
      omega (arith, few, more, some, all)

  found : (runs : List Running) → HoldsRows old.now t runs → (rows : List Row)
      → Shown sql params old old rows → rows ≡ map posting_row (passing passes t)
  found runs has rows shown =
      let it = query.query_of_postings test in
      let all = shows_ordered posting_row (book_schema has.schema.0) 8 t.postings old old
      has.schema.1 has.postings
      sql params _ (ask.plain has.schema.0) (ask.unlisted has.schema.0) rows shown
      test it.project passes tested it.order
      it.limit out (λ id x. refl) (ask.is has.schema.0) in
      all.3
      ∙ ap (map posting_row)
      (ordered_is by_number (sorted_total query.postings_query out) is_posting_before
      (λ a b. ap is_lt (postings_compare a b)) same_number tied (filter passes t.postings) all.0
      all.1 all.2 once)

  passing_list : Holds old.now t
      → ShowsList sql params old (λ row p. length row ≡ 9 → row ≡ posting_row p)
      (query.query_of_postings test) posting_row (passing passes t)
  passing_list holds =
      record {
        names = asks.columns_of_postings;
        ask = ask;
        has = holds.rows.schema;
        found = found holds.runs holds.rows;
        own = postings_own (passing passes t);
      }

-- ---- all of the day

module _ (day : ℕ) where
  pub postings_among : (t : Tables) (y : Numbered) → Has (postings_at t day) y
      → Has t.postings y
  postings_among = passing_among (on_day day)

  tested_day : (k : ℕ) (x : Numbered)
      → picked query.postings_query.filter (number day ∷ []) (Int (pos k) ∷ posting_row x)
      ≡ on_day day x
  tested_day k x = rw (number_test x.1.day day, and_true) refl

pub postings_list : (old : State) (t : Tables) (day : ℕ) → Holds old.now t → HasPast t
    → ShowsList text.postings_text
    (number day ∷ []) old (λ row p. length row ≡ 9 → row ≡ posting_row p) query.postings_query
    posting_row (postings_at t day)
postings_list old t day holds past =
    passing_list text.postings_text (number day ∷ []) query.postings_query.filter
    asks.postings_asks day (on_day day) (λ x h. h) (tested_day day) old t past holds

-- ---- a merchant's with numbers above one

merchant_first : (a b c : Bool) → (a && (b && c)) ≡ (b && a && c)
merchant_first true true c = refl
merchant_first true false c = refl
merchant_first false true c = refl
merchant_first false false c = refl

second : (a b c : Bool) → (a && b && c) ≡ true → b ≡ true
second true true c h = refl
second true false c h = absurd (true≢false (sym h))
second false b c h = absurd (true≢false (sym h))

module _ (m : List ℕ) (day n : ℕ) where
  abbrev is_numbered_above : Numbered → Bool
  is_numbered_above row =
      bytes_eq row.1.merchant m && (row.1.day == day) && nat_lt n row.0

  pub above_among : (t : Tables) (y : Numbered) → Has (postings_above_at t m day n) y
      → Has t.postings y
  above_among = passing_among is_numbered_above

  abbrev above_row : Row
  above_row = number day ∷ Text m ∷ number n ∷ []

  tested_above : (k : ℕ) (x : Numbered)
      → picked query.above_query.filter above_row (Int (pos k) ∷ posting_row x)
      ≡ is_numbered_above x
  tested_above k x =
      rw (number_test x.1.day day, text_test x.1.merchant m, number_above x.0 n, and_true)
      (merchant_first (x.1.day == day) (bytes_eq x.1.merchant m) (nat_lt n x.0))

  numbered_list : (old : State) (t : Tables) → Holds old.now t → HasPast t
      → ShowsList text.above_text above_row old (λ row p. length row ≡ 9 → row ≡ posting_row p)
      query.above_query posting_row (postings_above_at t m day n)
  numbered_list old t holds past =
      passing_list text.above_text above_row query.above_query.filter asks.above_asks day
      is_numbered_above
      (λ x. second (bytes_eq x.1.merchant m) (x.1.day == day) (nat_lt n x.0)) tested_above
      old t past holds

-- a number above the greatest that a column keeps has none above it, as the greatest has
pub above_list : (old : State) (t : Tables) (m : List ℕ) (day n : ℕ) → Holds old.now t
    → HasPast t → ShowsList text.above_text (above_row m day (min n greatest_number)) old
    (λ row p. length row ≡ 9 → row ≡ posting_row p) query.above_query posting_row
    (postings_above_at t m day n)
above_list old t m day n holds past =
    subst (ShowsList text.above_text (above_row m day (min n greatest_number)) old
    (λ row p. length row ≡ 9 → row ≡ posting_row p) query.above_query posting_row)
    (above_greatest t past m day n)
    (numbered_list m day (min n greatest_number) old t holds past)

-- ---- those of the merchants behind one

module _ (m : List ℕ) (day : ℕ) where
  abbrev is_behind : Numbered → Bool
  is_behind row = (row.1.day == day) && is_lt (slice_cmp nat_cmp m row.1.merchant)

  pub behind_among : (t : Tables) (y : Numbered) → Has (postings_behind_at t m day) y
      → Has t.postings y
  behind_among = passing_among is_behind

  abbrev behind_row : Row
  behind_row = number day ∷ Text (m ++ 0 ∷ []) ∷ []

  tested_behind : (k : ℕ) (x : Numbered)
      → picked query.behind_query.filter behind_row (Int (pos k) ∷ posting_row x) ≡ is_behind x
  tested_behind k x = rw (number_test x.1.day day, text_behind x.1.merchant m, and_true) refl

  pub behind_list : (old : State) (t : Tables) → Holds old.now t → HasPast t
      → ShowsList text.behind_text behind_row old (λ row p. length row ≡ 9 → row ≡ posting_row p)
      query.behind_query posting_row (postings_behind_at t m day)
  behind_list old t holds past =
      passing_list text.behind_text behind_row query.behind_query.filter asks.behind_asks day
      is_behind
      (λ x h. (and_parts (x.1.day == day) _ h).0) tested_behind old t past holds
