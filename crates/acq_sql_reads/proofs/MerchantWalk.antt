-- What the walk over merchants answers.
use Rattle.std.proofs.Common.{◌≡◌, true, Ordering, Equal, List, [], ◌∷◌, map, length, refl, sym}
use Rattle.std.proofs.Common.{ap, subst, ◌∙◌}
use Rattle.std.specs.List.Sorted.{IsPermutation}
use Rattle.std.specs.Str.{bytes_eq}
use Rattle.std.specs.Ordering.{is_lt, nat_cmp}
use Rattle.std.specs.Cmp.Lexicographic.{slice_cmp}
use Rattle.sqlite_value.specs.declared.value.Value.TheVariants.{Text}
use Rattle.sqlite_value.specs.Order.{Row, value_cmp}
use Rattle.sqlite_value.proofs.OrderLemmas.{then-Equal, value_cmp-Text}
use Rattle.sqlite_sql.specs.Query.{Output, output_cmp}
use Rattle.sqlite_rules.specs.Lists.{Has}
use Rattle.sqlite.specs.State.{State, Shown}
use Rattle.row_lemmas.proofs.ListReads.{shows_ordered}
use Rattle.acq_core.specs.declared.merchant.Merchant.{Merchant}
use Rattle.acq_core.specs.Tables.{Tables}
use Rattle.acq_book.specs.Lookups.{is_merchant_before, merchants_at}
use Rattle.row_lemmas.proofs.UniqueKeys.{fits_of}
use Rattle.acq_sql_rows.specs.Schema.{book_schema}
use Rattle.acq_sql_rows.specs.Rows.{merchant_row}
use Rattle.acq_sql_rows.specs.Tallies.{Running}
use Rattle.acq_sql_rows.specs.Relation.{Holds, HoldsRows}
use Rattle.acq_sql_reads.proofs.KeyReads.{one_merchant}
use Rattle.acq_sql_reads.specs.WalkTexts as text
use Rattle.acq_sql_reads.specs.WalkQueries as query
use Rattle.acq_sql_reads.proofs.WalkTextLemmas as asks
use Rattle.acq_sql_reads.proofs.Visiting.{AreOwn}
use Rattle.acq_sql_reads.proofs.Walking.{ShowsList}
use Rattle.acq_sql_reads.proofs.Ordering.{filter_all, in_order_has, ordered_is, sorted_total}
use Rattle.acq_sql_reads.proofs.Ordering.{texts_tied}

abbrev out : Merchant → Output
out x = (Text x.id ∷ [], merchant_row x)

abbrev by_name : Merchant → Merchant → Ordering
by_name a b = output_cmp query.merchants_query (out a) (out b)

names_compare : (a b : Merchant) → by_name a b ≡ slice_cmp nat_cmp a.id b.id
names_compare a b = then-Equal (value_cmp (Text a.id) (Text b.id)) ∙ value_cmp-Text a.id b.id

tied : (a b : Merchant) → by_name a b ≡ Equal → bytes_eq b.id a.id ≡ true
tied a b is = texts_tied a.id b.id (sym (names_compare a b) ∙ is)

merchants_found : (old : State) (t : Tables) (runs : List Running) → HoldsRows old.now t runs →
    (rows : List Row)
    → Shown text.merchants_text [] old old rows → rows ≡ map merchant_row (merchants_at t)
merchants_found old t runs has rows shown =
    let ask = asks.merchants_asks in
    let it = query.merchants_query in
    let all = shows_ordered merchant_row (book_schema has.schema.0) 1 t.merchants old old
    has.schema.1 has.merchants
    text.merchants_text
    [] _ (ask.plain has.schema.0) (ask.unlisted has.schema.0) rows shown it.filter it.project
    (λ x. true)
    (λ id x. refl) it.order it.limit out
    (λ id x. refl) (ask.is has.schema.0) in
    all.3
    ∙ ap (map merchant_row) (ordered_is by_name (sorted_total query.merchants_query out)
    is_merchant_before
    (λ a b. ap is_lt (names_compare a b)) (λ a b. bytes_eq b.id a.id) tied t.merchants all.0
    (subst (λ l. IsPermutation l all.0) (filter_all t.merchants) all.1) all.2
    (λ a. one_merchant a.id has.schema.0 old.now.trees t.merchants
    (fits_of (book_schema has.schema.0) old.now.trees has.sound)
    has.merchants))

pub merchants_among : (t : Tables) (y : Merchant) → Has (merchants_at t) y → Has t.merchants y
merchants_among t y here =
    in_order_has by_name (sorted_total query.merchants_query out) is_merchant_before
    (λ a b. ap is_lt (names_compare a b)) (λ a b. bytes_eq b.id a.id) tied t.merchants y here

same_merchant : (a b : Merchant) → merchant_row a ≡ merchant_row b → a ≡ b
same_merchant a b h =
    let e0 : a.id ≡ b.id = cc in
    let e1 : a.currency ≡ b.currency = cc in
    let e2 : a.first_reference ≡ b.first_reference = cc in
    λ i. record { id = e0 i; currency = e1 i; first_reference = e2 i }

merchants_own : (ys : List Merchant) →
    AreOwn (λ row m. length row ≡ 3 → row ≡ merchant_row m) merchant_row ys
merchants_own ys y x here read = same_merchant x y (sym (read refl))

pub merchants_list : (old : State) (t : Tables) → Holds old.now t
    → ShowsList text.merchants_text [] old (λ row m. length row ≡ 3 → row ≡ merchant_row m)
    query.merchants_query merchant_row (merchants_at t)
merchants_list old t holds =
    record {
      names = _;
      ask = asks.merchants_asks;
      has = holds.rows.schema;
      found = merchants_found old t holds.runs holds.rows;
      own = merchants_own (merchants_at t);
    }
