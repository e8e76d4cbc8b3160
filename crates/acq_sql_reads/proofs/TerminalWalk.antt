-- What the walk over terminals answers.
use Rattle.std.proofs.Common.{◌≡◌, ◌&&◌, true, Bool, Ordering, Equal, List, [], ◌∷◌, map, length}
use Rattle.std.proofs.Common.{refl, sym, ap, ap₂, subst, ◌∙◌}
use Rattle.std.specs.List.Sorted.{IsPermutation}
use Rattle.std.specs.Str.{bytes_eq}
use Rattle.std.specs.Ordering.{is_lt, nat_cmp, ordering_then}
use Rattle.std.specs.Cmp.Lexicographic.{slice_cmp}
use Rattle.std.proofs.lemmas.Bool.{and_from}
use Rattle.sqlite_value.specs.declared.value.Value.TheVariants.{Text}
use Rattle.sqlite_value.specs.Order.{Row, value_cmp}
use Rattle.sqlite_value.proofs.OrderLemmas.{then-Equal, value_cmp-Text}
use Rattle.sqlite_sql.specs.Query.{Output, output_cmp}
use Rattle.sqlite_rules.specs.Lists.{Has}
use Rattle.sqlite.specs.State.{State, Shown}
use Rattle.row_lemmas.proofs.ListReads.{shows_ordered}
use Rattle.row_lemmas.proofs.UniqueKeys.{fits_of}
use Rattle.acq_core.specs.declared.terminal.Terminal.{Terminal}
use Rattle.acq_core.specs.Tables.{Tables}
use Rattle.acq_book.specs.Lookups.{is_terminal_before, terminals_at}
use Rattle.acq_sql_rows.specs.Schema.{book_schema}
use Rattle.acq_sql_rows.specs.Rows.{terminal_row}
use Rattle.acq_sql_rows.specs.Tallies.{Running}
use Rattle.acq_sql_rows.specs.Relation.{Holds, HoldsRows}
use Rattle.acq_sql_reads.specs.WalkTexts as text
use Rattle.acq_sql_reads.specs.WalkQueries as query
use Rattle.acq_sql_reads.proofs.KeyReads.{one_terminal}
use Rattle.acq_sql_reads.proofs.Ordering.{both_tied, filter_all, in_order_has, ordered_is}
use Rattle.acq_sql_reads.proofs.Ordering.{sorted_total, texts_tied}
use Rattle.acq_sql_reads.proofs.Visiting.{AreOwn}
use Rattle.acq_sql_reads.proofs.WalkTextLemmas as asks
use Rattle.acq_sql_reads.proofs.Walking.{ShowsList}

-- ---- by merchant, and of one merchant by name

abbrev out : Terminal → Output
out x = (Text x.merchant ∷ Text x.id ∷ [], terminal_row x)

abbrev by_name : Terminal → Terminal → Ordering
by_name a b = output_cmp query.terminals_query (out a) (out b)

names_compare : (a b : Terminal)
    → by_name a b
    ≡ ordering_then (slice_cmp nat_cmp a.merchant b.merchant) (slice_cmp nat_cmp a.id b.id)
names_compare a b =
    ap₂ ordering_then (value_cmp-Text a.merchant b.merchant)
    (then-Equal (value_cmp (Text a.id) (Text b.id)) ∙ value_cmp-Text a.id b.id)

abbrev same_name : Terminal → Terminal → Bool
same_name a b = bytes_eq b.merchant a.merchant && bytes_eq b.id a.id

tied : (a b : Terminal) → by_name a b ≡ Equal → same_name a b ≡ true
tied a b is =
    let parts = both_tied _ _ (sym (names_compare a b) ∙ is) in
    and_from (bytes_eq b.merchant a.merchant) (bytes_eq b.id a.id)
    (texts_tied a.merchant b.merchant parts.0) (texts_tied a.id b.id parts.1)

terminals_found : (old : State) (t : Tables) (runs : List Running) → HoldsRows old.now t runs →
    (rows : List Row)
    → Shown text.terminals_text [] old old rows → rows ≡ map terminal_row (terminals_at t)
terminals_found old t runs has rows shown =
    let ask = asks.terminals_asks in
    let it = query.terminals_query in
    let all = shows_ordered terminal_row (book_schema has.schema.0) 3 t.terminals old old
    has.schema.1 has.terminals
    text.terminals_text
    [] _ (ask.plain has.schema.0) (ask.unlisted has.schema.0) rows shown it.filter it.project
    (λ x. true)
    (λ id x. refl) it.order it.limit out
    (λ id x. refl) (ask.is has.schema.0) in
    all.3
    ∙ ap (map terminal_row) (ordered_is by_name (sorted_total query.terminals_query out)
    is_terminal_before
    (λ a b. ap is_lt (names_compare a b)) same_name tied t.terminals all.0
    (subst (λ l. IsPermutation l all.0) (filter_all t.terminals) all.1) all.2
    (λ a. one_terminal a.merchant a.id has.schema.0 old.now.trees t.terminals
    (fits_of (book_schema has.schema.0) old.now.trees has.sound)
    has.terminals))

pub terminals_among : (t : Tables) (y : Terminal) → Has (terminals_at t) y → Has t.terminals y
terminals_among t y here =
    in_order_has by_name (sorted_total query.terminals_query out) is_terminal_before
    (λ a b. ap is_lt (names_compare a b)) same_name tied t.terminals y here

-- ---- a row is one terminal's

same_terminal : (a b : Terminal) → terminal_row a ≡ terminal_row b → a ≡ b
same_terminal a b h =
    let e0 : a.merchant ≡ b.merchant = cc in
    let e1 : a.id ≡ b.id = cc in
    λ i. record { merchant = e0 i; id = e1 i }

terminals_own : (ys : List Terminal) →
    AreOwn (λ row x. length row ≡ 2 → row ≡ terminal_row x) terminal_row ys
terminals_own ys y x here read = same_terminal x y (sym (read refl))

pub terminals_list : (old : State) (t : Tables) → Holds old.now t
    → ShowsList text.terminals_text [] old (λ row x. length row ≡ 2 → row ≡ terminal_row x)
    query.terminals_query terminal_row (terminals_at t)
terminals_list old t holds =
    record {
      names = _;
      ask = asks.terminals_asks;
      has = holds.rows.schema;
      found = terminals_found old t holds.runs holds.rows;
      own = terminals_own (terminals_at t);
    }
