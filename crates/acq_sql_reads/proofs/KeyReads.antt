-- What a SELECT by a key of its table answers.
use Rattle.std.proofs.Common.{◌≡◌, ◌==◌, ◌&&◌, ℕ, pos, Bool, inl, inr, true, List, [], ◌∷◌, find}
use Rattle.std.proofs.Common.{option_map, filter, length, ◌≤◌, refl, ap, subst, ◌∙◌, arith}
use Rattle.std.specs.Str.{bytes_eq}
use Rattle.std.specs.Option.{option_to_list}
use Rattle.std.proofs.lemmas.Bool.{and_parts}
use Rattle.std.proofs.lemmas.Bool.Decides.{nat_tests}
use Rattle.std.proofs.lemmas.Slice.Eq.{bytes_eq-Decides}
use Rattle.sqlite_value.specs.declared.value.Value.TheVariants.{Int, Text}
use Rattle.sqlite_value.specs.Order.{Row}
use Rattle.sqlite_value.specs.Keys.{first_key}
use Rattle.sqlite_schema.specs.declared.schema.Index.{Index}
use Rattle.sqlite_trees.specs.Tree.{Trees}
use Rattle.sqlite_schema.specs.Rules.{Fits, agree}
use Rattle.sqlite_catalog.specs.Listing.{automatic}
use Rattle.sqlite_rules.specs.Lists.{Has}
use Rattle.sqlite.specs.State.{State, Shown}
use Rattle.sqlite.proofs.Callers.{one_permutation}
use Rattle.row_lemmas.specs.Values.{number}
use Rattle.row_lemmas.proofs.UniqueKeys.{fits_of}
use Rattle.row_lemmas.proofs.ColumnTests.{text_test, number_test, and_true}
use Rattle.row_lemmas.specs.Numbered.{rows_of}
use Rattle.row_lemmas.proofs.CountedRows.{numbered_counted}
use Rattle.row_lemmas.proofs.QueryRows.{picked}
use Rattle.row_lemmas.proofs.ListReads.{one_passes, few_pass_key, shows_one, shows_all}
use Rattle.row_lemmas.proofs.StatementEffects.{bare}
use Rattle.acq_core.specs.declared.merchant.Merchant.{Merchant}
use Rattle.acq_core.specs.declared.terminal.Terminal.{Terminal}
use Rattle.acq_core.specs.Tables.{Tables}
use Rattle.acq_book.specs.Lookups.{merchant_at, has_terminal_at}
use Rattle.acq_sql_rows.specs.declared.form.Form.{Form}
use Rattle.acq_sql_rows.specs.Schema.{book_schema}
use Rattle.acq_sql_rows.specs.Rows.{book_row, merchant_row, terminal_row, running_row, tally_row}
use Rattle.acq_sql_rows.specs.Tallies.{Running, is_for, tally_of}
use Rattle.acq_sql_rows.specs.Relation.{HoldsRows, Holds}
use Rattle.acq_sql_rows.proofs.SameKeys.{bytes_same, number_same}
use Rattle.acq_sql_rows.proofs.TableTurns as at
use Rattle.acq_sql_reads.specs.Looked.{is_any, ShowsTally}
use Rattle.acq_sql_reads.specs.Texts as text
use Rattle.acq_sql_reads.specs.Queries as query
use Rattle.acq_sql_reads.proofs.TextLemmas as asks
use Rattle.acq_sql_reads.proofs.RowReads.{any_found, tally_shown}

bytes_own : (a : List ℕ) → bytes_eq a a ≡ true
bytes_own a = (bytes_eq-Decides a a).1 refl

pub number_own : (a : ℕ) → (a == a) ≡ true
number_own a = grind (arith, nat_tests)

-- ---- the book's row

abbrev limits_row : ℕ × ℕ → Row
limits_row x = book_row x.0 x.1

pub business_found : (old new : State) (t : Tables) (runs : List Running) (rows : List Row) →
    HoldsRows old.now t runs
    → Shown text.business_text [] old new rows → rows ≡ (number t.limit ∷ number t.day ∷ []) ∷ []
business_found old new t runs rows has shown =
    let ask = asks.business_asks in
    one_permutation _ rows
    (shows_all limits_row (book_schema has.schema.0) 0 ((t.limit, t.day) ∷ []) old new has.schema.1
    has.book
    text.business_text [] _
    (ask.plain has.schema.0) (ask.unlisted has.schema.0) rows shown query.business_query.filter
    query.business_query.project
    (λ x. true)
    (λ id x. refl) (λ x. number x.0 ∷ number x.1 ∷ []) (λ id x. refl) (ask.is has.schema.0))

-- ---- merchants

abbrev merchant_key : Index
merchant_key = automatic at.the_merchants 0 (1 ∷ []) 2

merchant_keyed : (form : Form) → Has (book_schema form).tables (bare at.the_merchants)
    × Has (book_schema form).indexes merchant_key
unfolding book_schema
merchant_keyed form = (inr (inl refl), inl refl)

module _ (id : List ℕ) where
  abbrev q : Merchant → Bool
  q x = bytes_eq x.id id

  tested : (k : ℕ) (x : Merchant)
      → picked query.merchant_query.filter (Text id ∷ []) (Int (pos k) ∷ merchant_row x) ≡ q x
  tested k x = rw (text_test x.id id, and_true) refl

  keyed : (a b : ℕ) (x y : Merchant) → q x ≡ true → q y ≡ true
      → agree merchant_key.order merchant_key.columns
      (Int (pos a) ∷ merchant_row x) merchant_key.columns
      (Int (pos b) ∷ merchant_row y) ≡ true
  unfolding first_key
  keyed a b x y h k =
      rw (text_test x.id y.id, and_true, bytes_same x.id id h, bytes_same y.id id k, bytes_own id)
      refl

  pub merchant_found : (old new : State) (t : Tables) (runs : List Running) (rows : List Row)
      → HoldsRows old.now t runs → Shown text.merchant_text (Text id ∷ []) old new rows
      → rows ≡ option_to_list (option_map merchant_row (merchant_at t id))
  merchant_found old new t runs rows has shown =
      let ask = asks.merchant_asks in
      let test = query.merchant_query.filter in
      shows_one merchant_row (book_schema has.schema.0) 1 t.merchants old new has.schema.1
      has.merchants
      text.merchant_text
      (Text id ∷ []) _ (ask.plain has.schema.0) (ask.unlisted has.schema.0) rows shown test
      query.merchant_query.project q tested
      merchant_row
      (λ k x. refl) (ask.is has.schema.0)
      (one_passes merchant_row (book_schema has.schema.0) old.now.trees (bare at.the_merchants)
      merchant_key
      (fits_of (book_schema has.schema.0) old.now.trees has.sound) (merchant_keyed has.schema.0).0
      (merchant_keyed has.schema.0).1 refl t.merchants has.merchants test (Text id ∷ []) q tested
      keyed)

  -- no two merchants have one name
  pub one_merchant : (form : Form) (db : Trees) (xs : List Merchant) → Fits (book_schema form) db →
      db 1 ≡ rows_of merchant_row xs
      → length (filter q xs) ≤ 1
  one_merchant form db xs fits held =
      let test = query.merchant_query.filter in
      let count = numbered_counted merchant_row (picked test (Text id ∷ [])) q xs tested in
      subst (λ n. n ≤ 1) (ap (λ l. length (filter (picked test (Text id ∷ [])) l)) held ∙ count)
      (few_pass_key merchant_row (book_schema form) db (bare at.the_merchants) merchant_key fits
      (merchant_keyed form).0
      (merchant_keyed form).1 refl xs held test (Text id ∷ []) q tested keyed)

-- ---- terminals

abbrev terminal_key : Index
terminal_key = automatic at.the_terminals 0 (1 ∷ 2 ∷ []) 4

terminal_keyed : (form : Form) → Has (book_schema form).tables (bare at.the_terminals)
    × Has (book_schema form).indexes terminal_key
unfolding book_schema
terminal_keyed form = (inr (inr (inl refl)), inr (inl refl))

module _ (merchant id : List ℕ) where
  abbrev is_it : Terminal → Bool
  is_it x = bytes_eq x.merchant merchant && bytes_eq x.id id

  abbrev names : Row
  names = Text merchant ∷ Text id ∷ []

  named : (k : ℕ) (x : Terminal) →
      picked query.two_are names (Int (pos k) ∷ terminal_row x) ≡ is_it x
  named k x = rw (text_test x.merchant merchant, text_test x.id id, and_true) refl

  one_name : (a b : ℕ) (x y : Terminal) → is_it x ≡ true → is_it y ≡ true
      → agree terminal_key.order terminal_key.columns
      (Int (pos a) ∷ terminal_row x) terminal_key.columns
      (Int (pos b) ∷ terminal_row y) ≡ true
  unfolding first_key
  one_name a b x y h k =
      let i = and_parts _ _ h in
      let j = and_parts _ _ k in
      rw (
        text_test x.merchant y.merchant,
        text_test x.id y.id,
        and_true,
        bytes_same x.merchant merchant i.0,
        bytes_same y.merchant merchant j.0,
        bytes_same x.id id i.1,
        bytes_same y.id id j.1,
        bytes_own merchant,
        bytes_own id,
      ) refl

  pub terminal_found : (old new : State) (t : Tables) (runs : List Running) (rows : List Row)
      → HoldsRows old.now t runs → Shown text.terminal_text names old new rows
      → is_any rows ≡ has_terminal_at t merchant id
  terminal_found old new t runs rows has shown =
      let ask = asks.terminal_asks in
      let are = shows_one terminal_row (book_schema has.schema.0) 3 t.terminals old new has.schema.1
      has.terminals
      text.terminal_text
      names _ (ask.plain has.schema.0) (ask.unlisted has.schema.0) rows shown query.two_are
      query.terminal_query.project is_it
      named terminal_row
      (λ k x. refl) (ask.is has.schema.0)
      (one_passes terminal_row (book_schema has.schema.0) old.now.trees (bare at.the_terminals)
      terminal_key
      (fits_of (book_schema has.schema.0) old.now.trees has.sound)
      (terminal_keyed has.schema.0).0 (terminal_keyed has.schema.0).1 refl t.terminals has.terminals
      query.two_are names is_it
      named one_name) in
      ap is_any are ∙ any_found terminal_row is_it t.terminals

  -- no two terminals of a merchant have one name
  pub one_terminal : (form : Form) (db : Trees) (xs : List Terminal) → Fits (book_schema form) db
      → db 3 ≡ rows_of terminal_row xs → length (filter is_it xs) ≤ 1
  one_terminal form db xs fits held =
      let test = query.two_are in
      let count = numbered_counted terminal_row (picked test names) is_it xs named in
      subst (λ n. n ≤ 1) (ap (λ l. length (filter (picked test names) l)) held ∙ count)
      (few_pass_key terminal_row (book_schema form) db (bare at.the_terminals) terminal_key fits
      (terminal_keyed form).0
      (terminal_keyed form).1 refl xs held test names is_it named one_name)

-- ---- the running totals of a merchant's day

abbrev running_key : Index
running_key = automatic at.the_running 0 (1 ∷ 2 ∷ []) 13

running_keyed : (form : Form) → Has (book_schema form).tables (bare at.the_running)
    × Has (book_schema form).indexes running_key
unfolding book_schema
running_keyed form = (
  inr (inr (inr (inr (inr (inr (inr (inl refl))))))),
  inr (inr (inr (inr (inr (inl refl))))),
)

module _ (merchant : List ℕ) (day : ℕ) where
  abbrev of_day : Running → Bool
  of_day = is_for merchant day

  abbrev day_row : Row
  day_row = Text merchant ∷ number day ∷ []

  day_tested : (k : ℕ) (x : Running) →
      picked query.two_are day_row (Int (pos k) ∷ running_row x) ≡ of_day x
  day_tested k x = rw (text_test x.merchant merchant, number_test x.day day, and_true) refl

  one_day : (a b : ℕ) (x y : Running) → of_day x ≡ true → of_day y ≡ true
      → agree running_key.order running_key.columns
      (Int (pos a) ∷ running_row x) running_key.columns
      (Int (pos b) ∷ running_row y) ≡ true
  unfolding first_key
  one_day a b x y h k =
      let i = and_parts _ _ h in
      let j = and_parts _ _ k in
      rw (
        text_test x.merchant y.merchant,
        number_test x.day y.day,
        and_true,
        bytes_same x.merchant merchant i.0,
        bytes_same y.merchant merchant j.0,
        number_same x.day day i.1,
        number_same y.day day j.1,
        bytes_own merchant,
        number_own day,
      ) refl

  pub running_found : (old new : State) (t : Tables) (rows : List Row) → Holds old.now t
      → Shown text.running_text day_row old new rows → ShowsTally (tally_of t merchant day) rows
  running_found old new t rows holds shown =
      let ask = asks.running_asks in
      let has = holds.rows in
      let runs = holds.runs in
      let cells = λ (r : Running). tally_row r.tally in
      let are = shows_one running_row (book_schema has.schema.0) 12 runs old new has.schema.1
      has.running
      text.running_text day_row _
      (ask.plain has.schema.0) (ask.unlisted has.schema.0) rows shown query.two_are
      query.running_query.project of_day day_tested
      cells
      (λ k x. refl) (ask.is has.schema.0)
      (one_passes running_row (book_schema has.schema.0) old.now.trees (bare at.the_running)
      running_key
      (fits_of (book_schema has.schema.0) old.now.trees has.sound) (running_keyed has.schema.0).0
      (running_keyed has.schema.0).1 refl runs has.running query.two_are day_row of_day day_tested
      one_day) in
      tally_shown (find of_day runs) rows (tally_of t merchant day) are (holds.tallied merchant day)
