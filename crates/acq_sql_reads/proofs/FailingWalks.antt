-- When a walk fails.
use Rattle.std.proofs.Common.{◌≡◌, ◌++◌, inl, inr, ℕ, true, List, [], ◌∷◌}
use Rattle.std.proofs.Common.{length, map, None, Result, IfErr, refl, sym, ap, subst}
use Rattle.std.proofs.Common.{arith, min}
use Rattle.std.specs.List.{AllByRecursion}
use Rattle.std.proofs.lemmas.List.{length-append, length-drop, length-map}
use Rattle.sqlite_value.specs.declared.value.Value.TheVariants.{Text}
use Rattle.sqlite_value.specs.Order.{Row}
use Rattle.sqlite_sql.specs.Query.{Query}
use Rattle.sqlite_sql.specs.Term.{Term}
use Rattle.sqlite_typing.specs.Types.{accepts_program}
use Rattle.sqlite_tied.specs.Compute.{everything}
use Rattle.sqlite_rules.specs.Lists.{Has}
use Rattle.sqlite.specs.declared.error.Error.{Error}
use Rattle.sqlite.specs.Listing.{understood}
use Rattle.sqlite.specs.State.{State}
use Rattle.row_lemmas.specs.Excused.{IsExcused}
use Rattle.row_lemmas.specs.Values.{number}
use Rattle.row_lemmas.proofs.QueriesSucceed.{query_succeeds}
use Rattle.card_no.specs.declared.range.Range.{Range}
use Rattle.card_no.specs.CardNumbers.{is_valid_card}
use Rattle.acq_core.specs.declared.merchant.Merchant.{Merchant}
use Rattle.acq_core.specs.declared.posting.Posting.{Posting}
use Rattle.acq_core.specs.declared.request.Request.{Request}
use Rattle.acq_core.specs.declared.terminal.Terminal.{Terminal}
use Rattle.acq_core.specs.Pasts.{HasPast}
use Rattle.acq_core.specs.Tables.{Tables}
use Rattle.acq_book.specs.Lookups.{merchants_at, terminals_at, ranges_at, holds_at, waiting_at}
use Rattle.acq_book.specs.Lookups.{postings_at, postings_above_at, postings_behind_at}
use Rattle.acq_soundness.specs.Rows.{FitsMerchant, FitsPosting, FitsTerminal}
use Rattle.acq_sql_rows.specs.Rows.{version, merchant_row, terminal_row, posting_row, request_row}
use Rattle.acq_sql_rows.specs.declared.form.Form.{Form}
use Rattle.acq_sql_rows.specs.Schema.{book_schema}
use Rattle.acq_sql_rows.specs.Standing.{IsOpenOver}
use Rattle.acq_sql_reads.specs.Failing.{AreNumbered, CanBeWalked, IsMerchantRow, IsPostingRow}
use Rattle.acq_sql_reads.specs.Failing.{IsTerminalRow, IsRangeRow, IsRequestRow}
use Rattle.acq_sql_reads.specs.Looked.{range_cells}
use Rattle.acq_sql_reads.specs.Shown.{FailsToHandOver, ShowsOnly}
use Rattle.acq_sql_reads.specs.WalkTexts as text
use Rattle.acq_sql_reads.specs.WalkQueries as query
use Rattle.acq_sql_reads.proofs.CardsOfPostings.{cards_valid}
use Rattle.acq_sql_reads.proofs.Failing.{IsAlone, IsNeverRefused, query_fails, request_fits}
use Rattle.acq_sql_reads.proofs.Failing.{range_valid, request_is_read, rows_fit}
use Rattle.acq_sql_reads.proofs.FittingMembers.{fits_each, in_from}
use Rattle.acq_sql_reads.proofs.HoldWalk.{holds_among, holds_list}
use Rattle.acq_sql_reads.proofs.MerchantWalk.{merchants_among, merchants_list}
use Rattle.acq_sql_reads.proofs.PendingWalk.{waiting_among, waiting_list}
use Rattle.acq_sql_reads.proofs.PostingWalk.{postings_among, postings_list}
use Rattle.acq_sql_reads.proofs.PostingWalk.{above_among, above_list, behind_among, behind_list}
use Rattle.acq_sql_reads.proofs.PostingsAbove.{greatest_number}
use Rattle.acq_sql_reads.proofs.RangeWalk.{ranges_list}
use Rattle.acq_sql_reads.proofs.RequestsBehind.{none_behind, requests_behind_among}
use Rattle.acq_sql_reads.proofs.RequestsBehind.{requests_behind_list}
use Rattle.acq_sql_reads.proofs.TerminalWalk.{terminals_among, terminals_list}
use Rattle.acq_sql_reads.proofs.Walking.{ShowsList, front}

-- ---- its query

postings_alone : IsAlone text.postings_text 1
unfolding understood everything book_schema
postings_alone = record { whole = λ form. refl; given = λ form. refl }

above_alone : IsAlone text.above_text 3
unfolding understood everything book_schema
above_alone = record { whole = λ form. refl; given = λ form. refl }

behind_alone : IsAlone text.behind_text 2
unfolding understood everything book_schema
behind_alone = record { whole = λ form. refl; given = λ form. refl }

merchants_alone : IsAlone text.merchants_text 0
unfolding understood everything book_schema
merchants_alone = record { whole = λ form. refl; given = λ form. refl }

terminals_alone : IsAlone text.terminals_text 0
unfolding understood everything book_schema
terminals_alone = record { whole = λ form. refl; given = λ form. refl }

ranges_alone : IsAlone text.ranges_text 0
unfolding understood everything book_schema
ranges_alone = record { whole = λ form. refl; given = λ form. refl }

holds_alone : IsAlone text.holds_text 1
unfolding understood everything book_schema
holds_alone = record { whole = λ form. refl; given = λ form. refl }

waiting_alone : IsAlone text.waiting_text 0
unfolding understood everything book_schema
waiting_alone = record { whole = λ form. refl; given = λ form. refl }

requests_behind_alone : IsAlone text.requests_behind_text 1
unfolding understood everything book_schema
requests_behind_alone = record { whole = λ form. refl; given = λ form. refl }

typed_postings : (form : Form) (day : ℕ)
    → accepts_program (book_schema form) [] query.postings_query (number day ∷ []) ≡ true
unfolding book_schema
typed_postings form day = refl

typed_above : (form : Form) (day : ℕ) (m : List ℕ) (n : ℕ)
    → accepts_program (book_schema form) [] query.above_query
    (number day ∷ Text m ∷ number n ∷ []) ≡ true
unfolding book_schema
typed_above form day m n = refl

typed_behind : (form : Form) (day : ℕ) (m : List ℕ)
    → accepts_program (book_schema form) [] query.behind_query
    (number day ∷ Text (m ++ 0 ∷ []) ∷ []) ≡ true
unfolding book_schema
typed_behind form day m = refl

typed_merchants : (form : Form) → accepts_program (book_schema form) [] query.merchants_query []
    ≡ true
unfolding book_schema
typed_merchants form = refl

typed_terminals : (form : Form) → accepts_program (book_schema form) [] query.terminals_query []
    ≡ true
unfolding book_schema
typed_terminals form = refl

typed_ranges : (form : Form) → accepts_program (book_schema form) [] query.ranges_query [] ≡ true
unfolding book_schema
typed_ranges form = refl

typed_holds : (form : Form) (m : List ℕ)
    → accepts_program (book_schema form) [] query.holds_query (Text m ∷ []) ≡ true
unfolding book_schema
typed_holds form m = refl

typed_waiting : (form : Form) → accepts_program (book_schema form) [] query.waiting_query [] ≡ true
unfolding book_schema
typed_waiting form = refl

typed_requests_behind : (form : Form) (n : ℕ)
    → accepts_program (book_schema form) [] query.requests_behind_query (number n ∷ []) ≡ true
unfolding book_schema
typed_requests_behind form n = refl

-- ---- its rows

merchant_fits_row : (t : Tables) → HasPast t → (y : Merchant) → Has (merchants_at t) y
    → IsMerchantRow (merchant_row y)
merchant_fits_row t past y here = (
  y,
  refl,
  fits_each FitsMerchant t.merchants y (rows_fit t past).merchants
      (merchants_among t y here),
)

terminal_fits_row : (t : Tables) → HasPast t → (y : Terminal) → Has (terminals_at t) y
    → IsTerminalRow (terminal_row y)
terminal_fits_row t past y here = (
  y,
  refl,
  fits_each FitsTerminal t.terminals y (rows_fit t past).terminals
      (terminals_among t y here),
)

range_fits_row : (t : Tables) → HasPast t → (y : Range) → Has (ranges_at t) y
    → IsRangeRow (range_cells y)
range_fits_row t past y here = (y, refl, range_valid t past y here)

posting_fits_row : (t : Tables) → HasPast t → (y : ℕ × Posting) → Has t.postings y
    → IsPostingRow (posting_row y)
posting_fits_row t past y listed = (
  t.limit,
  y,
  refl,
  fits_each (FitsPosting t.limit) t.postings y (rows_fit t past).postings listed,
  fits_each (λ p. is_valid_card p.1.card ≡ true) t.postings y (cards_valid t past) listed,
)

request_fits_row : (t : Tables) → HasPast t → (y : Request) → Has t.requests y
    → IsRequestRow (request_row y)
request_fits_row t past y here =
    request_is_read y (request_fits t past y (in_from t.requests y here))

all_front : (P : Row → Type 0) (rows tail : List Row) → AllByRecursion P (rows ++ tail)
    → AllByRecursion P rows
all_front P [] tail all = tt
all_front P (row ∷ rows) tail all = (all.0, all_front P rows tail all.1)

module _ {T : Type 0} {sql : List ℕ} {params : Row} {old : State} {shows : Row → T → Type 0}
    {q : Query} {cells : T → Row} {ys : List T} (list : ShowsList sql params old shows q cells ys)
    (fits : Row → Type 0) where
  all_cells : (xs : List T) → ((y : T) → Has xs y → fits (cells y))
      → AllByRecursion fits (map cells xs)
  all_cells [] each = tt
  all_cells (x ∷ xs) each = (each x (inl refl), all_cells xs (λ y h. each y (inr h)))

  -- its query shows those rows only
  shows_only : ((y : T) → Has ys y → fits (cells y)) → CanBeWalked ys
      → ShowsOnly sql params old fits
  shows_only each few rows first =
      let tail = front list rows first in
      let all = subst (AllByRecursion fits) (sym tail.1) (all_cells ys each) in
      let long = length-append rows tail.0 in
      let same = ap length tail.1 in
      let many = length-map ys cells in
      (all_front fits rows tail.0 all, omega (arith, few, long, same, many))

-- ---- the walks

module _ {V : Type 0} (old new : State) (res : Result V Error) (t : Tables)
    (at : IsOpenOver version old t) (past : HasPast t) (free : old.step_limit ≡ None) where
  -- where its query shows rows such as a book has
  abbrev Walked : List ℕ → Row → (Row → Type 0) → Type 0
  Walked sql params fits =
      ShowsOnly sql params old fits → IfErr res (FailsToHandOver sql params old new)

  walked : {T : Type 0} (sql : List ℕ) (params : Row) {shows : Row → T → Type 0} {q : Query}
      {cells : T → Row} {ys : List T} (list : ShowsList sql params old shows q cells ys)
      (fits : Row → Type 0) → IsAlone sql (length params) → IsNeverRefused q params
      → ((y : T) → Has ys y → fits (cells y)) → CanBeWalked ys
      → Walked sql params fits → IfErr res (IsExcused old new)
  walked sql params {q = q} list fits lone succeeds each few failed =
      query_fails old new res t at free sql params q list.names list.ask lone succeeds
      (failed (shows_only list fits each few))

  -- it hands over postings that pass a test
  walked_postings : (sql : List ℕ) (params : Row) (test : List Term)
      {shows : Row → ℕ × Posting → Type 0} {ys : List (ℕ × Posting)}
      → ShowsList sql params old shows (query.query_of_postings test) posting_row ys
      → IsAlone sql (length params)
      → ((form : Form)
      → accepts_program (book_schema form) [] (query.query_of_postings test) params ≡ true)
      → ((y : ℕ × Posting) → Has ys y → Has t.postings y) → CanBeWalked ys
      → Walked sql params IsPostingRow → IfErr res (IsExcused old new)
  walked_postings sql params test list lone typed among =
      let it = query.query_of_postings test in
      walked sql params list IsPostingRow lone
      (λ db e has. query_succeeds 8 test it.project it.order it.limit (book_schema has.0) params
      (typed has.0) db e has.1)
      (λ y here. posting_fits_row t past y (among y here))

  pub postings_excused : (day : ℕ) → CanBeWalked (postings_at t day)
      → Walked text.postings_text (number day ∷ []) IsPostingRow → IfErr res (IsExcused old new)
  postings_excused day =
      walked_postings text.postings_text (number day ∷ []) query.postings_query.filter
      (postings_list old t day at.holds past) postings_alone (λ form. typed_postings form day)
      (postings_among day t)

  pub above_excused : (m : List ℕ) (day n : ℕ) → CanBeWalked (postings_above_at t m day n)
      → Walked text.above_text (number day ∷ Text m ∷ number (min n greatest_number) ∷ [])
      IsPostingRow → IfErr res (IsExcused old new)
  above_excused m day n =
      let top = min n greatest_number in
      walked_postings text.above_text (number day ∷ Text m ∷ number top ∷ [])
      query.above_query.filter (above_list old t m day n at.holds past) above_alone
      (λ form. typed_above form day m top) (above_among m day n t)

  pub behind_excused : (m : List ℕ) (day : ℕ) → CanBeWalked (postings_behind_at t m day)
      → Walked text.behind_text (number day ∷ Text (m ++ 0 ∷ []) ∷ []) IsPostingRow
      → IfErr res (IsExcused old new)
  behind_excused m day =
      walked_postings text.behind_text (number day ∷ Text (m ++ 0 ∷ []) ∷ [])
      query.behind_query.filter
      (behind_list m day old t at.holds past) behind_alone (λ form. typed_behind form day m)
      (behind_among m day t)

  pub merchants_excused : CanBeWalked (merchants_at t)
      → Walked text.merchants_text [] IsMerchantRow → IfErr res (IsExcused old new)
  merchants_excused =
      walked text.merchants_text [] (merchants_list old t at.holds) IsMerchantRow
      merchants_alone (λ db e has. query_succeeds 1 query.merchants_query.filter
      query.merchants_query.project query.merchants_query.order
      query.merchants_query.limit (book_schema has.0) [] (typed_merchants has.0) db e has.1)
      (merchant_fits_row t past)

  pub terminals_excused : CanBeWalked (terminals_at t)
      → Walked text.terminals_text [] IsTerminalRow → IfErr res (IsExcused old new)
  terminals_excused =
      walked text.terminals_text [] (terminals_list old t at.holds) IsTerminalRow
      terminals_alone (λ db e has. query_succeeds 3 query.terminals_query.filter
      query.terminals_query.project query.terminals_query.order
      query.terminals_query.limit (book_schema has.0) [] (typed_terminals has.0) db e has.1)
      (terminal_fits_row t past)

  pub ranges_excused : CanBeWalked (ranges_at t)
      → Walked text.ranges_text [] IsRangeRow → IfErr res (IsExcused old new)
  ranges_excused =
      walked text.ranges_text [] (ranges_list old t at.holds) IsRangeRow
      ranges_alone (λ db e has. query_succeeds 5 query.ranges_query.filter
      query.ranges_query.project query.ranges_query.order
      query.ranges_query.limit (book_schema has.0) [] (typed_ranges has.0) db e has.1)
      (range_fits_row t past)

  pub holds_excused : (m : List ℕ) → CanBeWalked (holds_at t m)
      → Walked text.holds_text (Text m ∷ []) IsRequestRow → IfErr res (IsExcused old new)
  holds_excused m =
      walked text.holds_text (Text m ∷ []) (holds_list m old t at.holds past) IsRequestRow
      holds_alone (λ db e has. query_succeeds 6 query.holds_query.filter query.holds_query.project
      query.holds_query.order
      query.holds_query.limit (book_schema has.0) (Text m ∷ []) (typed_holds has.0 m) db e has.1)
      (λ y here. request_fits_row t past y (holds_among m t y here))

  -- it hands over requests that pass a test, by rowid
  walked_requests : (sql : List ℕ) (params : Row) (test : List Term)
      {shows : Row → Request → Type 0} {ys : List Request}
      → ShowsList sql params old shows (query.query_of_requests test) request_row ys
      → (fits : Row → Type 0) → IsAlone sql (length params)
      → ((form : Form)
      → accepts_program (book_schema form) [] (query.query_of_requests test) params ≡ true)
      → ((y : Request) → Has ys y → fits (request_row y)) → CanBeWalked ys
      → Walked sql params fits → IfErr res (IsExcused old new)
  walked_requests sql params test list fits lone typed =
      let it = query.query_of_requests test in
      walked sql params list fits lone
      (λ db e has. query_succeeds 6 test it.project it.order it.limit (book_schema has.0) params
      (typed has.0) db e has.1)

  pub waiting_excused : CanBeWalked (waiting_at t)
      → Walked text.waiting_text [] IsRequestRow → IfErr res (IsExcused old new)
  waiting_excused =
      walked_requests text.waiting_text [] query.waiting_query.filter
      (waiting_list old t at.holds) IsRequestRow waiting_alone typed_waiting
      (λ y here. request_fits_row t past y (waiting_among t y here))

  pub requests_behind_excused : (n : ℕ) → AreNumbered t.requests
      → Walked text.requests_behind_text (number n ∷ []) IsRequestRow
      → IfErr res (IsExcused old new)
  requests_behind_excused n few =
      walked_requests text.requests_behind_text (number n ∷ []) query.requests_behind_query.filter
      (requests_behind_list n old t at.holds) IsRequestRow requests_behind_alone
      (λ form. typed_requests_behind form n)
      (λ y here. request_fits_row t past y (requests_behind_among n t y here))
      (let some = length-drop n t.requests in omega (arith, few, some))

  -- behind as many rows as a column can number there are none
  pub none_behind_excused : AreNumbered t.requests
      → Walked text.requests_behind_text (number greatest_number ∷ []) (λ row. ⊥)
      → IfErr res (IsExcused old new)
  none_behind_excused few =
      let none = none_behind t few in
      walked_requests text.requests_behind_text (number greatest_number ∷ [])
      query.requests_behind_query.filter (requests_behind_list greatest_number old t at.holds)
      (λ row. ⊥) requests_behind_alone (λ form. typed_requests_behind form greatest_number)
      (λ y here. subst (λ l. Has l y) none here)
      (subst CanBeWalked (sym none) (omega arith))
