-- What the walk over the requests behind so many rows answers.
use Rattle.std.proofs.Common.{◌≡◌, ◌≤◌, ◌++◌, inl, inr, ℕ, zero, suc, Bool, List, [], ◌∷◌}
use Rattle.std.proofs.Common.{drop, map, length, nat_lt, refl, sym, ap, subst, ◌∙◌, arith}
use Rattle.std.proofs.lemmas.List.{drop_all, length-drop, length-map}
use Rattle.sqlite_value.specs.Order.{Row}
use Rattle.sqlite_rules.specs.Lists.{Has}
use Rattle.sqlite.specs.State.{State, Shown}
use Rattle.row_lemmas.specs.Values.{number}
use Rattle.row_lemmas.proofs.ColumnTests.{and_true}
use Rattle.row_lemmas.proofs.QueryRows.{picked}
use Rattle.acq_core.specs.declared.request.Request.{Request}
use Rattle.acq_core.specs.Tables.{Tables}
use Rattle.acq_book.specs.Lookups.{requests_behind_at}
use Rattle.acq_book.specs.Visits.{Saw, SawAll, SawSome}
use Rattle.acq_sql_rows.specs.Rows.{request_row}
use Rattle.acq_sql_rows.specs.Tallies.{Running}
use Rattle.acq_sql_rows.specs.Relation.{Holds, HoldsRows}
use Rattle.acq_sql_reads.specs.Failing.{AreNumbered}
use Rattle.acq_sql_reads.specs.Recorded.{IsRowOf}
use Rattle.acq_sql_reads.specs.Shown.{AreRead, SawEnough, SawFirst}
use Rattle.acq_sql_reads.specs.WalkTexts as text
use Rattle.acq_sql_reads.specs.WalkQueries as query
use Rattle.acq_sql_reads.proofs.WalkTextLemmas as asks
use Rattle.acq_sql_reads.proofs.AboveTests.{number_above}
use Rattle.acq_sql_reads.proofs.PostingsAbove.{greatest_number}
use Rattle.acq_sql_reads.proofs.RowidOrder.{placed_row, behind_placed}
use Rattle.acq_sql_reads.proofs.RowidWalk.{Placed, found, requests_own}
use Rattle.acq_sql_reads.proofs.Walking.{ShowsList}

module _ (n : ℕ) where
  tested : (p : Placed)
      → picked query.requests_behind_query.filter (number n ∷ []) (placed_row request_row p)
      ≡ nat_lt n p.0
  tested p = rw (number_above p.0 n, and_true) refl

  behind_found : (old : State) (t : Tables) (runs : List Running) → HoldsRows old.now t runs
      → (rows : List Row) → Shown text.requests_behind_text (number n ∷ []) old old rows
      → rows ≡ map request_row (requests_behind_at t n)
  behind_found old t runs has rows shown =
      found text.requests_behind_text (number n ∷ []) query.requests_behind_query.filter
      asks.requests_behind_asks (λ p. nat_lt n p.0) tested old t runs has rows shown
      ∙ behind_placed request_row n n 0 t.requests (omega arith)

has_dropped : {X : Type 0} (n : ℕ) (xs : List X) (x : X) → Has (drop n xs) x → Has xs x
has_dropped zero xs x here = here
has_dropped (suc n) [] x here = here
has_dropped (suc n) (y ∷ xs) x here = inr (has_dropped n xs x here)

pub requests_behind_among : (n : ℕ) (t : Tables) (y : Request) → Has (requests_behind_at t n) y
    → Has t.requests y
requests_behind_among n t = has_dropped n t.requests

pub requests_behind_list : (n : ℕ) (old : State) (t : Tables) → Holds old.now t
    → ShowsList text.requests_behind_text (number n ∷ []) old
    (λ row r. length row ≡ 18 → IsRowOf row r) query.requests_behind_query request_row
    (requests_behind_at t n)
requests_behind_list n old t holds =
    record {
      names = _;
      ask = asks.requests_behind_asks;
      has = holds.rows.schema;
      found = behind_found n old t holds.runs holds.rows;
      own = requests_own t holds.rows.recorded (requests_behind_at t n)
          (requests_behind_among n t);
    }

-- ---- behind more rows than have numbers

-- where a column can keep the number of each, none has a greater one
pub none_behind : (t : Tables) → AreNumbered t.requests
    → requests_behind_at t greatest_number ≡ []
none_behind t few = drop_all greatest_number t.requests (omega (arith, few))

none_further : (t : Tables) (n : ℕ) → greatest_number ≤ n
    → requests_behind_at t greatest_number ≡ [] → requests_behind_at t n ≡ []
none_further t n more none =
    let long = length-drop greatest_number t.requests in
    let same = ap length none in
    drop_all n t.requests (omega (arith, more, long, same))

none_read : (rows : List Row) (xs : List Request) (x : Request)
    → ¬ AreRead (λ row r. ⊥) rows (xs ++ x ∷ [])
none_read [] [] x read = read
none_read [] (y ∷ xs) x read = read
none_read (row ∷ rows) [] x read = read.0
none_read (row ∷ rows) (y ∷ xs) x read = read.0

module _ {V : Type 0} (old : State) (sees : V → Request → Bool → V → Type 0) (v w : V) where
  abbrev greatest : Row
  greatest = number greatest_number ∷ []

  -- so its query shows none, where no row that it shows is read
  pub saw_none_behind : (t : Tables) (n : ℕ) → Holds old.now t → greatest_number ≤ n
      → SawEnough text.requests_behind_text greatest old (λ row r. ⊥) sees v w
      → SawAll sees (requests_behind_at t n) v w
  saw_none_behind t n holds more (inl (rows, xs, shown, read, saw)) = go rows xs shown read saw
    where
      go : (rows : List Row) (xs : List Request)
          → Shown text.requests_behind_text greatest old old rows
          → AreRead (λ row r. ⊥) rows xs → Saw sees xs v w
          → SawAll sees (requests_behind_at t n) v w
      go [] [] shown read saw =
          let shows : [] ≡ map request_row (requests_behind_at t greatest_number) =
          behind_found greatest_number old t holds.runs holds.rows [] shown in
          let long = length-map (requests_behind_at t greatest_number) request_row in
          let none = drop_all 0 (requests_behind_at t greatest_number)
          (let same = ap length shows in omega (arith, long, same)) in
          subst (λ l. SawAll sees l v w) (sym (none_further t n more none)) saw
      go [] (x ∷ xs) shown read saw = absurd read
      go (row ∷ rows) [] shown read saw = absurd read
      go (row ∷ rows) (x ∷ xs) shown read saw = absurd read.0
  saw_none_behind t n holds more (inr (rows, xs, x, first, read, last)) =
      absurd (none_read rows xs x read)

  pub saw_none_first : (ys : List Request)
      → SawFirst text.requests_behind_text greatest old (λ row r. ⊥) sees v w
      → SawSome sees ys v w
  saw_none_first ys (rows, [], first, read, saw) = (0, saw)
  saw_none_first ys ([], x ∷ xs, first, read, saw) = absurd read
  saw_none_first ys (row ∷ rows, x ∷ xs, first, read, saw) = absurd read.0
