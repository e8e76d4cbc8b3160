-- What the look-up of the version answers, and why it fails.
use Rattle.std.proofs.Common.{◌≤◌, ◌<◌, get_or, ◌≡◌, ◌≢◌, ◌⊎◌, inl, inr, ℕ, Bool, true, List, []}
use Rattle.std.proofs.Common.{◌∷◌, map, filter, length, codes, Result, IfErr}
use Rattle.std.proofs.Common.{Option, None, Some, Ok, Err, refl, sym, ap, subst, ◌∙◌, arith}
use Rattle.std.specs.List.Sorted.{IsPermutation}
use Rattle.std.proofs.lemmas.List.Sorted.{IsPermutation-sym, length_permutation}
use Rattle.sqlite_value.specs.declared.value.Value.TheVariants.{Null}
use Rattle.sqlite_value.specs.Order.{Row, column}
use Rattle.sqlite_trees.specs.Tree.{Trees}
use Rattle.sqlite_schema.specs.declared.command.Command.TheVariants.{Select}
use Rattle.sqlite_typing.specs.Types.{accepts_program}
use Rattle.sqlite_tied.specs.Compute.{everything}
use Rattle.sqlite.specs.declared.error.Error.{Error}
use Rattle.sqlite.specs.declared.error.Error.TheVariants.{SqliteFailure}
use Rattle.sqlite.specs.declared.error.ErrorCode.TheVariants.{OutOfMemory}
use Rattle.sqlite.specs.Effect.{Database}
use Rattle.sqlite.specs.Listing.{understood}
use Rattle.sqlite.specs.State.{State, HasCleanDisk, FailsToQuery, Shown}
use Rattle.sqlite.proofs.Callers.{one_permutation, reads_as}
use Rattle.row_lemmas.specs.Values.{number}
use Rattle.row_lemmas.specs.Queries as query
use Rattle.row_lemmas.proofs.Elements.{length-map}
use Rattle.row_lemmas.proofs.QueriesSucceed.{query_excused}
use Rattle.row_lemmas.proofs.QueryRows.{plain_shown}
use Rattle.acq_core.specs.Tables.{Tables}
use Rattle.acq_sql_rows.specs.Relation.{HoldsOf}
use Rattle.acq_sql_rows.specs.declared.form.Form.{Form}
use Rattle.acq_sql_rows.specs.Schema.{IsBookSchema, book_schema}
use Rattle.acq_sql_reads.specs.Looked.{LooksOnly}
use Rattle.acq_sql_reads.proofs.Failing.{IsAlone}
use Rattle.acq_sql_reads.proofs.TextLemmas.{Asks}
use Rattle.acq_sql_checking.specs.declared.opening_fault.OpeningFault.{OpeningFault}
use Rattle.acq_sql_checking.specs.declared.opening_fault.OpeningFault.TheVariants.{Memory, Store}
use Rattle.acq_sql_checking.specs.declared.opening_fault.OpeningFault.TheVariants.{NotABook}
use Rattle.acq_sql_checking.specs.declared.opening_fault.OpeningFault.TheVariants.{OtherVersion}
use Rattle.acq_sql_checking.specs.Blames.{FailsExcusably, OpeningBlamesStore}
use Rattle.acq_sql_checking.specs.Checked.{version_text, version_query, versions_in, HasVersion}
use Rattle.acq_sql_checking.specs.Checked.{HasBadVersion, HasNoNumber, Judges, JudgesVersion}
use Rattle.acq_sql_checking.specs.Checked.{IsFailure}

pub version_asks : Asks version_text version_query (codes "version" ∷ [])
unfolding understood everything book_schema
version_asks = record {
  is = λ form. refl;
  plain = λ form. (refl, refl);
  unlisted = λ form. refl;
  begins = refl;
}

version_alone : IsAlone version_text 0
unfolding understood everything book_schema
version_alone = record { whole = λ form. refl; given = λ form. refl }

version_typed : (form : Form) → accepts_program (book_schema form) [] version_query [] ≡ true
unfolding book_schema
version_typed form = refl

-- of a book's tables
pub version_fails : {V : Type 0} (old new : State) (res : Result V Error)
    → IsBookSchema old.now.schema
    → (HasCleanDisk new → IfErr res (FailsToQuery version_text [] old new))
    → FailsExcusably old new res
version_fails old new res has failed clean opened free =
    query_excused 0 [] (query.column 1 ∷ []) [] query.no_limit (book_schema has.0) []
    (version_typed has.0) version_text old new (codes "version" ∷ []) res has.1
    (version_asks.is has.0) (version_asks.plain has.0)
    (omega (arith, version_alone.whole has.0)) (sym (version_alone.given has.0))
    (version_asks.unlisted has.0) opened free (failed clean)

abbrev pub cells : Trees → List Row
cells trees = map (λ row. column row 1 ∷ []) (trees 0)

all_pass : {X : Type 0} (xs : List X) → filter (λ x. true) xs ≡ xs
all_pass [] = refl
all_pass (x ∷ xs) = ap (λ l. x ∷ l) (all_pass xs)

pub versions_shown : (old new : State) (rows : List Row) → IsBookSchema old.now.schema
    → Shown version_text [] old new rows → IsPermutation (cells old.now.trees) rows
versions_shown old new rows has shown =
    let answers = reads_as version_text [] old new (book_schema has.0) has.1
    (Select (query.alone version_query) (codes "version" ∷ [])) (version_asks.is has.0)
    (version_asks.plain has.0) (version_asks.unlisted has.0) rows shown in
    subst (λ l. IsPermutation (map (λ row. column row 1 ∷ []) l) rows) (all_pass (old.now.trees 0))
    (plain_shown 0 [] (query.column 1 ∷ []) old.now.trees [] rows (answers.answer Null))

-- ---- from the rows that were read to the version

same_versions : (trees : Trees) →
    map (λ (row : Row). column row 0) (cells trees) ≡ versions_in trees
same_versions trees = go (trees 0)
  where
    go : (rows : List Row)
        → map (λ (row : Row). column row 0) (map (λ row. column row 1 ∷ []) rows)
        ≡ map (λ row. column row 1) rows
    go [] = refl
    go (r ∷ rows) = ap (λ l. column r 1 ∷ l) (go rows)

one_cell : (trees : Trees) (row : Row) → IsPermutation (cells trees) (row ∷ [])
    → cells trees ≡ row ∷ []
one_cell trees row moved =
    one_permutation row (cells trees) (IsPermutation-sym (cells trees) (row ∷ []) moved)

-- the value of the one row
found : (trees : Trees) (row : Row) → IsPermutation (cells trees) (row ∷ [])
    → versions_in trees ≡ column row 0 ∷ []
found trees row moved =
    sym (same_versions trees) ∙ ap (map (λ (r : Row). column r 0)) (one_cell trees row moved)

pub one_version : (trees : Trees) (row : Row) (n : ℕ) → IsPermutation (cells trees) (row ∷ [])
    → column row 0 ≡ number n → HasVersion trees (Some n)
one_version trees row n moved is = found trees row moved ∙ ap (λ v. v ∷ []) is

-- the row has one column
one_column : (trees : Trees) (row : Row) → IsPermutation (cells trees) (row ∷ []) → 0 < length row
one_column trees row moved = go (trees 0) (one_cell trees row moved)
  where
    go : (rows : List Row) → map (λ (r : Row). column r 1 ∷ []) rows ≡ row ∷ [] → 0 < length row
    go [] same = absurd (cc)
    go (r ∷ rows) same =
        let is : column r 1 ∷ [] ≡ row = cc in
        let one = ap length is in omega (arith, one)

memory_or_not : (e : Error)
    → (e ≡ SqliteFailure OutOfMemory) ⊎ (e ≢ SqliteFailure OutOfMemory)
memory_or_not (SqliteFailure OutOfMemory) = inl refl
memory_or_not e = inr (λ is. cc)

-- where it isn't read as a number, it is none, unless memory ran out
pub unread : (trees : Trees) (row : Row) (e : Error) → IsPermutation (cells trees) (row ∷ [])
    → (e ≢ SqliteFailure OutOfMemory → 0 < length row
    → ¬ ((n : ℕ) × (column row 0 ≡ number n)))
    → ¬ HasNoNumber trees → e ≡ SqliteFailure OutOfMemory
unread trees row e moved refused numbered =
    elim (memory_or_not e) [
      | inl memory ↦ memory
      | inr other ↦ absurd (numbered (
        column row 0,
        found trees row moved,
        λ n is. refused other (one_column trees row moved) (n, is),
      ))
    ]

pub no_version : (trees : Trees) (rows : List Row) → IsPermutation (cells trees) rows →
    length rows ≢ 1
    → HasVersion trees None
no_version trees rows moved other one =
    other (length_permutation (cells trees) rows moved
    ∙ length-map (λ (row : Row). column row 1 ∷ []) (trees 0)
    ∙ sym (length-map (λ (row : Row). column row 1) (trees 0)) ∙ one)

pub only_row : (rows : List Row) (row : Row) → 1 ≤ length rows → length rows < 2 →
    row ≡ get_or rows 0 row
    → rows ≡ row ∷ []
only_row [] row some few is = absurd (omega (arith, some))
only_row (r ∷ []) row some few is = ap (λ x. x ∷ []) (sym is)
only_row (r ∷ s ∷ rows) row some few is = absurd (omega (arith, few))

-- ---- the version of a book

book_version : {version : ℕ} (db : Database) (t : Tables) → HoldsOf version db t
    → versions_in db.trees ≡ number version ∷ []
book_version db t holds = ap (map (λ (row : Row). column row 1)) holds.rows.book

pub has_number : {version : ℕ} (db : Database) (t : Tables) → HoldsOf version db t
    → ¬ HasBadVersion db
has_number {version} db t holds (has, (v, one, none)) =
    let row = book_version db t holds in
    let same : v ∷ [] ≡ number version ∷ [] = sym one ∙ row in
    none version (cc)

-- ---- what a check answers of the version that it read

-- what was looked at is as it was, whatever is answered of it
pub looks_still : (old new : State) (accepted : Bool) → LooksOnly old new true
    → LooksOnly old new accepted
looks_still old new accepted looks =
    record {
      same = λ clean is. looks.same clean refl;
      undone = looks.undone;
      settled = looks.settled;
      stop = looks.stop;
    }

module _ (wanted : ℕ) (found : Option ℕ) where
  pub judges : (db : Database) → HasVersion db.trees found
      → (result : Result (Unit {0}) OpeningFault) → IsBookSchema db.schema
      → JudgesVersion wanted found result → Judges wanted db result
  judges db read (Ok x) has is = (has, subst (HasVersion db.trees) is read)
  judges db read (Err NotABook) has is = inr (has, subst (HasVersion db.trees) is read)
  judges db read (Err (OtherVersion n)) has is =
      (has, subst (HasVersion db.trees) is.0 read, is.1)
  judges db read (Err Memory) has is = tt
  judges db read (Err Store) has is = tt

  pub accepts : (db : Database) → HasVersion db.trees found → (t : Tables) → HoldsOf wanted db t
      → (result : Result (Unit {0}) OpeningFault)
      → JudgesVersion wanted found result → IfErr result IsFailure
  accepts db read t holds (Ok x) is = tt
  accepts db read t holds (Err NotABook) is =
      absurd (subst (HasVersion db.trees) is read (ap length (book_version db t holds)))
  accepts db read t holds (Err (OtherVersion n)) is =
      let one : versions_in db.trees ≡ number n ∷ [] = subst (HasVersion db.trees) is.0 read in
      let same : number n ∷ [] ≡ number wanted ∷ [] = sym one ∙ book_version db t holds in
      let equal : n ≡ wanted = cc in
      absurd (is.1 equal)
  accepts db read t holds (Err Memory) is = inl refl
  accepts db read t holds (Err Store) is = inr refl

  -- none of its answers blames the store
  pub blames_none : (result : Result (Unit {0}) OpeningFault) (old new : State)
      → JudgesVersion wanted found result → IfErr result (OpeningBlamesStore old new)
  blames_none (Ok x) old new is = tt
  blames_none (Err NotABook) old new is = λ clean opened free none. absurd (cc)
  blames_none (Err (OtherVersion n)) old new is = λ clean opened free none. absurd (cc)
  blames_none (Err Memory) old new is = absurd is
  blames_none (Err Store) old new is = absurd is
