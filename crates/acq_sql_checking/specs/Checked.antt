-- What a check of a book says of its database.
use Rattle.std.specs.Prelude.{◌≡◌, ◌≢◌, ◌⊎◌, ℕ, List, [], ◌∷◌, map, length}
use Rattle.std.specs.Prelude.{Option, Some, None, Result, Ok, Err}
use Rattle.sqlite_value.specs.declared.value.Value.{Value}
use Rattle.sqlite_value.specs.Order.{column}
use Rattle.sqlite_sql.specs.Query.{Query}
use Rattle.sqlite_trees.specs.Tree.{Trees}
use Rattle.sqlite.specs.Effect.{Database}
use Rattle.row_lemmas.specs.Values.{number}
use Rattle.row_lemmas.specs.Queries as query
use Rattle.acq_sql_rows.specs.Schema.{IsBookSchema}
use Rattle.acq_sql_checking.specs.declared.checking.TheConstants.{VERSION_OF_BOOK}
use Rattle.acq_sql_checking.specs.declared.opening_fault.OpeningFault.{OpeningFault}
use Rattle.acq_sql_checking.specs.declared.opening_fault.OpeningFault.TheVariants.{Memory, Store}
use Rattle.acq_sql_checking.specs.declared.opening_fault.OpeningFault.TheVariants.{NotABook}
use Rattle.acq_sql_checking.specs.declared.opening_fault.OpeningFault.TheVariants.{OtherVersion}

-- ---- the version

abbrev pub version_text : List ℕ
version_text = VERSION_OF_BOOK.now

abbrev pub version_query : Query
version_query = query.plain_query 0 [] (query.column 1 ∷ []) []

-- the versions of the book's rows
abbrev pub versions_in : Trees → List Value
versions_in trees = map (λ row. column row 1) (trees 0)

-- the book has one row, with this version; or it has none, or several
abbrev pub HasVersion : Trees → Option ℕ → Type 0
HasVersion trees None = length (versions_in trees) ≢ 1
HasVersion trees (Some n) = versions_in trees ≡ number n ∷ []

-- the book has one row, with a version that is no number from 0 on
abbrev pub HasNoNumber : Trees → Type 0
HasNoNumber trees = (v : Value) × (versions_in trees ≡ v ∷ []) × ((n : ℕ) → v ≢ number n)

-- the database has the book's tables, and such a version
abbrev pub HasBadVersion : Database → Type 0
HasBadVersion db = IsBookSchema db.schema × HasNoNumber db.trees

-- ---- the answer

-- what each answer says, where a book of this version is wanted
abbrev pub Judges : {T : Type 0} → ℕ → Database → Result T OpeningFault → Type 0
Judges wanted db (Ok x) = IsBookSchema db.schema × HasVersion db.trees (Some wanted)
Judges wanted db (Err NotABook) =
    (¬ IsBookSchema db.schema) ⊎ (IsBookSchema db.schema × HasVersion db.trees None)
Judges wanted db (Err (OtherVersion n)) =
    IsBookSchema db.schema × HasVersion db.trees (Some n) × (n ≢ wanted)
Judges wanted db (Err Memory) = Unit {0}
Judges wanted db (Err Store) = Unit {0}

-- what each answer says of the version of the book's one row, or of none
abbrev pub JudgesVersion : {T : Type 0} → ℕ → Option ℕ → Result T OpeningFault → Type 0
JudgesVersion wanted found (Ok x) = found ≡ Some wanted
JudgesVersion wanted found (Err NotABook) = found ≡ None
JudgesVersion wanted found (Err (OtherVersion n)) = (found ≡ Some n) × (n ≢ wanted)
JudgesVersion wanted found (Err Memory) = ⊥
JudgesVersion wanted found (Err Store) = ⊥

-- a failure of the memory or the store
abbrev pub IsFailure : OpeningFault → Type 0
IsFailure fault = (fault ≡ Memory) ⊎ (fault ≡ Store)
