-- What the rows of a query made of a visitor. `shows row x` says that the row was read as x, and
-- `sees v x more w` that x made the visitor w of v, and whether it wanted more.
use Rattle.std.specs.Prelude.{◌≡◌, ◌⊎◌, ◌<◌, ◌-◌, ◌^◌, ℕ, Bool, false, List, [], ◌∷◌, ◌++◌, length}
use Rattle.std.specs.Prelude.{IsTrue, ⊤}
use Rattle.std.specs.List.{AllByRecursion}
use Rattle.sqlite_value.specs.Order.{Row}
use Rattle.sqlite_sql.specs.Aggregate.{count}
use Rattle.sqlite.specs.declared.error.ErrorCode.TheVariants as code
use Rattle.sqlite.specs.declared.error.Error.{Error}
use Rattle.sqlite.specs.declared.error.Error.TheVariants.{SqliteFailure}
use Rattle.sqlite.specs.State.{State, Shown, Begins, FailsToQuery}
use Rattle.acq_book.specs.Visits.{Saw}

-- each row was read as the element at its place
abbrev pub AreRead : {T : Type 0} → (Row → T → Type 0) → List Row → List T → Type 0
AreRead shows [] [] = ⊤
AreRead shows (row ∷ rows) (x ∷ xs) = shows row x × AreRead shows rows xs
AreRead shows [] (x ∷ xs) = ⊥
AreRead shows (row ∷ rows) [] = ⊥

-- these rows begin the answer of the query
abbrev pub AreFirst : List ℕ → Row → State → List Row → Type 0
AreFirst sql params old rows = (rows ≡ []) ⊎ (IsTrue old.is_open × Begins sql params old rows)

-- it saw these, wanted more after each, and then one more, after which it wanted none
abbrev pub SawLast : {T V : Type 0} →
    (V → T → Bool → V → Type 0) → List T → T → V → V → Type 0
SawLast {T} {V} sees xs x v w = (between : V) × Saw sees xs v between × sees between x false w

module _ {T V : Type 0} (sql : List ℕ) (params : Row) (old : State)
    (shows : Row → T → Type 0) (sees : V → T → Bool → V → Type 0) (v w : V) where
  -- it saw what some first rows were read as
  abbrev pub SawFirst : Type 0
  SawFirst =
      (rows : List Row) × (xs : List T)
      × AreFirst sql params old rows × AreRead shows rows xs × Saw sees xs v w

  -- it saw what all were read as
  abbrev pub SawEach : Type 0
  SawEach =
      (rows : List Row) × (xs : List T)
      × Shown sql params old old rows × AreRead shows rows xs × Saw sees xs v w

  -- it saw those to the first after which it wanted no more
  abbrev pub SawUpTo : Type 0
  SawUpTo =
      (rows : List Row) × (xs : List T) × (x : T)
      × AreFirst sql params old rows × AreRead shows rows (xs ++ x ∷ []) × SawLast sees xs x v w

  -- one or the other
  abbrev pub SawEnough : Type 0
  SawEnough = SawEach ⊎ SawUpTo

-- whatever rows begin the answer, each of them is such, and a 64-bit number counts one more
abbrev pub ShowsOnly : List ℕ → Row → State → (Row → Type 0) → Type 0
ShowsOnly sql params old fits =
    (rows : List Row) → AreFirst sql params old rows
    → AllByRecursion fits rows × (length rows < 2 ^ 64 - 1)

-- it failed for memory, or as the query does
abbrev pub FailsToHandOver : List ℕ → Row → State → State → Error → Type 0
FailsToHandOver sql params old new e =
    (e ≡ SqliteFailure code.OutOfMemory) ⊎ FailsToQuery sql params old new e

-- whatever rows a query shows, they are one, with this count
abbrev pub ShowsCount : List ℕ → Row → State → State → ℕ → Type 0
ShowsCount sql params old new many =
    (rows : List Row) → Shown sql params old new rows → rows ≡ (count many ∷ []) ∷ []
