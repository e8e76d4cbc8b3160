-- What a walk says of the tables and of its visitor.
use Rattle.std.specs.Prelude.{Bool, List, Result, OnOk, OnErr}
use Rattle.sqlite.specs.declared.error.Error.{Error}
use Rattle.sqlite.specs.State.{State, HasCleanDisk}
use Rattle.acq_core.specs.Tables.{Tables}
use Rattle.acq_book.specs.Visits.{SawAll, SawSome}
use Rattle.acq_sql_rows.specs.Relation.{Holds}

-- where it succeeded, the visitor saw all rows of the walk, or those to the first after which it
-- wanted no more
abbrev pub WalksAll : {T X V : Type 0} → State → State → Result T Error →
    (V → X → Bool → V → Type 0) → (Tables → List X) → V → V → Type 0
WalksAll old new result sees walk v w =
    HasCleanDisk new → (t : Tables) → Holds old.now t → OnOk result (SawAll sees (walk t) v w)

-- where it failed, the visitor saw some of the first
abbrev pub WalksSome : {T X V : Type 0} → State → State → Result T Error →
    (V → X → Bool → V → Type 0) → (Tables → List X) → V → V → Type 0
WalksSome old new result sees walk v w =
    HasCleanDisk new → (t : Tables) → Holds old.now t → OnErr result (SawSome sees (walk t) v w)

-- the same, of tables of which this is so
abbrev pub WalksAllWhere : {T X V : Type 0} → State → State → Result T Error →
    (V → X → Bool → V → Type 0) → (Tables → Type 0) → (Tables → List X) → V → V → Type 0
WalksAllWhere old new result sees fits walk v w =
    HasCleanDisk new → (t : Tables) → Holds old.now t → fits t →
    OnOk result (SawAll sees (walk t) v w)

abbrev pub WalksSomeWhere : {T X V : Type 0} → State → State → Result T Error →
    (V → X → Bool → V → Type 0) → (Tables → Type 0) → (Tables → List X) → V → V → Type 0
WalksSomeWhere old new result sees fits walk v w =
    HasCleanDisk new → (t : Tables) → Holds old.now t → fits t →
    OnErr result (SawSome sees (walk t) v w)
