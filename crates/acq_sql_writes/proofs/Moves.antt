-- What the statements that widen the ranges do to the rows, and that they never stop; and that
-- setting the day never does.
use Rattle.std.proofs.Common.{◌≡◌, ℕ, true, List, [], ◌∷◌, None, Option, Ok, Err, refl, sym}
use Rattle.std.proofs.Common.{subst}
use Rattle.sqlite_value.specs.Order.{Row}
use Rattle.sqlite_trees.specs.View.{IsShaped}
use Rattle.sqlite_trees.specs.declared.store.Shape.TheVariants as shape
use Rattle.sqlite_schema.specs.declared.command.Command.{Command}
use Rattle.sqlite_schema.specs.declared.command.Command.TheVariants.{Update}
use Rattle.sqlite_typing.specs.Types.{accepts_program}
use Rattle.sqlite.specs.declared.error.Error.{Error}
use Rattle.sqlite.specs.declared.run.Mode.{Mode}
use Rattle.sqlite.specs.Does.{Tally as Noted, Does}
use Rattle.sqlite.specs.Effect.{Database, IsDatabase}
use Rattle.row_lemmas.specs.Queries.{alone}
use Rattle.row_lemmas.proofs.StatementEffects.{bare}
use Rattle.row_lemmas.proofs.UniqueKeys.{fits_of}
use Rattle.row_lemmas.proofs.MovesSucceed.{IsMove, moves, move_succeeds}
use Rattle.card_no.specs.Prefix.{six_digits, eight_digits}
use Rattle.acq_core.specs.Tables.{Tables}
use Rattle.acq_core.specs.Widening.{widened_tables}
use Rattle.acq_sql_rows.specs.declared.form.Form.{Form}
use Rattle.acq_sql_rows.specs.Schema.{book_schema, book_tree, ranges_tree}
use Rattle.acq_sql_rows.specs.Tallies.{Running}
use Rattle.acq_sql_rows.specs.Rows.{version, range_rows, turned_rows}
use Rattle.acq_sql_rows.specs.Queries.{widened_columns, turned_columns, version_columns}
use Rattle.acq_sql_rows.specs.Queries.{widen_ranges_query, turn_ranges_query, set_version_query}
use Rattle.acq_sql_rows.specs.Queries.{set_day_query}
use Rattle.acq_sql_rows.specs.Relation.{HoldsRows, HoldsRowsOf, HoldsTurnedOf}
use Rattle.acq_sql_writes.specs.Widened.{HasRangesUnder}
use Rattle.acq_sql_rows.proofs.TableTurns as at
use Rattle.acq_sql_writes.proofs.MovedTables as moved
use Rattle.acq_sql_writes.proofs.RangeWrites.{ranges_shaped}
use Rattle.acq_sql_writes.proofs.RangeMoves.{turned_shaped, still_rising, widen_moves, turn_moves}
use Rattle.acq_sql_writes.proofs.VersionMoves.{book_rows, book_shaped, version_moves, day_columns}
use Rattle.acq_sql_writes.proofs.VersionMoves.{day_moves}
use Rattle.row_lemmas.specs.Values.{number}

abbrev pub widening : Command
widening = Update 3 (alone widen_ranges_query)

abbrev pub turning : Command
turning = Update 3 (alone turn_ranges_query)

abbrev pub setting : Command
setting = Update 0 (alone set_version_query)

typed_widening : (form : Form) → accepts_program (book_schema form) [] widen_ranges_query [] ≡ true
unfolding book_schema
typed_widening form = refl

typed_turning : (form : Form) → accepts_program (book_schema form) [] turn_ranges_query [] ≡ true
unfolding book_schema
typed_turning form = refl

typed_setting : (form : Form) → accepts_program (book_schema form) [] set_version_query [] ≡ true
unfolding book_schema
typed_setting form = refl

module _ (mode : Mode) (old : Database) (text : List ℕ) (number : ℕ) (t : Tables)
    (runs : List Running) where
  -- the command succeeds with this database, or stops so
  abbrev Succeeds : Option ℕ → Command → Noted → Database → Type 0
  Succeeds limit command noted new = Does limit mode [] old text None command (Ok (noted, new))

  abbrev Stops : Command → Option Error → Type 0
  Stops command stop = Does None mode [] old text None command (Err stop)

  module _ (six : HasRangesUnder six_digits t) (has : HoldsRowsOf number old t runs) where
    shaped : IsShaped shape.Table (old.trees ranges_tree)
    shaped = subst (IsShaped shape.Table) (sym has.ranges) (ranges_shaped t.ranges has.rising)

    abbrev target : List Row
    target = turned_rows (widened_tables t).ranges

    move : IsMove (book_schema has.schema.0) (bare at.the_ranges) widened_columns []
        (old.trees ranges_tree) target
    move =
        subst (λ rows. IsMove (book_schema has.schema.0) (bare at.the_ranges) widened_columns []
        rows target)
        (sym has.ranges) (widen_moves has.schema.0 t.ranges has.rising six)

    pub ranges_widened : (limit : Option ℕ) (noted : Noted) (new : Database) → IsDatabase new
        → Succeeds limit widening noted new → HoldsTurnedOf number new (widened_tables t) runs
    ranges_widened limit noted new sound does =
        let m = moves (book_schema has.schema.0) (moved.plain has.schema.0) 3 at.the_ranges
        (at.ranges_placed has.schema.0) mode old has.schema.1
        shaped text [] widened_columns target move limit new noted does in
        at.turned old new t runs has m.schema_is sound ranges_tree target
        (moved.others_moved has.schema.0 old new ranges_tree target m) m.rows (widened_tables t)
        runs refl
        (still_rising t.ranges has.rising) has.recorded has.apart

    pub widening_succeeds : (stop : Option Error) → ¬ Stops widening stop
    widening_succeeds =
        move_succeeds (book_schema has.schema.0) (moved.plain has.schema.0) 3 at.the_ranges
        (at.ranges_placed has.schema.0) mode old has.schema.1
        shaped text [] widened_columns target move (moved.ranges_listed has.schema.0)
        (fits_of (book_schema has.schema.0) old.trees has.sound)
        (moved.ranges_unguarded has.schema.0) (typed_widening has.schema.0)

  module _ (eight : HasRangesUnder eight_digits t) (has : HoldsTurnedOf number old t runs) where
    turned : IsShaped shape.Table (old.trees ranges_tree)
    turned = subst (IsShaped shape.Table) (sym has.ranges) (turned_shaped t.ranges has.rising)

    move_back : IsMove (book_schema has.schema.0) (bare at.the_ranges) turned_columns []
        (old.trees ranges_tree)
        (range_rows t.ranges)
    move_back =
        subst (λ rows. IsMove (book_schema has.schema.0) (bare at.the_ranges) turned_columns [] rows
        (range_rows t.ranges)) (sym has.ranges) (turn_moves has.schema.0 t.ranges has.rising eight)

    pub ranges_turned : (limit : Option ℕ) (noted : Noted) (new : Database) → IsDatabase new
        → Succeeds limit turning noted new → HoldsRowsOf number new t runs
    ranges_turned limit noted new sound does =
        let m = moves (book_schema has.schema.0) (moved.plain has.schema.0) 3 at.the_ranges
        (at.ranges_placed has.schema.0) mode old has.schema.1
        turned text [] turned_columns (range_rows t.ranges) move_back limit new noted does in
        at.turned old new t runs has m.schema_is sound ranges_tree (range_rows t.ranges)
        (moved.others_moved has.schema.0 old new ranges_tree (range_rows t.ranges) m) m.rows t runs
        refl
        has.rising has.recorded has.apart

    pub turning_succeeds : (stop : Option Error) → ¬ Stops turning stop
    turning_succeeds =
        move_succeeds (book_schema has.schema.0) (moved.plain has.schema.0) 3 at.the_ranges
        (at.ranges_placed has.schema.0) mode old has.schema.1
        turned text [] turned_columns (range_rows t.ranges) move_back
        (moved.ranges_listed has.schema.0)
        (fits_of (book_schema has.schema.0) old.trees has.sound)
        (moved.ranges_unguarded has.schema.0) (typed_turning has.schema.0)

  module _ (has : HoldsRowsOf number old t runs) where
    book_is : IsShaped shape.Table (old.trees book_tree)
    book_is =
        subst (IsShaped shape.Table) (sym has.book) (book_shaped number t.limit t.day)

    abbrev book_target : List Row
    book_target = book_rows version t.limit t.day

    set : IsMove (book_schema has.schema.0) (bare at.the_book) version_columns []
        (old.trees book_tree) book_target
    set =
        subst (λ rows. IsMove (book_schema has.schema.0) (bare at.the_book) version_columns [] rows
        book_target)
        (sym has.book) (version_moves has.schema.0 number t.limit t.day)

    pub version_set : (limit : Option ℕ) (noted : Noted) (new : Database) → IsDatabase new
        → Succeeds limit setting noted new → HoldsRows new t runs
    version_set limit noted new sound does =
        let m = moves (book_schema has.schema.0) (moved.plain has.schema.0) 0 at.the_book
        (at.book_placed has.schema.0) mode old has.schema.1
        book_is text [] version_columns book_target set limit new noted does in
        at.turned old new t runs has m.schema_is sound book_tree book_target
        (moved.others_moved has.schema.0 old new book_tree book_target m) m.rows t runs refl
        has.rising has.recorded has.apart

    pub setting_succeeds : (stop : Option Error) → ¬ Stops setting stop
    setting_succeeds =
        move_succeeds (book_schema has.schema.0) (moved.plain has.schema.0) 0 at.the_book
        (at.book_placed has.schema.0) mode old has.schema.1
        book_is text [] version_columns book_target set (moved.book_listed has.schema.0)
        (fits_of (book_schema has.schema.0) old.trees has.sound) (moved.book_unguarded has.schema.0)
        (typed_setting has.schema.0)

typed_day : (form : Form) (day : ℕ) → accepts_program (book_schema form) [] set_day_query
    (number day ∷ []) ≡ true
unfolding book_schema
typed_day form day = refl

pub day_succeeds : (mode : Mode) (old : Database) (text : List ℕ) (t : Tables)
    (runs : List Running) → HoldsRows old t runs → (day : ℕ) (stop : Option Error)
    → ¬ Does None mode (number day ∷ []) old text None (Update 0 (alone set_day_query)) (Err stop)
day_succeeds mode old text t runs has day =
    let shaped = subst (IsShaped shape.Table) (sym has.book) (book_shaped version t.limit t.day) in
    let target = book_rows version t.limit day in
    let move = subst
    (λ rows. IsMove (book_schema has.schema.0) (bare at.the_book) day_columns (number day ∷ []) rows
    target)
    (sym has.book) (day_moves has.schema.0 t.limit t.day day) in
    move_succeeds (book_schema has.schema.0) (moved.plain has.schema.0) 0 at.the_book
    (at.book_placed has.schema.0) mode old has.schema.1 shaped
    text (number day ∷ []) day_columns target move (moved.book_listed has.schema.0)
    (fits_of (book_schema has.schema.0) old.trees has.sound) (moved.book_unguarded has.schema.0)
    (typed_day has.schema.0 day)
