use Rattle.std.proofs.Common.{◌≡◌, OnOk, refl, subst, rules}
use Rattle.std.proofs.lemmas.Result.{IfOk-weaker}
use Rattle.sqlite.specs.State.{HasCleanDisk, Survives}
use Rattle.sqlite.specs.Held.{state}
use Rattle.sqlite.proofs.StateLemmas.{survives_then}
use Rattle.sqlite.proofs.Callers.{survives_begin}
use Rattle.row_lemmas.specs.Created.{IsBlank}
use Rattle.acq_core.specs.Tables.{Opening, new_tables}
use Rattle.acq_sql_rows.specs.Schema.{no_schema}
use Rattle.acq_sql_rows.specs.Relation.{Holds}
use Rattle.acq_sql_rows.specs.Standing.{HoldsAfter}
use Rattle.acq_sql_changes.proofs.Commits.{left_holds}
use Rattle.acq_sql_writes.proofs.Within.{was_clean}
use Rattle.acq_sql_checking.specs.Made.{IsNewBook}
use Rattle.acq_sql_checking.proofs.Blaming.{commit_fails, drop_fails}
use Rattle.acq_sql_checking.proofs.GoingOn.{GoesOn}
use Rattle.acq_sql_opening.proofs.NewBook.{new_holds, new_shown}
use Rattle.acq_sql_opening.proofs.making.write_book.Goals as goal

pub returns-clause-done : goal.returns-clause-done
returns-clause-done g c clean =
    let last = state g.S.Store c.write_tables.new.tx.conn.now in
    let end = c.commit.new.self.0 in
    let begun = c.transaction-tx.ensures.begun in
    let same : end ≡ c.conn-2-1.given.0 = search rules in
    let late : HasCleanDisk (state g.S.Store end) = search rules in
    let last_clean : HasCleanDisk last = was_clean _ _ c.commit.ensures.survives.clean late in
    let opening : Opening = record { limit = c.args.limit; first_day = c.args.first_day } in
    let rows = c.in_ok-write_tables.ensures.begins last_clean (rw begun refl)
    (rw begun c.requires.empty) in
    subst (λ x. OnOk c.commit.result (IsNewBook opening (state g.S.Store x))) same
    (IfOk-weaker c.commit.result _ _
    (λ _ shown. new_shown last (state g.S.Store end) opening rows shown.1)
    (c.commit.ensures.ok late))

pub returns-clause-crash : goal.returns-clause-crash
returns-clause-crash g c =
    let old = c.args.conn.now in
    let last = state g.S.Store c.write_tables.new.tx.conn.now in
    let end = c.commit.new.self.0 in
    let begun = c.transaction-tx.ensures.begun in
    let same : end ≡ c.conn-2-1.given.0 = search rules in
    let opening : Opening = record { limit = c.args.limit; first_day = c.args.first_day } in
    let all : HasCleanDisk last →
    Holds last.now (new_tables opening) = λ clean. new_holds last.now opening
    (c.in_ok-write_tables.ensures.begins clean (rw begun refl) (rw begun c.requires.empty)) in
    let P = HoldsAfter (new_tables opening) in
    let whole = survives_then (state g.S.Store old) last (state g.S.Store end) _ _ P
    (λ _ db none. absurd none)
    (λ clean db is. left_holds last.now db (new_tables opening)
    (all (was_clean _ _ c.commit.ensures.survives.clean clean)) is)
    (survives_begin g.S.Store old last _ (rw begun at c.write_tables.ensures.survives))
    c.commit.ensures.survives in
    subst (λ x. Survives (state g.S.Store old) (state g.S.Store x) P) same whole

pub returns-in_err-write_tables-clause-fails : goal.returns-in_err-write_tables-clause-fails
returns-in_err-write_tables-clause-fails g c =
    let why = drop_fails g.S.Store c.args.conn.now c.transaction-tx.ensures.begun
    (IsBlank no_schema)
    c.write_tables.ensures.survives c.in_err-write_tables.ensures.fails
    (record { schema_is = c.requires.empty; blank = tt })
    c.drop-tx.ensures.survives c.from_residual.result c.from_residual.ensures.1 in
    search (rules, why)

pub returns-clause-fails : goal.returns-clause-fails
returns-clause-fails g c =
    let on : GoesOn (state g.S.Store c.transaction-tx.result.conn.now)
    (state g.S.Store c.write_tables.new.tx.conn.now) = record {
      stop = c.write_tables.ensures.survives;
      kept = c.write_tables.ensures.kept;
      inside = c.in_ok-write_tables.ensures.inside;
    } in
    let why = commit_fails g.S.Store c.args.conn.now c.transaction-tx.ensures.begun on
    c.commit.result c.commit.ensures.err c.commit.ensures.survives in
    search (rules, why)
