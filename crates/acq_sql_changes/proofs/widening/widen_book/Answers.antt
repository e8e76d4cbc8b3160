use Rattle.std.proofs.Common.{◌≡◌, rules}
use Rattle.acq_sql_rows.specs.Rows.{version_of_six_digits}
use Rattle.acq_sql_changes.proofs.Commits.{commits}
use Rattle.acq_sql_changes.proofs.Widenings.{starts, has_turned, has_widened, makes_widened}
use Rattle.acq_sql_changes.proofs.Widenings.{turning_gives_up, setting_gives_up}
use Rattle.acq_sql_changes.proofs.widening.widen_book.Goals as goal

pub returns-in_err-turn_ranges-clause-refused : goal.returns-in_err-turn_ranges-clause-refused
returns-in_err-turn_ranges-clause-refused g c =
    let begin = starts g.S.Store version_of_six_digits c.args.conn.now _
    c.transaction-tx.ensures.begun in
    let turned = has_turned begin c.in_ok-widen_ranges.ensures.writes in
    let why = turning_gives_up turned c.in_err-turn_ranges.ensures.writes
    c.drop-tx-in_err-turn_ranges.ensures.survives c.in_err-turn_ranges.ensures.refused in
    search (rules, why)

pub returns-in_err-set_version-clause-refused : goal.returns-in_err-set_version-clause-refused
returns-in_err-set_version-clause-refused g c =
    let begin = starts g.S.Store version_of_six_digits c.args.conn.now _
    c.transaction-tx.ensures.begun in
    let turned = has_turned begin c.in_ok-widen_ranges.ensures.writes in
    let widened = has_widened turned c.in_ok-turn_ranges.ensures.writes in
    let why = setting_gives_up widened c.in_err-set_version.ensures.writes
    c.drop-tx-in_err-set_version.ensures.survives c.in_err-set_version.ensures.refused in
    search (rules, why)

pub returns-clause-whole : goal.returns-clause-whole
returns-clause-whole g c =
    let same : c.commit.new.self.0 ≡ c.conn-2-1.given.0 = search rules in
    let begin = starts g.S.Store version_of_six_digits c.args.conn.now _
    c.transaction-tx.ensures.begun in
    let turned = has_turned begin c.in_ok-widen_ranges.ensures.writes in
    let widened = has_widened turned c.in_ok-turn_ranges.ensures.writes in
    let whole = makes_widened widened c.in_ok-set_version.ensures.writes in
    commits g.S.Store whole same c.commit.result c.commit.ensures
