use Rattle.std.proofs.Common.{refl, subst}
use Rattle.sqlite.proofs.Callers.{memory_is_clean}
use Rattle.sqlite.specs.Held.{state}
use Rattle.sqlite.specs.Steps.{over_memory}
use Rattle.acq_sql_rows.specs.Schema.{IsBookSchema}
use Rattle.acq_sql_audit.specs.Audited.{made_by}
use Rattle.acq_sql_audit.proofs.SameTables.{audits, is_comparable}
use Rattle.acq_sql_audit.proofs.auditing.audit.Goals as goal

pub returns-clause-audits : goal.returns-clause-audits
returns-clause-audits g c clean ordered =
    let t = made_by c.args.limit c.args.first_day c.args.events.now in
    let is = c.in_ok-is_book_schema.ensures.same.0 c.if-not-branch.false in
    let has = subst IsBookSchema c.schema.ensures.value is in
    let looks = c.in_ok-first_difference.ensures.looks in
    let opened = (looks.same clean refl).0.was_open in
    let made = (state over_memory c.in_ok-made-2.made).now in
    let holds = c.in_ok-made-2.ensures.holds (memory_is_clean c.in_ok-made-2.made) in
    audits (state g.S.Store c.args.file.now).now made t c.in_ok-first_difference.field-0 has
    (c.schema.ensures.live opened).0 holds
    (c.in_ok-first_difference.ensures.compares clean
    (memory_is_clean c.first_difference.new.made)
    (record { schema = has; in_order = ordered }) (is_comparable made t holds))

pub returns-clause-past : goal.returns-clause-past
returns-clause-past g c = c.in_ok-made-2.ensures.past (memory_is_clean c.in_ok-made-2.made)

pub returns-clause-book : goal.returns-clause-book
returns-clause-book g c =
    subst IsBookSchema c.schema.ensures.value
    (c.in_ok-is_book_schema.ensures.same.0 c.if-not-branch.false)
