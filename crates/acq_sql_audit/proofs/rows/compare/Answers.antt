use Rattle.std.proofs.Common.{ap, sym, ◌∙◌, Some, option_copied}
use Rattle.acq_sql_audit.proofs.rows.compare.Goals as goal

pub returns-in-None : goal.returns-in-None
returns-in-None c =
    let same = c.first_differing.ensures.same c.in-None.is in (
      c.in-Some-Some.theirs.now,
      ap option_copied c.in-Some-Some.is-0,
      ap option_copied c.in-Some-Some.is-1 ∙ ap Some (sym same),
    )
