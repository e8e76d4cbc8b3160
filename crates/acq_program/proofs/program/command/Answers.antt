use Rattle.std.proofs.Common.{◌∙◌, ap₂, sym, arith}
use Rattle.clap.specs.Words.{new_app, with_rule}
use Rattle.acq_program.proofs.TablesRead.{with_next}
use Rattle.acq_program.proofs.program.command.Goals as goal

pub loop-parameter-preserved : goal.loop-parameter-preserved
loop-parameter-preserved c =
    let text = c.args.text.now in
    c.in_ok-command.ensures.shape c.arg_of.ensures.own
    ∙ (ap₂ with_rule c.loop-parameter.invariant c.arg_of.ensures.rule
    ∙ sym (with_next (new_app text.name.now) text.parameters.now
    c.loop-parameter.parameter-index _ (omega arith)))
