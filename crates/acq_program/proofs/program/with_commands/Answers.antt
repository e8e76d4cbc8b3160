use Rattle.std.proofs.Common.{◌∙◌, ap, ap₂, sym, arith}
use Rattle.clap.specs.Words.{App, app_of, with_subcommand}
use Rattle.clap.proofs.SimpleLemmas.{plain_fields}
use Rattle.acq_program.proofs.TablesRead.{commands_next, plain_at}
use Rattle.acq_program.proofs.program.with_commands.Goals as goal

pub loop-text-preserved : goal.loop-text-preserved
loop-text-preserved c =
    let texts = c.args.texts.now in
    let i = c.loop-text.text-index in
    let is = c.in_ok-command.ensures in
    let plain = plain_at texts i _ (omega arith) c.requires in
    let fields = plain_fields _ (ap (λ (x : App). x.top.is_plain) is ∙ plain) in
    c.in_ok-program.ensures.shape fields.globals
    ∙ (ap₂ with_subcommand c.loop-text.invariant (ap (λ (x : App). x.top) is)
    ∙ sym (commands_next (app_of c.args.program) texts i _ (omega arith)))
