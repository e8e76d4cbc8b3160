use Rattle.iso_codec.specs.Message.{IsoMessage}
use Rattle.iso_codec.proofs.FaultsSpellNothing.{err_none, only_read}
use Rattle.iso_codec.proofs.ReadingComputes.{exact_read}
use Rattle.iso_codec.proofs.decoding.decode.Goals as goal

pub returns-clause-none : goal.returns-clause-none
returns-clause-none c = err_none c.args.text.now c.read.result c.read.ensures.fault

pub returns-clause-only : goal.returns-clause-only
returns-clause-only c = only_read c.args.text.now (λ (m : IsoMessage). m)
    c.read.result c.read.ensures.found c.read.ensures.fault

pub returns-clause-exact : goal.returns-clause-exact
returns-clause-exact c = exact_read c.args.text.now (λ (m : IsoMessage). m)
    c.read.result c.read.ensures.found c.read.ensures.fault
