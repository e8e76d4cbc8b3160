-- the merchants that the texts so far name are there
use Rattle.std.proofs.Common.{take}
use Rattle.acq_program.specs.Options.{GivesMerchants}
use Rattle.acq_program.specs.WantedReports.{each_text}
use Rattle.acq_program.proofs.wanted_merchants.each_merchant.Given as goal

abbrev pub invariant-loop-text : goal.invariant-loop-text
invariant-loop-text l =
    GivesMerchants (each_text (take l.text-index l.texts)) l.merchants.items
