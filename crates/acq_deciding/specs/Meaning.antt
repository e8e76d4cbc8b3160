-- What a decision of the program says, in the words of the definitions, and what it needs to be
-- carried out.
use Rattle.std.specs.Prelude.{nat_lt, Bool, true, ◌&&◌}
use Rattle.card_no.specs.CardNumbers.{is_valid_card}
use Rattle.day_totals.specs.Day.{last_day}
use Rattle.acq_message.specs.Services.{is_recordable}
use Rattle.acq_message.specs.Elements.{or_empty}
use Rattle.acq_message.specs.Cards.{card_of}
use Rattle.acq_core.specs.declared.output.Output.TheVariants as output
use Rattle.acq_deciding.specs.declared.decision.Decision as program
use Rattle.acq_deciding.specs.declared.decision.Decision.TheVariants as program_case
use Rattle.acq_core.specs.Known.{Known}
use Rattle.acq_core.specs.Decision.{Decision}
use Rattle.acq_core.specs.Decision as decided
use Rattle.acq_core.specs.Tables.{prior_of}

-- the program decides on the rows of earlier requests, the definitions on what they say
abbrev pub meaning_of : program.Decision → Decision
meaning_of (program_case.Reports o) = decided.Reports o
meaning_of (program_case.ReportsOverlap range) = decided.Reports (output.Overlap range.now)
meaning_of (program_case.Replies r code) = decided.Replies r.now code
meaning_of (program_case.Repeats reply) = decided.Repeats reply.now
meaning_of (program_case.Refuses r code) = decided.Refuses r.now code
meaning_of (program_case.Admits r range reference) = decided.Admits r.now range.now reference
meaning_of (program_case.Completes r hold) = decided.Completes r.now (prior_of hold.now)
meaning_of (program_case.Reverses r original) = decided.Reverses r.now (prior_of original.now)
meaning_of (program_case.Reconciles r day) = decided.Reconciles r.now day
meaning_of (program_case.Answers moment verdict row) =
    decided.Answers moment verdict (prior_of row.now) row.now.reply
meaning_of program_case.CutsOver = decided.CutsOver
meaning_of (program_case.AddsRange range) = decided.AddsRange range.now
meaning_of (program_case.DropsRange low high) = decided.DropsRange low high
meaning_of (program_case.Enrols merchant) = decided.Enrols merchant
meaning_of (program_case.AddsTerminal terminal) = decided.AddsTerminal terminal

-- what is recorded names its merchant and terminal, an issuer is asked about a valid card, and
-- after a day that ends comes another
abbrev pub is_feasible : Known → Decision → Bool
is_feasible k (decided.Refuses r code) = is_recordable r.service
is_feasible k (decided.Admits r range reference) =
    is_recordable r.service && is_valid_card (or_empty (card_of r.message))
is_feasible k (decided.Completes r hold) = is_recordable r.service
is_feasible k (decided.Reverses r original) = is_recordable r.service
is_feasible k (decided.Reconciles r day) = is_recordable r.service
is_feasible k decided.CutsOver = nat_lt k.today last_day
is_feasible k decision = true
