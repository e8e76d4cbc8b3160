use Rattle.std.proofs.Common.{◌∙◌}
use Rattle.acq_front.proofs.Holding.{goes_on, is_right}
use Rattle.acq_front.proofs.conversation.Conversation.hold.Goals as goal

pub returns-clause-held : goal.returns-clause-held
returns-clause-held c =
    c.reply-held.ensures.held ∙ c.discard.ensures.gone (is_right _ _ c.requires)

pub returns-clause-ends : goal.returns-clause-ends
returns-clause-ends c fits =
    c.reply-held.ensures.well fits ∙ goes_on c.args.said.now c.in_default.not-Undecodable
