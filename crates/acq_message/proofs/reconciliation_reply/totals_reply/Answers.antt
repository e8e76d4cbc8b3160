use Rattle.std.proofs.Common.{◌≡◌, subst}
use Rattle.std.specs.Prelude.{IfOk}
use Rattle.iso_codec.specs.Message.{IsoMessage}
use Rattle.acq_message.proofs.AddedElements.{balance_fits, net_fits, totals_set}
use Rattle.acq_message.proofs.reconciliation_reply.totals_reply.Goals as goal

pub with_content-requires : goal.with_content-requires
with_content-requires c =
    balance_fits c.args.in_balance c.balance_text.result c.balance_text.ensures

pub with_content-requires-2 : goal.with_content-requires-2
with_content-requires-2 c = net_fits _ c.net_text.result c.net_text.ensures

pub returns : goal.returns
returns c =
    let set = totals_set c.args.request.now c.args.day c.args.code c.args.in_balance
    c.args.totals.now c.in_ok-message.message c.in_ok-message-2.message c.in_ok-message-3.message
    c.in_ok-message-4.message c.balance_text.result c.net_text.result c.in_ok-message.ensures
    c.in_ok-message-2.ensures c.in_ok-message-3.ensures c.in_ok-message-4.ensures
    c.balance_text.ensures c.net_text.ensures in
    subst (λ (t : IsoMessage). IfOk c.with_content-2.result (λ m. m ≡ t)) set
    c.with_content-2.ensures
