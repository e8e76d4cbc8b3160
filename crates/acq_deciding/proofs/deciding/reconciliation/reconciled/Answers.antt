use Rattle.std.proofs.Common.{◌≡◌, ℕ, Bool, List, Some, ap, ◌∙◌, refl}
use Rattle.day_totals.specs.Totals.{DayTotals}
use Rattle.iso_codec.specs.Message.{IsoMessage}
use Rattle.iso_codec.specs.Reading.{spelling}
use Rattle.acq_message.specs.declared.request_message.RequestMessage.{RequestMessage}
use Rattle.acq_message.specs.declared.response_code.ResponseCode.{ResponseCode}
use Rattle.acq_message.specs.Elements.{text_at}
use Rattle.acq_message.specs.Reply.{totals_reply}
use Rattle.acq_core.specs.declared.change.Change.TheVariants.{Reconciled}
use Rattle.acq_core.specs.declared.output.Output.TheVariants.{Reply}
use Rattle.acq_core.specs.declared.request.Request.{Request}
use Rattle.acq_core.specs.declared.status.Status.TheVariants as status
use Rattle.acq_core.specs.Changes.{recorded_row}
use Rattle.acq_core.specs.Looking.{known_of}
use Rattle.acq_core.specs.Outcome.{is_in_balance, balance_code}
use Rattle.acq_deciding.proofs.deciding.reconciliation.reconciled.Goals as goal

-- the same reply, by what its parts are
totals_replied : (day : ℕ) (made r : RequestMessage) (code : ResponseCode) (b balance : Bool)
    (totals : DayTotals) →
    made ≡ r → code ≡ balance_code b → b ≡ balance →
    totals_reply day made code b totals ≡ totals_reply day r (balance_code balance) balance totals
totals_replied day made r code b balance totals same coded is = rw (same, coded, is) refl

-- the same change, by what its parts are
changed : (made row : Request) (merchant m : List ℕ) (day : ℕ) (b balance : Bool) → made ≡ row →
    merchant ≡ m →
    b ≡ balance →
    Some (Reconciled (record made { status = status.Reconciled })
    (record { merchant = merchant; day = day; in_balance = b }))
    ≡ Some (Reconciled (record row { status = status.Reconciled })
    (record { merchant = m; day = day; in_balance = balance }))
changed made row merchant m day b balance same named is = rw (same, named, is) refl

pub returns-clause-output : goal.returns-clause-output
returns-clause-output c =
    c.in_ok-output.ensures.output
    ∙ ap (λ (m : IsoMessage). Reply c.args.merchant (spelling m)) (c.in_ok-reply.ensures
    ∙ totals_replied c.args.day c.as_request-message.result.now c.args.request.now
    c.balance_code-code.result
    c.is_in_balance-in_balance.result
    (is_in_balance (known_of c.args.looked.now) c.args.request.now)
    c.args.looked.now.totals c.as_request-message.ensures.value c.balance_code-code.ensures
    c.is_in_balance-in_balance.ensures)

pub returns-clause-change : goal.returns-clause-change
returns-clause-change c =
    changed c.in_ok-output.row (recorded_row c.args.looked.now.today c.args.request.now
    (totals_reply c.args.day c.args.request.now
    (balance_code (is_in_balance (known_of c.args.looked.now) c.args.request.now))
    (is_in_balance (known_of c.args.looked.now) c.args.request.now) c.args.looked.now.totals))
    c.merchant_of.result (text_at c.args.request.now.message 42) c.args.day
    c.is_in_balance-in_balance.result
    (is_in_balance (known_of c.args.looked.now) c.args.request.now)
    (c.in_ok-output.ensures.row ∙ ap (recorded_row c.args.looked.now.today c.args.request.now)
    (c.in_ok-reply.ensures
    ∙ totals_replied c.args.day c.as_request-message.result.now c.args.request.now
    c.balance_code-code.result
    c.is_in_balance-in_balance.result
    (is_in_balance (known_of c.args.looked.now) c.args.request.now)
    c.args.looked.now.totals c.as_request-message.ensures.value c.balance_code-code.ensures
    c.is_in_balance-in_balance.ensures)) c.merchant_of.ensures c.is_in_balance-in_balance.ensures
