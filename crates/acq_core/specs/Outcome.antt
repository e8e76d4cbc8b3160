-- What an event results in, and what goes out.
use Rattle.std.specs.Prelude.{ℕ, Bool, true, false, List, Option}
use Rattle.iso_codec.specs.Message.{IsoMessage}
use Rattle.iso_codec.specs.Reading.{spelling}
use Rattle.card_no.specs.Prefix.{PrefixProfile, in_force}
use Rattle.card_no.specs.declared.range.Range.{Range}
use Rattle.day_totals.specs.Totals.{agrees_with}
use Rattle.acq_message.specs.declared.request_message.RequestMessage.{RequestMessage}
use Rattle.acq_message.specs.declared.response_code.ResponseCode.{ResponseCode}
use Rattle.acq_message.specs.declared.response_code.ResponseCode.TheVariants as code
use Rattle.acq_message.specs.Elements.{or_empty, text_at, amount_in, sale_leg}
use Rattle.acq_message.specs.Cards.{card_of}
use Rattle.acq_message.specs.Claims.{claimed_in}
use Rattle.acq_message.specs.Reply.{coded_reply, referring_reply, totals_reply, answered_reply}
use Rattle.acq_message.specs.Reply.{verdict_code}
use Rattle.acq_core.specs.declared.query.Query.{Query}
use Rattle.acq_core.specs.declared.arrival.Arrival.{Arrival}
use Rattle.acq_core.specs.declared.output.Output.{Output}
use Rattle.acq_core.specs.declared.output.Output.TheVariants as output
use Rattle.acq_core.specs.Known.{Known}
use Rattle.acq_core.specs.Decision.{Decision, decision_under}
use Rattle.acq_core.specs.Decision as decided

-- what an event results in
pub data Outcome : Type 0 where
  -- a reply that is made now, and its code
  Replied : (code : ResponseCode) (reply : IsoMessage) → Outcome
  -- the reply that was kept
  Repeated : (reply : IsoMessage) → Outcome
  -- the issuer is asked
  Asked : (query : Query) → Outcome
  -- what was asked for is done
  Performed : Outcome
  -- nothing was done, as this says
  Reported : (output : Output) → Outcome

-- ---- what is in an outcome

-- what the issuer is asked
abbrev pub query_of : RequestMessage → Range → ℕ → Query
query_of r range reference =
    record {
      merchant = text_at r.message 42;
      reference = reference;
      service = r.service;
      leg = sale_leg r.message;
      card = or_empty (card_of r.message);
      amount = amount_in r.message;
      issuer = range.issuer;
    }

-- the claimed totals are the day's
abbrev pub is_in_balance : Known → RequestMessage → Bool
is_in_balance k r = agrees_with (claimed_in r.message) k.totals

-- the code of a reconciliation with totals
abbrev pub balance_code : Bool → ResponseCode
balance_code true = code.Approved
balance_code false = code.ReconcileError

-- what a decision results in
abbrev pub outcome_of : Known → Decision → Outcome
outcome_of k (decided.Reports o) = Reported o
outcome_of k (decided.Replies r code) = Replied code (coded_reply k.today r code)
outcome_of k (decided.Repeats reply) = Repeated reply
outcome_of k (decided.Refuses r code) = Replied code (coded_reply k.today r code)
outcome_of k (decided.Admits r range reference) = Asked (query_of r range reference)
outcome_of k (decided.Completes r hold) =
    Replied code.Approved (coded_reply k.today r code.Approved)
outcome_of k (decided.Reverses r p) =
    Replied code.Approved (referring_reply k.today r p.reference code.Approved)
outcome_of k (decided.Reconciles r day) =
    let in_balance = is_in_balance k r in
    Replied (balance_code in_balance)
    (totals_reply day r (balance_code in_balance) in_balance k.totals)
outcome_of k (decided.Answers moment verdict p draft) =
    Replied (verdict_code verdict) (answered_reply draft verdict)
outcome_of k decided.CutsOver = Performed
outcome_of k (decided.AddsRange range) = Performed
outcome_of k (decided.DropsRange low high) = Performed
outcome_of k (decided.Enrols merchant) = Performed
outcome_of k (decided.AddsTerminal terminal) = Performed

-- what came results in this
abbrev pub outcome_under : PrefixProfile → Known → Arrival → Outcome
outcome_under profile k a = outcome_of k (decision_under profile k a)

abbrev pub outcome : Known → Arrival → Outcome
outcome = outcome_under in_force

-- what goes out, for the merchant that was named: a reply in its spelling
abbrev pub output_of : Option (List ℕ) → Outcome → Output
output_of merchant (Replied code reply) = output.Reply merchant (spelling reply)
output_of merchant (Repeated reply) = output.Reply merchant (spelling reply)
output_of merchant (Asked query) = output.Ask query
output_of merchant Performed = output.Done
output_of merchant (Reported o) = o
