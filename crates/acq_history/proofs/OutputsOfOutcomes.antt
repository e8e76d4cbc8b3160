-- What goes out for an outcome.
use Rattle.std.proofs.Common.{◌≡◌, ℕ, List, [], Option, Some, None, Bool, true, false, cond, refl}
use Rattle.std.proofs.Common.{sym, ap, ◌∙◌}
use Rattle.std.specs.Prelude.{nat_lt}
use Rattle.iso_codec.specs.Message.{IsoMessage}
use Rattle.iso_codec.specs.Reading.{spelling}
use Rattle.card_no.specs.Prefix.{in_force}
use Rattle.card_no.specs.Ranges.{is_valid_range_under, has_ends}
use Rattle.card_no.specs.declared.range.Range.{Range}
use Rattle.day_totals.specs.Day.{last_day}
use Rattle.acq_message.specs.declared.verdict.Verdict.{Verdict}
use Rattle.acq_core.specs.declared.merchant.Merchant.{Merchant}
use Rattle.acq_core.specs.declared.terminal.Terminal.{Terminal}
use Rattle.acq_core.specs.declared.query.Query.{Query}
use Rattle.acq_core.specs.declared.output.Output.{Output}
use Rattle.acq_core.specs.declared.output.Output.TheVariants as output
use Rattle.acq_core.specs.declared.arrival.Arrival.{Arrival}
use Rattle.acq_core.specs.declared.arrival.Arrival.TheVariants as arrival
use Rattle.acq_core.specs.declared.reply_state.ReplyState.{ReplyState}
use Rattle.acq_core.specs.declared.reply_state.ReplyState.TheVariants.{Kept}
use Rattle.acq_core.specs.Known.{Known, Prior}
use Rattle.acq_core.specs.Decision.{Decision, Reports, CutsOver, DropsRange, AddsTerminal}
use Rattle.acq_core.specs.Decision.{decision, repeat_of, decision_of_reply_state}
use Rattle.acq_core.specs.Decision.{decision_of_prior, decision_of_answer, decision_of_new_range}
use Rattle.acq_core.specs.Decision.{decision_of_old_range, decision_of_enrolment}
use Rattle.acq_core.specs.Decision.{decision_of_terminal}
use Rattle.acq_core.specs.Outcome.{Outcome, Replied, Repeated, Asked, Performed, Reported}
use Rattle.acq_core.specs.Outcome.{outcome, outcome_of, output_of}
use Rattle.acq_core.proofs.DecisionCases.{by_request}
use Rattle.acq_soundness.proofs.Lookups.{some_is}
use Rattle.acq_history.specs.Entries.{reply_in}
use Rattle.acq_history.specs.SaidOutputs as statement

pub replies_go_out : statement.RepliesGoOut
replies_go_out merchant (Replied given reply) sent is =
    ap (λ m. output.Reply merchant (spelling m)) (some_is reply sent is)
replies_go_out merchant (Repeated reply) sent is =
    ap (λ m. output.Reply merchant (spelling m)) (some_is reply sent is)
replies_go_out merchant other sent is = absurd (cc)

pub queries_go_out : statement.QueriesGoOut
queries_go_out merchant query = refl

-- ---- nothing else

-- neither a reply nor a question
abbrev is_report : Output → Bool
is_report (output.Reply to text) = false
is_report (output.Ask query) = false
is_report other = true

-- what is reported is neither
abbrev is_plain : Outcome → Bool
is_plain (Reported o) = is_report o
is_plain other = true

module _ (k : Known) where
  abbrev IsPlain : Decision → Type 0
  IsPlain d = is_plain (outcome_of k d) ≡ true

  one_of : (b : Bool) (d other : Decision) → IsPlain d → IsPlain other → IsPlain (cond b d other)
  one_of true d other first second = first
  one_of false d other first second = second

  repeat : (s : ReplyState) → IsPlain (repeat_of s)
  repeat (Kept reply) = refl
  repeat other = refl

  answered : (moment : ℕ) (v : Verdict) (p : Prior) (s : ReplyState) →
      IsPlain (decision_of_reply_state moment v p s)
  answered moment v p (Kept reply) = refl
  answered moment v p other = refl

  by_prior : (moment : ℕ) (v : Verdict) (o : Option Prior) → IsPlain (decision_of_prior moment v o)
  by_prior moment v None = refl
  by_prior moment v (Some p) = answered moment v p p.reply_state

  by_merchant : (moment : ℕ) (v : Verdict) (o : Option Merchant) →
      IsPlain (decision_of_answer k moment v o)
  by_merchant moment v None = refl
  by_merchant moment v (Some merchant) = by_prior moment v k.referred

  new_range : (range : Range) (o : Option Range) → IsPlain (decision_of_new_range range o)
  new_range range None = refl
  new_range range (Some other) = refl

  old_range : (low high : ℕ) (o : Option Range) → IsPlain (decision_of_old_range low high o)
  old_range low high None = refl
  old_range low high (Some range) =
      one_of (has_ends low high range) (DropsRange low high) (Reports output.NoSuchRange) refl refl

  enrolment : (merchant : Merchant) (o : Option Merchant) →
      IsPlain (decision_of_enrolment merchant o)
  enrolment merchant None = refl
  enrolment merchant (Some enrolled) = refl

  terminal : (t : Terminal) (there : Bool) (o : Option Merchant) →
      IsPlain (decision_of_terminal t there o)
  terminal t there None = refl
  terminal t there (Some merchant) =
      one_of there (Reports output.Done) (AddsTerminal t) refl refl

  plain : (a : Arrival) → IsPlain (decision k a)
  plain (arrival.Undecoded fault) = refl
  plain (arrival.Unserved m) = refl
  plain (arrival.Malformed r) = refl
  plain (arrival.Requested r) =
      by_request k r IsPlain (record {
        managed = λ is. refl;
        unknown = refl;
        duplicate = λ p is. refl;
        repeated = λ p is. repeat p.reply_state;
        refused = λ merchant fresh given is. refl;
        admitted = λ merchant fresh service range is. refl;
        completed = λ merchant fresh service hold is opens. refl;
        reversed = λ merchant fresh service p is can. refl;
        reconciled = λ merchant fresh service day is. refl;
      })
  plain (arrival.Answered moment merchant reference v) = by_merchant moment v k.merchant
  plain arrival.CutOver =
      one_of (nat_lt k.today last_day) CutsOver (Reports output.LastDay) refl refl
  plain (arrival.RangeAdded range) =
      one_of (is_valid_range_under in_force range) (decision_of_new_range range k.overlapped)
      (Reports output.BadRange) (new_range range k.overlapped) refl
  plain (arrival.RangeDropped low high) = old_range low high k.overlapped
  plain (arrival.Enrolled merchant) = enrolment merchant k.merchant
  plain (arrival.TerminalAdded t) = terminal t k.has_terminal k.merchant

-- ---- back from what goes out

abbrev to_in : Option (List ℕ) → Output → Option (List ℕ)
to_in away (output.Reply to text) = to
to_in away other = away

abbrev text_in : Output → List ℕ
text_in (output.Reply to text) = text
text_in other = []

abbrev query_in : Query → Output → Query
query_in away (output.Ask query) = query
query_in away other = away

replied : (merchant to : Option (List ℕ)) (o : Outcome) (text : List ℕ) → is_plain o ≡ true →
    output_of merchant o ≡ output.Reply to text →
    (reply : IsoMessage) × (reply_in o ≡ Some reply) × (to ≡ merchant) × (text ≡ spelling reply)
replied merchant to (Replied given reply) text plain is =
    (reply, refl, sym (ap (to_in to) is), sym (ap text_in is))
replied merchant to (Repeated reply) text plain is =
    (reply, refl, sym (ap (to_in to) is), sym (ap text_in is))
replied merchant to (Asked query) text plain is = absurd (cc)
replied merchant to Performed text plain is = absurd (cc)
replied merchant to (Reported o) text plain is =
    absurd (let two : false ≡ true = sym (ap is_report is) ∙ plain in cc)

asked : (merchant : Option (List ℕ)) (o : Outcome) (query : Query) → is_plain o ≡ true →
    output_of merchant o ≡ output.Ask query → o ≡ Asked query
asked merchant (Replied given reply) query plain is = absurd (cc)
asked merchant (Repeated reply) query plain is = absurd (cc)
asked merchant (Asked other) query plain is = ap (λ o. Asked (query_in query o)) is
asked merchant Performed query plain is = absurd (cc)
asked merchant (Reported o) query plain is =
    absurd (let two : false ≡ true = sym (ap is_report is) ∙ plain in cc)

pub only_replies_go_out : statement.OnlyRepliesGoOut
only_replies_go_out merchant to k a text = replied merchant to (outcome k a) text (plain k a)

pub only_queries_go_out : statement.OnlyQueriesGoOut
only_queries_go_out merchant k a query = asked merchant (outcome k a) query (plain k a)
