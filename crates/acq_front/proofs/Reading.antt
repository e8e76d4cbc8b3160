-- Which messages are reported as those that don't read.
use Rattle.std.proofs.Common.{◌≡◌, ℕ, Bool, true, false, List, Option, Some, None, Result, Ok, Err}
use Rattle.std.proofs.Common.{refl, sym, ap}
use Rattle.std.specs.Prelude.{is_ok, if◌then◌else◌}
use Rattle.iso_codec.specs.declared.decode_fault.DecodeFault.{DecodeFault}
use Rattle.iso_codec.specs.Message.{IsoMessage}
use Rattle.iso_codec.specs.Reading.{reading_of}
use Rattle.acq_message.specs.declared.service.Service.{Service}
use Rattle.acq_message.specs.declared.request_message.RequestMessage.{RequestMessage}
use Rattle.acq_message.specs.Services.{service_of}
use Rattle.acq_message.specs.FirstCheck.{is_malformed}
use Rattle.acq_core.specs.declared.event.Event.TheVariants.{Frame}
use Rattle.acq_core.specs.declared.output.Output.{Output}
use Rattle.acq_core.specs.declared.output.Output.TheVariants.{Undecodable}
use Rattle.acq_core.specs.declared.arrival.Arrival.TheVariants.{Malformed, Requested}
use Rattle.acq_core.specs.declared.reply_state.ReplyState.{ReplyState}
use Rattle.acq_core.specs.declared.reply_state.ReplyState.TheVariants.{Kept, Awaited, Late}
use Rattle.acq_core.specs.Arrivals.{arrival_of, arrival_of_message, arrival_of_reading}
use Rattle.acq_core.specs.Arrivals.{merchant_named}
use Rattle.acq_core.specs.Known.{Known}
use Rattle.acq_core.specs.Decision.{Decision, decision_of_request, repeat_of}
use Rattle.acq_core.specs.Outcome.{outcome_of, output_of}
use Rattle.acq_core.specs.Tables.{Tables, known_in, step_output}
use Rattle.acq_core.proofs.DecisionCases.{by_request}
use Rattle.acq_front.specs.Turns.{is_read}

module _ (k : Known) (party : Option (List ℕ)) (f : DecodeFault) where
  -- what is decided is not reported so
  abbrev Reads : Decision → Type 0
  Reads d = output_of party (outcome_of k d) ≡ Undecodable f → ⊥

  repeat_reads : (s : ReplyState) → Reads (repeat_of s)
  repeat_reads (Kept reply) h = cc
  repeat_reads (Awaited draft) h = cc
  repeat_reads Late h = cc

  -- a request isn't
  pub request_reads : (r : RequestMessage) → Reads (decision_of_request r.service k r)
  request_reads r = by_request k r Reads (record {
    managed = λ service h. cc;
    unknown = λ h. cc;
    duplicate = λ p is h. cc;
    repeated = λ p is. repeat_reads p.reply_state;
    refused = λ merchant fresh given refusal h. cc;
    admitted = λ merchant fresh service range is h. cc;
    completed = λ merchant fresh service hold is opens h. cc;
    reversed = λ merchant fresh service p is reversible h. cc;
    reconciled = λ merchant fresh service day is h. cc;
  })

module _ (t : Tables) (moment : ℕ) where
  by_check : (r : RequestMessage) (f : DecodeFault) (malformed : Bool) →
      step_output t (if malformed then Malformed r else Requested r) ≡ Undecodable f → ⊥
  by_check r f true h = cc
  by_check r f false h = request_reads (known_in t (Requested r)) (merchant_named (Requested r)) f r
      h

  message_reads : (o : Option Service) (m : IsoMessage) (f : DecodeFault) →
      step_output t (arrival_of_message moment m o) ≡ Undecodable f → ⊥
  message_reads None m f h = cc
  message_reads (Some service) m f h =
      let r : RequestMessage = record { moment = moment; service = service; message = m } in
      by_check r f (is_malformed service m) h

  fault_by : (read : Result IsoMessage DecodeFault) (f : DecodeFault) →
      step_output t (arrival_of_reading moment read) ≡ Undecodable f → read ≡ Err f
  fault_by (Ok m) f h = absurd (message_reads (service_of m.kind) m f h)
  fault_by (Err e) f h = let same : e ≡ f = cc in ap (λ (x : DecodeFault). Err x) same

  -- what is reported so doesn't read
  pub undecodable_is : (message : List ℕ) (f : DecodeFault) →
      step_output t (arrival_of (Frame moment message)) ≡ Undecodable f → reading_of message ≡ Err f
  undecodable_is message f is = fault_by (reading_of message) f is

  read_by : (read : Result IsoMessage DecodeFault) (o : Output) →
      step_output t (arrival_of_reading moment read) ≡ o →
      ((f : DecodeFault) → o ≡ Undecodable f → ⊥) → is_ok read ≡ true
  read_by (Ok m) o is other = refl
  read_by (Err f) o is other = absurd (other f (sym is))

  -- anything else does
  pub reads : (message : List ℕ) (o : Output) →
      step_output t (arrival_of (Frame moment message)) ≡ o →
      ((f : DecodeFault) → o ≡ Undecodable f → ⊥) → is_read message ≡ true
  reads message o is other = read_by (reading_of message) o is other
