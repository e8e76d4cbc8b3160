-- What a repeat gets: what was kept of its request. Another request under its key gets 94.
use Rattle.std.specs.Prelude.{◌≡◌, ◌≢◌, ℕ, List, Some, codes}
use Rattle.iso_codec.specs.Message.{IsoMessage}
use Rattle.acq_core.specs.declared.event.Event.{Event}
use Rattle.acq_core.specs.declared.output.Output.TheVariants as output
use Rattle.acq_message.specs.Elements.{key_of, essence_of}
use Rattle.acq_message.specs.declared.request_message.RequestMessage.{RequestMessage}
use Rattle.acq_core.specs.declared.arrival.Arrival.TheVariants.{Requested}
use Rattle.acq_core.specs.declared.reply_state.ReplyState.{ReplyState}
use Rattle.acq_core.specs.declared.reply_state.ReplyState.TheVariants.{Kept, Awaited, Late}
use Rattle.acq_core.specs.Outcome.{Outcome, Repeated, Reported, outcome}
use Rattle.acq_core.specs.Tables.{Opening}
use Rattle.acq_history.specs.Entries.{Entry, request_of}
use Rattle.acq_history.specs.History.{Found, recorded, prior, kept_reply}
use Rattle.acq_history.specs.PartyHistory.{known_by, history_of}
use Rattle.acq_history.specs.Acceptance.{result_on}
use Rattle.acq_history.specs.Told.{told_now}

-- what a repeat results in
abbrev pub repeated : ReplyState → Outcome
repeated (Kept reply) = Repeated reply
repeated (Awaited draft) = Reported output.Waiting
repeated Late = Reported output.Late

-- A request that the first check passes, and whose key is recorded with the same essence, gets the
-- reply that was kept, or the output that it has to wait or comes too late.
abbrev pub RepeatsAreKept : List ℕ → Type 0
RepeatsAreKept m =
    (opening : Opening) (es : List Event) (r : RequestMessage) (f : Found) →
    let h = history_of opening (Some m) es in
    request_of (Requested r) ≡ Some r →
    recorded (key_of r.service r.message) h ≡ Some f →
    essence_of r.service r.message ≡ (prior f).essence →
    outcome (known_by opening h (Requested r)) (Requested r) ≡ repeated (prior f).reply_state

-- A request that the first check passes, and whose key is recorded with another essence, is told
-- 94.
abbrev pub OthersAreDuplicates : List ℕ → Type 0
OthersAreDuplicates m =
    (opening : Opening) (es : List Event) (r : RequestMessage) (f : Found) →
    request_of (Requested r) ≡ Some r →
    recorded (key_of r.service r.message) (history_of opening (Some m) es) ≡ Some f →
    essence_of r.service r.message ≢ essence_of f.request.service f.request.message →
    told_now (result_on m opening es r) ≡ Some (codes "94")

-- a request whose key is recorded with the same essence, and this reply was kept
pub record IsRepeatOf (h : List Entry) (r : RequestMessage) (reply : IsoMessage) : Type 0 where
  pub original : Found
  pub same_key : recorded (key_of r.service r.message) h ≡ Some original
  pub same_essence :
      essence_of r.service r.message
      ≡ essence_of original.request.service original.request.message
  pub kept : kept_reply original ≡ Some reply

-- A kept reply is given again to such a request alone.
abbrev pub OnlyRepeatsAreKept : List ℕ → Type 0
OnlyRepeatsAreKept m =
    (opening : Opening) (es : List Event) (r : RequestMessage) (reply : IsoMessage) →
    result_on m opening es r ≡ Repeated reply →
    IsRepeatOf (history_of opening (Some m) es) r reply
