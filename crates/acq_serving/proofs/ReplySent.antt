-- What one message makes of a connection once its reply, if there is one, is sent.
use Rattle.std.proofs.Common.{◌≡◌, ℕ, true, List, [], ◌∷◌, ◌++◌, Result, Ok, Err, refl, sym, ◌∙◌}
use Rattle.std.proofs.Common.{append-nil}
use Rattle.acq_link.specs.Frames.{frame, fits_frame}
use Rattle.acq_core.specs.declared.event.Event.{Event}
use Rattle.acq_core.specs.declared.output.Output.{Output}
use Rattle.acq_core.specs.declared.output.Output.TheVariants.{Reply}
use Rattle.acq_core.specs.Tables.{Tables}
use Rattle.acq_front.specs.declared.front_fault.FrontFault as fault
use Rattle.acq_front.specs.Stops.{Left}
use Rattle.acq_front.specs.Talk.{Saying, reply_in, replies}
use Rattle.acq_front.specs.Turns.{is_read, Incoming, ReplyFits, Said, TookMessage, Turns}
use Rattle.acq_front.proofs.MessagesTaken.{frames_none, frames_one}
use Rattle.acq_serving.specs.Sending.{Sends, SendsReply}

module _ (may_say : Saying) (old : Tables) (left : Left) (m : Incoming) (events : List Event)
    (reads : is_read m.message ≡ true)
    (took : TookMessage may_say old left m events) where
  -- a reply's frame went out, or its first bytes
  reply_sent : (text before now : List ℕ) (r : Result (Unit {0}) fault.FrontFault) →
      replies old events ≡ text ∷ [] →
      fits_frame text ≡ true → Sends text before now r →
      (out : List ℕ) × (now ≡ before ++ out) × Turns may_say old left m out r
  reply_sent text before now (Ok u) one fits sent = (
    frame text,
    sent,
    (
      record {
        events = events;
        took = took;
        written =
            frames_one text (replies old events) one fits;
      },
      reads,
    ),
  )
  reply_sent text before now (Err (fault.TheVariants.Write n)) one fits sent = (
    _,
    sent.1,
    record {
      events = events;
      reply = text;
      took = took;
      reads = reads;
      replied = one;
      short =
          sent.0;
      written = refl;
    },
  )
  reply_sent text before now (Err fault.TheVariants.Memory) one fits sent = absurd sent
  reply_sent text before now (Err fault.TheVariants.Store) one fits sent = absurd sent
  reply_sent text before now (Err fault.TheVariants.BadLength) one fits sent = absurd sent
  reply_sent text before now (Err fault.TheVariants.Ended) one fits sent = absurd sent
  reply_sent text before now (Err fault.TheVariants.Read) one fits sent = absurd sent
  reply_sent text before now (Err (fault.TheVariants.Undecodable f)) one fits sent = absurd sent

  -- nothing was to go out
  nothing_sent : (before now : List ℕ) → replies old events ≡ [] → now ≡ before →
      (out : List ℕ) × (now ≡ before ++ out) × Turns may_say old left m out (Ok tt)
  nothing_sent before now none same = (
    [],
    same ∙ sym (append-nil before),
    (record { events = events; took = took; written = frames_none none }, reads),
  )

  -- what the host said last was sent, if it is a reply
  pub said_sent : (o : Output) (before now : List ℕ) (r : Result (Unit {0}) fault.FrontFault) →
      replies old events ≡ reply_in o → ReplyFits o → SendsReply o before now r →
      (out : List ℕ) × (now ≡ before ++ out) × Turns may_say old left m out r
  said_sent (Reply party text) before now r are fits sent = reply_sent text before now r are
      (fits party text refl) sent
  said_sent o before now (Ok u) are fits sent = nothing_sent before now are sent
  said_sent o before now (Err f) are fits sent = absurd sent

-- what the host said last was sent, if it is a reply
pub was_sent : (may_say : Saying) (old : Tables) (left : Left) (m : Incoming) (o : Output)
    (before now : List ℕ) (r : Result (Unit {0}) fault.FrontFault) →
    Said may_say old left m o → SendsReply o before now r →
    (out : List ℕ) × (now ≡ before ++ out) × Turns may_say old left m out r
was_sent may_say old left m o before now r s sent =
    said_sent may_say old left m s.events s.reads s.took o before now r s.replied s.fits
    sent
