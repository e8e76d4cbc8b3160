-- A message is sent again and again.
use Rattle.std.proofs.Common.{◌≡◌, ◌+◌, ◌≤◌, ℕ, suc, List, [], ◌∷◌, ◌++◌, length, map, refl}
use Rattle.std.proofs.Common.{◌∙◌, Err, Ok, append_assoc, append-nil, arith, drop, inl, inr, take}
use Rattle.std.proofs.Common.{ap, length-append, sym}
use Rattle.std.specs.Prelude.{Result}
use Rattle.std.proofs.lemmas.List.{map-append, take-append-drop}
use Rattle.iso_codec.specs.Message.{IsoMessage}
use Rattle.iso_codec.specs.Reading.{spelling}
use Rattle.acq_link.specs.Frames.{frame, framed}
use Rattle.acq_link.proofs.WrittenFrames.{framed-push}
use Rattle.acq_ask.specs.Turns.{Outcome, sent_by}
use Rattle.acq_link.specs.declared.input_fault.InputFault as input
use Rattle.acq_ask.specs.Asking.{IsFront, Talk, of_input}
use Rattle.acq_ask.specs.Puts.{Puts}
use Rattle.acq_ask.specs.Codes.{code_of, counts_text}
use Rattle.acq_ask.specs.Repeats.{Repeated, Repeats, RepeatsAll, RepeatsSome, SendsRepeats}
use Rattle.acq_ask.specs.Repeats.{SpellsNone, SpellsOne, counted_up, message_at, repeats}
use Rattle.acq_ask.specs.declared.ask_fault.AskFault.{AskFault}
use Rattle.acq_ask.specs.declared.ask_fault.AskFault.TheVariants as fault
use Rattle.acq_ask.specs.declared.no_reply.NoReply.TheVariants as no_reply
use Rattle.acq_ask.specs.declared.reply_code.ReplyCode.{ReplyCode}
use Rattle.acq_ask.proofs.Turning.{talk_of}

-- ---- one of them

all_of : (whole : List ℕ) → IsFront whole whole
all_of whole = ([], sym (append-nil whole))

begins : (message : List ℕ) (outcome : Outcome) → IsFront (sent_by message outcome) (frame message)
begins message (Ok reply) = all_of (frame message)
begins message (Err (no_reply.Unsent n)) =
    (drop n (frame message), sym (take-append-drop n (frame message)))
begins message (Err no_reply.Memory) = all_of (frame message)
begins message (Err no_reply.Silent) = all_of (frame message)
begins message (Err no_reply.Ended) = all_of (frame message)
begins message (Err no_reply.BadLength) = all_of (frame message)
begins message (Err no_reply.Read) = all_of (frame message)

pub front_sent : (text spelled sent : List ℕ) (outcome : Outcome) → text ≡ spelled →
    sent ≡ sent_by text outcome → IsFront sent (frame spelled)
front_sent text spelled sent outcome same whole =
    rw (sym same, whole) (begins text outcome)

-- ---- as far as they have come

-- the first messages went out, and these replies came; the next message and what is held
pub record Going (message : IsoMessage) (sent came : List ℕ) (replies : List (List ℕ))
    (now : IsoMessage) (held : List ℕ) : Type 0 where
  pub sent_all : sent ≡ framed (repeats (length replies) message)
  pub counted : now ≡ message_at (length replies) message
  pub came_all : came ≡ framed replies ++ held

pub going_first : (message : IsoMessage) (held : List ℕ) → held ≡ [] →
    Going message [] [] [] message held
going_first message held none = record { sent_all = refl; counted = refl; came_all = sym none }

one_longer : (replies : List (List ℕ)) (reply : List ℕ) →
    length (replies ++ reply ∷ []) ≡ suc (length replies)
one_longer replies reply = omega (arith, length-append replies (reply ∷ []))

sent_longer : (k n : ℕ) (message : IsoMessage) → n ≡ suc k →
    framed (repeats n message)
    ≡ framed (repeats k message) ++ frame (spelling (message_at k message))
sent_longer k n message is =
    ap (λ (m : ℕ). framed (repeats m message)) is
    ∙ framed-push (repeats k message) (spelling (message_at k message))

module _ (message : IsoMessage) (sent came : List ℕ) (replies : List (List ℕ)) (now : IsoMessage)
    (held : List ℕ) (so : Going message sent came replies now held) where
  pub going_on : (after : IsoMessage) (out back reply held_after : List ℕ) →
      out ≡ frame (spelling now) → after ≡ counted_up now →
      held ++ back ≡ frame reply ++ held_after →
      Going message (sent ++ out) (came ++ back) (replies ++ reply ∷ []) after held_after
  going_on after out back reply held_after went up answered =
      let longer = one_longer replies reply in
      record {
        sent_all = ap (λ (l : List ℕ). l ++ out) so.sent_all
            ∙ ap (λ (l : List ℕ). framed (repeats (length replies) message) ++ l)
            (went ∙ ap (λ (m : IsoMessage). frame (spelling m)) so.counted)
            ∙ sym (sent_longer (length replies) (length (replies ++ reply ∷ [])) message longer);
        counted = up ∙ ap counted_up so.counted
            ∙ ap (λ (m : ℕ). message_at m message) (sym longer);
        came_all = ap (λ (l : List ℕ). l ++ back) so.came_all
            ∙ append_assoc (framed replies) held back
            ∙ ap (λ (l : List ℕ). framed replies ++ l) answered
            ∙ sym (append_assoc (framed replies) (frame reply) held_after)
            ∙ ap (λ (l : List ℕ). l ++ held_after) (sym (framed-push replies reply));
      }

  pub stopped : (count : ℕ) (out back : List ℕ) → length replies ≤ count →
      IsFront out (frame (spelling now)) →
      Repeated message count (sent ++ out) (came ++ back) replies
  stopped count out back bound front = record {
    next = out;
    rest = held ++ back;
    sent_first = ap (λ (l : List ℕ). l ++ out) so.sent_all;
    begins = rw (sym so.counted) front;
    came_first = ap (λ (l : List ℕ). l ++ back) so.came_all
        ∙ append_assoc (framed replies) held back;
    bound = bound;
  }

  pub all_sent : (count : ℕ) → length replies ≡ count → RepeatsAll message count sent came replies
  all_sent count is = (
    is,
    so.sent_all ∙ ap (λ (m : ℕ). framed (repeats m message)) is,
    (held, so.came_all),
  )

pub codes_more : (old now after : List ReplyCode) (replies : List (List ℕ)) (reply : List ℕ) →
    now ≡ old ++ map code_of replies → after ≡ now ++ code_of reply ∷ [] →
    after ≡ old ++ map code_of (replies ++ reply ∷ [])
codes_more old now after replies reply before this =
    this ∙ ap (λ (l : List ReplyCode). l ++ code_of reply ∷ []) before
    ∙ append_assoc old (map code_of replies) (code_of reply ∷ [])
    ∙ ap (λ (l : List ReplyCode). old ++ l) (sym (map-append code_of replies (reply ∷ [])))

-- of one more, of which so many came before
pub one_more : (replies : List (List ℕ)) (reply : List ℕ) (n : ℕ) → length replies ≡ n →
    length (replies ++ reply ∷ []) ≡ n + 1
one_more replies reply n is = omega (arith, is, length-append replies (reply ∷ []))

-- ---- the whole of it

-- no message could be had of the input
pub none_unread : (bytes : List ℕ) (cause : input.InputFault) → SpellsNone bytes (of_input cause)
none_unread bytes input.TheVariants.Memory = tt
none_unread bytes input.TheVariants.Read = tt

pub nothing_sent : (count : ℕ) (input : List ℕ) (cause : AskFault) → SpellsNone input cause →
    Repeats count input (talk_of [] [] []) (Err cause)
nothing_sent count input cause why = inl (refl, why)

-- how much of a text went out
pub text_cut : (text old new : List ℕ) (cause : AskFault) → Puts text old new (Err cause) →
    (part : List ℕ) × (new ≡ old ++ part) × IsFront part text
text_cut text old new fault.Memory puts = ([], puts ∙ sym (append-nil old), (text, refl))
text_cut text old new (fault.Write n) puts =
    (take n text, puts, (drop n text, sym (take-append-drop n text)))
text_cut text old new cause puts = absurd puts

module _ (count : ℕ) (input sent came : List ℕ) (message : IsoMessage) (replies : List (List ℕ))
    (ended : Result (Unit {0}) AskFault) (spells : SpellsOne input message)
    (sends : SendsRepeats message count sent came replies ended) where
  pub shown_part : (cause : AskFault) (times shown : List ℕ) →
      IsFront shown (counts_text count (map code_of replies) ++ times) →
      Repeats count input (talk_of sent came shown) (Err cause)
  shown_part cause times shown front = inr (inr (record {
    message = message;
    replies = replies;
    sent_all = ended;
    spells = spells;
    sends = sends;
    times = times;
    shown = front;
  }))

  some_sent : (times : List ℕ) →
      RepeatsSome count input
      (talk_of sent came (counts_text count (map code_of replies) ++ times)) ended
  some_sent times = record {
    message = message;
    replies = replies;
    spells = spells;
    sends = sends;
    times = times;
    shown = refl;
  }

how_it_ended : (count : ℕ) (input : List ℕ) (talk : Talk) (ended : Result (Unit {0}) AskFault) →
    RepeatsSome count input talk ended → Repeats count input talk ended
how_it_ended count input talk (Ok u) so = so
how_it_ended count input talk (Err cause) so = inr (inl so)

pub shown_whole : (count : ℕ) (input sent came : List ℕ) (message : IsoMessage)
    (replies : List (List ℕ)) (ended : Result (Unit {0}) AskFault) → SpellsOne input message →
    SendsRepeats message count sent came replies ended → (times shown : List ℕ) →
    shown ≡ counts_text count (map code_of replies) ++ times →
    Repeats count input (talk_of sent came shown) ended
shown_whole count input sent came message replies ended spells sends times shown is =
    rw is
    (how_it_ended count input
    (talk_of sent came (counts_text count (map code_of replies) ++ times)) ended
    (some_sent count input sent came message replies ended spells sends times))
