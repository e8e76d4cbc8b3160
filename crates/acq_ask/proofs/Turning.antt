-- A talk goes on, turn by turn.
use Rattle.std.proofs.Common.{◌≡◌, ℕ, Bool, true, false, List, [], ◌∷◌, ◌++◌, take, drop}
use Rattle.std.proofs.Common.{refl, sym, ap, ◌∙◌, Ok, Err, inl, inr, append_assoc, append-nil}
use Rattle.std.specs.Prelude.{◌||◌, Result}
use Rattle.std.specs.List.{flat_map, list_any}
use Rattle.std.proofs.Math.Bool.{or-false}
use Rattle.std.proofs.lemmas.Grind.{flat_map-append}
use Rattle.std.proofs.lemmas.List.{map-append, take-append-drop}
use Rattle.std.proofs.lemmas.List.Folds.{list_all-append, list_any-append}
use Rattle.acq_link.specs.Frames.{FramesThen, frame}
use Rattle.acq_link.specs.FramesAt.{BeginsWithFrame}
use Rattle.acq_link.specs.declared.input_fault.InputFault as input
use Rattle.acq_link.proofs.FramesInOrder.{taken_more}
use Rattle.acq_show.specs.Lines.{message_lines}
use Rattle.acq_ask.specs.Turns.{Outcome, came_by, goes_on, lacks_reply, outcome_lines}
use Rattle.acq_ask.specs.Turns.{shown_by}
use Rattle.acq_ask.specs.Exchanges.{Exchanges}
use Rattle.acq_ask.specs.Puts.{Puts}
use Rattle.acq_ask.specs.Asking.{EndsTurn, IsFront}
use Rattle.acq_ask.specs.Asking.{SaysNothing, TakesTurn, TakesWhole, Talk, Took, Turn}
use Rattle.acq_ask.specs.Asking.{came_in, is_unanswered, joined, messages, of_input, passes}
use Rattle.acq_ask.specs.Asking.{sent_in, shown_in}
use Rattle.acq_ask.specs.declared.ask_fault.AskFault.{AskFault}
use Rattle.acq_ask.specs.declared.ask_fault.AskFault.TheVariants as fault

-- ---- lists

-- what came later stands behind
pub passed_more : (before mid now first next : List ℕ) → mid ≡ before ++ first →
    now ≡ mid ++ next → now ≡ before ++ (first ++ next)
passed_more before mid now first next e h =
    h ∙ ap (λ (l : List ℕ). l ++ next) e ∙ append_assoc before first next

-- two parts that are others
both : {a b x y : List ℕ} → a ≡ x → b ≡ y → a ++ b ≡ x ++ y
both e h = cc

snoc : {X A : Type 0} (f : X → List A) (xs : List X) (x : X) →
    flat_map f (xs ++ x ∷ []) ≡ flat_map f xs ++ f x
snoc f xs x = flat_map-append f xs (x ∷ []) ∙ ap (λ l. flat_map f xs ++ l) (append-nil (f x))

-- the first bytes of a part are first bytes of the whole
front_of : (n : ℕ) (part behind : List ℕ) → IsFront (take n part) (part ++ behind)
front_of n part behind = (
  drop n part ++ behind,
  ap (λ (l : List ℕ). l ++ behind) (sym (take-append-drop n part))
      ∙ append_assoc (take n part) (drop n part) behind,
)

front_behind : (n : ℕ) (before part : List ℕ) → IsFront (before ++ take n part) (before ++ part)
front_behind n before part = (
  drop n part,
  ap (λ (l : List ℕ). before ++ l) (sym (take-append-drop n part))
      ∙ sym (append_assoc before (take n part) (drop n part)),
)

-- ---- one turn

abbrev pub talk_of : (sent came shown : List ℕ) → Talk
talk_of sent came shown = record { sent = sent; came = came; shown = shown }

-- the message was not shown whole, so that it wasn't sent
pub stopped_before : (within : ℕ) (message held old new : List ℕ) (f : AskFault) →
    Puts (message_lines message) old new (Err f) →
    (part : List ℕ) × (new ≡ old ++ part)
    × TakesTurn within message held (talk_of [] [] part) held (Err f)
stopped_before within message held old new fault.Memory puts = (
  [],
  puts ∙ sym (append-nil old),
  record {
    outcome = Ok [];
    sent = (frame message, refl);
    shown = (shown_by within message (Ok []), refl);
  },
)
stopped_before within message held old new (fault.Write n) puts = (
  take n (message_lines message),
  puts,
  record {
    outcome = Ok [];
    sent = (frame message, refl);
    shown = front_of n (message_lines message) (outcome_lines within (Ok []));
  },
)
stopped_before within message held old new f puts = absurd puts

module _ (within : ℕ) (message held old mid new sent came after : List ℕ) (outcome : Outcome)
    (shown : mid ≡ old ++ message_lines message)
    (so : Exchanges message held sent came after outcome) where
  -- what came of the message was not shown whole
  pub stopped_behind : (f : AskFault) → Puts (outcome_lines within outcome) mid new (Err f) →
      (part : List ℕ) × (new ≡ old ++ part)
      × TakesTurn within message held (talk_of sent came part) after (Err f)
  stopped_behind fault.Memory puts = (
    message_lines message,
    puts ∙ shown,
    record {
      outcome = outcome;
      sent = ([], rw (so.whole) (sym (append-nil _)));
      shown = (outcome_lines within outcome, refl);
    },
  )
  stopped_behind (fault.Write n) puts = (
    message_lines message ++ take n (outcome_lines within outcome),
    passed_more old mid new (message_lines message) (take n (outcome_lines within outcome)) shown
        puts,
    record {
      outcome = outcome;
      sent = ([], rw (so.whole) (sym (append-nil _)));
      shown = front_behind n (message_lines message) (outcome_lines within outcome);
    },
  )
  stopped_behind f puts = absurd puts

  whole_turn : TakesWhole within message held
      (talk_of sent came (shown_by within message outcome)) after outcome
  whole_turn = record { sent = so.whole; came = so.reply; lacks = so.lacks; shown = refl }

  ended_turn : (result : Result Bool AskFault) → EndsTurn outcome result →
      TakesTurn within message held (talk_of sent came (shown_by within message outcome)) after
      result
  ended_turn (Ok silent) ends = (outcome, whole_turn, ends.0, ends.1)
  ended_turn (Err (fault.NoReply cause)) ends = rw (sym ends) whole_turn
  ended_turn (Err f) ends = absurd ends

  -- it was shown whole
  pub turn_taken : (result : Result Bool AskFault) → new ≡ mid ++ outcome_lines within outcome →
      EndsTurn outcome result →
      (part : List ℕ) × (new ≡ old ++ part)
      × TakesTurn within message held (talk_of sent came part) after result
  turn_taken result is ends = (
    shown_by within message outcome,
    passed_more old mid new (message_lines message) (outcome_lines within outcome) shown is,
    ended_turn result ends,
  )

-- ---- all of them

abbrev pub turn_of : List ℕ → Outcome → Turn
turn_of message outcome = record { message = message; outcome = outcome }

pub took_none : (within : ℕ) (rest : List ℕ) → rest ≡ [] →
    Took within (talk_of [] [] []) [] rest
took_none within rest none = record { sent = refl; came = sym none; shown = refl; each = refl }

pub took_more : (within : ℕ) (before turn : Talk) (turns : List Turn)
    (message held after : List ℕ) (outcome : Outcome) → Took within before turns held →
    TakesWhole within message held turn after outcome → goes_on outcome ≡ true →
    Took within (joined before turn) (turns ++ turn_of message outcome ∷ []) after
took_more within before turn turns message held after outcome so this on = record {
  sent = both so.sent this.sent ∙ sym (snoc sent_in turns (turn_of message outcome));
  came = both so.came refl ∙ append_assoc (flat_map came_in turns) held turn.came
      ∙ ap (λ (l : List ℕ). flat_map came_in turns ++ l) this.came
      ∙ sym (append_assoc (flat_map came_in turns) (came_by outcome) after)
      ∙ ap (λ (l : List ℕ). l ++ after) (sym (snoc came_in turns (turn_of message outcome)));
  shown = both so.shown this.shown
      ∙ sym (snoc (shown_in within) turns (turn_of message outcome));
  each = list_all-append passes turns (turn_of message outcome ∷ []) ∙ rw (so.each, on) refl;
}

-- the messages of one turn more
messages_more : (turns : List Turn) (message : List ℕ) (outcome : Outcome) →
    messages (turns ++ turn_of message outcome ∷ []) ≡ messages turns ++ message ∷ []
messages_more turns message outcome =
    map-append (λ (turn : Turn). turn.message) turns (turn_of message outcome ∷ [])

pub frames_more : (input rest message later : List ℕ) (turns : List Turn) (outcome : Outcome) →
    FramesThen input (messages turns) rest → BeginsWithFrame rest message later →
    FramesThen input (messages (turns ++ turn_of message outcome ∷ [])) later
frames_more input rest message later turns outcome taken next =
    rw (messages_more turns message outcome)
    (taken_more input rest message later (messages turns) taken next.whole next.fits)

pub silent_more : (turns : List Turn) (message : List ℕ) (outcome : Outcome) (silent now : Bool) →
    silent ≡ list_any is_unanswered turns → now ≡ lacks_reply outcome →
    (silent || now) ≡ list_any is_unanswered (turns ++ turn_of message outcome ∷ [])
silent_more turns message outcome silent now e h =
    ap (λ (b : Bool). b || now) e ∙ ap (λ (b : Bool). list_any is_unanswered turns || b)
    (h ∙ sym (or-false (lacks_reply outcome)))
    ∙ sym (list_any-append is_unanswered turns (turn_of message outcome ∷ []))

-- ---- the input couldn't be read

pub nothing_asked : (fault : input.InputFault) → SaysNothing (talk_of [] [] []) (of_input fault)
nothing_asked input.TheVariants.Memory = (refl, inl refl)
nothing_asked input.TheVariants.Read = (refl, inr refl)
