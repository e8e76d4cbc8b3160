-- What a connection has of more acts.
use Rattle.std.proofs.Common.{◌≡◌, ◌≢◌, ◌==◌, ◌&&◌, ℕ, Bool, true, false, true≢false, List, []}
use Rattle.std.proofs.Common.{◌∷◌, ◌++◌, length, cond, refl, sym, ap, subst, ◌∙◌, append_assoc}
use Rattle.std.proofs.Common.{append-nil, arith, Option, Some, None}
use Rattle.std.proofs.lemmas.Bool.Decides.{nat_tests}
use Rattle.std.proofs.lemmas.List.Concat.{flat_map-append}
use Rattle.std.specs.List.{AllByRecursion}
use Rattle.acq_core.specs.declared.query.Query.{Query}
use Rattle.acq_link.specs.Frames.{FramesThen, framed}
use Rattle.acq_link.specs.FirstMessage.{behind_message, first_message}
use Rattle.acq_link.specs.FramesAt.{BeginsWithFrame}
use Rattle.acq_link.proofs.FirstMessages.{message_in_front}
use Rattle.acq_link.proofs.FramesInOrder.{taken_more}
use Rattle.acq_link.proofs.WrittenFrames.{framed-append}
use Rattle.acq_front.specs.Ready as conversation
use Rattle.acq_rounds.specs.Acts.{Act, Connection, Follows, HasOf, IsNext, TakeTurns, Taken, Turn}
use Rattle.acq_rounds.specs.Acts.{awaited, message_in, messages_in, said_to, taken_by, told_in}
use Rattle.acq_rounds.specs.Groups.{answered, behind_turn, is_ready, is_ready_at, stage_of}
use Rattle.acq_rounds.specs.Groups.{turn_at, turn_of}
use Rattle.acq_rounds.specs.declared.stage.Stage.{Stage}
use Rattle.acq_rounds.specs.declared.stage.Stage.TheVariants as stage
use Rattle.acq_rounds.proofs.Lists.{differs, same}

pub taken-append : (k : ℕ) (acts more : List Act) →
    taken_by k (acts ++ more) ≡ taken_by k acts ++ taken_by k more
taken-append k [] more = refl
taken-append k (a ∷ acts) more =
    let own : List Taken = cond (a.connection == k) (a.taken ∷ []) [] in
    ap (λ (l : List Taken). own ++ l) (taken-append k acts more)
    ∙ sym (append_assoc own (taken_by k acts) (taken_by k more))

-- acts of others
abbrev pub Others : ℕ → List Act → Type 0
Others k acts = AllByRecursion (λ a. a.connection ≢ k) acts

pub taken_other : (k : ℕ) (acts : List Act) → Others k acts → taken_by k acts ≡ []
taken_other k [] h = refl
taken_other k (a ∷ acts) h =
    ap (λ (b : Bool). cond b (a.taken ∷ []) [] ++ taken_by k acts)
    (differs a.connection k h.0)
    ∙ taken_other k acts h.1

-- others had acts
pub follows_others : (c : Connection) (acts more : List Act) → Others c.number more →
    Follows acts c → Follows (acts ++ more) c
follows_others c acts more others f =
    let k = c.number in
    subst (λ (l : List Taken). HasOf l c)
    (sym (taken-append k acts more
    ∙ ap (λ (l : List Taken). taken_by k acts ++ l) (taken_other k more others)
    ∙ append-nil (taken_by k acts)))
    f

abbrev pub act : Connection → Taken → Act
act c x = record { connection = c.number; taken = x }

is_left : (a b : Bool) → (a && b) ≡ true → a ≡ true
is_left true b h = refl
is_left false b h = absurd (true≢false (sym h))

is_right : (a b : Bool) → (a && b) ≡ true → b ≡ true
is_right true b h = h
is_right false b h = absurd (true≢false (sym h))

none_left : (u : List ℕ) → (length u == 0) ≡ true → u ≡ []
none_left [] h = refl
none_left (x ∷ u) h = absurd (bad h) where
  bad : (length (x ∷ u) == 0) ≡ true → ⊥
  bad h = grind (arith, nat_tests)

-- what is ready stands in front, and nothing is to be written
pub in_front : (held unsent : List ℕ) → conversation.is_ready held unsent ≡ true →
    BeginsWithFrame held (first_message held) (behind_message held) × (unsent ≡ [])
in_front held unsent h = (
  message_in_front held (is_right (length unsent == 0) _ h),
  none_left unsent (is_left (length unsent == 0) _ h),
)

-- ---- one turn more

turns_more : (waits : Option Query) (xs : List Taken) (now : Option Query) (x : Taken) →
    TakeTurns waits xs now → IsNext now x.turn → TakeTurns waits (xs ++ x ∷ []) x.waits
turns_more waits [] now x t n = (subst (λ (o : Option Query). IsNext o x.turn) t n, refl)
turns_more waits (y ∷ xs) now x t n = (t.0, turns_more y.waits xs now x t.1 n)

awaited_of : (waits : Option Query) → awaited (stage_of waits) ≡ waits
awaited_of None = refl
awaited_of (Some query) = refl

module _ (xs : List Taken) (x : Taken) (number : ℕ) (came held went unsent : List ℕ) where
  abbrev made : List ℕ → List ℕ → Stage → Connection
  made held unsent stage = record {
    number = number;
    came = came;
    held = held;
    went = went;
    unsent = unsent;
    stage = stage;
  }

  messages_more : messages_in (xs ++ x ∷ []) ≡ messages_in xs ++ message_in x.turn
  messages_more =
      flat_map-append (λ (y : Taken). message_in y.turn) xs (x ∷ [])
      ∙ ap (λ (l : List (List ℕ)). messages_in xs ++ l) (append-nil (message_in x.turn))

  said_more : said_to (xs ++ x ∷ []) ≡ said_to xs ++ x.said
  said_more =
      flat_map-append (λ (y : Taken). y.said) xs (x ∷ [])
      ∙ ap (λ (l : List (List ℕ)). said_to xs ++ l) (append-nil x.said)

  written_more : unsent ≡ [] → went ++ unsent ≡ framed (said_to xs) →
      went ++ framed x.said ≡ framed (said_to (xs ++ x ∷ []))
  written_more none written =
      let before : went ≡ framed (said_to xs) =
      sym (append-nil went) ∙ ap (λ (l : List ℕ). went ++ l) (sym none) ∙ written in
      ap (λ (l : List ℕ). l ++ framed x.said) before
      ∙ sym (framed-append (said_to xs) x.said) ∙ ap framed (sym said_more)

  waits_more : (now : Option Query) → TakeTurns None xs now → IsNext now x.turn →
      TakeTurns None (xs ++ x ∷ []) (awaited (stage_of x.waits))
  waits_more now t n = subst (TakeTurns None (xs ++ x ∷ [])) (sym (awaited_of x.waits))
      (turns_more None xs now x t n)

  took_at : (s : Stage) → is_ready_at s held unsent ≡ true → x.turn ≡ turn_at s held →
      HasOf xs (made held unsent s) →
      HasOf (xs ++ x ∷ []) (made (behind_turn s held) (framed x.said) (stage_of x.waits))
  took_at stage.Listening on is f =
      let at = in_front held unsent on in
      record {
        came = subst (λ (l : List (List ℕ)). FramesThen came l (behind_message held))
            (sym (messages_more
            ∙ ap (λ (u : Turn). messages_in xs ++ message_in u) is))
            (taken_more came held (first_message held) (behind_message held)
            (messages_in xs) f.came at.0.whole at.0.fits);
        written = written_more at.1 f.written;
        turns = waits_more None f.turns (subst (IsNext None) (sym is) tt);
      }
  took_at (stage.Asking query) on is f = absurd (true≢false (sym on))
  took_at (stage.Answered query) on is f = record {
    came = subst (λ (l : List (List ℕ)). FramesThen came l held)
        (sym (messages_more ∙ ap (λ (u : Turn). messages_in xs ++ message_in u) is
        ∙ append-nil (messages_in xs)))
        f.came;
    written = written_more (none_left unsent on) f.written;
    turns = waits_more (Some query) f.turns (subst (IsNext (Some query)) (sym is) refl);
  }

-- its turn was taken, and this was said
pub follows_took : (c : Connection) (acts : List Act) (x : Taken) → is_ready c ≡ true →
    x.turn ≡ turn_of c → Follows acts c →
    Follows (acts ++ act c x ∷ []) (answered c (told_in x))
follows_took c acts x on is f =
    let k = c.number in
    let own : taken_by k (act c x ∷ []) ≡ x ∷ [] =
    ap (λ (b : Bool). cond b (x ∷ []) [] ++ []) (same k) in
    subst (λ (l : List Taken). HasOf l (answered c (told_in x)))
    (sym (taken-append k acts (act c x ∷ [])
    ∙ ap (λ (l : List Taken). taken_by k acts ++ l) own))
    (took_at (taken_by k acts) x k c.came c.held c.went c.unsent c.stage on is
    (record { came = f.came; written = f.written; turns = f.turns }))
