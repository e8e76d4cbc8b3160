-- One of the control connections has a round, comes or leaves.
use Rattle.std.proofs.Common.{◌≡◌, ◌≢◌, ◌<◌, ◌+◌, ℕ, zero, suc, List, [], ◌∷◌, ◌++◌, Option, Some}
use Rattle.std.proofs.Common.{None, refl, sym, ap, subst, ◌∙◌, append-nil, arith, get_or, set}
use Rattle.std.proofs.Common.{◌≤◌, length, map, true≢false, Ok, Err}
use Rattle.std.proofs.Common.{◌⊎◌, inl, inr, ⊎_elim}
use Rattle.std.specs.List.{All, AllByRecursion}
use Rattle.std.proofs.lemmas.List.Elements.{All-cons, All-nil}
use Rattle.std.proofs.lemmas.List.{map-append, get_or-map, get_or-set_same, map-set, set-get_or}
use Rattle.acq_core.specs.declared.event.Event.{Event}
use Rattle.acq_core.specs.Tables.{Tables, tables_after}
use Rattle.acq_front.specs.Stops.{Left}
use Rattle.acq_status.specs.declared.serving.Serving.{Serving}
use Rattle.acq_control.specs.Answers.{events_asked}
use Rattle.acq_control.specs.Ends.{RefusesLine}
use Rattle.acq_control.specs.Exchanges.{AsksOne, FollowsLog, Goes, IfRefused, IsSilent, MovesOn}
use Rattle.acq_control.specs.declared.control_round.ControlRound.{ControlRound}
use Rattle.acq_control.specs.declared.control_round.ControlRound.TheVariants as control_round
use Rattle.acq_front.specs.Faults as front
use Rattle.acq_front.specs.declared.front_fault.FrontFault as fault
use Rattle.acq_rounds.specs.Reaching.{Reaches, ReachesSome}
use Rattle.acq_controls.specs.Going.{ReachesIf}
use Rattle.acq_control.specs.Held.{Holds, nothing}
use Rattle.acq_control.specs.Lines.{IsInLine, LinesThen}
use Rattle.acq_control.specs.Log.{Act, Asked, Deed, FollowsActs, IsAskedBy, Served, answers_to}
use Rattle.acq_control.specs.Log.{asked_by, behind_act, behind_acts, lines_by, lines_in, own}
use Rattle.acq_control.specs.Log.{said_to}
use Rattle.acq_control.specs.declared.wish.Wish.{Wish}
use Rattle.acq_control.specs.Unmade.{unmade_at}
use Rattle.acq_control.proofs.Following.{follows_other, own_none, own_other}
use Rattle.acq_control.proofs.Unmade.{log_past}
use Rattle.acq_rounds.specs.Acts.{Connection, IsAmong, numbers}
use Rattle.acq_rounds.specs.Runs.{Between, Step}
use Rattle.acq_rounds.specs.Runs as runs
use Rattle.acq_controls.specs.Aside.{Aside, Open, seen, seen_in}
use Rattle.acq_controls.specs.declared.control.Control.{Control}
use Rattle.acq_controls.specs.Following.{AreNumbered, HasAnswers, IsHere, IsKnown}
use Rattle.acq_controls.specs.Following.{Stays}
use Rattle.acq_controls.specs.Parting.{EndsAs, last_of}
use Rattle.acq_controls.proofs.Acting.{acts_tables, are-append}
use Rattle.acq_controls.proofs.Placing.{EachOpen, at_place, distinct_free, distinct_new}
use Rattle.acq_controls.proofs.Placing.{distinct_put, does, each-append, each_both, each_weaker}
use Rattle.acq_controls.proofs.Placing.{among-append, among_last, each_with, here_left, here_now}
use Rattle.acq_controls.proofs.Placing.{here_put, here_still, put_in}
use Rattle.acq_rounds.proofs.Running.{events-append}
use Rattle.acq_controls.proofs.Staying.{GoesOn, go_none, go_stay}

set_again : {X : Type 0} (xs : List X) (i : ℕ) (y z : X) → set (set xs i y) i z ≡ set xs i z
set_again [] i y z = refl
set_again (x ∷ xs) zero y z = refl
set_again (x ∷ xs) (suc i) y z = ap (λ l. x ∷ l) (set_again xs i y z)

-- with this in a place
abbrev pub with_place : Aside → ℕ → Option Open → Aside
with_place a i place = record { count = a.count; ended = a.ended; here = set a.here i place }

module _ (a : Aside) (i : ℕ) (o : Open) (at : get_or a.here i None ≡ Some o) where
  apart_from : AreNumbered a → AllByRecursion (λ c. o.number ≢ c.number) a.ended
  apart_from n = each_weaker
      (λ c. EachOpen (λ x. x.number ≢ c.number) a.here) (λ c. o.number ≢ c.number) a.ended
      (λ c h. at_place (λ x. x.number ≢ c.number) a.here i o at h) n.apart

  numbered_put : (y : Open) → y.number ≡ o.number → AreNumbered a →
      AreNumbered (with_place a i (Some y))
  numbered_put y same n = record {
    ended_below = n.ended_below;
    below = put_in (λ x. x.number < a.count) a.here i (Some y) n.below
        (rw same (at_place (λ x. x.number < a.count) a.here i o at n.below));
    distinct = distinct_put a.here i o y at same n.distinct;
    apart = each_with (λ c. EachOpen (λ x. x.number ≢ c.number) a.here)
        (λ c. o.number ≢ c.number)
        (λ c. EachOpen (λ x. x.number ≢ c.number) (set a.here i (Some y))) a.ended
        (λ c h k. put_in (λ x. x.number ≢ c.number) a.here i (Some y) h (rw same k)) n.apart
        (apart_from n);
    every = λ k l. ⊎_elim (λ e. inl e) (λ h. inr (here_put k a.here i o y at same h)) (n.every k l);
  }

  -- ---- a round in which no line was taken

  module _ (may_give : ℕ → Type 0) (serving : Serving) (old : Tables) (left : Left) (y : Open)
      (same : y.number ≡ o.number) where
    pub moved_in : MovesOn may_give serving old left o.passed y.passed →
        GoesOn old a (with_place a i (Some y)) []
    moved_in on t steps now f =
        let same_acts = go_none old a t steps now f in
        let behind : old ≡ behind_acts t same_acts.acts =
        now ∙ ap (λ (l : List Event). tables_after t l) (sym (events_more steps))
        ∙ sym (acts_tables t (steps ++ Between [] ∷ []) same_acts.acts same_acts.are) in
        let was = at_place (λ x. FollowsLog x.number t same_acts.acts x.passed) a.here i o at
        same_acts.here in
        record {
          acts = same_acts.acts;
          are = same_acts.are;
          known = same_acts.known;
          ended = same_acts.ended;
          here = put_in (λ x. FollowsLog x.number t same_acts.acts x.passed) a.here i (Some y)
              same_acts.here (rw same (on.follows o.number t same_acts.acts behind was));
          numbered = numbered_put y same f.numbered;
        }
      where
        events_more : (steps : List Step) →
            runs.events_in (steps ++ Between [] ∷ []) ≡ runs.events_in steps
        events_more steps = events-append steps (Between [] ∷ []) ∙ append-nil (runs.events_in steps)

    -- ---- a round in which one was

    module _ (wish : Wish) (one : AsksOne may_give serving old left wish o.passed y.passed) where
      pub asked_in : GoesOn old a (with_place a i (Some y)) (events_asked old one.asked)
      asked_in t steps now f =
          let behind : old ≡ behind_acts t f.acts =
          now ∙ sym (acts_tables t steps f.acts f.are) in
          let was = at_place (λ x. FollowsLog x.number t f.acts x.passed) a.here i o at f.here in
          let next = one.follows o.number t f.acts behind was in
          let act = asked_by o.number one.moment next.0 one.asked in
          record {
            acts = f.acts ++ act ∷ [];
            are = are-append t steps (Between (events_asked old one.asked) ∷ []) f.acts (act ∷ [])
                f.are (
                  act ∷ [],
                  [],
                  (tt, tt),
                  ap (λ (x : Tables). events_asked x one.asked) now ∙ sym (append-nil _),
                  refl,
                  refl,
                );
            known = each-append (λ x. IsKnown a.count x.connection x.deed) f.acts (act ∷ []) f.known
                (at_place (λ x. x.number < a.count) a.here i o at f.numbered.below, tt);
            ended = each_with (HasAnswers t f.acts) (λ c. o.number ≢ c.number)
                (HasAnswers t (f.acts ++ act ∷ [])) a.ended
                (λ c h k. record {
                  rest = h.rest;
                  unmade = h.unmade;
                  taken = h.taken;
                  follows = follows_other c.number t f.acts act c.came c.went h.rest
                      (c.unsent ++ h.unmade) h.taken h.follows k;
                })
                f.ended (apart_from f.numbered);
            here = does (λ x. FollowsLog x.number t f.acts x.passed)
                (λ x. FollowsLog x.number t (f.acts ++ act ∷ []) x.passed) o
                (λ x k h. log_past x.number t f.acts act x.passed h
                (follows_other x.number t f.acts act x.passed.came x.passed.went h.held
                (x.passed.unsent ++ unmade_at (behind_acts t f.acts) x.passed.unmade)
                x.passed.taken h.follows (λ e. k (sym e))))
                a.here i (Some y) at f.numbered.distinct f.here
                (rw same next.1);
            numbered = numbered_put y same f.numbered;
          }

  -- ---- it leaves its place

  left_numbered : (held : List ℕ) → AreNumbered a →
      AreNumbered (record {
        count = a.count;
        ended = a.ended ++ last_of held o ∷ [];
        here = set a.here i None;
      })
  left_numbered held n = record {
    ended_below = each-append (λ c. c.number < a.count) a.ended (last_of held o ∷ []) n.ended_below
        (at_place (λ x. x.number < a.count) a.here i o at n.below, tt);
    below = put_in (λ x. x.number < a.count) a.here i None n.below tt;
    distinct = distinct_free a.here i n.distinct;
    apart = each-append (λ c. EachOpen (λ x. x.number ≢ c.number) (set a.here i None)) a.ended
        (last_of held o ∷ [])
        (each_weaker (λ c. EachOpen (λ x. x.number ≢ c.number) a.here)
        (λ c. EachOpen (λ x. x.number ≢ c.number) (set a.here i None)) a.ended
        (λ c h. put_in (λ x. x.number ≢ c.number) a.here i None h tt) n.apart) (
          does (λ x. Unit {0}) (λ x. x.number ≢ o.number) o (λ x k h. k) a.here i None at n.distinct
              (all_unit a.here) tt,
          tt,
        );
    every = λ k l. ⊎_elim (λ e. inl (ended k e)) (λ h. by_place k (here_left k a.here i o at h))
        (n.every k l);
  }
    where
      all_unit : (places : List (Option Open)) → EachOpen (λ x. Unit {0}) places
      all_unit [] = tt
      all_unit (None ∷ xs) = (tt, all_unit xs)
      all_unit (Some x ∷ xs) = (tt, all_unit xs)

      more : numbers (a.ended ++ last_of held o ∷ []) ≡ numbers a.ended ++ o.number ∷ []
      more = map-append (λ (c : Connection). c.number) a.ended (last_of held o ∷ [])

      ended : (k : ℕ) → IsAmong k (numbers a.ended) →
          IsAmong k (numbers (a.ended ++ last_of held o ∷ []))
      ended k h = subst (IsAmong k) (sym more) (among-append k (numbers a.ended) (o.number ∷ []) h)

      by_place : (k : ℕ) → (o.number ≡ k) ⊎ IsHere k (set a.here i None) →
          IsAmong k (numbers (a.ended ++ last_of held o ∷ [])) ⊎ IsHere k (set a.here i None)
      by_place k (inl e) = inl (subst (λ j. IsAmong j (numbers (a.ended ++ last_of held o ∷ []))) e
          (subst (IsAmong o.number) (sym more) (among_last o.number (numbers a.ended))))
      by_place k (inr h) = inr h

  pub leaves : (b : Aside) → EndsAs o (with_place a i None) b → Stays a b
  leaves b l t steps f =
      let was = at_place (λ x. FollowsLog x.number t f.acts x.passed) a.here i o at f.here in
      rw (l.count, l.ended, l.here) (record {
        acts = f.acts;
        are = f.are;
        known = f.known;
        ended = each-append (HasAnswers t f.acts) a.ended (last_of l.held o ∷ []) f.ended (
          record {
            rest = was.held;
            unmade = unmade_at (behind_acts t f.acts) o.passed.unmade;
            taken = o.passed.taken;
            follows = was.follows;
          },
          tt,
        );
        here = put_in (λ x. FollowsLog x.number t f.acts x.passed) a.here i None f.here tt;
        numbered = left_numbered l.held f.numbered;
      })

  -- and so it does where memory or the store refused its line
  pub refused_in : (y : Open) (b : Aside) → y.number ≡ o.number → IsSilent o.passed y.passed →
      EndsAs y (with_place a i None) b → Stays a b
  refused_in y b same silent l =
      leaves b (record {
        held = l.held;
        count = l.count;
        ended = l.ended ∙ ap (λ (c : Connection). a.ended ++ c ∷ []) is;
        here = l.here;
      })
    where
      is : last_of l.held y ≡ last_of l.held o
      is = rw (same, silent.came, silent.went, silent.unsent) refl

-- and behind a round of its own
pub leaves_behind : (a : Aside) (i : ℕ) (y : Open) (b : Aside) → i < length a.here →
    EndsAs y (with_place a i None) b → Stays (with_place a i (Some y)) b
leaves_behind a i y b within l =
    leaves (with_place a i (Some y)) i y (get_or-set_same a.here i (Some y) None within) b (record {
      held = l.held;
      count = l.count;
      ended = l.ended;
      here = l.here ∙ sym (set_again a.here i (Some y) None);
    })

-- ---- how a round went

module _ (may_give : ℕ → Type 0) (serving : Serving) (old : Tables) (left : Left) (a : Aside)
    (i : ℕ) (o : Open) (at : get_or a.here i None ≡ Some o) (y : Open)
    (same : y.number ≡ o.number) where
  moved_on : MovesOn may_give serving old left o.passed y.passed →
      Reaches old left (GoesOn old a (with_place a i (Some y)))
  moved_on on = record {
    events = [];
    are_such = moved_in a i o at may_give serving old left y same on;
    tables = on.tables;
    stop = on.stop;
  }

  pub went_well : (round : ControlRound) →
      Goes may_give serving old left o.passed y.passed (Ok round) →
      Reaches old left (GoesOn old a (with_place a i (Some y)))
  went_well control_round.GoesOn on = moved_on on
  went_well (control_round.Took wish) one = record {
    events = events_asked old one.asked;
    are_such = asked_in a i o at may_give serving old left y same wish one;
    tables = one.tables;
    stop = one.stop;
  }
  went_well control_round.Made on = moved_on on
  went_well control_round.Waits on = moved_on on
  went_well control_round.Ended on = moved_on on

  module _ (b : Aside) (within : i < length a.here) (l : EndsAs y (with_place a i None) b) where
    pub then_left : Reaches old left (GoesOn old a (with_place a i (Some y))) →
        Reaches old left (GoesOn old a b)
    then_left r = record {
      events = r.events;
      are_such = go_stay old a (with_place a i (Some y)) b r.events r.are_such
          (leaves_behind a i y b within l);
      tables = r.tables;
      stop = r.stop;
    }

    refused : RefusesLine old left → IsSilent o.passed y.passed →
        ReachesSome old left (GoesOn old a b)
    refused line silent = record {
      events = [];
      are_such = go_stay old a a b [] (go_none old a) (refused_in a i o at y b same silent l);
      untold = line.taken;
      in_hand = line.in_hand;
      at_most_one = line.at_most_one;
      tables = line.tables;
      stop = line.stop;
    }

    pub went_ill : (f : fault.FrontFault) →
        front.UnlessRefused {X = ControlRound} (Err f)
        (Goes may_give serving old left o.passed y.passed (Err f)) →
        IfRefused {X = ControlRound} (Err f) (RefusesLine old left) →
        IfRefused {X = ControlRound} (Err f) (IsSilent o.passed y.passed) →
        ReachesIf {X = ControlRound} old left (GoesOn old a b) (Some (Err f))
    went_ill fault.TheVariants.Memory goes line silent = refused line silent
    went_ill fault.TheVariants.Store goes line silent = refused line silent
    went_ill fault.TheVariants.BadLength goes line silent = then_left (moved_on goes)
    went_ill fault.TheVariants.Ended goes line silent = then_left (moved_on goes)
    went_ill (fault.TheVariants.Undecodable f) goes line silent = then_left (moved_on goes)
    went_ill fault.TheVariants.Read goes line silent = then_left (moved_on goes)
    went_ill (fault.TheVariants.Write n) goes line silent = then_left (moved_on goes)

-- nothing was in the place
pub emptied : {X : Type 0} (xs : List (Option X)) (i : ℕ) (d x y : Option X) → x ≡ get_or xs i d →
    x ≡ None → y ≡ None → set xs i y ≡ xs
emptied xs i d x y is none now =
    ap (λ z. set xs i z) (now ∙ sym none ∙ is) ∙ set-get_or xs i d

-- ---- one comes

-- nothing was done for a number that none had
module _ (k : ℕ) where
  record Nothing (a : Act) : Type 0 where
    lines : own k a (lines_in a.deed) ≡ []
    said : (t : Tables) (n : ℕ) → own k a (said_to t n a.deed) ≡ []
    asked : IsAskedBy k a

  nothing_by : (c : ℕ) (d : Deed) → IsKnown k c d → Nothing (record { connection = c; deed = d })
  nothing_by c (Served events) h = record {
    lines = own_none k (record { connection = c; deed = Served events });
    said = λ t n. own_none k (record { connection = c; deed = Served events });
    asked = λ is. tt;
  }
  nothing_by c (Asked moment line asked) h =
      let a : Act = record { connection = c; deed = Asked moment line asked } in
      record {
        lines = own_other k a (line ∷ []) (λ is. omega (arith, h, is));
        said = λ t n. own_other k a (said_to t n a.deed) (λ is. omega (arith, h, is));
        asked = λ is. absurd (omega (arith, h, is));
      }

  no_lines : (acts : List Act) → AllByRecursion (λ a. IsKnown k a.connection a.deed) acts →
      lines_by k acts ≡ []
  no_lines [] h = refl
  no_lines (a ∷ acts) h =
      ap (λ (l : List (List ℕ)). l ++ lines_by k acts) (nothing_by a.connection a.deed h.0).lines
      ∙ no_lines acts h.1

  no_answers : (t : Tables) (taken : ℕ) (acts : List Act) →
      AllByRecursion (λ a. IsKnown k a.connection a.deed) acts → answers_to k t taken acts ≡ []
  no_answers t taken [] h = refl
  no_answers t taken (a ∷ acts) h =
      let next = taken + length (own k a (lines_in a.deed)) in
      ap (λ (l : List ℕ). l ++ answers_to k (behind_act t a) next acts)
      ((nothing_by a.connection a.deed h.0).said t (taken + 1))
      ∙ no_answers (behind_act t a) next acts h.1

  none_asked : (acts : List Act) → AllByRecursion (λ a. IsKnown k a.connection a.deed) acts →
      All (IsAskedBy k) acts
  none_asked [] h = All-nil (IsAskedBy k)
  none_asked (a ∷ acts) h =
      All-cons (IsAskedBy k) a acts (nothing_by a.connection a.deed h.0).asked (none_asked acts h.1)

  follows_fresh : (t : Tables) (acts : List Act) →
      AllByRecursion (λ a. IsKnown k a.connection a.deed) acts → FollowsActs k t acts [] [] [] [] 0
  follows_fresh t acts h = record {
    came = subst (λ (l : List (List ℕ)). LinesThen [] l []) (sym (no_lines acts h))
        (record { each = All-nil IsInLine; whole = refl });
    count = ap length (sym (no_lines acts h));
    asked = none_asked acts h;
    written = sym (no_answers t 0 acts h);
  }

known_later : (n m c : ℕ) (d : Deed) → n ≤ m → IsKnown n c d → IsKnown m c d
known_later n m c (Served events) l h = tt
known_later n m c (Asked moment line asked) l h = omega (arith, l, h)

later : (n c : ℕ) → c < n → c < n + 1
later n c l = omega (arith, l)

pub comes : (a : Aside) (i : ℕ) (y : Open) → i < length a.here → get_or a.here i None ≡ None →
    y.number ≡ a.count → y.passed.came ≡ [] →
    y.passed.held ≡ nothing → y.passed.went ≡ [] → y.passed.unsent ≡ [] →
    y.passed.unmade ≡ None → y.passed.taken ≡ 0 →
    Stays a (record { count = a.count + 1; ended = a.ended; here = set a.here i (Some y) })
comes a i y within free number came held went unsent unmade taken t steps f = record {
  acts = f.acts;
  are = f.are;
  known = each_weaker (λ x. IsKnown a.count x.connection x.deed)
      (λ x. IsKnown (a.count + 1) x.connection x.deed) f.acts
      (λ x h. known_later a.count (a.count + 1) x.connection x.deed (omega arith) h) f.known;
  ended = f.ended;
  here = put_in (λ x. FollowsLog x.number t f.acts x.passed) a.here i (Some y) f.here
      (rw number (record {
        held = [];
        holds = rw held holds_nothing;
        follows = rw (came, went, unsent, unmade, taken) (follows_fresh a.count t f.acts f.known);
        may = rw unmade tt;
      }));
  numbered = record {
    ended_below = each_weaker (λ c. c.number < a.count) (λ c. c.number < a.count + 1) a.ended
        (λ c l. later a.count c.number l) f.numbered.ended_below;
    below = put_in (λ x. x.number < a.count + 1) a.here i (Some y)
        (each_both (λ x. x.number < a.count) (λ x. x.number < a.count + 1) a.here
        (λ x l. later a.count x.number l) f.numbered.below)
        (omega (arith, number));
    distinct = distinct_new a.here i y
        (each_both (λ x. x.number < a.count) (λ x. x.number < y.number) a.here
        (λ x l. rw number l) f.numbered.below)
        f.numbered.distinct;
    apart = each_with (λ c. EachOpen (λ x. x.number ≢ c.number) a.here) (λ c. c.number < a.count)
        (λ c. EachOpen (λ x. x.number ≢ c.number) (set a.here i (Some y))) a.ended
        (λ c h l. put_in (λ x. x.number ≢ c.number) a.here i (Some y) h
        (λ e. unlike a.count y.number c.number number l e)) f.numbered.apart
        f.numbered.ended_below;
    every = λ k l. by_number k (next k a.count l);
  };
}
  where
    next : (k n : ℕ) → k < n + 1 → (k < n) ⊎ (k ≡ n)
    next zero zero l = inr refl
    next zero (suc n) l = inl (omega arith)
    next (suc k) zero l = absurd (omega (arith, l))
    next (suc k) (suc n) l =
        ⊎_elim (λ e. inl (omega (arith, e))) (λ e. inr (ap suc e)) (next k n (omega (arith, l)))

    by_number : (k : ℕ) → (k < a.count) ⊎ (k ≡ a.count) →
        IsAmong k (numbers a.ended) ⊎ IsHere k (set a.here i (Some y))
    by_number k (inl l) = ⊎_elim (λ e. inl e) (λ h. inr (here_still k a.here i y free h))
        (f.numbered.every k l)
    by_number k (inr e) = inr (subst (λ j. IsHere j (set a.here i (Some y))) (number ∙ sym e)
        (here_now a.here i y within))

    unlike : (n m k : ℕ) → m ≡ n → k < n → m ≡ k → ⊥
    unlike n m k is l e = omega (arith, is, l, e)

    holds_nothing : Holds nothing []
    holds_nothing = record {
      dropped = [];
      within = refl;
      whole = refl;
      uncut = λ e. refl;
      cut = λ e. absurd (true≢false (sym e));
    }

-- ---- places as they are kept

module _ {S : Type 0} (items : List (Option (Control S))) (i : ℕ) where
  -- one was taken out
  pub was_there : (d x taken : Option (Control S)) (control : Control S) → i < length items →
      x ≡ get_or items i d → taken ≡ x → taken ≡ Some control →
      get_or (map seen_in items) i None ≡ Some (seen control)
  was_there d x taken control within is took some =
      get_or-map seen_in items i d None within ∙ ap seen_in (sym is ∙ sym took ∙ some)

  pub is_free : (now : Option (Control S)) → now ≡ None →
      map seen_in (set items i now) ≡ set (map seen_in items) i None
  is_free now none = map-set seen_in items i now
      ∙ ap (λ place. set (map seen_in items) i (seen_in place)) none

  -- and put back
  pub is_back : (now : Option (Control S)) (control : Control S) →
      map seen_in (set (set items i now) i (Some control))
      ≡ set (map seen_in items) i (Some (seen control))
  is_back now control = ap (map seen_in) (set_again items i now (Some control))
      ∙ map-set seen_in items i (Some control)
