-- How one round goes.
use Rattle.std.proofs.Common.{◌≡◌, ◌≢◌, ◌==◌, ℕ, Bool, true, false, List, [], ◌∷◌, Option, Result}
use Rattle.std.proofs.Common.{Ok, Err, ap, arith, length, sym, ◌∙◌, ◌++◌, take, drop, refl, subst}
use Rattle.std.proofs.Common.{None, Some, true≢false}
use Rattle.std.proofs.lemmas.Bool.Decides.{nat_tests}
use Rattle.acq_core.specs.Tables.{Tables}
use Rattle.acq_front.specs.Stops.{Left, LeavesAll}
use Rattle.acq_status.specs.declared.serving.Serving.{Serving}
use Rattle.acq_control.specs.declared.question.Question.{Question}
use Rattle.acq_control.specs.Answers.{answer_of, tables_behind}
use Rattle.acq_control.specs.Ends.{End, MakesSlice, PreparesLine, TakesLine, WaitsOn}
use Rattle.acq_control.specs.Log.{FollowsActs, asked_by, behind_acts}
use Rattle.acq_control.specs.Unmade.{MayBeUnmade, is_said, unmade_at}
use Rattle.acq_control.specs.declared.unmade_answer.UnmadeAnswer.{UnmadeAnswer}
use Rattle.acq_control.specs.declared.unmade_answer.UnmadeAnswer.TheVariants.{Clearing, Finding}
use Rattle.acq_control.specs.declared.unmade_answer.UnmadeAnswer.TheVariants.{Comparing}
use Rattle.acq_control.specs.declared.unmade_answer.UnmadeAnswer.TheVariants.{Stating}
use Rattle.acq_front.specs.Faults.{UnlessRefused}
use Rattle.acq_front.specs.declared.front_fault.FrontFault as fault
use Rattle.acq_control.specs.Exchanges.{AsksOne, Goes, MovesOn, Passed}
use Rattle.acq_control.specs.declared.control_round.ControlRound.{ControlRound}
use Rattle.acq_control.specs.declared.control_round.ControlRound.TheVariants.{Ended, GoesOn, Made}
use Rattle.acq_control.specs.declared.control_round.ControlRound.TheVariants.{Took}
use Rattle.acq_control.specs.declared.control_round.ControlRound.TheVariants.{Waits}
use Rattle.acq_control.specs.Questions.{wish_of}
use Rattle.acq_control.specs.Held.{Held, HoldsMore}
use Rattle.acq_control.specs.declared.wish.Wish.{Wish}
use Rattle.acq_control.proofs.Following.{behind-append, follows_asked, follows_fed}
use Rattle.acq_control.proofs.Following.{follows_written}

-- nothing of what was begun to be said is still to be made
said_none : (t : Tables) (o : Option UnmadeAnswer) → is_said o ≡ true → unmade_at t o ≡ []
said_none t None said = refl
said_none t (Some (Clearing c)) said = absurd (true≢false (sym said))
said_none t (Some (Finding search)) said = refl
said_none t (Some (Stating gathering)) said = refl
said_none t (Some (Comparing comparison)) said = refl

module _ (may_give : ℕ → Type 0) (serving : Serving) (old : Tables) (left : Left) where
  -- a line was taken
  pub takes_on : (came went : List ℕ) (before after : End) (asked : Option Question) (wish : Wish) →
      TakesLine may_give serving old left before after asked → wish_of asked ≡ wish →
      is_said before.unmade ≡ true →
      AsksOne may_give serving old left wish
      (record {
        came = came;
        held = before.held;
        went = went;
        unsent = [];
        unmade = before.unmade;
        taken = before.taken;
      })
      (record {
        came = came;
        held = after.held;
        went = went;
        unsent = after.unsent;
        unmade = after.unmade;
        taken = after.taken;
      })
  takes_on came went before after asked wish took is_so said = record {
    asked = asked;
    moment = took.moment;
    given = took.given;
    shows = took.shows;
    wishes = is_so;
    tables = took.tables;
    stop = took.stop;
    follows = λ k t acts is f.
        let front = took.takes f.held f.holds in
        let act = asked_by k took.moment front.line asked in
        let may = subst (λ (x : Tables). MayBeUnmade x before.unmade) (sym is) f.may in
        let follows = subst (λ (l : List ℕ). FollowsActs k t acts came went f.held l before.taken)
        (said_none (behind_acts t acts) before.unmade said) f.follows in
        let behind : left.tables ≡ behind_acts t (acts ++ act ∷ []) =
        took.tables ∙ ap (λ (x : Tables). tables_behind x asked) is
        ∙ sym (behind-append t acts (act ∷ [])) in (
          front.line,
          record {
            held = front.rest;
            holds = front.holds;
            follows = subst (λ (x : Tables). FollowsActs k t (acts ++ act ∷ []) came went front.rest
                (after.unsent ++ unmade_at x after.unmade) after.taken) behind
                (follows_asked k t acts came went f.held front.rest
                (after.unsent ++ unmade_at left.tables after.unmade) front.line
                before.taken after.taken took.moment asked follows front.begins front.asks
                took.count
                (took.answers may ∙ ap (λ (t : Tables). answer_of t after.taken asked) is));
            may = subst (λ (x : Tables). MayBeUnmade x after.unmade) behind (took.unmade may);
          },
        );
  }

  -- some of an answer was written
  pub writes_on : (came went : List ℕ) (held : Held) (unsent : List ℕ)
      (unmade : Option UnmadeAnswer) (taken n : ℕ) →
      left.tables ≡ old →
      LeavesAll left old [] →
      MovesOn may_give serving old left
      (record {
        came = came;
        held = held;
        went = went;
        unsent = unsent;
        unmade = unmade;
        taken = taken;
      })
      (record {
        came = came;
        held = held;
        went = went ++ take n unsent;
        unsent = drop n unsent;
        unmade = unmade;
        taken = taken;
      })
  writes_on came went held unsent unmade taken n same stop = record {
    tables = same;
    stop = stop;
    follows = λ k t acts is f. record {
      held = f.held;
      holds = f.holds;
      follows = follows_written k t acts came went f.held unsent
          (unmade_at (behind_acts t acts) unmade) taken n f.follows;
      may = f.may;
    };
  }

  -- a slice was made
  pub makes_on : (came went : List ℕ) (before after : End) →
      MakesSlice old left before after → before.unsent ≡ [] →
      MovesOn may_give serving old left
      (record {
        came = came;
        held = before.held;
        went = went;
        unsent = before.unsent;
        unmade = before.unmade;
        taken = before.taken;
      })
      (record {
        came = came;
        held = after.held;
        went = went;
        unsent = after.unsent;
        unmade = after.unmade;
        taken = after.taken;
      })
  makes_on came went before after made none = record {
    tables = made.tables;
    stop = made.stop;
    follows = λ k t acts is f.
        let may = subst (λ (x : Tables). MayBeUnmade x before.unmade) (sym is) f.may in
        let same : after.unsent ++ unmade_at (behind_acts t acts) after.unmade
        ≡ before.unsent ++ unmade_at (behind_acts t acts) before.unmade =
        subst (λ (x : Tables). after.unsent ++ unmade_at x after.unmade
        ≡ before.unsent ++ unmade_at x before.unmade) is
        (made.rest may ∙ ap (λ (l : List ℕ). l ++ unmade_at old before.unmade) (sym none)) in
        record {
          held = f.held;
          holds = rw made.held f.holds;
          follows = rw (same, made.taken) f.follows;
          may = subst (λ (x : Tables). MayBeUnmade x after.unmade) is (made.unmade may);
        };
  }

  -- rows are to be gone over for the next line
  pub prepares_on : (came went : List ℕ) (before after : End) →
      PreparesLine may_give serving old left before after →
      MovesOn may_give serving old left
      (record {
        came = came;
        held = before.held;
        went = went;
        unsent = before.unsent;
        unmade = before.unmade;
        taken = before.taken;
      })
      (record {
        came = came;
        held = after.held;
        went = went;
        unsent = after.unsent;
        unmade = after.unmade;
        taken = after.taken;
      })
  prepares_on came went before after prepares = record {
    tables = prepares.tables;
    stop = prepares.stop;
    follows = λ k t acts is f. record {
      held = f.held;
      holds = rw prepares.begins.held f.holds;
      follows = rw (
        prepares.begins.unsent,
        prepares.begins.rest (behind_acts t acts),
        prepares.begins.taken,
      )
          f.follows;
      may = prepares.begins.unmade (behind_acts t acts);
    };
  }

  -- no line was whole, and a piece was read
  pub reads_on : (came went : List ℕ) (before mid : End) (after : Passed) (piece : List ℕ) →
      WaitsOn may_give serving old left before mid → after.came ≡ came ++ piece →
      HoldsMore mid.held after.held piece → after.went ≡ went → after.unsent ≡ mid.unsent →
      after.unmade ≡ mid.unmade → after.taken ≡ mid.taken →
      MovesOn may_give serving old left
      (record {
        came = came;
        held = before.held;
        went = went;
        unsent = before.unsent;
        unmade = before.unmade;
        taken = before.taken;
      })
      after
  reads_on came went before mid after piece waits comes more wrote unsent unmade taken =
      let then_unsent : after.unsent ≡ before.unsent =
      unsent ∙ ap (λ (e : End). e.unsent) waits.same in
      let then_unmade : after.unmade ≡ before.unmade =
      unmade ∙ ap (λ (e : End). e.unmade) waits.same in
      let then_taken : after.taken ≡ before.taken =
      taken ∙ ap (λ (e : End). e.taken) waits.same in
      record {
        tables = waits.tables;
        stop = waits.stop;
        follows = λ k t acts is f. record {
          held = f.held ++ piece;
          holds = subst (λ (e : End). HoldsMore e.held after.held piece) waits.same more f.held
              f.holds;
          follows = rw (comes, wrote, then_unsent, then_unmade, then_taken)
              (follows_fed k t acts came went f.held
              (before.unsent ++ unmade_at (behind_acts t acts) before.unmade) piece before.taken
              f.follows);
          may = rw then_unmade f.may;
        };
      }

  -- nothing was done, and no line was taken
  pub moved_on : (before after : Passed) (r : Result ControlRound fault.FrontFault) →
      ((wish : Wish) → r ≢ Ok (Took wish)) →
      MovesOn may_give serving old left before after →
      UnlessRefused r (Goes may_give serving old left before after r)
  moved_on before after (Ok GoesOn) not on = on
  moved_on before after (Ok Made) not on = on
  moved_on before after (Ok (Took wish)) not on = absurd (not wish refl)
  moved_on before after (Ok Waits) not on = on
  moved_on before after (Ok Ended) not on = on
  moved_on before after (Err fault.TheVariants.Memory) not on = tt
  moved_on before after (Err fault.TheVariants.Store) not on = tt
  moved_on before after (Err fault.TheVariants.BadLength) not on = on
  moved_on before after (Err fault.TheVariants.Ended) not on = on
  moved_on before after (Err (fault.TheVariants.Undecodable f)) not on = on
  moved_on before after (Err fault.TheVariants.Read) not on = on
  moved_on before after (Err (fault.TheVariants.Write n)) not on = on

-- nothing is left, where that was seen
pub none_left : (seen left : List ℕ) (b : Bool) → b ≡ (length seen == 0) → b ≡ true → seen ≡ left →
    left ≡ []
none_left [] left b is on same = sym same
none_left (x ∷ seen) left b is on same =
    let some : (length (x ∷ seen) == 0) ≡ false = grind (arith, nat_tests) in
    absurd (true≢false (sym on ∙ is ∙ some))
