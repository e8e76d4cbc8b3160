-- A gateway goes on, a step behind those that it was told.
use Rattle.std.proofs.Common.{◌≡◌, ◌∙◌, ◌++◌, ◌∷◌, ℕ, List, [], refl, sym, ap, subst, inl, inr}
use Rattle.std.proofs.Common.{append-nil, append_assoc, drop, take}
use Rattle.acq_core.specs.Tables.{Tables, tables_after}
use Rattle.acq_soundness.proofs.Runs.{tables_after-append}
use Rattle.acq_gateway.specs.declared.gateway.Gateway.{Gateway}
use Rattle.acq_gateway.specs.Telling.{IsHeld, Stays, Takes, Tells, bad_lines, unsent_of}
use Rattle.acq_gateway_stream.specs.Stream as stream
use Rattle.acq_gateway_stream.specs.Stream.{AreSteps, IsStep, behind, wrote_by}
use Rattle.std.specs.List.{concat}
use Rattle.acq_rounds.specs.Runs.{Step, events_in}
use Rattle.acq_rounds.proofs.Running.{events-append}
use Rattle.acq_gateways.specs.Following.{AreReached, IsTold, look_in, looks_by}

-- ---- steps of a gateway, one behind the others

behind-append : (from : Gateway) (a b : List stream.Step) →
    behind from (a ++ b) ≡ behind (behind from a) b
behind-append from [] b = refl
behind-append from (s ∷ a) b = behind-append s.to a b

abbrev are-append : (from : Gateway) (a b : List stream.Step) → AreSteps from a →
    AreSteps (behind from a) b → AreSteps from (a ++ b)
are-append from [] b none are = are
are-append from (s ∷ a) b some are = (some.0, are-append s.to a b some.1 are)

wrote-append : (a b : List stream.Step) → wrote_by (a ++ b) ≡ wrote_by a ++ wrote_by b
wrote-append [] b = refl
wrote-append (s ∷ a) b =
    ap (λ l. s.wrote ++ l) (wrote-append a b)
    ∙ sym (append_assoc s.wrote (wrote_by a) (wrote_by b))

looks-append : (from : Gateway) (a b : List stream.Step) (some : AreSteps from a)
    (are : AreSteps (behind from a) b) →
    looks_by from (a ++ b) (are-append from a b some are)
    ≡ looks_by from a some ++ looks_by (behind from a) b are
looks-append from [] b none are = refl
looks-append from (s ∷ a) b some are =
    ap (λ l. look_in some.0 ++ l) (looks-append s.to a b some.1 are)
    ∙ sym (append_assoc (look_in some.0) (looks_by s.to a some.1)
    (looks_by (behind s.to a) b are))

-- ---- what the host did, and what it did then

pub reached_more : (t : Tables) (steps more : List Step) (looks : List Tables) →
    AreReached t steps looks → AreReached t (steps ++ more) looks
reached_more t steps more [] h = tt
reached_more t steps more (x ∷ looks) h = (
  h.0,
  h.1 ++ more,
  ap (λ l. l ++ more) h.2 ∙ append_assoc h.0 h.1 more,
  h.3,
  reached_more x h.1 more looks h.4,
)

-- one look more, behind all of it
reached_now : (t : Tables) (steps : List Step) (looks : List Tables) (now : Tables) →
    now ≡ tables_after t (events_in steps) → AreReached t steps looks →
    AreReached t steps (looks ++ now ∷ [])
reached_now t steps [] now is h = (steps, [], sym (append-nil steps), is, tt)
reached_now t steps (x ∷ looks) now is h =
    let behind_x : now ≡ tables_after x (events_in h.1) =
    is ∙ ap (λ (l : List Step). tables_after t (events_in l)) h.2
    ∙ ap (tables_after t) (events-append h.0 h.1)
    ∙ tables_after-append t (events_in h.0) (events_in h.1)
    ∙ ap (λ (y : Tables). tables_after y (events_in h.1)) (sym h.3) in
    (h.0, h.1, h.2, h.3, reached_now x h.1 looks now behind_x h.4)

-- ---- one step more

module _ (t : Tables) (steps : List Step) where
  -- it stays so, with the looks of a step behind it
  abbrev Allows : List Tables → Type 0
  Allows more = (looks : List Tables) → AreReached t steps looks
      → AreReached t steps (looks ++ more)

  one_behind : (went : List ℕ) (gateway : Gateway) → (told : IsTold t steps went gateway)
      (step : stream.Step) (is : IsStep (behind told.first told.did) step) →
      Allows (look_in is) → IsTold t steps (went ++ step.wrote) step.to
  one_behind went gateway told step is allows =
      let last = step ∷ [] in
      record {
        first = told.first;
        new = told.new;
        did = told.did ++ last;
        are = are-append told.first told.did last told.are (is, tt);
        stands = behind-append told.first told.did last;
        wrote = wrote-append told.did last
            ∙ ap (λ l. wrote_by told.did ++ l) (append-nil step.wrote)
            ∙ ap (λ l. l ++ step.wrote) told.wrote;
        looks = subst (AreReached t steps)
            (sym (looks-append told.first told.did last told.are (is, tt)
            ∙ ap (λ l. looks_by told.first told.did told.are ++ l) (append-nil (look_in is))))
            (allows (looks_by told.first told.did told.are) told.looks);
      }

  one_more : (went : List ℕ) (gateway : Gateway) → IsTold t steps went gateway →
      (step : stream.Step) (is : IsStep gateway step) → Allows (look_in is) →
      IsTold t steps (went ++ step.wrote) step.to
  one_more went gateway told =
      subst (λ (g : Gateway). (step : stream.Step) (is : IsStep g step) → Allows (look_in is) →
      IsTold t steps (went ++ step.wrote) step.to) told.stands (one_behind went gateway told)

  no_look : Allows []
  no_look looks h = subst (AreReached t steps) (sym (append-nil looks)) h

  -- where nothing is written
  unwritten : (went : List ℕ) (gateway after : Gateway) (told : List ℕ) →
      let step : stream.Step = record { to = after; told = told; wrote = [] } in
      (is : IsStep gateway step) → Allows (look_in is) → IsTold t steps went gateway →
      IsTold t steps went after
  unwritten went gateway after told is allows h =
      let step : stream.Step = record { to = after; told = told; wrote = [] } in
      subst (λ l. IsTold t steps l after) (append-nil went)
      (one_more went gateway h step is allows)

  pub told_stays : (went : List ℕ) (gateway after : Gateway) → Stays gateway after →
      IsTold t steps went gateway → IsTold t steps went after
  told_stays went gateway after stays h =
      unwritten went gateway after []
      (inr (inr (inr (record { stays = stays; told = refl; wrote = refl })))) no_look h

  pub told_takes : (went : List ℕ) (gateway after : Gateway) → Takes gateway after →
      IsTold t steps went gateway → IsTold t steps went after
  told_takes went gateway after takes h =
      unwritten went gateway after (bad_lines takes.bad)
      (inl (record { takes = takes; told = refl; wrote = refl })) no_look h

  pub told_looks : (went : List ℕ) (gateway after : Gateway) (now : Tables) (moment : ℕ) →
      now ≡ tables_after t (events_in steps) → Tells now moment gateway after →
      IsTold t steps went gateway → IsTold t steps went after
  told_looks went gateway after now moment is tells h =
      unwritten went gateway after (concat tells.words ++ tells.lines)
      (inr (inl (record {
        tables = now;
        moment = moment;
        tells = tells;
        told = refl;
        wrote = refl;
      })))
      (λ looks reached. reached_now t steps looks now is reached) h

  -- so many bytes were written
  pub told_wrote : (went : List ℕ) (gateway after : Gateway) (bytes : ℕ) →
      unsent_of after ≡ drop bytes (unsent_of gateway) → IsHeld after →
      after.rows ≡ gateway.rows → after.from ≡ gateway.from → IsTold t steps went gateway →
      IsTold t steps (went ++ take bytes (unsent_of gateway)) after
  told_wrote went gateway after bytes unsent held rows from h =
      one_more went gateway h
      (record { to = after; told = []; wrote = take bytes (unsent_of gateway) })
      (inr (inr (inl (record {
        bytes = bytes;
        wrote = refl;
        unsent = unsent;
        held = held;
        rows = rows;
        asked = from;
        told = refl;
      }))))
      no_look
