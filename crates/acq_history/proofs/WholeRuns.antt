-- A whole run, by its steps: where each event keeps the tables in agreement with a party's history,
-- so do all, and
-- the party gets the outputs of its history.
use Rattle.std.proofs.Common.{◌≡◌, List, [], ◌∷◌, Bool, true, false, cond, refl, sym, ap, ◌∙◌}
use Rattle.std.specs.Prelude.{◌||◌}
use Rattle.acq_core.specs.declared.event.Event.{Event}
use Rattle.acq_core.specs.Arrivals.{arrival_of, merchant_named, is_shared}
use Rattle.acq_core.specs.Outcome.{output_of}
use Rattle.acq_core.specs.Tables.{Opening, Tables, step_output, step_tables, outputs, tables_after}
use Rattle.acq_history.specs.Entries.{Entry}
use Rattle.acq_history.specs.PartyHistory.{Party, is_of, own, entry_for, history_after}
use Rattle.acq_history.specs.PartyHistory.{outputs_alone, outputs_at}

-- what is to be shown of each event: one of the party's own has the output of its entry and keeps
-- the agreement, one
-- that all share keeps it, and another party's leaves the history as it is
pub record KeepsAgreement (opening : Opening) (party : Party) (A : Tables → List Entry →
    Type 0) : Type 0 where
  pub own_event : (t : Tables) (h : List Entry) (e : Event) → A t h →
      is_of party (arrival_of e) ≡ true →
      let a = arrival_of e in
      (step_output t a ≡ output_of (merchant_named a) (entry_for opening h a).outcome)
      × A (step_tables t a) (entry_for opening h a ∷ h)
  pub shared_event : (t : Tables) (h : List Entry) (e : Event) → A t h →
      is_shared (arrival_of e) ≡ true →
      A (step_tables t (arrival_of e)) (entry_for opening h (arrival_of e) ∷ h)
  pub other_event : (t : Tables) (h : List Entry) (e : Event) → A t h →
      is_of party (arrival_of e) ≡ false →
      is_shared (arrival_of e) ≡ false → A (step_tables t (arrival_of e)) h

module _ (opening : Opening) (party : Party) (A : Tables → List Entry → Type 0)
    (keeps : KeepsAgreement opening party A) where
  -- over all events: the same outputs at the party's places, and the agreement after them
  abbrev pub WholeRun : Tables → List Entry → List Event → Type 0
  WholeRun t h es =
      (outputs_at party es (outputs t es) ≡ outputs_alone opening party h (own party es))
      × A (tables_after t es) (history_after opening h (own party es))

  pub whole_run : (t : Tables) (h : List Entry) → A t h → (es : List Event) → WholeRun t h es
  whole_run t h g [] = (refl, g)
  whole_run t h g (e ∷ es) =
      let a = arrival_of e in
      let o = step_output t a in
      let u = step_tables t a in
      let x = entry_for opening h a in
      let rest = own party es in
      let later = outputs_alone opening party (x ∷ h) rest in
      let step : (b c : Bool) → is_of party a ≡ b → is_shared a ≡ c →
      (cond b (o ∷ outputs_at party es (outputs u es)) (outputs_at party es (outputs u es))
      ≡ outputs_alone opening party h (cond (b || c) (e ∷ rest) rest))
      × A (tables_after u es) (history_after opening h (cond (b || c) (e ∷ rest) rest)) =
      elim [
        | true ↦ (λ c mine shared.
            let s = keeps.own_event t h e g mine in
            let w = whole_run u (x ∷ h) s.1 es in (
              (λ i. s.0 i ∷ w.0 i)
                  ∙ sym (ap (λ b. cond b (output_of (merchant_named a) x.outcome ∷ later) later)
                  mine),
              w.1,
            ))
        | false ↦ elim [
          | true ↦ (λ other shared.
              let w = whole_run u (x ∷ h) (keeps.shared_event t h e g shared) es in (
                w.0 ∙ sym (ap (λ b. cond b (output_of (merchant_named a) x.outcome ∷ later) later)
                    other),
                w.1,
              ))
          | false ↦ (λ other alone. whole_run u h (keeps.other_event t h e g other alone) es)
        ]
      ] in
      step (is_of party a) (is_shared a) refl refl
