-- A request that the key check decides on changes no table, so no later event sees it.
use Rattle.std.proofs.Common.{◌≡◌, ℕ, List, [], ◌∷◌, Option, Some, None, Bool, true, false, cond}
use Rattle.std.proofs.Common.{refl, sym, ap, ◌∙◌, subst}
use Rattle.std.specs.Prelude.{is_some, ◌&&◌, ◌||◌}
use Rattle.std.specs.List.{list_all}
use Rattle.std.proofs.lemmas.Bool.{and_parts}
use Rattle.acq_core.specs.declared.event.Event.{Event}
use Rattle.acq_message.specs.Elements.{key_of}
use Rattle.acq_core.specs.declared.arrival.Arrival.{Arrival}
use Rattle.acq_message.specs.declared.request_message.RequestMessage.{RequestMessage}
use Rattle.acq_core.specs.Arrivals.{arrival_of, merchant_named, is_shared}
use Rattle.acq_core.specs.declared.arrival.Arrival.TheVariants.{Requested}
use Rattle.acq_core.specs.Known.{Known}
use Rattle.acq_core.specs.Decision.{decision}
use Rattle.acq_core.specs.Changes.{change_of, change_for}
use Rattle.acq_core.specs.Tables.{Opening, Tables, known_in, after_any, step_tables}
use Rattle.acq_history.specs.Entries.{Entry, request_of}
use Rattle.acq_history.specs.History.{recorded, prior}
use Rattle.acq_history.specs.PartyHistory.{names, is_of, own, known_by, entry_for, outputs_alone}
use Rattle.acq_history.specs.PartyHistory.{with_output, book_after, history_of}
use Rattle.acq_history.specs.QuietRepeats.{has_recorded, is_by_key, without_repeats}
use Rattle.acq_history.specs.QuietRepeats.{outputs_besides, RepeatsAreQuiet}
use Rattle.acq_core.proofs.DecisionCases.{by_request}
use Rattle.acq_history.proofs.UnrecordedRequests.{change_of_repeat}
use Rattle.acq_history.proofs.TablesAgreeWithHistory.{Agrees, known_in_mine, known_in_shared}
use Rattle.acq_history.proofs.TablesAgreeWithHistory.{names_is}
use Rattle.acq_history.proofs.OwnRequests.{recorded_known, is_some_map}
use Rattle.acq_history.proofs.MerchantsRuns.{own_step, from_new}
use Rattle.acq_soundness.proofs.Lookups.{filter_all}

is_some_not_none : {X : Type 0} {P : Type 0} (o : Option X) → is_some o ≡ true → o ≡ None → P
is_some_not_none None there none = absurd (cc)
is_some_not_none (Some x) there none = absurd (cc)

-- a recorded key's request changes nothing
change_of_recorded : (k : Known) (r : RequestMessage) → is_some k.recorded ≡ true →
    change_of k (decision k (Requested r)) ≡ None
change_of_recorded k r there =
    by_request k r (λ d. change_of k d ≡ None)
    (record {
      managed = λ is. refl;
      unknown = refl;
      duplicate = λ p is. refl;
      repeated = λ p is. change_of_repeat k p.reply_state;
      refused = λ merchant fresh given is. is_some_not_none k.recorded there fresh.new;
      admitted = λ merchant fresh service range in_range. is_some_not_none k.recorded there
          fresh.new;
      completed = λ merchant fresh service hold found opens. is_some_not_none k.recorded there
          fresh.new;
      reversed = λ merchant fresh service p found final. is_some_not_none k.recorded there
          fresh.new;
      reconciled = λ merchant fresh service day resolved. is_some_not_none k.recorded there
          fresh.new;
    })

module _ (opening : Opening) (m : List ℕ) where
  -- what the key check decides on
  change_of_recorded_key : (t : Tables) (h : List Entry) → Agrees opening m t h → (a : Arrival) →
      is_by_key h a ≡ true → change_for (known_by opening h a) a ≡ None
  change_of_recorded_key t h g (Requested r) there =
      let step : (rq : Option RequestMessage) → request_of (Requested r) ≡ rq →
      has_recorded rq h ≡ true →
      change_for (known_by opening h (Requested r)) (Requested r) ≡ None =
      elim [
        | None ↦ (λ came has. absurd (cc))
        | Some q ↦ (λ came has. change_of_recorded (known_by opening h (Requested r)) r
            (ap is_some (recorded_known g r q came)
            ∙ (is_some_map prior (recorded (key_of q.service q.message) h) ∙ has)))
      ] in
      step (request_of (Requested r)) refl there
  change_of_recorded_key t h g other there = absurd (cc)

  -- the tables let the merchant's own events know what the history does
  known_own : (t : Tables) (h : List Entry) → Agrees opening m t h → (a : Arrival) →
      (is_of (Some m) a || is_shared a) ≡ true → known_in t a ≡ known_by opening h a
  known_own t h g a mine =
      let step : (b : Bool) → names (merchant_named a) m ≡ b → (b || is_shared a) ≡ true →
      known_in t a ≡ known_by opening h a =
      elim [
        | true ↦ (λ e shared. known_in_mine g a (names_is (merchant_named a) m e))
        | false ↦ (λ e shared. known_in_shared g a shared)
      ] in
      step (names (merchant_named a) m) refl mine

  -- an event of the merchant's, or a shared one
  abbrev is_own : Event → Bool
  is_own e = is_of (Some m) (arrival_of e) || is_shared (arrival_of e)

  -- two histories that agree with the same tables tell the same
  same_outputs : (t : Tables) (h k : List Entry) → Agrees opening m t h → Agrees opening m t k →
      (es : List Event) → list_all is_own es ≡ true →
      outputs_alone opening (Some m) k es ≡ outputs_alone opening (Some m) h es
  same_outputs t h k g f [] mine = refl
  same_outputs t h k g f (e ∷ es) mine =
      let a = arrival_of e in
      let both = and_parts (is_own e) (list_all is_own es) mine in
      let s = own_step g a both.0 in
      let r = own_step f a both.0 in
      let rest =
      same_outputs (step_tables t a) (entry_for opening h a ∷ h) (entry_for opening k a ∷ k) s.1 r.1
      es both.1 in
      λ i. cond (is_of (Some m) a) ((sym r.0 ∙ s.0) i ∷ rest i) (rest i)

  -- taking out what the key check decides on, one event after the other
  quiet : (t : Tables) (h k : List Entry) → Agrees opening m t h → Agrees opening m t k →
      (outs : List Bool) (es : List Event) → list_all is_own es ≡ true →
      outputs_alone opening (Some m) k (without_repeats opening h outs es) ≡ outputs_besides opening
      (Some m) h outs es
  quiet t h k g f [] es mine = same_outputs t h k g f es mine
  quiet t h k g f (out ∷ outs) [] mine = refl
  quiet t h k g f (out ∷ outs) (e ∷ es) mine =
      let a = arrival_of e in
      let x = entry_for opening h a in
      let both = and_parts (is_own e) (list_all is_own es) mine in
      let s = own_step g a both.0 in
      let rest = without_repeats opening (x ∷ h) outs es in
      let besides = outputs_besides opening (Some m) (x ∷ h) outs es in
      let step : (b : Bool) → (out && is_by_key h a) ≡ b →
      outputs_alone opening (Some m) k (cond b rest (e ∷ rest)) ≡ cond b besides
      (with_output (Some m) x besides) =
      elim [
        | true ↦ (λ c.
            let none = change_of_recorded_key t h g a (and_parts out (is_by_key h a) c).1 in
            let stays : step_tables t a ≡ t =
            ap (λ k. after_any t (change_for k a)) (known_own t h g a both.0)
            ∙ ap (after_any t) none in
            quiet t (x ∷ h) k (subst (λ u. Agrees opening m u (x ∷ h)) stays s.1) f outs es both.1)
        | false ↦ (λ c.
            let r = own_step f a both.0 in
            let later = quiet (step_tables t a) (x ∷ h) (entry_for opening k a ∷ k) s.1 r.1 outs es
            both.1 in
            λ i. cond (is_of (Some m) a) ((sym r.0 ∙ s.0) i ∷ later i) (later i))
      ] in
      step (out && is_by_key h a) refl

pub repeats : (m : List ℕ) → RepeatsAreQuiet m
repeats m opening past further outs =
    let h = history_of opening (Some m) past in
    let g = from_new opening m past in
    quiet opening m (book_after opening past) h h g g outs (own (Some m) further)
    (filter_all (λ e. is_of (Some m) (arrival_of e) || is_shared (arrival_of e)) further)
