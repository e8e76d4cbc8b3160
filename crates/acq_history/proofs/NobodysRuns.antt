-- Isolation of nobody, over whole runs: its outputs need what all share alone.
use Rattle.std.proofs.Common.{◌≡◌, ℕ, List, [], ◌∷◌, Option, Some, None, Bool, true, false, refl}
use Rattle.std.proofs.Common.{sym, ap, ◌∙◌, subst}
use Rattle.std.specs.Prelude.{nat_lt, is_none, is_some, not, ◌&&◌, if◌then◌else◌}
use Rattle.std.specs.Str.{bytes_eq}
use Rattle.iso_codec.specs.Message.{IsoMessage}
use Rattle.card_no.specs.declared.range.Range.{Range}
use Rattle.card_no.specs.Ranges.{with_range, without_range, overlapped_by, has_ends, is_valid_range}
use Rattle.card_no.specs.Ranges.{between}
use Rattle.std.proofs.lemmas.Bool.{and_parts}
use Rattle.acq_message.specs.declared.service.Service.{Service}
use Rattle.acq_message.specs.declared.service.Service.TheVariants.{NetworkManagement}
use Rattle.acq_core.specs.declared.output.Output.TheVariants as output
use Rattle.acq_message.specs.declared.response_code.ResponseCode.TheVariants as code
use Rattle.acq_core.specs.declared.arrival.Arrival.{Arrival}
use Rattle.acq_message.specs.declared.request_message.RequestMessage.{RequestMessage}
use Rattle.acq_core.specs.Arrivals.{arrival_of, merchant_named, is_shared}
use Rattle.acq_core.specs.declared.arrival.Arrival.TheVariants.{Undecoded, Unserved, Malformed}
use Rattle.acq_core.specs.declared.arrival.Arrival.TheVariants.{Requested, CutOver, RangeAdded}
use Rattle.acq_core.specs.declared.arrival.Arrival.TheVariants.{RangeDropped}
use Rattle.acq_core.specs.Known.{wanted_by, known_for}
use Rattle.acq_core.specs.Decision.{Decision, Reports, CutsOver, DropsRange, decision}
use Rattle.acq_core.specs.Decision.{decision_of_new_range, decision_of_old_range, network_response}
use Rattle.day_totals.specs.Day.{last_day}
use Rattle.acq_message.specs.Reply.{coded_reply}
use Rattle.acq_core.specs.Outcome.{Replied, output_of, outcome_of}
use Rattle.acq_core.specs.Changes.{change_of, change_for}
use Rattle.acq_core.specs.Tables.{Opening, Tables, new_tables, facts_in, known_in, after_any}
use Rattle.acq_core.specs.Tables.{step_output, step_tables}
use Rattle.acq_history.specs.Entries.{Entry}
use Rattle.acq_history.specs.History.{day_after, ranges_after}
use Rattle.acq_history.specs.PartyHistory.{names, is_of, known_by, entry_for, book_after}
use Rattle.acq_history.specs.PartyHistory.{history_of}
use Rattle.acq_history.specs.Isolation.{IsIsolated}
use Rattle.acq_soundness.proofs.Lookups.{clash, not_true}
use Rattle.acq_soundness.proofs.Keys.{bytes_eq_is}
use Rattle.acq_history.proofs.OtherPartysStep.{IsNaming, other_step, naming_of}
use Rattle.acq_history.proofs.WholeRuns.{KeepsAgreement, whole_run}

-- what all share
pub record AgreesInShared (opening : Opening) (t : Tables) (h : List Entry) : Type 0 where
  pub bounded : t.limit ≡ opening.limit
  pub day : t.day ≡ day_after opening.first_day h
  pub ranges : t.ranges ≡ ranges_after h

-- a merchant is named, and none is
named_clash : {X : Type 0} (o : Option (List ℕ)) → is_some o ≡ true → is_none o ≡ true → X
named_clash None there alone = absurd (cc)
named_clash (Some n) there alone = absurd (cc)

module _ (opening : Opening) (t : Tables) (h : List Entry) (s : AgreesInShared opening t h) where
  -- what all share is the same by the tables and by the history
  shared_facts : facts_in t [] ≡ record (facts_in t []) {
    today = day_after opening.first_day h;
    limit = opening.limit;
    overlapped = λ low high. overlapped_by (between low high) (ranges_after h);
  }
  shared_facts = λ i. record (facts_in t []) {
    today = s.day i;
    limit = s.bounded i;
    overlapped = λ low high. overlapped_by (between low high) (s.ranges i);
  }

  -- what a shared event may know is the same by the tables and by the history
  known_of_nobody : (a : Arrival) → is_shared a ≡ true → known_in t a ≡ known_by opening h a
  known_of_nobody CutOver shared = λ i. known_for (wanted_by (s.day i) CutOver) (shared_facts i)
  known_of_nobody (RangeAdded range) shared =
      λ i. known_for (wanted_by (s.day i) (RangeAdded range)) (shared_facts i)
  known_of_nobody (RangeDropped low high) shared =
      λ i. known_for (wanted_by (s.day i) (RangeDropped low high)) (shared_facts i)
  known_of_nobody other shared = absurd (cc)

  -- a decision keeps the agreement in what all share
  abbrev KeepsShared : Arrival → Decision → Type 0
  KeepsShared a d =
      let k = known_by opening h a in
      AgreesInShared opening (after_any t (change_of k d))
      (record {
        arrival = a;
        day = day_after opening.first_day h;
        ranges = ranges_after h;
        outcome = outcome_of k d;
      }
      ∷ h)

  -- a range that is added
  shared_new_range : (range : Range) (o : Option Range) →
      KeepsShared (RangeAdded range) (decision_of_new_range range o)
  shared_new_range range (Some other) =
      record { bounded = s.bounded; day = s.day; ranges = s.ranges }
  shared_new_range range None =
      record { bounded = s.bounded; day = s.day; ranges = ap (λ rs. with_range rs range) s.ranges }

  -- a range that is dropped
  shared_old_range : (low high : ℕ) (o : Option Range) →
      KeepsShared (RangeDropped low high) (decision_of_old_range low high o)
  shared_old_range low high None = record { bounded = s.bounded; day = s.day; ranges = s.ranges }
  shared_old_range low high (Some range) =
      elim (has_ends low high range) as (λ b.
      KeepsShared (RangeDropped low high)
      (if b then DropsRange low high else Reports output.NoSuchRange)) [
        | true ↦ record {
          bounded = s.bounded;
          day = s.day;
          ranges = ap (λ rs. without_range rs low high) s.ranges;
        }
        | false ↦ record { bounded = s.bounded; day = s.day; ranges = s.ranges }
      ]

  -- each decision on a shared event keeps it
  keeps_on_shared : (a : Arrival) → is_shared a ≡ true →
      KeepsShared a (decision (known_by opening h a) a)
  keeps_on_shared CutOver shared =
      elim (nat_lt (day_after opening.first_day h) last_day) as (λ b.
      KeepsShared CutOver (if b then CutsOver else Reports output.LastDay)) [
        | true ↦ record { bounded = s.bounded; day = refl; ranges = s.ranges }
        | false ↦ record { bounded = s.bounded; day = s.day; ranges = s.ranges }
      ]
  keeps_on_shared (RangeAdded range) shared =
      elim (is_valid_range range) as (λ b.
      KeepsShared (RangeAdded range)
      (if b then decision_of_new_range range (known_by opening h (RangeAdded range)).overlapped
      else Reports output.BadRange)) [
        | true ↦ shared_new_range range (known_by opening h (RangeAdded range)).overlapped
        | false ↦ record { bounded = s.bounded; day = s.day; ranges = s.ranges }
      ]
  keeps_on_shared (RangeDropped low high) shared =
      shared_old_range low high (known_by opening h (RangeDropped low high)).overlapped
  keeps_on_shared other shared = absurd (cc)

  -- the agreement after what came
  abbrev Next : Arrival → Type 0
  Next a = AgreesInShared opening (step_tables t a) (entry_for opening h a ∷ h)

  pub shared_step : (a : Arrival) → is_shared a ≡ true → Next a
  shared_step a shared =
      subst (λ k. AgreesInShared opening (after_any t (change_for k a)) (entry_for opening h a ∷ h))
      (sym (known_of_nobody a shared)) (keeps_on_shared a shared)

  -- ---- what is nobody's

  -- what came has the same output, and the agreement stays
  abbrev IsNobodysStep : Arrival → Type 0
  IsNobodysStep a = (step_output t a ≡ output_of (merchant_named a) (entry_for opening h a).outcome)
      × Next a

  -- of the requests, network management alone needs no merchant
  managed_step : (moment : ℕ) (service : Service) (message : IsoMessage) →
      let r : RequestMessage = record { moment = moment; service = service; message = message } in
      IsNaming (Requested r) → is_none (merchant_named (Requested r)) ≡ true →
      IsNobodysStep (Requested r)
  managed_step moment NetworkManagement message naming alone =
      let r : RequestMessage =
      record { moment = moment; service = NetworkManagement; message = message } in (
        ap (λ day. output_of (merchant_named (Requested r))
            (Replied (network_response message) (coded_reply day r (network_response message))))
            s.day,
        record { bounded = s.bounded; day = s.day; ranges = s.ranges },
      )
  managed_step moment service message naming alone =
      named_clash _ (naming (record { moment = moment; service = service; message = message }) refl)
      alone

  -- whatever names no merchant and isn't shared
  pub nobodys_step : (a : Arrival) → IsNaming a → is_none (merchant_named a) ≡ true →
      is_shared a ≡ false → IsNobodysStep a
  nobodys_step (Undecoded fault) naming alone apart =
      (refl, record { bounded = s.bounded; day = s.day; ranges = s.ranges })
  nobodys_step (Unserved message) naming alone apart =
      (refl, record { bounded = s.bounded; day = s.day; ranges = s.ranges })
  nobodys_step (Malformed r) naming alone apart = (
    ap (λ day. output_of (merchant_named (Malformed r))
        (Replied code.FormatError (coded_reply day r code.FormatError)))
        s.day,
    record { bounded = s.bounded; day = s.day; ranges = s.ranges },
  )
  nobodys_step (Requested r) naming alone apart =
      managed_step r.moment r.service r.message naming alone
  nobodys_step other naming alone apart = absurd (cc)

-- ---- whole runs

-- no text is itself behind one byte more
longer : (n : List ℕ) → n ≡ 0 ∷ n → ⊥
longer [] e = absurd (cc)
longer (x ∷ xs) e = let tails : xs ≡ 0 ∷ xs = cc in longer xs tails

-- a merchant's event changes nothing of what all share
others_keep_shared : (opening : Opening) (t : Tables) (h : List Entry) →
    AgreesInShared opening t h → (a : Arrival) →
    IsNaming a → is_of None a ≡ false → is_shared a ≡ false →
    AgreesInShared opening (step_tables t a) h
others_keep_shared opening t h s a naming other alone =
    let step : (o : Option (List ℕ)) → merchant_named a ≡ o →
    AgreesInShared opening (step_tables t a) h =
    elim [
      | None ↦ (λ e. clash (is_of None a) (λ i. is_none (e i) && not (alone i)) other)
      | Some n ↦ (λ e.
          let apart : (b : Bool) → bytes_eq n (0 ∷ n) ≡ b → b ≡ false =
          elim [ true ↦ (λ f. absurd (longer n (bytes_eq_is n (0 ∷ n) f))) | false ↦ (λ f. refl) ]
          in
          let like =
          other_step (0 ∷ n) t a naming
          (ap (λ o. names o (0 ∷ n)) e ∙ apart (bytes_eq n (0 ∷ n)) refl) alone in
          record {
            bounded = like.limit ∙ s.bounded;
            day = like.day ∙ s.day;
            ranges = like.ranges ∙ s.ranges;
          })
    ] in
    step (merchant_named a) refl

-- each event does to the agreement what a whole run asks of it
keeps_shared_agreement : (opening : Opening) → KeepsAgreement opening None (AgreesInShared opening)
keeps_shared_agreement opening = record {
  own_event = λ t h e g mine.
      let a = arrival_of e in
      let both = and_parts (is_none (merchant_named a)) (not (is_shared a)) mine in
      nobodys_step opening t h g a (naming_of e) both.0 (not_true (is_shared a) both.1);
  shared_event = λ t h e g shared. shared_step opening t h g (arrival_of e) shared;
  other_event = λ t h e g other alone. others_keep_shared opening t h g (arrival_of e)
      (naming_of e) other alone;
}

new_shared : (opening : Opening) → AgreesInShared opening (new_tables opening) []
new_shared opening = record { bounded = refl; day = refl; ranges = refl }

pub nobody_isolated : IsIsolated None
nobody_isolated opening past further =
    let run = whole_run opening None (AgreesInShared opening) (keeps_shared_agreement opening) in
    let from_new = (run (new_tables opening) [] (new_shared opening) past).1 in
    (run (book_after opening past) (history_of opening None past) from_new further).0
