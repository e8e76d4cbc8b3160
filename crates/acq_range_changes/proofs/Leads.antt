-- What events lead to, where each of them is done.
use Rattle.std.proofs.Common.{◌≡◌, List, [], ◌∷◌, ◌++◌, true, None, Some, refl, sym, ap, subst, ◌∙◌}
use Rattle.std.specs.List.{All, find}
use Rattle.std.proofs.lemmas.List.Elements.{All-cons, All-head, All-nil, All-tail}
use Rattle.card_no.specs.declared.range.Range.{Range}
use Rattle.card_no.specs.Ranges.{between, is_valid_range, overlaps, with_range, without_range}
use Rattle.acq_core.specs.declared.event.Event.{Event}
use Rattle.acq_core.specs.declared.event.Event.TheVariants.{AddRange}
use Rattle.acq_core.specs.declared.output.Output.TheVariants.{Done}
use Rattle.acq_core.specs.Arrivals.{arrival_of}
use Rattle.acq_core.specs.Tables.{Tables, outputs, step_output, step_tables, tables_after}
use Rattle.acq_range_changes.specs.Changes.{drop_of}
use Rattle.acq_range_changes.proofs.Apart.{has_its_ends}

-- each of the events is done, and these tables stand behind them
pub record Leads (t : Tables) (events : List Event) (u : Tables) : Type 0 where
  pub tables : tables_after t events ≡ u
  pub taken : All (λ output. output ≡ Done) (outputs t events)

pub leads_none : (t : Tables) → Leads t [] t
leads_none t = record { tables = refl; taken = All-nil (λ output. output ≡ Done) }

-- an event that is done, and what is led to behind it
pub leads_first : (t : Tables) (event : Event) (events : List Event) (u w : Tables) →
    step_output t (arrival_of event) ≡ Done → step_tables t (arrival_of event) ≡ u →
    Leads u events w → Leads t (event ∷ events) w
leads_first t event events u w output step rest = record {
  tables = ap (λ between. tables_after between events) step ∙ rest.tables;
  taken = All-cons (λ o. o ≡ Done) (step_output t (arrival_of event))
      (outputs (step_tables t (arrival_of event)) events) output
      (subst (λ between. All (λ o. o ≡ Done) (outputs between events)) (sym step) rest.taken);
}

-- events, and then more
pub leads_on : (events more : List Event) (t u w : Tables) → Leads t events u → Leads u more w →
    Leads t (events ++ more) w
leads_on [] more t u w first rest =
    subst (λ between. Leads between more w) (sym first.tables) rest
leads_on (event ∷ events) more t u w first rest =
    let output = step_output t (arrival_of event) in
    let between = step_tables t (arrival_of event) in
    leads_first t event (events ++ more) between w
    (All-head (λ o. o ≡ Done) output (outputs between events) first.taken) refl
    (leads_on events more between u w (record {
      tables = first.tables;
      taken = All-tail (λ o. o ≡ Done) output (outputs between events) first.taken;
    }) rest)

-- ---- one event

-- a range that is found by its ends is dropped
pub drop_done : (t : Tables) (r : Range) →
    find (overlaps (between r.low r.high)) t.ranges ≡ Some r →
    (step_output t (arrival_of (drop_of r)) ≡ Done)
    × (step_tables t (arrival_of (drop_of r))
    ≡ record t { ranges = without_range t.ranges r.low r.high })
drop_done t r found = rw (found, has_its_ends r) (refl, refl)

-- a valid range that overlaps none is added
pub add_done : (t : Tables) (r : Range) → is_valid_range r ≡ true →
    find (overlaps (between r.low r.high)) t.ranges ≡ None →
    (step_output t (arrival_of (AddRange r)) ≡ Done)
    × (step_tables t (arrival_of (AddRange r))
    ≡ record t { ranges = with_range t.ranges r })
add_done t r valid free = rw (valid, free) (refl, refl)
