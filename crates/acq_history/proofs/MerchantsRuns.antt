-- Isolation of a merchant, over whole runs: its outputs, its postings and its open holds.
use Rattle.std.proofs.Common.{◌≡◌, ℕ, List, [], Option, Some, Bool, true, false, refl, sym, ap, ◌∙◌}
use Rattle.std.specs.Prelude.{map, ◌||◌}
use Rattle.acq_core.specs.declared.event.Event.{Event}
use Rattle.acq_core.specs.declared.arrival.Arrival.{Arrival}
use Rattle.acq_core.specs.Arrivals.{arrival_of, merchant_named, is_shared}
use Rattle.acq_core.specs.Known.{Prior}
use Rattle.acq_core.specs.Tables.{Opening, Tables, new_tables, requests_of}
use Rattle.acq_history.specs.Entries.{Entry}
use Rattle.acq_history.specs.PartyHistory.{names, is_of, book_after, history_of}
use Rattle.acq_history.specs.Isolation.{open_at, all_recorded, IsIsolated, PostsAlone, HoldsAlone}
use Rattle.acq_soundness.proofs.Lookups.{map-both}
use Rattle.acq_history.proofs.RequestsAfterNewEntry.{line, shown}
use Rattle.acq_history.proofs.TablesAgreeWithHistory.{Agrees, names_is}
use Rattle.acq_history.proofs.OwnStep.{step_mine, step_shared, IsStep}
use Rattle.acq_history.proofs.WholeRuns.{KeepsAgreement, whole_run}
use Rattle.acq_history.proofs.OtherPartysStep.{alike_agrees, other_step, naming_of}

-- a new book agrees with an empty history
pub new_agrees : (opening : Opening) (m : List ℕ) → Agrees opening m (new_tables opening) []
new_agrees opening m = record {
  common = record {
    bounded = refl;
    day = refl;
    ranges = refl;
    merchant = refl;
    terminal = λ id. refl;
  };
  rows = record { lines = refl; used = λ day. refl; genuine = tt };
  posted = refl;
}

-- an event of the merchant's, or a shared one, has the same output, and the agreement stays
pub own_step : {opening : Opening} {m : List ℕ} {t : Tables} {h : List Entry} →
    Agrees opening m t h → (a : Arrival) →
    (is_of (Some m) a || is_shared a) ≡ true → IsStep opening m t h a
own_step {opening} {m} {t} {h} g a mine =
    let step : (b : Bool) → names (merchant_named a) m ≡ b → (b || is_shared a) ≡ true →
    IsStep opening m t h a =
    elim [
      | true ↦ (λ e shared. step_mine g a (names_is (merchant_named a) m e))
      | false ↦ (λ e shared. step_shared g a shared)
    ] in
    step (names (merchant_named a) m) refl mine

-- each event does to the agreement what a whole run asks of it
pub keeps_agreement : (opening : Opening) (m : List ℕ) →
    KeepsAgreement opening (Some m) (Agrees opening m)
keeps_agreement opening m = record {
  own_event = λ t h e g mine. own_step g (arrival_of e)
      (ap (λ b. b || is_shared (arrival_of e)) mine);
  shared_event = λ t h e g shared. (step_shared g (arrival_of e) shared).1;
  other_event = λ t h e g other alone.
      alike_agrees (other_step m t (arrival_of e) (naming_of e) other alone) g;
}

-- from a new book
pub from_new : (opening : Opening) (m : List ℕ) (es : List Event) →
    Agrees opening m (book_after opening es) (history_of opening (Some m) es)
from_new opening m es =
    (whole_run opening (Some m) (Agrees opening m) (keeps_agreement opening m)
    (new_tables opening) []
    (new_agrees opening m) es).1

-- from any past
pub merchant_isolated : (m : List ℕ) → IsIsolated (Some m)
merchant_isolated m opening past further =
    (whole_run opening (Some m) (Agrees opening m) (keeps_agreement opening m)
    (book_after opening past)
    (history_of opening (Some m) past) (from_new opening m past) further).0

pub posts_alone : (m : List ℕ) → PostsAlone m
posts_alone m opening es = (from_new opening m es).posted

pub holds_alone : (m : List ℕ) → HoldsAlone m
holds_alone m opening moment es =
    let rows = requests_of m (book_after opening es).requests in
    let founds = all_recorded (history_of opening (Some m) es) in
    ap (open_at moment)
    (sym (map-both (λ (x : Prior × Option ℕ). x.0) line rows)
    ∙ (ap (map (λ (x : Prior × Option ℕ). x.0)) (from_new opening m es).rows.lines
    ∙ map-both (λ (x : Prior × Option ℕ). x.0) shown founds))
