-- What a run promises of a reply with 00: what was told is what clears.
use Rattle.std.specs.Prelude.{◌≡◌, ℕ, Bool, true, false, List, ◌∷◌, ◌++◌, length, map, filter, Some}
use Rattle.std.specs.Prelude.{slice_get, IsPermutation}
use Rattle.std.specs.List.{Contains, filter_map}
use Rattle.std.specs.Str.{bytes_eq}
use Rattle.iso_codec.specs.Message.{IsoMessage}
use Rattle.iso_codec.specs.Reading.{spelling}
use Rattle.acq_core.specs.declared.event.Event.{Event}
use Rattle.acq_core.specs.declared.output.Output.{Output}
use Rattle.acq_core.specs.declared.output.Output.TheVariants as output
use Rattle.acq_core.specs.declared.posting.Posting.{Posting}
use Rattle.acq_core.specs.Arrivals.{arrival_of}
use Rattle.acq_core.specs.Pasts.{IsBook}
use Rattle.acq_core.specs.Tables.{Opening, Tables}
use Rattle.acq_clearing.specs.ClearedSums.{records_below_header}
use Rattle.acq_clearing.specs.ClearingFile.{clearing_text, posting_fields}
use Rattle.acq_history.specs.PartyHistory.{is_of, entry_for, history_of}
use Rattle.acq_history.specs.Isolation.{all_recorded}
use Rattle.acq_history.specs.DaySums.{postings_on}
use Rattle.acq_history.specs.Cleared.{told_posting, told_postings}
use Rattle.acq_history.specs.ClearedRequests.{cleared, on_day, ClearsUnderItsLeg}
use Rattle.acq_history.specs.ClearedReplies.{Names, left_by}

-- ---- a merchant's records in a clearing file

-- a record's second field is the merchant
abbrev pub is_record_of : List ℕ → List (List ℕ) → Bool
is_record_of m (day ∷ merchant ∷ more) = bytes_eq merchant m
is_record_of m _ = false

-- its records of a day
abbrev pub records_at : Tables → ℕ → List ℕ → List (List (List ℕ))
records_at t day m = filter (is_record_of m) (records_below_header (clearing_text t day))

-- a record without its third field, the number
abbrev pub unnumbered : List (List ℕ) → List (List ℕ)
unnumbered (day ∷ merchant ∷ number ∷ more) = day ∷ merchant ∷ more
unnumbered fields = fields

-- the record of a posting, but for its number
abbrev pub record_of : Posting → List (List ℕ)
record_of p = unnumbered (posting_fields (0, p))

-- ---- what a run promises

-- what was said at a place of a run, to an event, is a reply with 00 that names a posting, whose
-- record stands in the clearing file of its day
pub record IsToldAt (said : List Output) (place : ℕ) (t : Tables) (m : List ℕ) (e : Event)
    (p : Posting) : Type 0 where
  pub reply : IsoMessage
  pub is_said : slice_get said place ≡ Some (output.Reply (Some m) (spelling reply))
  pub names : Names reply p (left_by (arrival_of e))
  pub clears : Contains (map unnumbered (records_at t p.day m)) (record_of p)

-- After a past, further events gave these outputs and led to these tables. A merchant's records of
-- each day's clearing file are, in another order, one for each reply that said 00 to what moves
-- money, and no other: so one for each recorded request of that day whose reply says so, under the
-- leg of what was asked for. And each such reply of the run names its posting, which is in the
-- file.
pub record ClearedAsTold (opening : Opening) (past further : List Event) (said : List Output)
    (t : Tables) (m : List ℕ) : Type 0 where
  pub told : (day : ℕ) →
      IsPermutation
      (map posting_fields
      (postings_on day (told_postings (history_of opening (Some m) (past ++ further)))))
      (records_at t day m)
  pub requested : (day : ℕ) →
      IsPermutation
      (map record_of
      (filter_map (λ f. on_day day (cleared f))
      (all_recorded (history_of opening (Some m) (past ++ further)))))
      (map unnumbered (records_at t day m))
  pub under_legs : ClearsUnderItsLeg
  pub named : (before later : List Event) (e : Event) (p : Posting) →
      further ≡ before ++ e ∷ later → is_of (Some m) (arrival_of e) ≡ true →
      let h = history_of opening (Some m) (past ++ before) in
      told_posting (entry_for opening h (arrival_of e)) h ≡ Some p →
      IsToldAt said (length before) t m e p

-- so it is of each merchant, whatever past led to the tables from which the run began
abbrev pub IsClearedAsTold : Tables → List Event → List Output → Tables → Type 0
IsClearedAsTold t further said now =
    (opening : Opening) (past : IsBook opening t) (m : List ℕ) →
    ClearedAsTold opening past.events further said now m
