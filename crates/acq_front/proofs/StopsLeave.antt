-- What a stop leaves where an event was taken, or refused, or nothing was taken.
use Rattle.std.proofs.Common.{◌≡◌, true, false, List, [], ◌∷◌, ◌++◌, ⊎_elim, inl, inr, refl, sym}
use Rattle.std.proofs.Common.{ap, ◌∙◌, append_assoc}
use Rattle.acq_core.specs.declared.event.Event.{Event}
use Rattle.acq_core.specs.Arrivals.{arrival_of}
use Rattle.acq_core.specs.Tables.{Tables, step_tables, tables_after}
use Rattle.acq_book.specs.declared.book.Book.{Ghosts}
use Rattle.acq_book.specs.Calls.{Makes}
use Rattle.acq_soundness.proofs.Runs.{tables_after-append}
use Rattle.acq_host.proofs.Runs.{LeavesTables}
use Rattle.acq_front.specs.Stops.{Left, left_of, LeavesAll, LeavesSome}

module _ {S : Type 0} (book : Ghosts S) where
  -- nothing was taken
  pub none_stop : LeavesTables book → ((s : S) → book.is_open s → book.leaves_books s) → (a : S) →
      book.is_open a → LeavesAll (left_of book a) (book.tables a) []
  none_stop settled stored a opened =
      record { tables = settled a opened; stored = stored a opened }

  module _ (a c : S) (e : Event) (honest : book.is_honest c) (opened : book.is_open a) where
    pub taken_stop : Makes book a c true (step_tables (book.tables a) (arrival_of e)) →
        LeavesAll (left_of book c) (book.tables a) (e ∷ [])
    taken_stop makes = record {
      tables = makes.settled refl opened honest;
      stored = makes.books opened honest;
    }

    pub refused_stop : LeavesTables book →
        Makes book a c false (step_tables (book.tables a) (arrival_of e)) →
        LeavesSome (left_of book c) (book.tables a) [] (e ∷ [])
    refused_stop settled makes = record {
      tables = λ t l. ⊎_elim (λ was. inl (settled a opened t was)) inr
          (makes.leaves opened honest t l);
      stored = makes.books opened honest;
    }

-- what more events leave, behind those that led here
module _ (left : Left) (old mid : Tables) (events : List Event) (at : mid ≡ tables_after old events)
  where
    moved : (made : List Event) → tables_after mid made ≡ tables_after old (events ++ made)
    moved made = ap (λ (t : Tables). tables_after t made) at
        ∙ sym (tables_after-append old events made)

    pub all_behind : (made : List Event) → LeavesAll left mid made →
        LeavesAll left old (events ++ made)
    all_behind made stop =
        record { tables = λ t l. stop.tables t l ∙ moved made; stored = stop.stored }

    pub some_behind : (made in_hand : List Event) → LeavesSome left mid made in_hand →
        LeavesSome left old (events ++ made) in_hand
    some_behind made in_hand stop = record {
      tables = λ t l. ⊎_elim (λ is. inl (is ∙ moved made))
          (λ is. inr (is ∙ moved (made ++ in_hand)
          ∙ ap (tables_after old) (sym (append_assoc events made in_hand))))
          (stop.tables t l);
      stored = stop.stored;
    }

    -- behind none
    pub some_next : (in_hand : List Event) → LeavesSome left mid [] in_hand →
        LeavesSome left old events in_hand
    some_next in_hand stop = record {
      tables = λ t l. ⊎_elim (λ is. inl (is ∙ at)) (λ is. inr (is ∙ moved in_hand))
          (stop.tables t l);
      stored = stop.stored;
    }
