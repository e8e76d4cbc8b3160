-- A book that has taken some events.
use Rattle.std.proofs.Common.{◌≡◌, ◌∙◌, ◌+◌, ◌<◌, ℕ, true, List, [], take, length, get_or, refl}
use Rattle.std.proofs.Common.{sym, ap}
use Rattle.acq_core.specs.Arrivals.{arrival_of}
use Rattle.acq_core.specs.Tables.{step_tables, tables_after}
use Rattle.acq_core.specs.declared.event.Event.{Event}
use Rattle.acq_book.specs.Calls.{Makes}
use Rattle.acq_book.specs.declared.book.Book.{Ghosts}
use Rattle.acq_host.proofs.Runs.{after_next}

module _ {S : Type 0} (book : Ghosts S) (first : S) where
  -- it has taken these, if the store gave back what was written
  pub record HasTaken (now : S) (events : List Event) : Type 0 where
    pub was_honest : book.is_honest now → book.is_honest first
    pub stays_open : book.is_honest now → book.is_open first → book.is_open now
    pub tables : book.is_honest now → book.is_open first
        → book.tables now ≡ tables_after (book.tables first) events

  pub took_none : HasTaken first []
  took_none =
      record { was_honest = λ h. h; stays_open = λ h is. is; tables = λ h is. refl }

  pub took_next : (now next : S) (events : List Event) (at : ℕ) (event : Event)
      → at < length events → event ≡ get_or events at event → HasTaken now (take at events)
      → Makes book now next true (step_tables (book.tables now) (arrival_of event))
      → HasTaken next (take (at + 1) events)
  took_next now next events at event within is so_far made =
      record {
        was_honest = λ h. so_far.was_honest (made.was_honest h);
        stays_open = λ h began.
            made.stays_open refl h (so_far.stays_open (made.was_honest h) began);
        tables = λ h began.
            let was = made.was_honest h in
            let opened = so_far.stays_open was began in
            made.made refl opened (made.stays_open refl h opened)
            ∙ ap (λ t. step_tables t (arrival_of event)) (so_far.tables was began)
            ∙ sym (after_next (book.tables first) events at event within is);
      }
