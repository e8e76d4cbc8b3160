-- The day's end, behind a look at which day it is.
use Rattle.std.proofs.Common.{◌≡◌, Bool, true, false, true≢false, ap, sym, OnErr, OnOk}
use Rattle.std.proofs.Common.{Result, Ok, Err, Some, ℕ, ◌==◌}
use Rattle.acq_core.specs.Arrivals.{arrival_of}
use Rattle.acq_core.specs.Tables.{step_tables}
use Rattle.acq_core.specs.declared.event.Event.{Event}
use Rattle.acq_core.specs.declared.event.Event.TheVariants as event
use Rattle.acq_book.specs.Calls.{Looks}
use Rattle.acq_book.specs.declared.book.Book.{Ghosts}
use Rattle.acq_host.proofs.Chains.{makes_after}
use Rattle.acq_control.specs.declared.question.Question.TheVariants as question
use Rattle.acq_control.specs.Doing.{DoesSome, Ends, Takes}

pub on_err : {T E P : Type 0} (result : Result T E) → P → OnErr result P
on_err (Ok x) so = tt
on_err (Err e) so = so

pub on_ok : {T E P : Type 0} (result : Result T E) → P → OnOk result P
on_ok (Ok x) so = so
on_ok (Err e) so = tt

pub on_err_too : {T E P Q : Type 0} (result : Result T E) → (P → Q) → OnErr result P →
    OnErr result Q
on_err_too (Ok x) so is = tt
on_err_too (Err e) so is = so is

pub on_ok_too : {T E P Q : Type 0} (result : Result T E) → (P → Q) → OnOk result P → OnOk result Q
on_ok_too (Ok x) so is = so is
on_ok_too (Err e) so is = tt

module _ {S : Type 0} (book : Ghosts S) (day moment : ℕ) where
  -- the look failed
  pub unlooked : {a b : S} → Looks book a b false →
      DoesSome book a b (Some (question.End day moment))
  unlooked looks = (false, (false, looks, λ done h o. absurd (true≢false (sym done))))

  module _ {a b : S} (looks : Looks book a b true) where
    -- it is another day
    pub left_alone : (book.is_honest b → book.is_open a → false ≡ ((book.tables a).day == day)) →
        Ends book a b day moment true
    left_alone other = (false, looks, λ done h o. other h o)

    module _ (honest : (s : S) → book.is_open s → book.is_honest s) {c : S} where
      behind_look : (e : Event) (done : Bool) → Takes book b c e done → Takes book a c e done
      behind_look e done makes = makes_after book.tables book.is_honest book.is_open book.may_leave
          book.leaves_books book.failures book.store_faults honest a b c done
          (step_tables (book.tables b) (arrival_of e)) (step_tables (book.tables a) (arrival_of e))
          (λ o. ap (λ t. step_tables t (arrival_of e)) (looks.same o)) looks makes

      -- it is this day
      pub ended : (done : Bool) →
          (book.is_honest b → book.is_open a → true ≡ ((book.tables a).day == day)) →
          Takes book b c (event.Cutover moment) done → Ends book a c day moment done
      ended done this makes = (
        true,
        behind_look (event.Cutover moment) done makes,
        λ is h o. this (makes.was_honest h) o,
      )
