-- Look-ups, one after another.
use Rattle.std.proofs.Common.{◌≡◌, ◌⊎◌, ℕ, Bool, true, inl, inr, refl, subst, ◌∙◌, arith}
use Rattle.acq_book.specs.declared.book.Book.{Ghosts}
use Rattle.acq_book.specs.Calls.{Looks}
use Rattle.acq_book.specs.Promise.{CountsFault, HasRisen}
use Rattle.acq_book.specs.declared.book_fault.BookFault as book_fault
use Rattle.std.specs.Prelude.{IsErrAnd, Result, Ok, Err}
use Rattle.std.proofs.lemmas.Result.{err_from_is_err_and}
use Rattle.acq_reports.specs.Faults.{StoreFailed, TellsFault, TellsStore}
use Rattle.acq_reports.specs.declared.report_fault.ReportFault.{ReportFault}
use Rattle.acq_reports.specs.declared.report_fault.ReportFault.TheVariants.{Store}
pub use Rattle.acq_book.proofs.Chains.{looks_more}

module _ {S : Type 0} (book : Ghosts S) (a b c : S) (succeeded : Bool)
    (first : Looks book a b true) (second : Looks book b c succeeded) where
  -- a call that failed after others
  risen_later : HasRisen (book.failures b) (book.failures c) →
      HasRisen (book.failures a) (book.failures c)
  risen_later risen =
      let before = first.rise in
      let after = second.rise in
      grind arith

  -- a store that failed after look-ups
  pub failed_later : StoreFailed book b c → StoreFailed book a c
  failed_later (inl risen) = inl (risen_later risen)
  failed_later (inr unsound) =
      inr (λ sound. unsound (
        sound.0,
        first.stays_open refl (second.was_honest sound.0) sound.1,
      ))

  -- what a report tells of its store, told of what was before too
  pub tells_later : {T : Type 0} (result : Result T ReportFault) →
      book.failures b ≡ book.failures a → TellsStore book b c result →
      TellsStore book a c result
  tells_later (Err Store) same told = failed_later told
  tells_later result same told = told ∙ same

  -- and one of which something more is known
  pub unequal_later : (Adds : Type 0) → (book.is_honest b → book.is_open a → Adds)
      → (HasRisen (book.failures b) (book.failures c)
      ⊎ ¬ (book.is_honest c × book.is_open b × Adds))
      → StoreFailed book a c
  unequal_later Adds adds (inl risen) = inl (risen_later risen)
  unequal_later Adds adds (inr unsound) =
      inr (λ sound.
      let before = second.was_honest sound.0 in
      unsound (sound.0, first.stays_open refl before sound.1, adds before sound.1))

-- what is told of the book's result, told of what was before too
pub told_since : {T : Type 0} (A B : Type 0) {a b : ℕ} (c : ℕ) → (A → B) → b ≡ a →
    (result : Result T book_fault.BookFault) → TellsFault result A b c → TellsFault result B a c
told_since A B c tells same (Ok x) told = told ∙ same
told_since A B c tells same (Err book_fault.TheVariants.Memory) told = told ∙ same
told_since A B c tells same (Err book_fault.TheVariants.Store) told = tells told

-- a book's fault that is handed on, after calls that left the count as it was
pub counts_on : {T : Type 0} (result : Result T book_fault.BookFault) (f : book_fault.BookFault)
    {a b : ℕ} (c : ℕ) → IsErrAnd result (λ e. e ≡ f) → b ≡ a →
    CountsFault {T = Unit {0}} (Err f) b c → CountsFault result a c
counts_on result f c on same counts =
    let p = err_from_is_err_and result on in
    rw (p.1, p.2) (subst (λ n. CountsFault {T = Unit {0}} (Err f) n c) same counts)
