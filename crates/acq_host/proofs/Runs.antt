-- A run goes on by one event.
use Rattle.std.proofs.Common.{◌≡◌, ℕ, ◌+◌, ◌<◌, ◌≤◌, true, false, List, [], ◌∷◌, ◌++◌, length, take}
use Rattle.std.proofs.Common.{get_or, ◌⊎◌, inl}
use Rattle.std.proofs.Common.{Bool, inr, ⊎_elim, refl, sym, ap, subst, ◌∙◌, arith}
use Rattle.std.specs.Prelude.{Some}
use Rattle.std.specs.List.{slice_get}
use Rattle.std.proofs.lemmas.List.{take_more}
use Rattle.acq_core.specs.declared.event.Event.{Event}
use Rattle.acq_core.specs.declared.output.Output.{Output}
use Rattle.acq_core.specs.Arrivals.{arrival_of}
use Rattle.acq_core.specs.Events.{IsEvent}
use Rattle.acq_core.specs.Pasts.{HasPast}
use Rattle.acq_core.specs.Tables.{Tables, outputs, tables_after, step_output, step_tables}
use Rattle.acq_book.specs.declared.book.Book.{Ghosts}
use Rattle.acq_book.specs.Calls.{Makes}
use Rattle.acq_book.specs.Promise.{HasRisen}
use Rattle.acq_book.proofs.Chains.{risen_after}
use Rattle.acq_soundness.proofs.BooksGoOn.{books_go_on}
use Rattle.acq_soundness.proofs.Runs.{tables_after-append}
use Rattle.acq_host.specs.Runs.{after_first}

-- ---- outputs and tables

pub outputs-push : (t : Tables) (es : List Event) (e : Event) →
    outputs t (es ++ e ∷ []) ≡ outputs t es ++ step_output (tables_after t es) (arrival_of e) ∷ []
outputs-push t [] e = refl
outputs-push t (x ∷ es) e =
    ap (λ os. step_output t (arrival_of x) ∷ os) (outputs-push (step_tables t (arrival_of x)) es e)

-- the output at the place of an event
pub output_at : (t : Tables) (before later : List Event) (e : Event) →
    slice_get (outputs t (before ++ e ∷ later)) (length before)
    ≡ Some (step_output (tables_after t before) (arrival_of e))
output_at t [] later e = refl
output_at t (x ∷ before) later e = output_at (step_tables t (arrival_of x)) before later e

-- the first events and one more
pub first_and_next : (events : List Event) (at : ℕ) (e : Event) → at < length events →
    e ≡ get_or events at e →
    take (at + 1) events ≡ take at events ++ e ∷ []
first_and_next events at e within is =
    take_more events at e within ∙ ap (λ x. take at events ++ x ∷ []) (sym is)

-- the tables after one event more
pub after_next : (t : Tables) (events : List Event) (at : ℕ) (e : Event) → at < length events →
    e ≡ get_or events at e →
    after_first (at + 1) t events ≡ step_tables (after_first at t events) (arrival_of e)
after_next t events at e within is =
    ap (tables_after t) (first_and_next events at e within is) ∙ tables_after-append t
    (take at events) (e ∷ [])

-- ---- a book that took events

-- a book became another by taking these events, to which this was said
pub record HasTaken {S : Type 0} (book : Ghosts S) (old new : S) (events : List Event)
    (said : List Output) : Type 0 where
  pub was_honest : book.is_honest new → book.is_honest old
  pub stays_open : book.is_honest new → book.is_open old → book.is_open new
  pub says : book.is_honest new → book.is_open old → said ≡ outputs (book.tables old) events
  pub leads : book.is_honest new → book.is_open old →
      book.tables new ≡ tables_after (book.tables old) events
  pub failed : book.failures new ≡ book.failures old
  pub counts : book.store_faults old ≤ book.store_faults new

-- while a book is open, a stop leaves its tables
abbrev pub LeavesTables : {S : Type 0} → Ghosts S → Type 0
LeavesTables {S} book =
    (s : S) → book.is_open s → (t : Tables) → book.may_leave s t → t ≡ book.tables s

module _ {S : Type 0} (book : Ghosts S) where
  pub took_none : (a : S) → HasTaken book a a [] []
  took_none a = record {
    was_honest = λ h. h;
    stays_open = λ h o. o;
    says = λ h o. refl;
    leads = λ h o. refl;
    failed = refl;
    counts = omega arith;
  }

  pub took_next : (a b c : S) (events : List Event) (at : ℕ) (e : Event) (said now : List Output) →
      at < length events → e ≡ get_or events at e →
      HasTaken book a b (take at events) said →
      Makes book b c true (step_tables (book.tables b) (arrival_of e)) →
      (book.is_honest c → book.is_open b →
      now ≡ said ++ step_output (book.tables b) (arrival_of e) ∷ []) →
      book.failures c ≡ book.failures b →
      HasTaken book a c (take (at + 1) events) now
  took_next a b c events at e said now within is first next adds failed = record {
    was_honest = λ h. first.was_honest (next.was_honest h);
    stays_open = λ h o. next.stays_open refl h (first.stays_open (next.was_honest h) o);
    says = λ h o.
        let before = next.was_honest h in
        adds h (first.stays_open before o)
        ∙ ((λ i. first.says before o i ++ step_output (first.leads before o i) (arrival_of e) ∷ [])
        ∙ (sym (outputs-push (book.tables a) (take at events) e)
        ∙ sym (ap (outputs (book.tables a)) (first_and_next events at e within is))));
    leads = λ h o.
        let before = next.was_honest h in
        let between = first.stays_open before o in
        next.made refl between (next.stays_open refl h between)
        ∙ (ap (λ t. step_tables t (arrival_of e)) (first.leads before o)
        ∙ sym (after_next (book.tables a) events at e within is));
    failed = failed ∙ first.failed;
    counts = let one = first.counts in let more = next.counts in omega arith;
  }

  -- what a stop leaves at an event is such as events lead to
  pub past_of_left : (a c : S) (succeeded : Bool) (e : Event) → LeavesTables book → IsEvent e →
      Makes book a c succeeded (step_tables (book.tables a) (arrival_of e)) →
      HasPast (book.tables a) → book.is_honest c → book.is_open a →
      (t : Tables) → book.may_leave c t → HasPast t
  past_of_left a c succeeded e settled event makes past h o t l =
      ⊎_elim (λ was. subst HasPast (sym (settled a o t was)) past)
      (λ is. subst HasPast (sym is) (past.0, books_go_on past.0 (book.tables a) e past.1 event))
      (makes.leaves o h t l)

  -- ---- where the next event wasn't taken

  module _ (a b c : S) (events : List Event) (at : ℕ) (e : Event) (said : List Output)
      (first : HasTaken book a b (take at events) said)
      (next : Makes book b c false (step_tables (book.tables b) (arrival_of e)))
      (honest : book.is_honest c) (opened : book.is_open a) where
    abbrev between : book.is_open b
    between = first.stays_open (next.was_honest honest) opened

    -- a stop leaves the events before it, or these and the next
    pub may_stop_at : at < length events → e ≡ get_or events at e →
        LeavesTables book → (t : Tables) → book.may_leave c t →
        (t ≡ after_first at (book.tables a) events)
        ⊎ (t ≡ after_first (at + 1) (book.tables a) events)
    may_stop_at within is settled t l =
        let leads = first.leads (next.was_honest honest) opened in
        ⊎_elim (λ was. inl (settled b between t was ∙ leads))
        (λ now. inr (now ∙ (ap (λ u. step_tables u (arrival_of e)) leads
        ∙ sym (after_next (book.tables a) events at e within is))))
        (next.leaves between honest t l)

    -- and each time a book
    pub leaves_books_at : book.leaves_books c
    leaves_books_at = next.books between honest

    -- only a fault of the store has shut it
    pub shut_at : book.is_open c ⊎ HasRisen (book.store_faults a) (book.store_faults c)
    shut_at =
        ⊎_elim inl (λ risen. inr (risen_after first.counts next.counts risen))
        (next.shuts honest between)
