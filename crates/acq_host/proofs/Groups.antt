-- Events that are taken in a group, one after another, and what becomes of the group.
use Rattle.std.proofs.Common.{◌≡◌, ℕ, ◌+◌, ◌<◌, ◌≤◌, Bool, true, false, true≢false, List, [], ◌∷◌}
use Rattle.std.proofs.Common.{◌++◌, length, take, get_or, ◌⊎◌, inl, inr, ⊎_elim, refl, sym, ap, ◌∙◌}
use Rattle.std.proofs.Common.{arith, subst}
use Rattle.acq_core.specs.declared.event.Event.{Event}
use Rattle.acq_core.specs.declared.output.Output.{Output}
use Rattle.acq_core.specs.Arrivals.{arrival_of}
use Rattle.acq_core.specs.Pasts.{HasPast}
use Rattle.acq_core.specs.Tables.{Tables, outputs, tables_after, step_output, step_tables}
use Rattle.acq_book.specs.declared.book.Book.{Ghosts}
use Rattle.acq_book.specs.Calls.{Makes, MakesWithin}
use Rattle.acq_book.specs.Promise.{HasRisen}
use Rattle.acq_host.specs.Groups.{Begins, Keeps, Returns}
use Rattle.acq_host.proofs.Runs.{LeavesTables, after_next, first_and_next, outputs-push}

-- within a group the book became another by taking these events, to which this was said
pub record TookWithin {S : Type 0} (book : Ghosts S) (old new : S) (events : List Event)
    (said : List Output) : Type 0 where
  pub was_honest : book.is_honest new → book.is_honest old
  pub stays : (began : Tables) (n : ℕ) → book.is_honest new → book.is_within old began n →
      book.is_within new began n
  pub leads : (began : Tables) (n : ℕ) → book.is_honest new → book.is_within old began n →
      book.tables new ≡ tables_after (book.tables old) events
  pub says : (began : Tables) (n : ℕ) → book.is_honest new → book.is_within old began n →
      said ≡ outputs (book.tables old) events
  pub leaves : (began : Tables) (n : ℕ) → book.is_honest new → book.is_within old began n →
      (t : Tables) → book.may_leave new t → book.may_leave old t
  pub books : (began : Tables) (n : ℕ) → book.is_honest new → book.is_within old began n →
      book.leaves_books old → book.leaves_books new
  pub failed : book.failures new ≡ book.failures old
  pub counts : book.store_faults old ≤ book.store_faults new

module _ {S : Type 0} (book : Ghosts S) where
  pub took_none_within : (a : S) → TookWithin book a a [] []
  took_none_within a = record {
    was_honest = λ h. h;
    stays = λ began n h w. w;
    leads = λ began n h w. refl;
    says = λ began n h w. refl;
    leaves = λ began n h w t l. l;
    books = λ began n h w b. b;
    failed = refl;
    counts = omega arith;
  }

  pub took_next_within : (a b c : S) (events : List Event) (at : ℕ) (e : Event)
      (said now : List Output) → at < length events → e ≡ get_or events at e →
      TookWithin book a b (take at events) said →
      Makes book b c true (step_tables (book.tables b) (arrival_of e)) →
      MakesWithin book b c true (step_tables (book.tables b) (arrival_of e)) →
      ((began : Tables) (n : ℕ) → book.is_honest c → book.is_within b began n →
      now ≡ said ++ step_output (book.tables b) (arrival_of e) ∷ []) →
      book.failures c ≡ book.failures b →
      TookWithin book a c (take (at + 1) events) now
  took_next_within a b c events at e said now within is first next more adds failed = record {
    was_honest = λ h. first.was_honest (next.was_honest h);
    stays = λ began n h w.
        more.stays began n refl h (first.stays began n (next.was_honest h) w);
    leads = λ began n h w.
        let before = next.was_honest h in
        more.made began n refl h (first.stays began n before w)
        ∙ (ap (λ t. step_tables t (arrival_of e)) (first.leads began n before w)
        ∙ sym (after_next (book.tables a) events at e within is));
    says = λ began n h w.
        let before = next.was_honest h in
        adds began n h (first.stays began n before w)
        ∙ ((λ i. first.says began n before w i
        ++ step_output (first.leads began n before w i) (arrival_of e) ∷ [])
        ∙ (sym (outputs-push (book.tables a) (take at events) e)
        ∙ sym (ap (outputs (book.tables a)) (first_and_next events at e within is))));
    leaves = λ began n h w t l.
        let before = next.was_honest h in
        first.leaves began n before w t
        (more.leaves began n h (first.stays began n before w) t l);
    books = λ began n h w was.
        let before = next.was_honest h in
        more.books began n h (first.stays began n before w) (first.books began n before w was);
    failed = failed ∙ first.failed;
    counts = let one = first.counts in let two = next.counts in omega arith;
  }

  -- all were taken
  pub all_within : (a b : S) (events : List Event) (said : List Output) →
      TookWithin book a b events said →
      MakesWithin book a b true (tables_after (book.tables a) events)
  all_within a b events said took = record {
    stays = λ began n ok h w. took.stays began n h w;
    made = λ began n ok h w. took.leads began n h w;
    breaks = λ began n ok h w. absurd (true≢false ok);
    leaves = took.leaves;
    books = took.books;
  }

  -- the next wasn't taken
  pub broken_within : (a b c : S) (events : List Event) (said : List Output)
      (next changed : Tables) → TookWithin book a b events said →
      (book.is_honest c → book.is_honest b) → MakesWithin book b c false next →
      MakesWithin book a c false changed
  broken_within a b c events said next changed took was broken = record {
    stays = λ began n ok h w. absurd (true≢false (sym ok));
    made = λ began n ok h w. absurd (true≢false (sym ok));
    breaks = λ began n ok h w. broken.breaks began n ok h (took.stays began n (was h) w);
    leaves = λ began n h w t l.
        took.leaves began n (was h) w t
        (broken.leaves began n h (took.stays began n (was h) w) t l);
    books = λ began n h w b.
        broken.books began n h (took.stays began n (was h) w) (took.books began n (was h) w b);
  }

-- ---- a whole group

-- what a book says of itself
pub record Laws {S : Type 0} (book : Ghosts S) : Type 0 where
  pub honest : (s : S) → book.is_open s → book.is_honest s
  pub settled : LeavesTables book
  pub stored : (s : S) → book.is_open s → book.leaves_books s
  pub past : (s : S) → book.is_open s → HasPast (book.tables s)

-- none was begun
pub group_unbegun : {S : Type 0} (book : Ghosts S) → Laws book → (a b : S) (changed : Tables) →
    Begins book a b false → Makes book a b false changed
group_unbegun book laws a b changed begun = record {
  was_honest = begun.was_honest;
  was_open = λ end. inr (laws.past b end);
  stays_open = λ ok h o. absurd (true≢false (sym ok));
  shuts = λ h o. begun.shuts refl h o;
  made = λ ok o end. absurd (true≢false (sym ok));
  unmade = λ undone o end. begun.unmade refl o end;
  leaves = λ o h t l. inl (begun.leaves h o t l);
  settled = λ ok o h t l. absurd (true≢false (sym ok));
  books = λ o h. begun.books h o (laws.stored a o);
  rise = begun.rise;
  counts = begun.counts;
}

-- it began, and events were taken in it
module _ {S : Type 0} (book : Ghosts S) (laws : Laws book) (a b c : S) (events : List Event)
    (ok : Bool) (begun : Begins book a b true)
    (took : MakesWithin book b c ok (tables_after (book.tables b) events))
    (was : book.is_honest c → book.is_honest b) (rise : book.failures b ≤ book.failures c)
    (counts : book.store_faults b ≤ book.store_faults c) where
  within_began : book.is_honest c → book.is_open a
      → book.is_within b (book.tables a) (book.store_faults a)
  within_began h o = begun.begins refl (was h) o

  left_before : book.is_honest c → book.is_open a → (t : Tables) → book.may_leave c t
      → book.may_leave a t
  left_before h o t l =
      begun.leaves (was h) o t
      (took.leaves (book.tables a) (book.store_faults a) h (within_began h o) t l)

  books_before : book.is_honest c → book.is_open a → book.leaves_books c
  books_before h o =
      took.books (book.tables a) (book.store_faults a) h (within_began h o)
      (begun.books (was h) o (laws.stored a o))

  -- ---- a fault broke it off, and it was given up

  pub group_given_up : (d : S) (changed : Tables) → ok ≡ false → Returns book c d →
      Makes book a d false changed
  group_given_up d changed broke back = record {
    was_honest = λ h. begun.was_honest (was (back.was_honest h));
    was_open = λ end. inr (laws.past d end);
    stays_open = λ all_done h o. absurd (true≢false (sym all_done));
    shuts = λ h o. back.shuts (book.tables a) (book.store_faults a) h (can h o);
    made = λ all_done o end. absurd (true≢false (sym all_done));
    unmade = λ undone o end. back.undone (book.tables a) (book.store_faults a)
        (can (laws.honest d end) o) end;
    leaves = λ o h t l. inl (left_before (back.was_honest h) o t
        (back.leaves (book.tables a) (book.store_faults a) h (can h o) t l));
    settled = λ all_done o h t l. absurd (true≢false (sym all_done));
    books = λ o h. back.books (book.tables a) (book.store_faults a) h (can h o)
        (books_before (back.was_honest h) o);
    rise = let one = begun.rise in let same = back.uncounted in omega (arith, one, rise, same);
    counts = let one = begun.counts in let more = back.counts in omega (arith, one, counts, more);
  }
    where
      can : book.is_honest d → book.is_open a
          → book.can_return c (book.tables a) (book.store_faults a)
      can h o =
          took.breaks (book.tables a) (book.store_faults a) broke (back.was_honest h)
          (within_began (back.was_honest h) o)

  -- ---- it was kept, or not

  module _ (d : S) (done : Bool) (all : ok ≡ true) (kept : Keeps book c d done) where
    inside : book.is_honest d → book.is_open a
        → book.is_within c (book.tables a) (book.store_faults a)
    inside h o =
        took.stays (book.tables a) (book.store_faults a) all (kept.was_honest h)
        (within_began (kept.was_honest h) o)

    leads : book.is_honest d → book.is_open a
        → book.tables c ≡ tables_after (book.tables a) events
    leads h o =
        let before = kept.was_honest h in
        took.made (book.tables a) (book.store_faults a) all before (within_began before o)
        ∙ ap (λ t. tables_after t events) (begun.same refl (was before) o)

    opens : done ≡ true → book.is_honest d → book.is_open a → book.is_open d
    opens all_done h o = kept.kept (book.tables a) (book.store_faults a) all_done h (inside h o)

    comes_to : done ≡ true → book.is_honest d → book.is_open a
        → book.tables d ≡ tables_after (book.tables a) events
    comes_to all_done h o =
        kept.same (book.tables a) (book.store_faults a) all_done h (inside h o) ∙ leads h o

    pub group_kept : Makes book a d done (tables_after (book.tables a) events)
    group_kept = record {
      was_honest = λ h. begun.was_honest (was (kept.was_honest h));
      was_open = λ end. inr (laws.past d end);
      stays_open = opens;
      shuts = λ h o. by done refl h o;
      made = λ all_done o end. comes_to all_done (laws.honest d end) o;
      unmade = λ undone o end. kept.undone (book.tables a) (book.store_faults a) undone
          (inside (laws.honest d end) o) end;
      leaves = λ o h t l. ⊎_elim (λ before. inl (left_before (kept.was_honest h) o t before))
          (λ whole. inr (whole ∙ leads h o))
          (kept.leaves (book.tables a) (book.store_faults a) h (inside h o) t l);
      settled = λ all_done o h t l. laws.settled d (opens all_done h o) t l ∙ comes_to all_done h o;
      books = λ o h. kept.books (book.tables a) (book.store_faults a) h (inside h o)
          (books_before (kept.was_honest h) o);
      rise = let one = begun.rise in let more = kept.rise in omega (arith, one, rise, more);
      counts = let one = begun.counts in let more = kept.counts in
          omega (arith, one, counts, more);
    }
      where
        by : (b : Bool) → done ≡ b → book.is_honest d → book.is_open a
            → book.is_open d ⊎ HasRisen (book.store_faults a) (book.store_faults d)
        by true all_done h o = inl (opens all_done h o)
        by false undone h o =
            kept.shuts (book.tables a) (book.store_faults a) undone h (inside h o)

    -- events led to what a stop leaves
    pub past_of_group : ((s : S) (began : Tables) (n : ℕ) → book.is_within s began n
        → HasPast (book.tables s)) → book.is_honest d → book.is_open a → (t : Tables)
        → book.may_leave d t → HasPast t
    past_of_group past_within h o t l =
        ⊎_elim (λ before. subst HasPast
        (sym (laws.settled a o t (left_before (kept.was_honest h) o t before))) (laws.past a o))
        (λ whole. subst HasPast (sym whole)
        (past_within c (book.tables a) (book.store_faults a) (inside h o)))
        (kept.leaves (book.tables a) (book.store_faults a) h (inside h o) t l)
