-- A group of turns, kept or not.
use Rattle.std.proofs.Common.{◌≡◌, Bool, true, false, true≢false, ℕ, List, [], ◌∷◌, refl}
use Rattle.std.proofs.Common.{sym, ap, subst, ◌∙◌, inl, inr, ⊎_elim}
use Rattle.std.specs.Prelude.{Result, Ok, Err, OnErr}
use Rattle.acq_core.specs.declared.event.Event.{Event}
use Rattle.acq_core.specs.Tables.{Tables, tables_after}
use Rattle.acq_soundness.proofs.Runs.{tables_after-append}
use Rattle.acq_book.specs.declared.book.Book.{Ghosts}
use Rattle.acq_book.specs.declared.book_fault.BookFault.{BookFault}
use Rattle.acq_book.specs.declared.book_fault.BookFault.TheVariants.{Memory, Store}
use Rattle.acq_book.specs.Calls.{Makes, MakesWithin}
use Rattle.acq_book.specs.Promise.{CountsFault, HasRisen}
use Rattle.acq_host.specs.Groups.{Begins, Keeps, Returns}
use Rattle.acq_host.proofs.Groups.{Laws, group_given_up, group_kept, group_unbegun}
use Rattle.acq_front.specs.Stops.{Left, left_of}
use Rattle.acq_front.specs.Talk.{Saying}
use Rattle.acq_front.proofs.StopsLeave.{none_stop}
use Rattle.acq_rounds.specs.Acts.{Connection, Taken, Told, Took, Turn, events_of}
use Rattle.acq_rounds.specs.Groups.{asked, handed}
use Rattle.acq_rounds.specs.Taking.{TellsFault, TookAll, TookGroup, TookNone}
use Rattle.acq_rounds.specs.Within.{IfWithin, StaysWithin, TookWithin}

-- the tables behind what was taken
pub took_tables : (may_give : ℕ → Type 0) (may_say : Saying) (old new : Tables)
    (xs : List Taken) → Took may_give may_say old new xs → new ≡ tables_after old (events_of xs)
took_tables may_give may_say old new [] h = h
took_tables may_give may_say old new (x ∷ xs) h =
    took_tables may_give may_say (tables_after old x.events) new xs h.1
    ∙ sym (tables_after-append old x.events (events_of xs))

-- ---- what is told of the store

pub tells_counted : (X Y : Type 0) (f : BookFault) (Q : Type 0) {a b : ℕ} (c : ℕ) → b ≡ a →
    CountsFault {T = X} (Err f) b c → TellsFault {X = Y} (Err f) a c Q
tells_counted X Y Memory Q c same counts = counts ∙ same
tells_counted X Y Store Q c same counts = inl (subst (λ (n : ℕ). HasRisen n c) same counts)

pub tells_on : (X Y : Type 0) (f : BookFault) (P Q : Type 0) {a b c : ℕ} (d : ℕ) → b ≡ a →
    d ≡ c → (P → Q) → TellsFault {X = X} (Err f) b c P → TellsFault {X = Y} (Err f) a d Q
tells_on X Y Memory P Q d same last so told = last ∙ told ∙ same
tells_on X Y Store P Q {a = a} {b = b} {c = c} d same last so (inl risen) =
    inl (subst (λ (n : ℕ). HasRisen a n) (sym last) (subst (λ (n : ℕ). HasRisen n c) same risen))
tells_on X Y Store P Q d same last so (inr p) = inr (so p)

module _ {S : Type 0} (book : Ghosts S) (laws : Laws book) (may_give : ℕ → Type 0)
    (may_say : Saying) where
  -- nothing was to be taken
  pub took_nothing : (a : S) → book.is_open a →
      TookAll may_give may_say (book.tables a) (left_of book a) [] []
  took_nothing a o = record {
    taken = [];
    brought = refl;
    replied = refl;
    took = refl;
    stop = none_stop book laws.settled laws.stored a o;
  }

  -- nothing was taken
  refused_all : (a d : S) (turns : List Turn) → Makes book a d false (book.tables a) →
      book.is_honest d → book.is_open a →
      TookNone may_give may_say (book.tables a) (left_of book d) turns
  refused_all a d turns makes h o = record {
    tables = λ still. makes.unmade refl o still;
    stop = inl (record {
      tables = λ t l. ⊎_elim (λ was. laws.settled a o t was) (λ is. is) (makes.leaves o h t l);
      stored = makes.books o h;
    });
  }

  pub unbegun : (a b : S) (turns : List Turn) → Begins book a b false →
      book.is_honest b → book.is_open a →
      TookNone may_give may_say (book.tables a) (left_of book b) turns
  unbegun a b turns begun =
      refused_all a b turns (group_unbegun book laws a b (book.tables a) begun)

  module _ (a b c : S) (begun : Begins book a b true) where
    -- a fault broke it off, and it was given up
    pub given_up : (d : S) (turns : List Turn) → StaysWithin book b c false →
        Returns book c d → book.is_honest d → book.is_open a →
        TookNone may_give may_say (book.tables a) (left_of book d) turns
    given_up d turns stays back =
        let within : MakesWithin book b c false (tables_after (book.tables b) []) = record {
          stays = stays.stays;
          made = λ began n ok h w. absurd (true≢false (sym ok));
          breaks = stays.breaks;
          leaves = stays.leaves;
          books = stays.books;
        } in
        refused_all a d turns
        (group_given_up book laws a b c [] false begun within stays.was_honest stays.rise
        stays.counts d (book.tables a) refl back)

    module _ (stays : StaysWithin book b c true) (turns : List Turn)
        (told : List Told)
        (took : IfWithin book b c (TookWithin book may_give may_say b c turns told)) (d : S)
      where
        module _ (done : Bool) (kept : Keeps book c d done) (h : book.is_honest d)
            (o : book.is_open a) where
          abbrev was : book.is_honest b
          was = stays.was_honest (kept.was_honest h)

          abbrev within : book.is_within b (book.tables a) (book.store_faults a)
          within = begun.begins refl was o

          abbrev all : TookWithin book may_give may_say b c turns told
          all = took (book.tables a) (book.store_faults a) (kept.was_honest h) within

          abbrev events : List Event
          events = events_of all.taken

          makes_within : MakesWithin book b c true (tables_after (book.tables b) events)
          makes_within = record {
            stays = stays.stays;
            made = λ began n ok h w. took_tables may_give may_say (book.tables b) (book.tables c)
                all.taken all.took;
            breaks = stays.breaks;
            leaves = stays.leaves;
            books = stays.books;
          }

          makes : Makes book a d done (tables_after (book.tables a) events)
          makes = group_kept book laws a b c events true begun makes_within stays.was_honest
              stays.rise stays.counts d done refl kept

          took_from : Took may_give may_say (book.tables a) (book.tables c) all.taken
          took_from = subst (λ (t : Tables). Took may_give may_say t (book.tables c) all.taken)
              (begun.same refl was o) all.took

        pub was_kept : Keeps book c d true → book.is_honest d → book.is_open a →
            TookAll may_give may_say (book.tables a) (left_of book d) turns told
        was_kept kept h o =
            let made = makes true kept h o in
            let inside = stays.stays (book.tables a) (book.store_faults a) refl (kept.was_honest h)
            (within true kept h o) in
            record {
              taken = (all true kept h o).taken;
              brought = (all true kept h o).brought;
              replied = (all true kept h o).replied;
              took = subst (λ (t : Tables). Took may_give may_say (book.tables a) t
                  (all true kept h o).taken)
                  (sym (kept.same (book.tables a) (book.store_faults a) refl h inside))
                  (took_from true kept h o);
              stop = record { tables = made.settled refl o h; stored = made.books o h };
            }

        pub was_not_kept : Keeps book c d false → book.is_honest d → book.is_open a →
            TookNone may_give may_say (book.tables a) (left_of book d) turns
        was_not_kept kept h o =
            let made = makes false kept h o in
            record {
              tables = λ still. made.unmade refl o still;
              stop = inr (
                (all false kept h o).taken,
                book.tables c,
                (all false kept h o).brought,
                took_from false kept h o,
                record {
                  tables = λ t l. ⊎_elim (λ earlier. inl (laws.settled a o t earlier)) inr
                      (made.leaves o h t l);
                  stored = made.books o h;
                },
              );
            }

        pub opens : Keeps book c d true → book.is_honest d → book.is_open a → book.is_open d
        opens kept h o = (makes true kept h o).stays_open refl h o

  -- ---- a group of connections' turns

  pub untouched : (a : S) (turns : List Turn) → book.is_open a →
      TookNone may_give may_say (book.tables a) (left_of book a) turns
  untouched a turns o = record {
    tables = λ still. refl;
    stop = inl (none_stop book laws.settled laws.stored a o);
  }

pub on_err : {X E : Type 0} (r : Result X E) (P : Type 0) → P → OnErr r P
on_err (Ok x) P p = tt
on_err (Err e) P p = p

pub group_taken : (may_give : ℕ → Type 0) (may_say : Saying) (old : Tables) (left : Left)
    (turns : List Turn) (told : List Told) (before after : List Connection) →
    TookAll may_give may_say old left turns told → turns ≡ asked before →
    after ≡ handed before told → TookGroup may_give may_say old left before after
group_taken may_give may_say old left turns told before after all brought held = record {
  taken = all.taken;
  brought = all.brought ∙ brought;
  held = held ∙ ap (handed before) (sym all.replied);
  took = all.took;
  stop = all.stop;
}
