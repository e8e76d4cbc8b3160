-- What a book promises that may hold a request back, by what the book behind it does.
use Rattle.std.proofs.Common.{◌≡◌, inl, inr, ⊎_elim, ℕ, ◌≤◌, Bool, true, false, true≢false}
use Rattle.std.proofs.Common.{refl, sym, ap, ap₂, subst, ◌∙◌, arith, Option, Some, None, Result}
use Rattle.std.proofs.Common.{List, Ok, Err, IfOk, IsErr, OnOk, OnErr, is_ok}
use Rattle.std.specs.Result.{IsErrAnd}
use Rattle.sqlite_trees.specs.declared.store.Store.{Ghosts}
use Rattle.acq_core.specs.declared.change.Change.{Change}
use Rattle.acq_core.specs.declared.change.Change.TheVariants as change
use Rattle.acq_core.specs.declared.request.Request.{Request}
use Rattle.acq_core.specs.Pasts.{HasPast}
use Rattle.acq_core.specs.Tables.{Tables, after}
use Rattle.acq_book.specs.declared.book_fault.BookFault.{BookFault}
use Rattle.acq_book.specs.declared.book_fault.BookFault.TheVariants.{Memory, Store}
use Rattle.acq_book.specs.Fits.{Fits}
use Rattle.acq_book.specs.Groups.{BeginsBy, GivesWithinBy, IsLive, KeepsBy, LooksWithinBy}
use Rattle.acq_book.specs.Groups.{MakesWithinBy, ReturnsBy}
use Rattle.acq_book.specs.Visits.{SawAll, SawSome}
use Rattle.acq_book.specs.Promise.{BlamesStore, GivesBy, LooksBy, MakesBy, WalksBy}
use Rattle.acq_sql.specs.Holding.{CanRecord, ChangesGroup, Leads, LeadsBehind}
use Rattle.acq_sql.specs.Holding.{after_both, shown, with_held}
use Rattle.acq_sql.specs.Holding as holding
use Rattle.acq_sql.specs.Kept.{Kept}
use Rattle.acq_sql.specs.Laws.{returnable}
use Rattle.acq_sql.specs.HeldLaws.{past_with_none}
use Rattle.acq_sql.specs.Opened as opened
use Rattle.acq_book.proofs.Chains.{risen_after}
use Rattle.acq_sql.proofs.BookGroups.{risen_on}

-- tables with none held back
pub with_none : (held : Option Request) (t : Tables) → held ≡ None → with_held held t ≡ t
with_none held t none = ap (λ h. with_held h t) none

none_can : (held : Option Request) (t : Tables) → held ≡ None → CanRecord held t
none_can held t none = subst (λ h. CanRecord h t) (sym none) tt

module _ {S O : Type 0} (g : Ghosts S) (book : O → Kept S) (held : O → Option Request) where
  abbrev tables_in : O → Tables
  tables_in o = shown g (book o) (held o)

  abbrev is_honest : O → Type 0
  is_honest o = opened.is_honest g (book o)

  abbrev is_open : O → Type 0
  is_open o = holding.is_open g (book o) (held o)

  abbrev is_within : O → Tables → ℕ → Type 0
  is_within o = holding.is_within g (book o) (held o)

  abbrev can_return : O → Tables → ℕ → Type 0
  can_return o = opened.can_return g (book o)

  abbrev may_leave : O → Tables → Type 0
  may_leave o = opened.may_leave g (book o)

  abbrev leaves_books : O → Type 0
  leaves_books o = opened.leaves_books g (book o)

  abbrev failures : O → ℕ
  failures o = (book o).failures

  abbrev store_faults : O → ℕ
  store_faults o = opened.store_faults g (book o)

  abbrev has_room : O → Type 0
  has_room o = holding.has_room g (book o) (held o)

  -- the tables of one that is open are those behind it
  pub open_is : (o : O) → is_open o → tables_in o ≡ opened.tables g (book o)
  open_is o is = with_none (held o) (opened.tables g (book o)) is.1

  -- ---- look-ups

  module _ (old new : O) (same : held new ≡ held old) where
    looks_on : {succeeded : Bool}
        → LooksBy (opened.tables g) (opened.is_honest g) (opened.is_open g) (opened.may_leave g)
        (opened.leaves_books g) (λ (b : Kept S). b.failures) (opened.store_faults g) (book old)
        (book new) succeeded
        → LooksBy tables_in is_honest is_open may_leave leaves_books failures store_faults old new
        succeeded
    looks_on looks = record {
      was_honest = looks.was_honest;
      was_open = λ o. (looks.was_open o.0, sym same ∙ o.1);
      stays_open = λ s h o. (looks.stays_open s h o.0, same ∙ o.1);
      shuts = λ h o. ⊎_elim (λ x. inl (x, same ∙ o.1)) inr (looks.shuts h o.0);
      same = λ o. ap₂ with_held same (looks.same o.0);
      leaves = looks.leaves;
      books = looks.books;
      rise = looks.rise;
      counts = looks.counts;
    }

    was_shown : is_open new → tables_in old ≡ opened.tables g (book old)
    was_shown o = with_none (held old) (opened.tables g (book old)) (sym same ∙ o.1)

    -- what is given of the tables behind it is given of its own
    pub gives_on : {T : Type 0} (result : Result T BookFault) (says : Tables → T → Type 0)
        → GivesBy (opened.tables g) (opened.is_honest g) (opened.is_open g) (opened.may_leave g)
        (opened.leaves_books g) (λ (b : Kept S). b.failures) (opened.store_faults g)
        (opened.has_room g) (book old) (book new) result (says (opened.tables g (book old)))
        → GivesBy tables_in is_honest is_open may_leave leaves_books failures store_faults has_room
        old new result (says (tables_in old))
    gives_on result says gives = record {
      value = λ o. subst (λ t. IfOk result (says t)) (sym (was_shown o)) (gives.value o.0);
      looks = looks_on gives.looks;
      store = gives.store;
      blames = λ h o room. gives.blames h o.0 room.0;
      room = λ o room. (gives.room o.0 room.0, same ∙ room.1);
    }

    -- so it is of a walk
    pub walks_on : {Row V : Type 0} (result : Result (Unit {0}) BookFault)
        (sees : V → Row → Bool → V → Type 0) (rows : Tables → List Row) (before later : V)
        → WalksBy (opened.tables g) (opened.is_honest g) (opened.is_open g) (opened.may_leave g)
        (opened.leaves_books g) (λ (b : Kept S). b.failures) (opened.store_faults g)
        (opened.has_room g) (book old) (book new) result sees (rows (opened.tables g (book old)))
        before later
        → WalksBy tables_in is_honest is_open may_leave leaves_books failures store_faults has_room
        old new result sees (rows (tables_in old)) before later
    walks_on result sees rows before later walks = record {
      seen = λ h o. subst (λ t. OnOk result (SawAll sees (rows t) before later))
          (sym (open_is old o)) (walks.seen h o.0);
      begun = λ h o. subst (λ t. OnErr result (SawSome sees (rows t) before later))
          (sym (open_is old o)) (walks.begun h o.0);
      shown = walks.shown;
      looks = looks_on walks.looks;
      store = walks.store;
      blames = λ h o room. walks.blames h o.0 room.0;
      room = λ o room. (walks.room o.0 room.0, same ∙ room.1);
    }

    -- ---- within a group

    group_looks_on : {succeeded : Bool}
        → LooksWithinBy (opened.tables g) (opened.is_honest g) (opened.is_within g)
        (opened.can_return g) (book old) (book new) succeeded
        → LooksWithinBy tables_in is_honest is_within can_return old new succeeded
    group_looks_on looks = record {
      was_within = λ began n s w.
          let mid = looks.was_within began n s w.0 in (
            mid.0,
            (
              mid.1,
              can_on same (looks.same began n s w.0) w.1,
            ),
          );
      stays = λ began n s h w.
          let stays = looks.stays began n s h w.0 in (
            stays,
            can_on (sym same) (sym (looks.same began n s stays)) w.1,
          );
      same = λ began n s w. ap₂ with_held same (looks.same began n s w.0);
      breaks = λ began n s h w. looks.breaks began n s h w.0;
    }
      where
        can_on : {a b : Option Request} {t u : Tables} → b ≡ a → t ≡ u → CanRecord b t
            → CanRecord a u
        can_on {b = b} {u = u} b_is t_is can =
            subst (λ h. CanRecord h u) b_is (subst (CanRecord b) t_is can)

    -- a fault that is passed on
    pub group_fault : {X T : Type 0} {fault : BookFault} {says : X → Type 0}
        (result : Result T BookFault) (tells : T → Type 0)
        → IsErr result × IsErrAnd result (λ f. f ≡ fault)
        → GivesWithinBy {T = X} (opened.tables g) (opened.is_honest g) (opened.is_within g)
        (opened.can_return g) (book old) (book new) (Err fault) says
        → GivesWithinBy tables_in is_honest is_within can_return old new result tells
    group_fault (Ok x) tells is gives = absurd (true≢false (sym is.0))
    group_fault (Err f) tells is gives = record {
      value = λ began n w. tt;
      looks = group_looks_on gives.looks;
    }

    -- what was found, and what the request adds that is held back
    pub group_shows : {X T : Type 0} {x : X} (says : Tables → X → Type 0) (y : T)
        (tells : Tables → T → Type 0)
        → ((t : Tables) → CanRecord (held old) t → says t x → tells (with_held (held old) t) y)
        → GivesWithinBy (opened.tables g) (opened.is_honest g) (opened.is_within g)
        (opened.can_return g) (book old) (book new) (Ok x) (says (opened.tables g (book old)))
        → GivesWithinBy tables_in is_honest is_within can_return old new (Ok y)
        (tells (tables_in old))
    group_shows says y tells shows gives = record {
      value = λ began n w.
          shows (opened.tables g (book old))
          (subst (λ h. CanRecord h (opened.tables g (book old))) same
          (subst (CanRecord (held new)) (gives.looks.same began n refl w.0) w.1))
          (gives.value began n w.0);
      looks = group_looks_on gives.looks;
    }

    -- where memory runs out then, nothing is found
    pub group_loses : {X T : Type 0} {x : X} {says : X → Type 0} (fault : BookFault)
        (tells : T → Type 0)
        → GivesWithinBy (opened.tables g) (opened.is_honest g) (opened.is_within g)
        (opened.can_return g) (book old) (book new) (Ok x) says
        → GivesWithinBy tables_in is_honest is_within can_return old new (Err fault) tells
    group_loses fault tells gives = record {
      value = λ began n w. tt;
      looks = record {
        was_within = λ began n s w. absurd (true≢false (sym s));
        stays = λ began n s h w. absurd (true≢false (sym s));
        same = λ began n s w. absurd (true≢false (sym s));
        breaks = λ began n s h w. returnable (gives.looks.stays began n refl h w.0);
      };
    }

  -- ---- groups

  pub begins_on : (old new : O) (same : held new ≡ held old) (succeeded : Bool)
      → BeginsBy (opened.tables g) (opened.is_honest g) (opened.is_open g) (opened.is_within g)
      (opened.may_leave g) (opened.leaves_books g) (λ (b : Kept S). b.failures)
      (opened.store_faults g) (book old) (book new) succeeded
      → BeginsBy tables_in is_honest is_open is_within may_leave leaves_books failures store_faults
      old new succeeded
  begins_on old new same succeeded begins = record {
    was_honest = begins.was_honest;
    begins = λ is clean o.
        subst (λ t. is_within new t (store_faults old)) (sym (open_is old o))
        (begins.begins is clean o.0, none_can (held new) _ (same ∙ o.1));
    same = λ is clean o. ap₂ with_held same (begins.same is clean o.0);
    unmade = λ is o end. ap₂ with_held same (begins.unmade is o.0 end.0);
    shuts = λ is clean o. ⊎_elim (λ x. inl (x, same ∙ o.1)) inr (begins.shuts is clean o.0);
    leaves = λ clean o. begins.leaves clean o.0;
    books = λ clean o. begins.books clean o.0;
    rise = begins.rise;
    counts = begins.counts;
  }

  pub returns_on : (old new : O) (gone : held new ≡ None)
      → ReturnsBy (opened.tables g) (opened.is_honest g) (opened.is_open g) (opened.can_return g)
      (opened.may_leave g) (opened.leaves_books g) (λ (b : Kept S). b.failures)
      (opened.store_faults g) (book old) (book new)
      → ReturnsBy tables_in is_honest is_open can_return may_leave leaves_books failures
      store_faults old new
  returns_on old new gone returns = record {
    was_honest = returns.was_honest;
    undone = λ began faults can end.
        open_is new end ∙ returns.undone began faults can end.0;
    shuts = λ began faults clean can.
        ⊎_elim (λ x. inl (x, gone)) inr (returns.shuts began faults clean can);
    leaves = returns.leaves;
    books = returns.books;
    uncounted = returns.uncounted;
    counts = returns.counts;
  }

  -- where none was held back
  pub keeps_on : (old new : O) (was : held old ≡ None) (gone : held new ≡ None) (succeeded : Bool)
      → KeepsBy (opened.tables g) (opened.is_honest g) (opened.is_open g) (opened.is_within g)
      (opened.may_leave g) (opened.leaves_books g) (λ (b : Kept S). b.failures)
      (opened.store_faults g) (book old) (book new) succeeded
      → KeepsBy tables_in is_honest is_open is_within may_leave leaves_books failures store_faults
      old new succeeded
  keeps_on old new was gone succeeded keeps = record {
    was_honest = keeps.was_honest;
    kept = λ began faults is clean w. (keeps.kept began faults is clean w.0, gone);
    same = λ began faults is clean w.
        ap₂ with_held (gone ∙ sym was) (keeps.same began faults is clean w.0);
    undone = λ began faults is w end.
        open_is new end ∙ keeps.undone began faults is w.0 end.0;
    shuts = λ began faults is clean w.
        ⊎_elim (λ x. inl (x, gone)) inr (keeps.shuts began faults is clean w.0);
    leaves = λ began faults clean w t way.
        ⊎_elim inl
        (λ whole. inr (whole ∙ sym (with_none (held old) (opened.tables g (book old)) was)))
        (keeps.leaves began faults clean w.0 t way);
    books = λ began faults clean w. keeps.books began faults clean w.0;
    rise = keeps.rise;
    counts = keeps.counts;
  }

  -- ---- changes

  module _ (old new : O) (succeeded : Bool) (c : Change) where
    -- where none is held back before it or after
    pub makes_on : held old ≡ None → held new ≡ None
        → MakesBy (opened.tables g) (opened.is_honest g) (opened.is_open g) (opened.may_leave g)
        (opened.leaves_books g) (λ (b : Kept S). b.failures) (opened.store_faults g) (book old)
        (book new) succeeded (after (opened.tables g (book old)) c)
        → MakesBy tables_in is_honest is_open may_leave leaves_books failures store_faults old new
        succeeded (after (tables_in old) c)
    makes_on was gone makes = record {
      was_honest = makes.was_honest;
      was_open = λ end. inr (past_with_none (held new) end.1 end.0.opened.past);
      stays_open = λ s h o. (makes.stays_open s h o.0, gone);
      shuts = λ h o. ⊎_elim (λ x. inl (x, gone)) inr (makes.shuts h o.0);
      made = λ s o end. now_is ∙ makes.made s o.0 end.0 ∙ sym from_is;
      unmade = λ s o end. now_is ∙ makes.unmade s o.0 end.0 ∙ sym old_is;
      leaves = λ o h t way.
          ⊎_elim inl (λ whole. inr (whole ∙ sym from_is)) (makes.leaves o.0 h t way);
      settled = λ s o h t way. makes.settled s o.0 h t way ∙ sym from_is;
      books = λ o. makes.books o.0;
      rise = makes.rise;
      counts = makes.counts;
    }
      where
        now_is : tables_in new ≡ opened.tables g (book new)
        now_is = with_none (held new) (opened.tables g (book new)) gone

        old_is : tables_in old ≡ opened.tables g (book old)
        old_is = with_none (held old) (opened.tables g (book old)) was

        from_is : after (tables_in old) c ≡ after (opened.tables g (book old)) c
        from_is = ap (λ t. after t c) old_is

    pub makes_group_on : held old ≡ None → held new ≡ None
        → MakesWithinBy (opened.tables g) (opened.is_honest g) (opened.is_within g)
        (opened.can_return g) (opened.may_leave g) (opened.leaves_books g) (book old) (book new)
        succeeded (after (opened.tables g (book old)) c)
        → MakesWithinBy tables_in is_honest is_within can_return may_leave leaves_books old new
        succeeded (after (tables_in old) c)
    makes_group_on was gone makes = record {
      stays = λ began faults s h w.
          (makes.stays began faults s h w.0, none_can (held new) _ gone);
      made = λ began faults s h w.
          with_none (held new) (opened.tables g (book new)) gone
          ∙ makes.made began faults s h w.0
          ∙ sym (ap (λ t. after t c) (with_none (held old) (opened.tables g (book old)) was));
      breaks = λ began faults s h w. makes.breaks began faults s h w.0;
      leaves = λ began faults h w. makes.leaves began faults h w.0;
      books = λ began faults h w. makes.books began faults h w.0;
    }

    -- one that isn't open
    pub makes_none : ¬ is_open old → (is_honest new → is_honest old)
        → failures old ≤ failures new → store_faults old ≤ store_faults new → (changed : Tables)
        → MakesBy tables_in is_honest is_open may_leave leaves_books failures store_faults old new
        succeeded changed
    makes_none shut was rise counts changed = record {
      was_honest = was;
      was_open = λ end. inr (past_with_none (held new) end.1 end.0.opened.past);
      stays_open = λ s h o. absurd (shut o);
      shuts = λ h o. absurd (shut o);
      made = λ s o end. absurd (shut o);
      unmade = λ s o end. absurd (shut o);
      leaves = λ o h t way. absurd (shut o);
      settled = λ s o h t way. absurd (shut o);
      books = λ o. absurd (shut o);
      rise = rise;
      counts = counts;
    }

  -- ---- a change behind the request that is held back

  module _ (old new : O) (row : Request) (was : held old ≡ Some row) (gone : held new ≡ None) where
    shown_is : tables_in old ≡ after (opened.tables g (book old)) (change.AddRequest row)
    shown_is = ap (λ h. with_held h (opened.tables g (book old))) was

    can_record : CanRecord (held old) (opened.tables g (book old))
        → Leads (change.AddRequest row) (opened.tables g (book old))
    can_record can = subst (λ h. CanRecord h (opened.tables g (book old))) was can

    pub not_open : ¬ is_open old
    not_open o = some_is_none (sym was ∙ o.1)
      where
        some_is_none : Some row ≡ None → ⊥
        some_is_none same = cc

    pub behind_on : {T : Type 0} (result : Result T BookFault) (c : Change)
        → ChangesGroup g (book old) (book new) result
        (LeadsBehind row c) (after_both row c)
        → (IsLive is_open is_within old → Fits (tables_in old) c)
        → (IsLive is_open is_within old → HasPast (after (tables_in old) c))
        → MakesWithinBy tables_in is_honest is_within can_return may_leave leaves_books old new
        (is_ok result) (after (tables_in old) c)
    behind_on result c made fits past = record {
      stays = λ began n s h w. (
        (within began n w).stays began n s h w.0,
        none_can (held new) _ gone,
      );
      made = λ began n s h w.
          with_none (held new) (opened.tables g (book new)) gone
          ∙ (within began n w).made began n s h w.0 ∙ sym (ap (λ t. after t c) shown_is);
      breaks = λ began n s h w. (within began n w).breaks began n s h w.0;
      leaves = λ began n h w. (within began n w).leaves began n h w.0;
      books = λ began n h w. (within began n w).books began n h w.0;
    }
      where
        within : (began : Tables) (n : ℕ) → is_within old began n
            → MakesWithinBy (opened.tables g) (opened.is_honest g) (opened.is_within g)
            (opened.can_return g) (opened.may_leave g) (opened.leaves_books g) (book old)
            (book new) (is_ok result)
            (after (after (opened.tables g (book old)) (change.AddRequest row)) c)
        within began n w = made.within (λ b m wi. (
          can_record w.1,
          (
            subst (λ t. Fits t c) shown_is (fits (inr (began, (n, w)))),
            subst (λ t. HasPast (after t c)) shown_is (past (inr (began, (n, w)))),
          ),
        ))

    -- ---- it is recorded, and the group is kept

    module _ (mid : Kept S) where
      recorded : {x : Unit {0}} → ChangesGroup g (book old) mid (Ok x) (CanRecord (Some row))
          (with_held (Some row)) → (began : Tables) (n : ℕ) → is_within old began n
          → MakesWithinBy (opened.tables g) (opened.is_honest g) (opened.is_within g)
          (opened.can_return g) (opened.may_leave g) (opened.leaves_books g) (book old)
          mid true (after (opened.tables g (book old)) (change.AddRequest row))
      recorded first began n w = first.within (λ b m wi. can_record w.1)

      pub mid_within : {x : Unit {0}} → ChangesGroup g (book old) mid (Ok x) (CanRecord (Some row))
          (with_held (Some row)) → opened.is_honest g mid → (began : Tables) (n : ℕ)
          → is_within old began n → opened.is_within g mid began n
      mid_within first h began n w = (recorded first began n w).stays began n refl h w.0

      pub keeps_recorded : {x : Unit {0}} (succeeded : Bool)
          → ChangesGroup g (book old) mid (Ok x) (CanRecord (Some row)) (with_held (Some row))
          → KeepsBy (opened.tables g) (opened.is_honest g) (opened.is_open g) (opened.is_within g)
          (opened.may_leave g) (opened.leaves_books g) (λ (b : Kept S). b.failures)
          (opened.store_faults g) mid (book new) succeeded
          → KeepsBy tables_in is_honest is_open is_within may_leave leaves_books failures
          store_faults old new succeeded
      keeps_recorded succeeded first keeps = record {
        was_honest = λ h. first.was_honest (keeps.was_honest h);
        kept = λ began n s h w. (keeps.kept began n s h (mid_in began n h w), gone);
        same = λ began n s h w.
            with_none (held new) (opened.tables g (book new)) gone
            ∙ keeps.same began n s h (mid_in began n h w) ∙ mid_is began n h w;
        undone = λ began n s w end.
            open_is new end
            ∙ keeps.undone began n s (mid_in began n end.0.opened.clean w) end.0;
        shuts = λ began n s h w.
            ⊎_elim (λ x. inl (x, gone)) inr (keeps.shuts began n s h (mid_in began n h w));
        leaves = λ began n h w t way.
            ⊎_elim
            (λ was. inl ((recorded first began n w).leaves began n (keeps.was_honest h) w.0 t was))
            (λ whole. inr (whole ∙ mid_is began n h w))
            (keeps.leaves began n h (mid_in began n h w) t way);
        books = λ began n h w before. keeps.books began n h (mid_in began n h w)
            ((recorded first began n w).books began n (keeps.was_honest h) w.0 before);
        rise = omega (arith, first.rise, keeps.rise);
        counts = omega (arith, first.counts, keeps.counts);
      }
        where
          mid_in : (began : Tables) (n : ℕ) → is_honest new → is_within old began n
              → opened.is_within g mid began n
          mid_in began n h w =
              (recorded first began n w).stays began n refl (keeps.was_honest h) w.0

          mid_is : (began : Tables) (n : ℕ) → is_honest new → is_within old began n
              → opened.tables g mid ≡ tables_in old
          mid_is began n h w =
              (recorded first began n w).made began n refl (keeps.was_honest h) w.0
              ∙ sym shown_is

      -- where it can't be recorded, the group is given up
      pub keeps_nothing : {fault : BookFault}
          → ChangesGroup {T = Unit {0}} g (book old) mid (Err fault) (CanRecord (Some row))
          (with_held (Some row))
          → ReturnsBy (opened.tables g) (opened.is_honest g) (opened.is_open g)
          (opened.can_return g) (opened.may_leave g) (opened.leaves_books g)
          (λ (b : Kept S). b.failures) (opened.store_faults g) mid (book new)
          → KeepsBy tables_in is_honest is_open is_within may_leave leaves_books failures
          store_faults old new false
      keeps_nothing first returns = record {
        was_honest = λ h. first.was_honest (returns.was_honest h);
        kept = λ began n s h w. absurd (true≢false (sym s));
        same = λ began n s h w. absurd (true≢false (sym s));
        undone = λ began n s w end.
            open_is new end ∙ returns.undone began n (can began n end.0.opened.clean w) end.0;
        shuts = λ began n s h w.
            ⊎_elim (λ x. inl (x, gone)) inr (returns.shuts began n h (can began n h w));
        leaves = λ began n h w t way.
            inl ((unrecorded began n w).leaves began n (returns.was_honest h) w.0 t
            (returns.leaves began n h (can began n h w) t way));
        books = λ began n h w before. returns.books began n h (can began n h w)
            ((unrecorded began n w).books began n (returns.was_honest h) w.0 before);
        rise = omega (arith, first.rise, returns.uncounted);
        counts = omega (arith, first.counts, returns.counts);
      }
        where
          unrecorded : (began : Tables) (n : ℕ) → is_within old began n
              → MakesWithinBy (opened.tables g) (opened.is_honest g) (opened.is_within g)
              (opened.can_return g) (opened.may_leave g) (opened.leaves_books g) (book old)
              mid false (after (opened.tables g (book old)) (change.AddRequest row))
          unrecorded began n w = first.within (λ b m wi. can_record w.1)

          can : (began : Tables) (n : ℕ) → is_honest new → is_within old began n
              → opened.can_return g mid began n
          can began n h w = (unrecorded began n w).breaks began n refl (returns.was_honest h) w.0

  -- ---- none is held back

  pub live_none : (o : O) → held o ≡ None → IsLive (opened.is_open g) (opened.is_within g) (book o)
      → IsLive is_open is_within o
  live_none o none (inl is) = inl (is, none)
  live_none o none (inr (began, (n, w))) = inr (began, (n, (w, none_can (held o) _ none)))

  pub live_past : (o : O) (c : Change) → held o ≡ None
      → (IsLive is_open is_within o → HasPast (after (tables_in o) c))
      → IsLive (opened.is_open g) (opened.is_within g) (book o)
      → HasPast (after (opened.tables g (book o)) c)
  live_past o c none past live =
      subst (λ t. HasPast (after t c)) (with_none (held o) (opened.tables g (book o)) none)
      (past (live_none o none live))

  pub live_fits : (o : O) (c : Change) → held o ≡ None
      → (IsLive is_open is_within o → Fits (tables_in o) c)
      → IsLive (opened.is_open g) (opened.is_within g) (book o)
      → Fits (opened.tables g (book o)) c
  live_fits o c none fits live =
      subst (λ t. Fits t c) (with_none (held o) (opened.tables g (book o)) none)
      (fits (live_none o none live))

  -- ---- it is held back

  module _ (old new : O) (row : Request) (same : book new ≡ book old) (was : held old ≡ None)
      (now : held new ≡ Some row) where
    pub holds_back : (IsLive is_open is_within old → Fits (tables_in old) (change.AddRequest row))
        → (IsLive is_open is_within old → HasPast (after (tables_in old) (change.AddRequest row)))
        → MakesWithinBy tables_in is_honest is_within can_return may_leave leaves_books old new
        true (after (tables_in old) (change.AddRequest row))
    holds_back fits past = record {
      stays = λ began n s h w. (
        subst (λ k. opened.is_within g k began n) (sym same) w.0,
        subst (λ h. CanRecord h (opened.tables g (book new))) (sym now)
            (subst (λ k. Leads (change.AddRequest row) (opened.tables g k)) (sym same) (
              subst (λ t. Fits t (change.AddRequest row)) none_is (fits (inr (began, (n, w)))),
              subst (λ t. HasPast (after t (change.AddRequest row))) none_is
                  (past (inr (began, (n, w)))),
            )),
      );
      made = λ began n s h w.
          ap₂ with_held now (ap (opened.tables g) same)
          ∙ sym (ap (λ t. after t (change.AddRequest row))
          (with_none (held old) (opened.tables g (book old)) was));
      breaks = λ began n s h w. absurd (true≢false s);
      leaves = λ began n h w t. subst (λ k. opened.may_leave g k t → may_leave old t) (sym same)
          (λ l. l);
      books = λ began n h w. subst (λ k. leaves_books old → opened.leaves_books g k) (sym same)
          (λ l. l);
    }
      where
        none_is : tables_in old ≡ opened.tables g (book old)
        none_is = with_none (held old) (opened.tables g (book old)) was

-- a fault of the store is told of more calls, too
pub blames_on : {T : Type 0} (result : Result T BookFault) (a : ℕ) {b c : ℕ} → b ≤ c
    → BlamesStore result a b → BlamesStore result a c
blames_on (Ok x) a on blames = tt
blames_on (Err Memory) a on blames = tt
blames_on (Err Store) a on risen = risen_on on risen

pub blames_first : {T : Type 0} (result : Result T BookFault) {a b c : ℕ} → a ≤ b → b ≤ c
    → BlamesStore result b c → BlamesStore result a c
blames_first (Ok x) up on blames = tt
blames_first (Err Memory) up on blames = tt
blames_first (Err Store) up on risen = risen_after up on risen
