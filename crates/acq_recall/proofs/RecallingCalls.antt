-- What a book promises in front of which things are recalled.
use Rattle.std.proofs.Common.{◌≡◌, inl, inr, ⊎_elim, ◌≤◌, Bool, true, refl, sym, subst}
use Rattle.std.proofs.Common.{Result, Ok}
use Rattle.acq_core.specs.declared.change.Change.{Change}
use Rattle.acq_core.specs.declared.looked.Looked.{Looked}
use Rattle.acq_core.specs.declared.wanted.Wanted.{Wanted}
use Rattle.acq_core.specs.Pasts.{HasPast}
use Rattle.acq_core.specs.Tables.{Tables, after}
use Rattle.acq_book.specs.declared.book.Book.{Ghosts}
use Rattle.acq_book.specs.declared.book_fault.BookFault.{BookFault}
use Rattle.acq_book.specs.Fits.{Fits}
use Rattle.acq_book.specs.Groups.{GivesWithinBy, IsLive, MakesWithinBy}
use Rattle.acq_book.specs.Looked.{IsLooked}
use Rattle.acq_book.specs.Promise.{GivesBy, LooksBy, MakesBy}
use Rattle.acq_recall.specs.declared.known.Known.{Known}
use Rattle.acq_recall.specs.declared.recalling_book.RecallingBook.{RecallingBook}
use Rattle.acq_recall.specs.Known.{IsKnown, filled, rest_of}
use Rattle.acq_recall.specs.Recalled.{Recalls}
use Rattle.acq_recall.specs.Recalling as recalling
use Rattle.acq_recall.specs.Suits.{Suits}
use Rattle.acq_recall.proofs.FilledParts.{fills}

module _ {B : Type 0} (g : Ghosts B) where
  abbrev Gives : {T : Type 0} → RecallingBook B → RecallingBook B → Result T BookFault
      → (T → Type 0) → Type 0
  Gives old new result says =
      GivesBy (recalling.tables g) (recalling.is_honest g) (recalling.is_open g)
      (recalling.may_leave g) (recalling.leaves_books g) (recalling.failures g)
      (recalling.store_faults g) (recalling.has_room g) old new result says

  abbrev GivesWithin : {T : Type 0} → RecallingBook B → RecallingBook B → Result T BookFault
      → (T → Type 0) → Type 0
  GivesWithin old new result says =
      GivesWithinBy (recalling.tables g) (recalling.is_honest g) (recalling.is_within g)
      (recalling.can_return g) old new result says

  -- ---- look-ups

  -- what is learned of what was looked up within a group
  pub learned_within : (old new : RecallingBook B) (looked : Looked) (rest : Wanted)
      → GivesWithinBy g.tables g.is_honest g.is_within g.can_return old.book new.book
      (Ok looked) (IsLooked (g.tables old.book) rest)
      → ((t : Tables) → IsLooked t rest looked → Recalls old.recalled t → Recalls new.recalled t)
      → ((t : Tables) → Recalls new.recalled t → Recalls old.recalled t)
      → GivesWithin old new (Ok looked) (IsLooked (recalling.tables g old) rest)
  learned_within old new looked rest said learns keeps = record {
    value = λ began faults is. said.value began faults is.0;
    looks = record {
      was_within = λ began faults ok is.
          let was = said.looks.was_within began faults ok is.0 in (
            was.0,
            (
              was.1,
              subst (Recalls old.recalled) (said.looks.same began faults ok is.0)
                  (keeps (g.tables new.book) is.1),
            ),
          );
      stays = λ began faults ok h is.
          let within = said.looks.stays began faults ok h is.0 in
          let same = said.looks.same began faults ok within in (
            within,
            subst (Recalls new.recalled) (sym same)
                (learns (g.tables old.book) (said.value began faults within) is.1),
          );
      same = λ began faults ok is. said.looks.same began faults ok is.0;
      breaks = λ began faults failed h is. said.looks.breaks began faults failed h is.0;
    };
  }

  -- what is known, and what was looked up of the rest, is what is wanted
  module _ (old new : RecallingBook B) (wanted rest : Wanted) (known : Known) (looked : Looked)
      (all : Looked) (is_known : (t : Tables) → Recalls old.recalled t → IsKnown t wanted known)
      (is_rest : rest ≡ rest_of known wanted) (is_all : all ≡ filled known looked) where
    whole : (t : Tables) → Recalls old.recalled t → IsLooked t rest looked
        → IsLooked t wanted all
    whole t recalls is =
        subst (IsLooked t wanted) (sym is_all)
        (fills t wanted known looked (is_known t recalls)
        (subst (λ w. IsLooked t w looked) is_rest is))

    pub filled_gives : Gives old new (Ok looked) (IsLooked (recalling.tables g old) rest)
        → Gives old new (Ok all) (IsLooked (recalling.tables g old) wanted)
    filled_gives said = record {
      value = λ o. whole (g.tables old.book) (said.looks.was_open o).1 (said.value o);
      looks = said.looks;
      store = said.store;
      blames = λ h o room. tt;
      room = said.room;
    }

    pub filled_within : GivesWithin old new (Ok looked) (IsLooked (recalling.tables g old) rest)
        → GivesWithin old new (Ok all) (IsLooked (recalling.tables g old) wanted)
    filled_within said = record {
      value = λ began faults is.
          whole (g.tables old.book) (said.looks.was_within began faults refl is).1.1
          (said.value began faults is);
      looks = said.looks;
    }

  -- ---- what is learned by a walk

  abbrev Looks : RecallingBook B → RecallingBook B → Bool → Type 0
  Looks old new succeeded =
      LooksBy (recalling.tables g) (recalling.is_honest g) (recalling.is_open g)
      (recalling.may_leave g) (recalling.leaves_books g) (recalling.failures g)
      (recalling.store_faults g) old new succeeded

  pub looks_learned : (old new : RecallingBook B) (succeeded : Bool)
      → LooksBy g.tables g.is_honest g.is_open g.may_leave g.leaves_books g.failures
      g.store_faults old.book new.book succeeded
      → (g.is_honest new.book → g.is_open old.book → Recalls old.recalled (g.tables old.book)
      → Recalls new.recalled (g.tables old.book))
      → ((t : Tables) → Recalls new.recalled t → Recalls old.recalled t)
      → Looks old new succeeded
  looks_learned old new succeeded looks learns keeps =
      let there : g.is_honest new.book → recalling.is_open g old → g.is_open new.book
      → Recalls new.recalled (g.tables new.book) =
      λ h o open_now. subst (Recalls new.recalled) (sym (looks.same open_now))
      (learns h o.0 o.1) in
      record {
        was_honest = looks.was_honest;
        was_open = λ o. (
          looks.was_open o.0,
          subst (Recalls old.recalled) (looks.same o.0)
              (keeps (g.tables new.book) o.1),
        );
        stays_open = λ done h o.
            let open_now = looks.stays_open done h o.0 in (open_now, there h o open_now);
        shuts = λ h o. ⊎_elim (λ open_now. inl (open_now, there h o open_now))
            (λ risen. inr risen) (looks.shuts h o.0);
        same = λ o. looks.same o.0;
        leaves = looks.leaves;
        books = looks.books;
        rise = looks.rise;
        counts = looks.counts;
      }

  -- what is known of the tables is said of them
  pub told_known : {X : Type 0} (old new : RecallingBook B) (says : Tables → X → Type 0) (x : X)
      → Gives old new (Ok tt) (λ (done : Unit {0}). Unit {0})
      → ((t : Tables) → Recalls new.recalled t → says t x)
      → Gives old new (Ok x) (says (recalling.tables g old))
  told_known old new says x looked told = record {
    value = λ o. subst (λ t. says t x) (looked.looks.same o) (told (g.tables new.book) o.1);
    looks = looked.looks;
    store = looked.store;
    blames = λ h o room. tt;
    room = looked.room;
  }

  -- ---- changes

  -- it is open or within a group only where its book is
  pub lives : (r : RecallingBook B) → IsLive (recalling.is_open g) (recalling.is_within g) r
      → IsLive g.is_open g.is_within r.book
  lives r live = ⊎_elim (λ o. inl o.0) (λ w. inr (w.0, (w.1.0, w.1.1.0))) live

  -- a change that was made is followed
  module _ (old new : RecallingBook B) (change : Change)
      (past : (b : B) → g.is_open b → HasPast (g.tables b))
      (fits : IsLive (recalling.is_open g) (recalling.is_within g) old
      → Fits (recalling.tables g old) change)
      (leads : IsLive (recalling.is_open g) (recalling.is_within g) old
      → HasPast (after (recalling.tables g old) change))
      (follows : (t : Tables) → Fits t change → Recalls old.recalled t
      → Recalls new.recalled (after t change))
      (was_honest : g.is_honest new.book → g.is_honest old.book)
      (rise : g.failures old.book ≤ g.failures new.book)
      (counts : g.store_faults old.book ≤ g.store_faults new.book)
      (succeeded : Bool) (ok : succeeded ≡ true) where
    abbrev changed : Tables
    changed = after (g.tables old.book) change

    suits : IsLive (recalling.is_open g) (recalling.is_within g) old
        → IsLive g.is_open g.is_within old.book → Suits (g.tables old.book) change
    suits live _ = (fits live, leads live)

    followed : IsLive (recalling.is_open g) (recalling.is_within g) old
        → Recalls old.recalled (g.tables old.book) → g.tables new.book ≡ changed
        → Recalls new.recalled (g.tables new.book)
    followed live is same =
        subst (Recalls new.recalled) (sym same) (follows (g.tables old.book) (fits live) is)

    pub made : ((IsLive g.is_open g.is_within old.book → Suits (g.tables old.book) change)
        → MakesBy g.tables g.is_honest g.is_open g.may_leave g.leaves_books g.failures
        g.store_faults old.book new.book succeeded changed)
        → MakesBy (recalling.tables g) (recalling.is_honest g) (recalling.is_open g)
        (recalling.may_leave g) (recalling.leaves_books g) (recalling.failures g)
        (recalling.store_faults g) old new succeeded changed
    made makes = record {
      was_honest = was_honest;
      was_open = λ o. inr (past new.book o.0);
      stays_open = λ done h o.
          let m = makes (suits (inl o)) in
          let open_now = m.stays_open done h o.0 in
          (open_now, followed (inl o) o.1 (m.made done o.0 open_now));
      shuts = λ h o.
          let m = makes (suits (inl o)) in
          ⊎_elim (λ open_now. inl (open_now, followed (inl o) o.1 (m.made ok o.0 open_now)))
          (λ risen. inr risen) (m.shuts h o.0);
      made = λ done o open_now. (makes (suits (inl o))).made done o.0 open_now.0;
      unmade = λ failed o open_now. (makes (suits (inl o))).unmade failed o.0 open_now.0;
      leaves = λ o h. (makes (suits (inl o))).leaves o.0 h;
      settled = λ done o h. (makes (suits (inl o))).settled done o.0 h;
      books = λ o h. (makes (suits (inl o))).books o.0 h;
      rise = rise;
      counts = counts;
    }

    pub made_within : ((IsLive g.is_open g.is_within old.book → Suits (g.tables old.book) change)
        → MakesWithinBy g.tables g.is_honest g.is_within g.can_return g.may_leave g.leaves_books
        old.book new.book succeeded changed)
        → MakesWithinBy (recalling.tables g) (recalling.is_honest g) (recalling.is_within g)
        (recalling.can_return g) (recalling.may_leave g) (recalling.leaves_books g) old new
        succeeded changed
    made_within makes = record {
      stays = λ began faults done h is.
          let live = inr (began, (faults, is)) in
          let m = makes (suits live) in (
            m.stays began faults done h is.0,
            followed live is.1 (m.made began faults done h is.0),
          );
      made = λ began faults done h is.
          (makes (suits (inr (began, (faults, is))))).made began faults done h is.0;
      breaks = λ began faults failed h is.
          (makes (suits (inr (began, (faults, is))))).breaks began faults failed h is.0;
      leaves = λ began faults h is.
          (makes (suits (inr (began, (faults, is))))).leaves began faults h is.0;
      books = λ began faults h is.
          (makes (suits (inr (began, (faults, is))))).books began faults h is.0;
    }
