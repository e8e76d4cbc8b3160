-- A look-up over a connection is one of its book.
use Rattle.std.proofs.Common.{ℕ, inl, inr, true≢false, Result, Ok, Err, IfOk, OnOk, OnErr, is_ok}
use Rattle.std.proofs.Common.{◌≡◌, ◌≤◌}
use Rattle.std.proofs.Common.{IsErr, Bool, true, false, IsTrue, ⊎_elim, refl, sym, ap, subst, ◌∙◌}
use Rattle.std.proofs.Common.{arith}
use Rattle.sqlite_trees.specs.declared.store.Store.{Ghosts}
use Rattle.sqlite.specs.Effect.{Database}
use Rattle.sqlite.specs.declared.error.Error.{Error}
use Rattle.sqlite.specs.State.{State, HasCleanDisk, IsUnchanged}
use Rattle.sqlite.specs.Held.{Held, state}
use Rattle.acq_core.specs.Pasts.{HasPast}
use Rattle.acq_core.specs.Tables.{Tables}
use Rattle.std.specs.List.{list_all}
use Rattle.std.proofs.lemmas.Bool.{and_parts}
use Rattle.card_no.specs.Ranges.{are_apart, is_valid_range}
use Rattle.acq_soundness.proofs.BooksAreSound.{books_are_sound}
use Rattle.acq_book.specs.declared.book_fault.BookFault.{BookFault}
use Rattle.acq_book.specs.Groups.{GivesWithinBy, LooksWithinBy}
use Rattle.acq_book.specs.Promise.{LooksBy}
use Rattle.acq_book.proofs.Chains.{risen_after}
use Rattle.acq_sql_rows.specs.Relation.{Holds}
use Rattle.acq_sql_rows.specs.ReadBack.{tables_of}
use Rattle.acq_sql_rows.specs.Standing.{IsAt}
use Rattle.acq_sql_writes.specs.Refused.{HasNumbersLeft}
use Rattle.acq_sql_reads.specs.Looked.{LooksOnly}
use Rattle.acq_sql_reads.proofs.Leaves.{at_unchanged, kept}
use Rattle.acq_sql_checking.proofs.Blaming.{risen_by}
use Rattle.acq_sql.specs.Kept.{Kept}
use Rattle.acq_sql.specs.Memos.{Recalls}
use Rattle.acq_sql.specs.Opened.{tables, is_honest, is_open, is_within, can_return, may_leave}
use Rattle.acq_sql.specs.Opened.{leaves_books, store_faults, has_room, IsRoomy}
use Rattle.acq_sql_changes.proofs.Progress.{based_still}

-- ---- what a book answers of what its database answered

pub relay : {T : Type 0} (answer : Result T Error) (result : Result T BookFault) (P : T → Type 0)
    → IfOk answer (λ x. result ≡ Ok x) → is_ok result ≡ is_ok answer → IfOk answer P → IfOk result P
relay (Ok x) result P same ok is = subst (λ r. IfOk r P) (sym same) is
relay (Err e) (Ok x) P same ok is = absurd (true≢false ok)
relay (Err e) (Err f) P same ok is = tt

pub relay_ok : {T : Type 0} (P : Type 0) (answer : Result T Error) (result : Result T BookFault)
    → is_ok result ≡ is_ok answer → OnOk answer P → OnOk result P
relay_ok P (Ok x) (Ok y) same is = is
relay_ok P (Ok x) (Err f) same is = tt
relay_ok P (Err e) (Ok y) same is = absurd (true≢false same)
relay_ok P (Err e) (Err f) same is = tt

pub relay_err : {T : Type 0} (P : Type 0) (answer : Result T Error) (result : Result T BookFault)
    → is_ok result ≡ is_ok answer → OnErr answer P → OnErr result P
relay_err P (Ok x) (Ok y) same is = tt
relay_err P (Ok x) (Err f) same is = absurd (true≢false (sym same))
relay_err P (Err e) (Ok y) same is = tt
relay_err P (Err e) (Err f) same is = is

-- where it succeeded, what is said of success is so
if_ok : {T E : Type 0} (answer : Result T E) (P : T → Type 0) → (is_ok answer ≡ true → IfOk answer P)
    → IfOk answer P
if_ok (Ok x) P is = is refl
if_ok (Err e) P is = tt

-- the ranges of tables that events led to lie apart
pub apart_of : (t : Tables) → HasPast t → are_apart t.ranges ≡ true
apart_of t (opening, book) =
    (and_parts (list_all is_valid_range t.ranges) _ (books_are_sound opening t book).ranges).1

-- room is left where what is seen stays
pub stays_roomy : (old new : State) → new.step_limit ≡ old.step_limit → new.now ≡ old.now
    → IsRoomy old → IsRoomy new
stays_roomy old new limit same room =
    record {
      unlimited = limit ∙ room.unlimited;
      numbers = subst HasNumbersLeft (sym same) room.numbers;
    }

-- ---- look-ups

-- outside a group no transaction is open
abbrev pub IsOutside : {S : Type 0} → Ghosts S → Kept S → Type 0
IsOutside g book =
    book.in_group ≡ false → HasCleanDisk (state g book.connection)
    → book.connection.in_transaction ≡ false

-- there what is seen is what was committed
abbrev pub IsSettled : {S : Type 0} → Ghosts S → Kept S → Type 0
IsSettled g book =
    book.in_group ≡ false → HasCleanDisk (state g book.connection)
    → IsTrue (state g book.connection).is_open
    → (state g book.connection).now ≡ (state g book.connection).committed

-- what is recalled then is so of the tables that are held, where what was recalled was
abbrev pub Learns : {S : Type 0} → Ghosts S → Kept S → Kept S → Type 0
Learns g old new =
    HasCleanDisk (state g new.connection)
    → Holds (state g old.connection).now (tables g old) → HasPast (tables g old)
    → Recalls old.memo (tables g old) → Recalls new.memo (tables g old)

module _ {S : Type 0} (g : Ghosts S) (old new : Kept S) (succeeded : Bool)
    (looks : LooksOnly (state g old.connection) (state g new.connection) succeeded)
    (out : IsOutside g old)
    (settled : IsSettled g old)
    (same_group : new.in_group ≡ old.in_group)
    (recalled : (t : Tables) → Recalls new.memo t → Recalls old.memo t)
    (recalls : Learns g old new) where
  abbrev before : State
  before = state g old.connection

  abbrev after : State
  after = state g new.connection

  was_honest : HasCleanDisk after → HasCleanDisk before
  was_honest clean = let up = looks.stop.clean in omega (arith, up, clean)

  was_open : HasCleanDisk after → IsTrue after.is_open → IsTrue before.is_open
  was_open clean opened =
      ⊎_elim (λ (same : IsUnchanged before after). same.0.was_open) (λ back. back.was_open opened)
      (looks.undone clean opened)

  was_outside : is_open g new → old.in_group ≡ false
  was_outside book = sym same_group ∙ book.outside

  -- what is seen stays, where the store is still open
  now_kept : old.in_group ≡ false → HasCleanDisk after → IsTrue after.is_open
      → after.now ≡ before.now
  now_kept outside clean opened =
      ⊎_elim (λ (same : IsUnchanged before after). same.0.now_is)
      (λ back. (back.undone opened).0
      ∙ sym (settled outside (was_honest clean) (was_open clean opened)))
      (looks.undone clean opened)

  opened_before : is_open g new → is_open g old
  opened_before book =
      let o = book.opened in
      let outside = was_outside book in
      let was = was_open o.clean o.at.is_open in
      let same = now_kept outside o.clean o.at.is_open in
      record {
        opened = record {
          clean = was_honest o.clean;
          at = record {
            is_open = was;
            settled = out outside (was_honest o.clean);
            same = settled outside (was_honest o.clean) was;
            holds = subst (λ (d : Database). Holds d (tables_of d)) same o.at.holds;
          };
          past = subst (λ (d : Database). HasPast (tables_of d)) same o.past;
        };
        recalls = subst (λ (d : Database). Recalls old.memo (tables_of d)) same
            (recalled (tables g new) book.recalls);
        outside = outside;
      }

  stays_open : succeeded ≡ true → HasCleanDisk after → is_open g old → is_open g new
  stays_open is clean book =
      let o = book.opened in
      let same = looks.same clean is in
      let back = sym same.0.now_is in
      record {
        opened = record {
          clean = clean;
          at = at_unchanged before after (tables g new) same
              (subst (λ (d : Database). IsAt before (tables_of d)) back o.at);
          past = subst (λ (d : Database). HasPast (tables_of d)) back o.past;
        };
        recalls = subst (λ (d : Database). Recalls new.memo (tables_of d)) back
            (recalls clean o.at.holds o.past book.recalls);
        outside = same_group ∙ book.outside;
      }

  stays : HasCleanDisk after → is_open g old → IsTrue after.is_open → is_open g new
  stays clean book opened =
      let o = book.opened in
      let same = sym (now_kept book.outside clean opened) in
      record {
        opened = record {
          clean = clean;
          at =
              subst (λ (d : Database). IsAt after (tables_of d)) same
              (kept before after succeeded looks clean opened (tables g old) o.at);
          past = subst (λ (d : Database). HasPast (tables_of d)) same o.past;
        };
        recalls = subst (λ (d : Database). Recalls new.memo (tables_of d)) same
            (recalls clean o.at.holds o.past book.recalls);
        outside = same_group ∙ book.outside;
      }

  -- room is left as it was
  room_at : is_open g new → has_room g old → has_room g new
  room_at o room =
      stays_roomy _ _ looks.stop.limit
      (now_kept (was_outside o) o.opened.clean o.opened.at.is_open) room

  -- what a look-up over the connection leaves, a look-up of the book leaves
  pub looks_at : old.failures ≤ new.failures
      → LooksBy (tables g) (is_honest g) (is_open g) (may_leave g) (leaves_books g)
      (λ (b : Kept S). b.failures) (store_faults g) old new succeeded
  looks_at rise = record {
    was_honest = was_honest;
    was_open = opened_before;
    stays_open = stays_open;
    shuts = λ clean o. ⊎_elim (λ opened. inl (stays clean o opened))
        (λ more. inr (risen_by more)) (looks.stop.closes clean o.opened.at.is_open);
    same = λ o. ap tables_of (now_kept (was_outside o) o.opened.clean o.opened.at.is_open);
    leaves = λ clean t left. (
      left.0,
      ⊎_elim (λ (was : before.may_leave left.0). was) (λ none. absurd none)
          (looks.stop.crash clean left.0 left.1),
      left.2,
    );
    books = λ clean was trees left. was trees
        (⊎_elim (λ (before : _). before) (λ none. absurd none)
        (looks.stop.crash clean trees left));
    rise = rise;
    counts = looks.stop.counts;
  }

  -- an answer over the tables that the database holds is one over the book's
  value_at : {T : Type 0} (seen : Kept S) → old ≡ seen →
      (answer : Result T Error) (result : Result T BookFault)
      (look : Tables → T)
      → (HasCleanDisk after → (t : Tables) → Holds before.now t → HasPast t →
      IfOk answer (λ x. x ≡ look t))
      → IfOk answer (λ x. result ≡ Ok x) → is_ok result ≡ is_ok answer → is_open g new
      → IfOk result (λ x. x ≡ look (tables g seen))
  value_at seen is answer result look says same ok o =
      let was = (opened_before o).opened in
      subst (λ (k : Kept S). IfOk result (λ x. x ≡ look (tables g k))) is
      (relay answer result _ same ok
      (says o.opened.clean (tables g old) was.at.holds was.past))

  -- ---- within a group

  -- of one that succeeded
  within_before : (began : Tables) (faults : ℕ) → succeeded ≡ true → is_within g new began faults
      → (earlier : ℕ) × is_within g old began earlier
  within_before began faults is w =
      let same = looks.same w.clean is in (
        0,
        record {
          clean = was_honest w.clean;
          inside = record {
            is_open = same.0.was_open;
            inside = sym same.0.mode ∙ w.inside.inside;
            committed = subst (λ (d : Database). Holds d began) same.0.committed_is
                w.inside.committed;
            holds = subst (λ (d : Database). Holds d (tables_of d)) same.0.now_is w.inside.holds;
          };
          past = subst (λ (d : Database). HasPast (tables_of d)) same.0.now_is w.past;
          began_past = w.began_past;
          recalls = subst (λ (d : Database). Recalls old.memo (tables_of d)) same.0.now_is
              (recalled (tables g new) w.recalls);
          begun = sym same_group ∙ w.begun;
          since = omega arith;
        },
      )

  within_after : (began : Tables) (faults : ℕ) → succeeded ≡ true → HasCleanDisk after
      → is_within g old began faults → is_within g new began faults
  within_after began faults is clean w =
      let same = looks.same clean is in
      let back = sym same.0.now_is in
      record {
        clean = clean;
        inside = record {
          is_open = same.0.is_open;
          inside = same.0.mode ∙ w.inside.inside;
          committed = subst (λ (d : Database). Holds d began) (sym same.0.committed_is)
              w.inside.committed;
          holds = subst (λ (d : Database). Holds d (tables_of d)) back w.inside.holds;
        };
        past = subst (λ (d : Database). HasPast (tables_of d)) back w.past;
        began_past = w.began_past;
        recalls = subst (λ (d : Database). Recalls new.memo (tables_of d)) back
            (recalls clean w.inside.holds w.past w.recalls);
        begun = same_group ∙ w.begun;
        since = let up = looks.stop.counts in let since = w.since in omega (arith, up, since);
      }

  -- whether it did or not
  returnable_after : (began : Tables) (faults : ℕ) → HasCleanDisk after
      → is_within g old began faults → can_return g new began faults
  returnable_after began faults clean w =
      let up = looks.stop.counts in
      let since = w.since in
      record {
        based = record {
          committed = λ opened.
              (based_still before after began w.inside.inside w.inside.committed
              (looks.undone clean opened)).committed opened;
          ended = λ ended opened.
              (based_still before after began w.inside.inside w.inside.committed
              (looks.undone clean opened)).ended ended opened;
        };
        past = w.began_past;
        shuts = ⊎_elim inl (λ more. inr (risen_after since up (risen_by more)))
            (looks.stop.closes clean w.inside.is_open);
        since = omega (arith, up, since);
      }

  pub looks_within_at : LooksWithinBy (tables g) (is_honest g) (is_within g) (can_return g)
      old new succeeded
  looks_within_at = record {
    was_within = within_before;
    stays = within_after;
    same = λ began faults is w. ap tables_of (looks.same w.clean is).0.now_is;
    breaks = λ began faults is clean w. returnable_after began faults clean w;
  }

  -- an answer over the tables that it shows is one over the book's
  pub value_within_at : {T : Type 0} (answer : Result T Error) (result : Result T BookFault)
      (look : Tables → T) → is_ok answer ≡ succeeded
      → (HasCleanDisk after → (t : Tables) → Holds before.now t → HasPast t →
      IfOk answer (λ x. x ≡ look t))
      → IfOk answer (λ x. result ≡ Ok x) → is_ok result ≡ is_ok answer
      → (began : Tables) (faults : ℕ) → is_within g new began faults
      → IfOk result (λ x. x ≡ look (tables g old))
  value_within_at answer result look did says same ok began faults w =
      relay answer result _ same ok
      (if_ok answer (λ x. x ≡ look (tables g old)) (λ is.
      let was = (within_before began faults (sym did ∙ is) w).1 in
      says w.clean (tables g old) was.inside.holds was.past))

-- ---- of a book as it is seen, which may recall more then

module _ {S : Type 0} (g : Ghosts S) (old seen new : Kept S) (is : old ≡ seen)
    (same_group : new.in_group ≡ old.in_group)
    (recalled : (t : Tables) → Recalls new.memo t → Recalls old.memo t)
    (recalls : Learns g old new) where
  pub new_value : {T : Type 0} (answer : Result T Error) (result : Result T BookFault) →
      LooksOnly (state g old.connection) (state g new.connection) (is_ok answer)
      → IsOutside g old → IsSettled g seen
      → IfOk answer (λ x. result ≡ Ok x)
      → is_ok result ≡ is_ok answer → (look : Tables → T)
      → (HasCleanDisk (state g new.connection) → (t : Tables)
      → Holds (state g old.connection).now t → HasPast t → IfOk answer (λ x. x ≡ look t))
      → is_open g new → IfOk result (λ x. x ≡ look (tables g seen))
  new_value answer result looks out settled same ok look says o =
      value_at g old new (is_ok answer) looks out (subst (IsSettled g) (sym is) settled) same_group
      recalled recalls seen is answer result look says same ok o

  pub new_looks : {T U : Type 0} (answer : Result T Error) (result : Result U BookFault)
      → LooksOnly (state g old.connection) (state g new.connection) (is_ok answer)
      → IsOutside g old → IsSettled g seen → is_ok result ≡ is_ok answer
      → old.failures ≤ new.failures
      → LooksBy (tables g) (is_honest g) (is_open g) (may_leave g) (leaves_books g)
      (λ (b : Kept S). b.failures) (store_faults g) seen new (is_ok result)
  new_looks answer result looks out settled same rise =
      subst (λ (k : Kept _). LooksBy (tables g) (is_honest g) (is_open g) (may_leave g)
      (leaves_books g) (λ (b : Kept _). b.failures) (store_faults g) k new (is_ok result)) is
      (looks_at g old new (is_ok result)
      (subst (LooksOnly (state g old.connection) (state g new.connection)) (sym same) looks) out
      (subst (IsSettled g) (sym is) settled) same_group recalled recalls rise)

  pub new_room : {T : Type 0} (answer : Result T Error)
      → LooksOnly (state g old.connection) (state g new.connection) (is_ok answer)
      → IsOutside g old → IsSettled g seen
      → is_open g new → has_room g seen → has_room g new
  new_room answer looks out settled o room =
      room_at g old new (is_ok answer) looks out (subst (IsSettled g) (sym is) settled) same_group
      recalled recalls o (subst (has_room g) (sym is) room)

  -- and within a group
  pub new_within : {T : Type 0} (answer : Result T Error) (result : Result T BookFault) →
      LooksOnly (state g old.connection) (state g new.connection) (is_ok answer)
      → IsOutside g old → IsSettled g seen
      → IfOk answer (λ x. result ≡ Ok x)
      → is_ok result ≡ is_ok answer → (look : Tables → T)
      → (HasCleanDisk (state g new.connection) → (t : Tables)
      → Holds (state g old.connection).now t → HasPast t → IfOk answer (λ x. x ≡ look t))
      → GivesWithinBy (tables g) (is_honest g) (is_within g) (can_return g) seen new result
      (λ x. x ≡ look (tables g seen))
  new_within answer result looks out settled same ok look says =
      let before = subst (IsSettled g) (sym is) settled in
      subst (λ (k : Kept _). GivesWithinBy (tables g) (is_honest g) (is_within g) (can_return g)
      k new result (λ x. x ≡ look (tables g k))) is
      (record {
        value = value_within_at g old new (is_ok answer) looks out before same_group recalled
            recalls answer result look refl says same ok;
        looks = subst (LooksWithinBy (tables g) (is_honest g) (is_within g) (can_return g) old new)
            (sym ok)
            (looks_within_at g old new (is_ok answer) looks out before same_group recalled
            recalls);
      })

-- ---- and of one that recalls what it did

-- with this connection and count then
abbrev pub looked : {S : Type 0} → Kept S → Held S → ℕ → Kept S
looked old connection failures =
    record {
      connection = connection;
      failures = failures;
      memo = old.memo;
      in_group = old.in_group;
    }

module _ {S : Type 0} (g : Ghosts S) (old seen : Kept S) (connection : Held S) (failures : ℕ)
    (is : old ≡ seen) where
  abbrev new : Kept S
  new = looked old connection failures

  pub value_of : {T : Type 0} (answer : Result T Error) (result : Result T BookFault) →
      LooksOnly (state g old.connection) (state g connection) (is_ok answer)
      → IsOutside g old → IsSettled g seen
      → IfOk answer (λ x. result ≡ Ok x)
      → is_ok result ≡ is_ok answer → (look : Tables → T)
      → (HasCleanDisk (state g connection) → (t : Tables)
      → Holds (state g old.connection).now t → HasPast t → IfOk answer (λ x. x ≡ look t))
      → is_open g new → IfOk result (λ x. x ≡ look (tables g seen))
  value_of answer result =
      new_value g old seen new is refl (λ t r. r) (λ clean holds past r. r) answer result

  pub looks_of : {T U : Type 0} (answer : Result T Error) (result : Result U BookFault)
      → LooksOnly (state g old.connection) (state g connection) (is_ok answer)
      → IsOutside g old → IsSettled g seen → is_ok result ≡ is_ok answer
      → old.failures ≤ failures
      → LooksBy (tables g) (is_honest g) (is_open g) (may_leave g) (leaves_books g)
      (λ (b : Kept S). b.failures) (store_faults g) seen new (is_ok result)
  looks_of answer result =
      new_looks g old seen new is refl (λ t r. r) (λ clean holds past r. r) answer result

  pub room_of : {T : Type 0} (answer : Result T Error)
      → LooksOnly (state g old.connection) (state g connection) (is_ok answer)
      → IsOutside g old → IsSettled g seen
      → is_open g new → has_room g seen → has_room g new
  room_of answer = new_room g old seen new is refl (λ t r. r) (λ clean holds past r. r) answer

  pub within_of : {T : Type 0} (answer : Result T Error) (result : Result T BookFault) →
      LooksOnly (state g old.connection) (state g connection) (is_ok answer)
      → IsOutside g old → IsSettled g seen
      → IfOk answer (λ x. result ≡ Ok x)
      → is_ok result ≡ is_ok answer → (look : Tables → T)
      → (HasCleanDisk (state g connection) → (t : Tables)
      → Holds (state g old.connection).now t → HasPast t → IfOk answer (λ x. x ≡ look t))
      → GivesWithinBy (tables g) (is_honest g) (is_within g) (can_return g) seen new result
      (λ x. x ≡ look (tables g seen))
  within_of answer result =
      new_within g old seen new is refl (λ t r. r) (λ clean holds past r. r) answer result

-- ---- and of one that recalls the answer

-- nothing is looked at
pub unlooked : {S : Type 0} (g : Ghosts S) (old seen : Kept S) → old ≡ seen
    → LooksBy (tables g) (is_honest g) (is_open g) (may_leave g) (leaves_books g)
    (λ (b : Kept S). b.failures) (store_faults g) seen old true
unlooked {S} g old seen is =
    subst (λ (k : Kept S). LooksBy (tables g) (is_honest g) (is_open g) (may_leave g)
    (leaves_books g) (λ (b : Kept S). b.failures) (store_faults g) k old true) is
    (record {
      was_honest = λ clean. clean;
      was_open = λ o. o;
      stays_open = λ ok clean o. o;
      shuts = λ clean o. inl o;
      same = λ o. refl;
      leaves = λ clean t left. left;
      books = λ clean books. books;
      rise = omega arith;
      counts = omega arith;
    })

-- ---- where a call failed

-- where the answer of a look-up was passed on as it failed
pub failed_too : {T U V E F G : Type 0} {e : F} (answer : Result T E) (told : Result U F)
    (result : Result V G) → told ≡ Err e → is_ok told ≡ is_ok answer → IsErr result
    → is_ok result ≡ is_ok answer
failed_too answer told (Ok x) was same is = absurd (cc)
failed_too answer told (Err f) was same is = sym (ap is_ok was) ∙ same

-- what the database of an open book holds
pub held_by : {S : Type 0} (g : Ghosts S) (old seen : Kept S) → old ≡ seen → is_open g seen
    → Holds (state g old.connection).now (tables g seen)
held_by g old seen is o =
    subst (λ (k : Kept _). Holds (state g k.connection).now (tables g seen)) (sym is)
    o.opened.at.holds
