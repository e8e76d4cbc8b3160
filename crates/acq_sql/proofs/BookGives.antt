-- What a look-up or a walk over a connection gives, its book gives.
use Rattle.std.proofs.Common.{◌≡◌, ℕ, Bool, List, Result, Ok, Err, IfOk, OnOk, OnErr, IsErr, is_ok}
use Rattle.std.proofs.Common.{true≢false}
use Rattle.std.proofs.Common.{refl, sym, subst}
use Rattle.std.proofs.lemmas.Result.{IfOk-weaker}
use Rattle.std.specs.Result.{IsErrAnd}
use Rattle.sqlite_trees.specs.declared.store.Store.{Ghosts}
use Rattle.sqlite.specs.declared.error.Error.{Error}
use Rattle.sqlite.specs.State.{State, HasCleanDisk}
use Rattle.sqlite.specs.Held.{Held, state}
use Rattle.acq_core.specs.Pasts.{HasPast}
use Rattle.acq_core.specs.Tables.{Tables}
use Rattle.acq_book.specs.declared.book_fault.BookFault.{BookFault}
use Rattle.acq_book.specs.Promise.{CountsFault, WalksBy}
use Rattle.acq_book.specs.Visits.{SawAll, SawRows, SawSome}
use Rattle.acq_book.proofs.Chains.{gives_as, gives_fault, gives_then}
use Rattle.acq_book.proofs.GroupChains.{gives_within_as, gives_within_fault, gives_within_then}
use Rattle.acq_book.proofs.GroupChains.{unlooked_within}
use Rattle.acq_sql_rows.specs.Rows.{version}
use Rattle.acq_sql_rows.specs.Relation.{Holds}
use Rattle.acq_sql_rows.specs.Standing.{FailsExcusedAt, IsOpenOver}
use Rattle.acq_sql_writes.specs.Refused.{HasNumbersLeft}
use Rattle.acq_sql_reads.specs.Looked.{LooksOnly}
use Rattle.acq_sql.specs.Faults.{IsTold}
use Rattle.acq_sql.specs.Given.{Found, Gives}
use Rattle.acq_sql.specs.Memos.{Recalls}
use Rattle.acq_sql.specs.Kept.{Kept}
use Rattle.acq_sql.specs.Opened.{IsOpenAt, tables, is_honest, is_open, may_leave, leaves_books}
use Rattle.acq_sql.specs.Opened.{can_return, has_room, is_within, store_faults}
use Rattle.acq_sql.proofs.BookBlames.{blames_of}
use Rattle.acq_sql.proofs.BookLooks.{IsOutside, IsSettled, held_by, looked, looks_of, relay_err, relay_ok}
use Rattle.acq_sql.proofs.BookLooks.{room_of, unlooked, value_of, within_of}

-- ---- nothing is asked

pub unasked : {S T : Type 0} (g : Ghosts S) (old seen : Kept S) → old ≡ seen → (x : T)
    (says : Tables → T → Type 0) → (Recalls seen.memo (tables g seen) → says (tables g seen) x)
    → Gives g seen old (Ok x) says
unasked {S} g old seen is x says so =
    let told : Recalls old.memo (tables g old) → says (tables g old) x =
    subst (λ (k : Kept S). Recalls k.memo (tables g k) → says (tables g k) x) (sym is) so in
    subst (λ (k : Kept S). Gives g k old (Ok x) says) is (record {
      gives = record {
        value = λ o. told o.recalls;
        looks = unlooked g old old refl;
        store = refl;
        blames = λ clean o room. tt;
        room = λ o room. room;
      };
      within = record {
        value = λ began faults w. told w.recalls;
        looks = unlooked_within (tables g) (is_honest g) (is_within g) (can_return g) old;
      };
    })

-- ---- a connection is asked

-- what the tables of an open book with room are like
abbrev pub Holding : (Tables → Type 0) → Type 1
Holding fits = (s : State) (t : Tables) → IsOpenAt s t → HasNumbersLeft s.now → fits t

module _ {S : Type 0} (g : Ghosts S) (old seen : Kept S) (connection : Held S) (failures : ℕ)
    (is : old ≡ seen) (out : IsOutside g old) (settled : IsSettled g seen)
  where
    abbrev new : Kept S
    new = looked old connection failures

    pub asked : {T : Type 0} (answer : Result T Error) (result : Result T BookFault) →
        LooksOnly (state g old.connection) (state g connection) (is_ok answer)
        → IsTold answer result old.failures failures → (look : Tables → T)
        → (HasCleanDisk (state g connection) → (t : Tables)
        → Holds (state g old.connection).now t → HasPast t → IfOk answer (λ x. x ≡ look t))
        → (fits : Tables → Type 0)
        → FailsExcusedAt (IsOpenOver version) (state g old.connection) (state g connection) answer
        fits
        → Holding fits → Gives g seen new result (λ t x. x ≡ look t)
    asked answer result looks told look says fits fails fit = record {
      gives = record {
        value = value_of g old seen connection failures is answer result looks out settled told.same
            told.succeeds look says;
        looks = looks_of g old seen connection failures is answer result looks out settled
            told.succeeds told.rise;
        store = subst (λ (k : Kept S). CountsFault result k.failures failures) is told.store;
        blames = blames_of g old seen connection failures is answer result fits fails told.same
            told.fault fit;
        room = room_of g old seen connection failures is answer looks out settled;
      };
      within = within_of g old seen connection failures is answer result looks out settled told.same
          told.succeeds look says;
    }

    -- a visitor is shown the rows
    pub walked : {Row V : Type 0} (sees : V → Row → Bool → V → Type 0) (rows : Tables → List Row)
        (before after : V) (answer : Result (Unit {0}) Error) (result : Result (Unit {0}) BookFault) →
        LooksOnly (state g old.connection) (state g connection) (is_ok answer)
        → IsTold answer result old.failures failures
        → (HasCleanDisk (state g connection) → (t : Tables)
        → Holds (state g old.connection).now t → HasPast t
        → OnOk answer (SawAll sees (rows t) before after))
        → (HasCleanDisk (state g connection) → (t : Tables)
        → Holds (state g old.connection).now t → HasPast t
        → OnErr answer (SawSome sees (rows t) before after))
        → SawRows sees before after (is_ok answer)
        → (fits : Tables → Type 0)
        → FailsExcusedAt (IsOpenOver version) (state g old.connection) (state g connection) answer
        fits
        → Holding fits
        → WalksBy (tables g) (is_honest g) (is_open g) (may_leave g) (leaves_books g)
        (λ (k : Kept S). k.failures) (store_faults g) (has_room g) seen new result sees
        (rows (tables g seen)) before after
    walked sees rows before after answer result looks told seen_all seen_some shown fits fails fit =
        record {
          seen = λ clean o. relay_ok _ answer result told.succeeds
              (seen_all clean (tables g seen) (held_by g old seen is o) o.opened.past);
          begun = λ clean o. relay_err _ answer result told.succeeds
              (seen_some clean (tables g seen) (held_by g old seen is o) o.opened.past);
          shown = subst (SawRows sees before after) (sym told.succeeds) shown;
          looks = looks_of g old seen connection failures is answer result looks out settled
              told.succeeds told.rise;
          store = subst (λ (k : Kept S). CountsFault result k.failures failures) is told.store;
          blames = blames_of g old seen connection failures is answer result fits fails told.same
              told.fault fit;
          room = room_of g old seen connection failures is answer looks out settled;
        }

-- ---- one look-up after another

module _ {S : Type 0} (g : Ghosts S) where
  -- one that succeeded, and what was looked up then
  pub and_then : {X Y : Type 0} {a b c : Kept S} {x : X} {P : X → Type 0}
      {result : Result Y BookFault} (Q : Tables → Y → Type 0) → Found {T = X} g a b (Ok x) P →
      Gives g b c result Q → Found g a c result (λ y. P x × Q (tables g a) y)
  and_then Q first second = record {
    gives = gives_then (tables g) (is_honest g) (is_open g) (may_leave g) (leaves_books g)
        (λ (k : Kept S). k.failures) (store_faults g) (has_room g) Q first.gives second.gives;
    within = gives_within_then (tables g) (is_honest g) (is_within g) (can_return g) Q
        second.gives.looks.was_honest first.within second.within;
  }

  -- what was found is put together
  pub put_together : {X Y : Type 0} {a b : Kept S} {x : X} (y : Y) {P : X → Type 0}
      {Q : Y → Type 0} → Found {T = X} g a b (Ok x) P → (P x → Q y) → Found {T = Y} g a b (Ok y) Q
  put_together y said made = record {
    gives = record {
      value = λ o. made (said.gives.value o);
      looks = said.gives.looks;
      store = said.gives.store;
      blames = λ clean o room. tt;
      room = said.gives.room;
    };
    within = record {
      value = λ began faults w. made (said.within.value began faults w);
      looks = said.within.looks;
    };
  }

  -- what was said in other words
  pub in_other_words : {T : Type 0} {a b : Kept S} {result : Result T BookFault} {P Q : T → Type 0}
      → ((x : T) → P x → Q x) → Found g a b result P → Found g a b result Q
  in_other_words {result = result} {P = P} {Q = Q} weaker said = record {
    gives = gives_as (tables g) (is_honest g) (is_open g) (may_leave g) (leaves_books g)
        (λ (k : Kept S). k.failures) (store_faults g) (has_room g) said.gives
        (IfOk-weaker result P Q weaker);
    within = gives_within_as (tables g) (is_honest g) (is_within g) (can_return g) said.within
        (IfOk-weaker result P Q weaker);
  }

  -- a fault that is passed on
  found_fault : {X Y : Type 0} {a b : Kept S} (fault : BookFault) {P : X → Type 0}
      (Q : Y → Type 0) → Found {T = X} g a b (Err fault) P → Found {T = Y} g a b (Err fault) Q
  found_fault fault Q said = record {
    gives = gives_fault (tables g) (is_honest g) (is_open g) (may_leave g) (leaves_books g)
        (λ (k : Kept S). k.failures) (store_faults g) (has_room g) fault Q said.gives;
    within = gives_within_fault (tables g) (is_honest g) (is_within g) (can_return g) fault Q
        said.within;
  }

  -- the first failed, and its fault is passed on
  pub passed_on : {X Y : Type 0} {a b : Kept S} (fault : BookFault) {P : X → Type 0}
      {Q : Y → Type 0} (result : Result Y BookFault) →
      IsErr result × IsErrAnd result (λ f. f ≡ fault) → Found {T = X} g a b (Err fault) P →
      Found g a b result Q
  passed_on fault (Ok y) is said = absurd (true≢false (sym is.0))
  passed_on {X} {Y} {a} {b} fault {Q = Q} (Err f) is said =
      subst (λ (e : BookFault). Found {T = Y} g a b (Err e) Q) (sym is.1)
      (found_fault fault Q said)

  -- a later one failed
  pub failed_with : {X Y Z : Type 0} {a b c : Kept S} {x : X} {P : X → Type 0}
      (fault : BookFault) {Q : Y → Type 0} {R : Z → Type 0} → Found {T = X} g a b (Ok x) P →
      Found {T = Y} g b c (Err fault) Q → Found {T = Z} g a c (Err fault) R
  failed_with fault {Q = Q} {R = R} first second =
      found_fault fault R (and_then (λ t y. Q y) first second)

  -- and its fault is passed on
  pub failed_then : {X Y Z : Type 0} {a b c : Kept S} {x : X} {P : X → Type 0}
      (fault : BookFault) {Q : Y → Type 0} {R : Z → Type 0} (result : Result Z BookFault) →
      IsErr result × IsErrAnd result (λ f. f ≡ fault) → Found {T = X} g a b (Ok x) P →
      Found {T = Y} g b c (Err fault) Q → Found g a c result R
  failed_then fault {Q = Q} result is first second =
      passed_on fault result is (and_then (λ t y. Q y) first second)
