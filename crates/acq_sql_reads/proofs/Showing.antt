-- A query whose rows are handed over one at a time: what a visitor has seen so far, and what is
-- left of the connection.
use Rattle.std.proofs.Common.{◌+◌, ◌-◌, ◌^◌, ◌<◌, ◌≤◌, length}
use Rattle.std.proofs.Common.{◌≡◌, ◌⊎◌, ◌++◌, Bool, inl, inr, true, false, true≢false, ℕ, List, []}
use Rattle.std.proofs.Common.{◌∷◌}
use Rattle.std.proofs.Common.{IsErr, IsTrue, Ok, OnOk}
use Rattle.std.proofs.Common.{refl, sym, subst, ◌∙◌, arith, Result, Err, OnErr}
use Rattle.std.specs.List.{AllByRecursion}
use Rattle.std.proofs.lemmas.List.{length-append}
use Rattle.sqlite_trees.specs.declared.error.StoreError.{StoreError}
use Rattle.sqlite_trees.specs.declared.error.StoreError.TheVariants.{OutOfMemory, Io, Corrupt}
use Rattle.sqlite_trees.specs.declared.error.StoreError.TheVariants.{Full, Broken, Unstorable}
use Rattle.sqlite_trees.specs.declared.store.Store.{Ghosts}
use Rattle.sqlite_value.specs.Order.{Row}
use Rattle.sqlite.specs.Listing.{understood, reads_listing, IsSourceOf}
use Rattle.sqlite.specs.State.{State, HasCleanDisk, IsUnchanged, Shown, Begins, ShowsRows, Survives}
use Rattle.sqlite.specs.State.{CommitsShowing, FailsToQuery, FailsToShow, HasCause}
use Rattle.sqlite.specs.State.{Fails, IsNoStatement, IsNotRun, IsRolledBack, IsStatement}
use Rattle.sqlite_resolve.specs.declared.compiled.Compiled.{Compiled}
use Rattle.sqlite.specs.Clock.{timed}
use Rattle.sqlite.specs.Effect.{Database, RefusesToRead}
use Rattle.sqlite.specs.Given.{FailsToAdvance, IsPlain, HasGiven, HasBegun}
use Rattle.sqlite.specs.Held.{Held, state}
use Rattle.sqlite.specs.declared.error.Error.{Error}
use Rattle.sqlite.proofs.Callers.{given_begin, begun_plain, unchanged_then}
use Rattle.sqlite.proofs.StateLemmas.{survives_weaker, survives_then}
use Rattle.acq_sql_reads.specs.Looked.{LooksOnly}
use Rattle.row_lemmas.specs.Selects.{IsSelect}
use Rattle.acq_sql_reads.proofs.Leaves.{bare, commits_nothing, rolled_back}
use Rattle.acq_book.specs.Visits.{Saw}
use Rattle.acq_sql_reads.specs.Shown.{AreFirst, AreRead, SawFirst, SawEach, SawUpTo, ShowsOnly}
use Rattle.acq_sql_reads.proofs.Visiting.{read_more, saw_more}

pub unchanged_itself : (s : State) → IsTrue s.is_open → IsUnchanged s s
unchanged_itself s opened = (
  record { was_open = opened; is_open = opened; now_is = refl; committed_is = refl; mode = refl },
  record { changes = refl; last_rowid = refl },
  refl,
)

-- ---- an answer is that of the state before, where nothing has changed since

module _ (sql : List ℕ) (params : Row) (old mid : State) (same : IsUnchanged old mid)
    (rows : List Row) where
  statement_since : (c : Compiled) → IsStatement mid sql params c → IsStatement old sql params c
  statement_since c it =
      record {
        is = subst (λ (d : Database). understood d.schema sql ≡ Ok c) same.0.now_is it.is;
        whole = it.whole;
        given = it.given;
        now = it.now;
      }

  begins_since : Begins sql params mid rows → Begins sql params old rows
  unfolding Begins statement_since
  begins_since h = (
    h.0,
    statement_since h.0 h.1,
    h.2,
    h.3,
    subst (λ (d : Database). IsSourceOf (reads_listing d.schema sql) d h.3) same.0.now_is h.4,
    h.5,
  )

  shown_since : (new : State) → IsSelect sql → Shown sql params mid new rows
      → Shown sql params old old rows
  unfolding Shown statement_since
  shown_since new plain h =
      let it = statement_since h.0 h.1 in
      let none = (bare sql params old old plain h.0 it.is).0 in
      let full = timed params h.0.formats h.1.now in
      let shows = subst (ShowsRows mid new sql h.0 full rows) none h.2 in
      let still : IsUnchanged old old = unchanged_itself old same.0.was_open in (
        h.0,
        it,
        subst (ShowsRows old old sql h.0 full rows) (sym none) (
          shows.0,
          subst (λ (d : Database). IsSourceOf (reads_listing d.schema sql) d shows.0) same.0.now_is
              shows.1,
          shows.2,
          still,
        ),
      )

-- ---- so is a failure

module _ (sql : List ℕ) (params : Row) (old mid new : State) (same : IsUnchanged old mid)
    (query : IsSelect sql) where
  no_statement_since : (e : Error) → IsNoStatement mid sql params e → IsNoStatement old sql params e
  no_statement_since e (inl (fault, is, told)) =
      inl (
        fault,
        subst (λ (d : Database). understood d.schema sql ≡ Err fault) same.0.now_is is,
        told,
      )
  no_statement_since e (inr (c, is, why)) =
      inr (c, subst (λ (d : Database). understood d.schema sql ≡ Ok c) same.0.now_is is, why)

  module _ (up : old.faults ≤ mid.faults) (limit : mid.step_limit ≡ old.step_limit) where
    cause_since : (cause : StoreError) → HasCause mid new ⊥ cause → HasCause old new ⊥ cause
    cause_since OutOfMemory why = tt
    cause_since Io why = omega (arith, up, why)
    cause_since Corrupt why = omega (arith, up, why)
    cause_since Full why = omega (arith, up, why)
    cause_since Broken why = absurd (true≢false (sym same.0.is_open ∙ why))
    cause_since Unstorable why = absurd why

    pub fails_since : (e : Error) → FailsToQuery sql params mid new e
        → FailsToQuery sql params old new e
    unfolding FailsToQuery IsNotRun statement_since
    fails_since e (inl (inl (none, still))) =
        inl (inl (no_statement_since e none, unchanged_then old mid new same still))
    fails_since e (inl (inr (cause, is, why, back, tells))) =
        inl (inr (cause, is, cause_since cause why, rolled_back old mid new same back, tells))
    fails_since e (inr (c, was, shows)) =
        let it = statement_since sql params old mid same [] c was in
        let none = (bare sql params old new query c it.is).0 in
        let full = timed params c.formats was.now in
        let h = subst (FailsToShow mid new sql c full e) none shows in
        inr (
          c,
          it,
          subst (FailsToShow old new sql c full e) (sym none) (
            h.0,
            subst (λ (d : Database). IsSourceOf (reads_listing d.schema sql) d h.0) same.0.now_is
                h.1,
            subst (λ l. RefusesToRead l c.command h.0 full e) limit h.2,
            unchanged_then old mid new same h.3,
          ),
        )

-- ---- the rows so far

all_last : (P : Row → Type 0) (rows : List Row) (row : Row)
    → AllByRecursion P (rows ++ row ∷ []) → P row
all_last P [] row all = all.0
all_last P (r ∷ rows) row all = all_last P rows row all.1

module _ {S T V : Type 0} (g : Ghosts S) (sql : List ℕ) (params : Row) (first : Held S)
    (shows : Row → T → Type 0) (sees : V → T → Bool → V → Type 0) (v : V) where
  -- the query has given so many rows, which were read and seen, and nothing has changed
  pub record HasShown (h : Held S) (many : ℕ) (w : V) : Type 0 where
    pub rows : List Row
    pub xs : List T
    pub given : HasGiven g sql params h rows
    pub read : AreRead shows rows xs
    pub saw : Saw sees xs v w
    pub same : IsUnchanged (state g first) (state g h)
    pub counted : length rows ≡ many

  -- a query that began has given no row yet
  begun_bare : (h : Held S) → IsSelect sql → HasBegun g sql params first h
      → HasGiven g sql params h [] × IsUnchanged (state g first) (state g h)
  unfolding Shown
  begun_bare h query (inl begun) = begun
  begun_bare h query (inr begun) =
      let c = begun.1.0 in
      let is = begun.1.1.is in
      let here = bare sql params (state g first) (state g h) query c is in
      begun_plain g sql params first h (subst IsPlain (sym is) here) (inr begun)

  pub shown_none : (h : Held S) → IsSelect sql → HasBegun g sql params first h → HasShown h 0 v
  shown_none h plain begun =
      let it = begun_bare h plain begun in
      record {
        rows = [];
        xs = [];
        given = it.0;
        read = tt;
        saw = refl;
        same = it.1;
        counted = refl;
      }

  -- so it is while nothing has failed
  pub record IsShowing (h : Held S) (many : ℕ) (w : V) : Type 0 where
    pub kept : Survives (state g first) (state g h) (CommitsShowing sql params (state g first))
    pub settled : first.in_transaction ≡ false → h.in_transaction ≡ false
    pub shown : HasCleanDisk (state g h) → IsSelect sql → HasShown h many w

module _ {S T V : Type 0} {g : Ghosts S} {sql : List ℕ} {params : Row} {first : Held S}
    {shows : Row → T → Type 0} {sees : V → T → Bool → V → Type 0} {v u : V} {h : Held S} {many : ℕ}
    (so_far : HasShown g sql params first shows sees v h many u) where
  pub shown_each : (next : Held S) → IsSelect sql
      → Shown sql params (state g h) (state g next) so_far.rows →
      SawEach sql params (state g first) shows sees v u
  shown_each next plain shown = (
    so_far.rows,
    so_far.xs,
    shown_since sql params (state g first) (state g h) so_far.same so_far.rows
        (state g next) plain shown,
    so_far.read,
    so_far.saw,
  )

  pub shown_first : SawFirst sql params (state g first) shows sees v u
  shown_first =
      let begun = given_begin g sql params h so_far.rows so_far.given in (
        so_far.rows,
        so_far.xs,
        inr (
          so_far.same.0.was_open,
          begins_since sql params (state g first) (state g h) so_far.same so_far.rows begun,
        ),
        so_far.read,
        so_far.saw,
      )

  -- the rows so far begin the answer
  pub begins_so_far : AreFirst sql params (state g first) so_far.rows
  begins_so_far =
      inr (
        so_far.same.0.was_open,
        begins_since sql params (state g first) (state g h) so_far.same so_far.rows
            (given_begin g sql params h so_far.rows so_far.given),
      )

  -- so few begin it
  pub shown_few : {fits : Row → Type 0} → ShowsOnly sql params (state g first) fits
      → many < 2 ^ 64 - 1
  shown_few only =
      subst (λ n. n < 2 ^ 64 - 1) so_far.counted (only so_far.rows begins_so_far).1

  -- one more that was given is one of them
  pub shown_fits : {fits : Row → Type 0} (next : Held S)
      → IsUnchanged (state g h) (state g next) → (row : Row)
      → HasGiven g sql params next (so_far.rows ++ row ∷ [])
      → ShowsOnly sql params (state g first) fits → fits row
  shown_fits {fits} next last row given only =
      let same = unchanged_then (state g first) (state g h) (state g next) so_far.same last in
      let rows = so_far.rows ++ row ∷ [] in
      all_last fits so_far.rows row
      (only rows (inr (
        same.0.was_open,
        begins_since sql params (state g first) (state g next) same rows
            (given_begin g sql params next rows given),
      ))).0

  module _ (next : Held S) (w : V) (last : IsUnchanged (state g h) (state g next)) (row : Row)
      (x : T)
      (given : HasGiven g sql params next (so_far.rows ++ row ∷ [])) (is : shows row x) where
    rows : List Row
    rows = so_far.rows ++ row ∷ []

    same : IsUnchanged (state g first) (state g next)
    same = unchanged_then (state g first) (state g h) (state g next) so_far.same last

    pub shown_more : sees u x true w → HasShown g sql params first shows sees v next (many + 1) w
    unfolding rows
    shown_more seen =
        record {
          rows = rows;
          xs = so_far.xs ++ x ∷ [];
          given = given;
          read = read_more shows so_far.rows so_far.xs row x so_far.read is;
          saw = saw_more sees so_far.xs x v u w so_far.saw seen;
          same = same;
          counted = omega (arith, length-append so_far.rows (row ∷ []), so_far.counted);
        }

    pub shown_to_last : sees u x false w → SawUpTo sql params (state g first) shows sees v w
    unfolding rows
    shown_to_last seen =
        let begun = given_begin g sql params next rows given in (
          rows,
          so_far.xs,
          x,
          inr (
            same.0.was_open,
            begins_since sql params (state g first)
                (state g next) same rows begun,
          ),
          read_more shows so_far.rows so_far.xs row x so_far.read is,
          (u, so_far.saw, seen),
        )

pub on_err : {T E X : Type 0} (r : Result T E) → X → OnErr r X
on_err (Ok x) is = tt
on_err (Err e) is = is

-- nothing is said of a success where there was none
pub none_from_err : {T E : Type 0} (X : Type 0) (r : Result T E) → IsErr r → OnOk r X
none_from_err X (Ok x) is = absurd (true≢false (sym is))
none_from_err X (Err e) is = tt

-- ---- what is left

module _ (sql : List ℕ) (params : Row) (old new : State) (query : IsSelect sql)
    (survives : Survives old new (CommitsShowing sql params old))
    (settled : old.in_transaction ≡ false → new.in_transaction ≡ false) where
  -- where it succeeded nothing has changed, and where it failed at most the transaction is rolled
  -- back
  pub looks_from : (succeeded : Bool)
      → (HasCleanDisk new → IsUnchanged old new ⊎ ((succeeded ≡ false) × IsRolledBack old new))
      → LooksOnly old new succeeded
  looks_from succeeded left =
      record {
        same = λ clean is. elim (left clean) [
          | inl same ↦ same
          | inr failed ↦ absurd (true≢false (sym is ∙ failed.0))
        ];
        undone = λ clean opened. elim
            (left clean) [ inl same ↦ inl same | inr failed ↦ inr failed.1 ];
        settled = settled;
        stop = survives_weaker old new _ _ (λ _ db. commits_nothing sql params old new query db)
            survives;
      }

module _ {S T V : Type 0} {g : Ghosts S} {sql : List ℕ} {params : Row} {first : Held S}
    {shows : Row → T → Type 0} {sees : V → T → Bool → V → Type 0} {v u : V} {h : Held S} {many : ℕ}
    (showing : IsShowing g sql params first shows sees v h many u) where
  -- before the next row
  pub looks_still : IsSelect sql → (succeeded : Bool)
      → LooksOnly (state g first) (state g h) succeeded
  looks_still plain succeeded =
      looks_from sql params (state g first) (state g h) plain showing.kept showing.settled succeeded
      (λ clean. inl (showing.shown clean plain).same)

  module _ (next : Held S) (moved : Survives (state g h) (state g next) (λ _. ⊥))
      (mode : h.in_transaction ≡ false → next.in_transaction ≡ false) where
    pub settled_on : first.in_transaction ≡ false → next.in_transaction ≡ false
    settled_on out = mode (showing.settled out)

    pub kept_on : Survives (state g first) (state g next)
        (CommitsShowing sql params (state g first))
    kept_on =
        survives_then (state g first) (state g h) (state g next) _ _
        (CommitsShowing sql params (state g first))
        (λ _ db made. made) (λ _ db none. absurd none) showing.kept moved

    -- what was shown before the next row
    pub shown_before : HasCleanDisk (state g next) → IsSelect sql
        → HasShown g sql params first shows sees v h many u
    shown_before clean plain = showing.shown (omega (arith, moved.clean, clean)) plain

    -- after it
    pub looks_on : IsSelect sql → (succeeded : Bool)
        → (HasCleanDisk (state g next) → IsUnchanged (state g h) (state g next))
        → LooksOnly (state g first) (state g next) succeeded
    looks_on plain succeeded last =
        looks_from sql params (state g first) (state g next) plain kept_on settled_on succeeded
        (λ clean.
        inl (unchanged_then (state g first) (state g h) (state g next)
        (shown_before clean plain).same (last clean)))

    -- why the store didn't give it
    pub fails_on : IsSelect sql → (e : Error) → HasCleanDisk (state g next)
        → FailsToAdvance g h next e → FailsToQuery sql params (state g first) (state g next) e
    fails_on plain e clean last =
        let was = shown_before clean plain in
        fails_since sql params (state g first) (state g h) (state g next) was.same plain
        showing.kept.counts showing.kept.limit e (last sql params was.rows was.given)

    -- where the store didn't give it
    pub looks_failed : IsSelect sql → (e : Error)
        → (HasCleanDisk (state g next) →
        Fails (state g h) (state g next) ⊥ e ⊎ IsUnchanged (state g h) (state g next))
        → LooksOnly (state g first) (state g next) false
    looks_failed plain e last =
        looks_from sql params (state g first) (state g next) plain kept_on settled_on false
        (λ clean.
        let same = (shown_before clean plain).same in
        elim (last clean) [
          | inl fails ↦ inr
              (refl, rolled_back (state g first) (state g h) (state g next) same fails.3)
          | inr still ↦ inl (unchanged_then (state g first) (state g h) (state g next) same still)
        ])
