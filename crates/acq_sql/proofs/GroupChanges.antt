-- Changes within a group, one after another.
use Rattle.std.proofs.Common.{◌≡◌, ℕ, refl, sym, ap, subst, ◌∙◌, arith, true≢false}
use Rattle.std.proofs.Common.{Result, Ok, Err, IsErr, is_ok}
use Rattle.std.specs.Result.{IsErrAnd}
use Rattle.sqlite_trees.specs.declared.store.Store.{Ghosts}
use Rattle.acq_core.specs.Tables.{Tables}
use Rattle.acq_book.specs.declared.book_fault.BookFault.{BookFault}
use Rattle.acq_book.specs.declared.book_fault.BookFault.TheVariants.{Memory, Store}
use Rattle.acq_book.specs.Groups.{MakesWithinBy}
use Rattle.acq_book.specs.Promise.{CountsFault}
use Rattle.acq_book.proofs.Chains.{counts_more}
use Rattle.acq_sql.specs.Holding.{ChangesGroup}
use Rattle.acq_sql.specs.Kept.{Kept}
use Rattle.acq_sql.specs.Laws.{returnable}
use Rattle.acq_sql.specs.Opened.{tables, is_honest, is_within, can_return, may_leave}
use Rattle.acq_sql.specs.Opened.{leaves_books}

-- it suits the tables, and the later one those that it leads to
abbrev Both : (Tables → Type 0) → (Tables → Tables) → (Tables → Type 0) → Tables → Type 0
Both suits made later t = suits t × later (made t)

-- so it is wherever a group is begun
abbrev Fit : {S : Type 0} → Ghosts S → Kept S → (Tables → Type 0) → Type 0
Fit g a suits = (began : Tables) (n : ℕ) → is_within g a began n → suits (tables g a)

module _ {S X T : Type 0} (g : Ghosts S) (a b c : Kept S) {suits later : Tables → Type 0}
    {made changed : Tables → Tables} where
  -- one that succeeded, and another
  pub changes_then : {x : X} {result : Result T BookFault} → ChangesGroup g a b (Ok x) suits made
      → ChangesGroup g b c result later changed
      → ChangesGroup g a c result (Both suits made later) (λ t. changed (made t))
  changes_then {x} {result} first second = record {
    within = λ fits. record {
      stays = λ began n s h w.
          (next fits began n h w).stays began n s h (between fits began n h w);
      made = λ began n s h w.
          (next fits began n h w).made began n s h (between fits began n h w)
          ∙ ap changed (between_is fits began n h w);
      breaks = λ began n s h w.
          (next fits began n h w).breaks began n s h (between fits began n h w);
      leaves = λ began n h w t l. (once fits).leaves began n (second.was_honest h) w t
          ((next fits began n h w).leaves began n h (between fits began n h w) t l);
      books = λ began n h w l. (next fits began n h w).books began n h (between fits began n h w)
          ((once fits).books began n (second.was_honest h) w l);
    };
    was_honest = λ h. first.was_honest (second.was_honest h);
    rise = omega (arith, first.rise, second.rise);
    counts = omega (arith, first.counts, second.counts);
    store = counts_more result c.failures first.store second.store;
  }
    where
      once : Fit g a (Both suits made later)
          → MakesWithinBy (tables g) (is_honest g) (is_within g) (can_return g) (may_leave g)
          (leaves_books g) a b (is_ok {T = X} {E = BookFault} (Ok x)) (made (tables g a))
      once fits = first.within (λ began n w. (fits began n w).0)

      between : Fit g a (Both suits made later) → (began : Tables) (n : ℕ) → is_honest g c
          → is_within g a began n
          → is_within g b began n
      between fits began n h w = (once fits).stays began n refl (second.was_honest h) w

      between_is : Fit g a (Both suits made later) → (began : Tables) (n : ℕ) → is_honest g c
          → is_within g a began n
          → tables g b ≡ made (tables g a)
      between_is fits began n h w = (once fits).made began n refl (second.was_honest h) w

      next : Fit g a (Both suits made later) → (began : Tables) (n : ℕ) → is_honest g c
          → is_within g a began n
          → MakesWithinBy (tables g) (is_honest g) (is_within g) (can_return g) (may_leave g)
          (leaves_books g) b c (is_ok result) (changed (tables g b))
      next fits began n h w = second.within
          (λ _ _ _. subst later (sym (between_is fits began n h w)) (fits began n w).1)

-- one that failed
pub changes_fault : {S X T : Type 0} (g : Ghosts S) (a b : Kept S) {suits : Tables → Type 0}
    (later : Tables → Type 0) {made : Tables → Tables} (changed : Tables → Tables)
    {fault : BookFault} → ChangesGroup {T = X} g a b (Err fault) suits made
    → (result : Result T BookFault) → IsErr result × IsErrAnd result (λ f. f ≡ fault)
    → ChangesGroup g a b result (Both suits made later) (λ t. changed (made t))
changes_fault g a b later changed first (Ok x) is = absurd (true≢false (sym is.0))
changes_fault {X = X} {T = T} g a b {suits} later {made} changed {fault} first (Err f) is =
    subst (λ e. ChangesGroup {T = T} g a b (Err e) (Both suits made later) (λ t. changed (made t)))
    (sym is.1)
    (record {
      within = λ fits.
          let makes = first.within (λ began n w. (fits began n w).0) in
          record {
            stays = λ began n s h w. absurd (true≢false (sym s));
            made = λ began n s h w. absurd (true≢false (sym s));
            breaks = makes.breaks;
            leaves = makes.leaves;
            books = makes.books;
          };
      was_honest = first.was_honest;
      rise = first.rise;
      counts = first.counts;
      store = counted fault first.store;
    })
  where
    counted : (f : BookFault) → CountsFault {T = X} (Err f) a.failures b.failures
        → CountsFault {T = T} (Err f) a.failures b.failures
    counted Memory is = is
    counted Store is = is

module _ {S T : Type 0} (g : Ghosts S) (a b : Kept S) {suits early : Tables → Type 0}
    {made changed : Tables → Tables} where
  -- of fewer tables, which are said in other words
  pub changes_as : (result : Result T BookFault) → ((t : Tables) → early t → suits t)
      → ((t : Tables) → early t → made t ≡ changed t) → ChangesGroup g a b result suits made
      → ChangesGroup g a b result early changed
  changes_as result for same said = record {
    within = λ fits.
        let makes = said.within (λ began n w. for (tables g a) (fits began n w)) in
        record {
          stays = makes.stays;
          made = λ began n s h w.
              makes.made began n s h w ∙ same (tables g a) (fits began n w);
          breaks = makes.breaks;
          leaves = makes.leaves;
          books = makes.books;
        };
    was_honest = said.was_honest;
    rise = said.rise;
    counts = said.counts;
    store = said.store;
  }

-- memory ran out before anything was written
pub changes_nothing : {S T : Type 0} (g : Ghosts S) (a : Kept S) (suits : Tables → Type 0)
    (changed : Tables → Tables) (result : Result T BookFault)
    → IsErr result × IsErrAnd result (λ f. f ≡ Memory) → ChangesGroup g a a result suits changed
changes_nothing g a suits changed (Ok x) is = absurd (true≢false (sym is.0))
changes_nothing {T = T} g a suits changed (Err f) is =
    subst (λ e. ChangesGroup {T = T} g a a (Err e) suits changed) (sym is.1) (record {
      within = λ fits. record {
        stays = λ began n s h w. absurd (true≢false (sym s));
        made = λ began n s h w. absurd (true≢false (sym s));
        breaks = λ began n s h w. returnable w;
        leaves = λ began n h w t l. l;
        books = λ began n h w l. l;
      };
      was_honest = λ h. h;
      rise = omega arith;
      counts = omega arith;
      store = refl;
    })
