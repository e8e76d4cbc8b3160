-- Tables that were compared, one after the other, over two connections that are only looked at.
use Rattle.std.proofs.Common.{◌≡◌, ◌⊎◌, ◌<◌, ◌≤◌, ◌+◌, ◌-◌, ◌++◌, inl, inr, ℕ, zero, suc}
use Rattle.std.proofs.Common.{Bool, true, List, [], ◌∷◌, take, slice_get, slice_index_or, Option}
use Rattle.std.proofs.Common.{Some, None, refl, sym, ap, subst, subst₂, arith}
use Rattle.std.proofs.lemmas.List.{take_all}
use Rattle.std.proofs.lemmas.Option.{slice_get-get_or}
use Rattle.sqlite_value.specs.Order.{Row}
use Rattle.sqlite.specs.Effect.{Database}
use Rattle.std.specs.List.{AllByRecursion}
use Rattle.sqlite_trees.specs.declared.store.Store.{Ghosts}
use Rattle.sqlite_trees.specs.Tree.{Trees}
use Rattle.sqlite.specs.Held.{Held, state}
use Rattle.sqlite.specs.State.{HasCleanDisk}
use Rattle.acq_sql_reads.specs.Looked.{LooksOnly}
use Rattle.acq_sql_reads.proofs.Leaves.{looks_then}
use Rattle.acq_sql_audit.specs.Answered.{Tells}
use Rattle.acq_sql_audit.specs.Compared.{HaveSameRows, IsComparable, all_tables, rows_in}
use Rattle.acq_sql_audit.specs.Differences.{DifferSo, IsFirstDifference, IsSame, StandsAt}
use Rattle.acq_sql_audit.specs.declared.difference.Difference.{Difference}
use Rattle.acq_sql_audit.specs.declared.how.How.{How}
use Rattle.acq_sql_audit.specs.declared.how.How.TheVariants.{Column, Missing, Surplus}
use Rattle.acq_sql_audit.specs.declared.table.Table.{Table}
use Rattle.acq_sql_audit.specs.declared.table.Table.TheVariants.{Book, Merchants, Terminals}
use Rattle.acq_sql_audit.specs.declared.table.Table.TheVariants.{Ranges, Requests, Postings}
use Rattle.acq_sql_audit.specs.declared.table.Table.TheVariants.{Reconciliations, Running}
use Rattle.acq_sql_audit.proofs.Tables.{same_told, difference_told}

-- ---- looks, one after the other

module _ {S : Type 0} (g : Ghosts S) (old : Held S) where
  -- after so many look-ups that succeeded
  abbrev pub Since : Held S → ℕ → Type 0
  Since h many = ((many ≡ 0) × (h ≡ old)) ⊎ LooksOnly (state g old) (state g h) true

  pub looked_on : (h new : Held S) (many : ℕ) → Since h many → (succeeded : Bool)
      → LooksOnly (state g h) (state g new) succeeded
      → LooksOnly (state g old) (state g new) succeeded
  looked_on h new many (inl none) succeeded looks =
      subst (λ s. LooksOnly (state g s) (state g new) succeeded) none.1 looks
  looked_on h new many (inr first) succeeded looks =
      looks_then (state g old) (state g h) (state g new) first succeeded looks

  pub now_since : (h : Held S) (many : ℕ) → Since h many → HasCleanDisk (state g h)
      → (state g h).now ≡ (state g old).now
  now_since h many (inl none) clean = ap (λ s. (state g s).now) none.1
  now_since h many (inr looks) clean = (looks.same clean refl).0.now_is

-- ---- what was found so far

all_more : {X : Type 0} (P : X → Type 0) (n : ℕ) (xs : List X) (x : X) → slice_get xs n ≡ Some x
    → AllByRecursion P (take n xs) → P x → AllByRecursion P (take (suc n) xs)
all_more P n [] x is all here = absurd (cc)
all_more P zero (y ∷ xs) x is all here = let e : y ≡ x = cc in (subst P (sym e) here, tt)
all_more P (suc n) (y ∷ xs) x is all here = (all.0, all_more P n xs x is all.1 here)

split_at : {X : Type 0} (n : ℕ) (xs : List X) (x : X) → slice_get xs n ≡ Some x
    → (later : List X) × (xs ≡ take n xs ++ x ∷ later)
split_at n [] x is = absurd (cc)
split_at zero (y ∷ xs) x is = let e : y ≡ x = cc in (xs, ap (λ z. z ∷ xs) e)
split_at (suc n) (y ∷ xs) x is =
    let it = split_at n xs x is in (it.0, ap (λ l. y ∷ l) it.1)

module _ {S M : Type 0} (g : Ghosts S) (k : Ghosts M) (file : Held S) (made : Held M) where
  -- these tables have the same rows
  pub record HasCompared (theirs : Held S) (ours : Held M) (many : ℕ) (tables : List Table)
      : Type 0 where
    pub looks : Since g file theirs many
    pub looked : Since k made ours many
    pub same : HasCleanDisk (state g theirs) → HasCleanDisk (state k ours)
        → IsComparable (state g file).now → IsComparable (state k made).now
        → AllByRecursion (IsSame (state g file).now.trees (state k made).now.trees) tables

  pub compared_none : HasCompared file made 0 []
  compared_none =
      record { looks = inl (refl, refl); looked = inl (refl, refl); same = λ c d p q. tt }

module _ {S M : Type 0} {g : Ghosts S} {k : Ghosts M} {file theirs : Held S} {made ours : Held M}
    {many : ℕ} (so_far : HasCompared g k file made theirs ours many (take many all_tables))
    (table : Table) (is : slice_get all_tables many ≡ Some table) (next : Held S) (after : Held M)
    (result : Option Difference)
    (tells : HasCleanDisk (state g next) → HasCleanDisk (state k after)
    → Tells table (state g theirs) (state k ours) result)
    (looks : LooksOnly (state g theirs) (state g next) true)
    (looked : LooksOnly (state k ours) (state k after) true) where
  was_clean : HasCleanDisk (state g next) → HasCleanDisk (state g theirs)
  was_clean clean = omega (arith, looks.stop.clean, clean)

  was_pure : HasCleanDisk (state k after) → HasCleanDisk (state k ours)
  was_pure pure = omega (arith, looked.stop.clean, pure)

  module _ (clean : HasCleanDisk (state g next)) (pure : HasCleanDisk (state k after))
      (fits : IsComparable (state g file).now) (suits : IsComparable (state k made).now) where
    theirs_now : (state g theirs).now ≡ (state g file).now
    theirs_now = now_since g file theirs many so_far.looks (was_clean clean)

    ours_now : (state k ours).now ≡ (state k made).now
    ours_now = now_since k made ours many so_far.looked (was_pure pure)

    fit : IsComparable (state g theirs).now
    fit = subst IsComparable (sym theirs_now) fits

    suit : IsComparable (state k ours).now
    suit = subst IsComparable (sym ours_now) suits

    is_same : result ≡ None → IsSame (state g file).now.trees (state k made).now.trees table
    is_same none =
        subst₂ (λ (d e : Database). IsSame d.trees e.trees table) theirs_now ours_now
        (same_told table (state g theirs) (state k ours) fit.schema suit.schema
        (fit.in_order table) (suit.in_order table) (rw none at (tells clean pure)))

    found_at : (d : Difference) → result ≡ Some d
        → (d.table ≡ table) × StandsAt (state g file).now.trees (state k made).now.trees d
    found_at d some =
        let it = difference_told table (state g theirs) (state k ours) fit.schema suit.schema
        (fit.in_order table) (suit.in_order table) d (rw some at (tells clean pure)) in (
          it.0,
          subst₂ (λ (e f : Database). StandsAt e.trees f.trees d) theirs_now ours_now it.1,
        )

  pub compared_more : result ≡ None
      → HasCompared g k file made next after (many + 1) (take (many + 1) all_tables)
  compared_more none =
      let more : suc many ≡ many + 1 = omega arith in
      record {
        looks = inr (looked_on g file theirs next many so_far.looks true looks);
        looked = inr (looked_on k made ours after many so_far.looked true looked);
        same = λ clean pure fits suits.
            let P = IsSame (state g file).now.trees (state k made).now.trees in
            subst (λ n. AllByRecursion P (take n all_tables)) more
            (all_more P many all_tables table is
            (so_far.same (was_clean clean) (was_pure pure) fits suits)
            (is_same clean pure fits suits none));
      }

  pub first_found : (d : Difference) → result ≡ Some d → HasCleanDisk (state g next)
      → HasCleanDisk (state k after) → IsComparable (state g file).now
      → IsComparable (state k made).now
      → IsFirstDifference (state g file).now.trees (state k made).now.trees (Some d)
  first_found d some clean pure fits suits =
      let it = found_at clean pure fits suits d some in
      let split = split_at many all_tables table is in (
        take many all_tables,
        split.0,
        subst (λ t. all_tables ≡ take many all_tables ++ t ∷ split.0) (sym it.0) split.1,
        so_far.same (was_clean clean) (was_pure pure) fits suits,
        it.1,
      )

-- ---- all of them

each_same : (a b : Trees) → AllByRecursion (IsSame a b) all_tables → HaveSameRows a b
each_same a b all Book = all.0
each_same a b all Merchants = all.1.0
each_same a b all Terminals = all.1.1.0
each_same a b all Ranges = all.1.1.1.0
each_same a b all Requests = all.1.1.1.1.0
each_same a b all Postings = all.1.1.1.1.1.0
each_same a b all Reconciliations = all.1.1.1.1.1.1.0
each_same a b all Running = all.1.1.1.1.1.1.1.0

pub placed : (many : ℕ) → many < 8
    → slice_get all_tables many ≡ Some (slice_index_or all_tables many Book)
placed many low = slice_get-get_or all_tables many Book low

module _ {S M : Type 0} {g : Ghosts S} {k : Ghosts M} {file theirs : Held S} {made ours : Held M}
    {many : ℕ} (so_far : HasCompared g k file made theirs ours many (take many all_tables))
    (over : 8 ≤ many) where
  pub all_same : HasCleanDisk (state g theirs) → HasCleanDisk (state k ours)
      → IsComparable (state g file).now → IsComparable (state k made).now
      → HaveSameRows (state g file).now.trees (state k made).now.trees
  all_same clean pure fits suits =
      let P = IsSame (state g file).now.trees (state k made).now.trees in
      each_same (state g file).now.trees (state k made).now.trees
      (subst (AllByRecursion P) (take_all many all_tables over)
      (so_far.same clean pure fits suits))

  pub looks_all : LooksOnly (state g file) (state g theirs) true
  looks_all = elim so_far.looks [ inl none ↦ absurd (omega (arith, none.0)) | inr looks ↦ looks ]

  pub looked_all : LooksOnly (state k made) (state k ours) true
  looked_all = elim so_far.looked [ inl none ↦ absurd (omega (arith, none.0)) | inr looks ↦ looks ]

-- ---- a row differs from no row that is the same

never_so : (table : Table) (how : How) (x : Option Row) → DifferSo table how x x → ⊥
never_so table Missing None so = so
never_so table Missing (Some r) so = so
never_so table Surplus None so = so
never_so table Surplus (Some r) so = so
never_so table (Column name) None so = so
never_so table (Column name) (Some r) so = so.3 refl

pub never_same : (file made : Trees) (d : Difference) → StandsAt file made d
    → HaveSameRows file made → ⊥
never_same file made d stands same =
    never_so d.table d.how (slice_get (rows_in d.table made) (d.row - 1))
    (subst (λ l. DifferSo d.table d.how (slice_get l (d.row - 1))
    (slice_get (rows_in d.table made) (d.row - 1))) (same d.table) stands.differs)

pub not_none : {X P : Type 0} (x : X) → Some x ≡ None → P
not_none x is = absurd (cc)
