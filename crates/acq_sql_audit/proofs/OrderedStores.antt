-- A store that has not failed lists each table of a book in order of rowid.
use Rattle.std.proofs.Common.{◌≡◌, Bool, true, false, Result, Ok, Err, IfOk, IsTrue, refl, subst}
use Rattle.std.specs.List.{AllByRecursion}
use Rattle.sqlite_trees.specs.Objects.{IsListed, catalog_tree}
use Rattle.sqlite_trees.specs.View.{IsOrdered, IsShaped, View}
use Rattle.sqlite_trees.specs.declared.store.Shape.TheVariants as shape
use Rattle.sqlite_schema.specs.declared.schema.Schema.{Schema}
use Rattle.sqlite_catalog.specs.Listing.{IsSound}
use Rattle.sqlite_catalog.proofs.LayoutLemmas.{laid_out, objects_rise}
use Rattle.acq_sql_rows.specs.declared.form.Form.{Form}
use Rattle.acq_sql_rows.specs.Schema.{IsBookSchema, book_schema}
use Rattle.acq_sql_audit.specs.Compared.{AreInOrder}
use Rattle.acq_sql_audit.specs.declared.table.Table.TheVariants.{Book, Merchants, Terminals}
use Rattle.acq_sql_audit.specs.declared.table.Table.TheVariants.{Ranges, Requests, Postings}
use Rattle.acq_sql_audit.specs.declared.table.Table.TheVariants.{Reconciliations, Running}

module _ (v : View) (ordered : IsOrdered v.shape v.trees) where
  in_order_by : (form : Form)
      → AllByRecursion (λ t. v.shape t.tree ≡ shape.Table) (book_schema form).tables
      → AreInOrder v.trees
  unfolding book_schema
  in_order_by form all Book = (subst (λ s. IsShaped s (v.trees 0)) all.0 (ordered 0)).0
  in_order_by form all Merchants = (subst (λ s. IsShaped s (v.trees 1)) all.1.0 (ordered 1)).0
  in_order_by form all Terminals = (subst (λ s. IsShaped s (v.trees 3)) all.1.1.0 (ordered 3)).0
  in_order_by form all Ranges = (subst (λ s. IsShaped s (v.trees 5)) all.1.1.1.0 (ordered 5)).0
  in_order_by form all Requests =
      (subst (λ s. IsShaped s (v.trees 6)) all.1.1.1.1.0 (ordered 6)).0
  in_order_by form all Postings =
      (subst (λ s. IsShaped s (v.trees 8)) all.1.1.1.1.1.0 (ordered 8)).0
  in_order_by form all Reconciliations =
      (subst (λ s. IsShaped s (v.trees 10)) all.1.1.1.1.1.1.0 (ordered 10)).0
  in_order_by form all Running =
      (subst (λ s. IsShaped s (v.trees 12)) all.1.1.1.1.1.1.1.0 (ordered 12)).0

  pub stores_in_order : (schema : Schema) → IsBookSchema schema → IsSound schema v.trees
      → IsListed (v.trees catalog_tree) v.shape v.reals → AreInOrder v.trees
  stores_in_order schema has sound listed =
      let laid = laid_out listed (objects_rise v listed ordered) sound.lists.listed in
      in_order_by has.0 (subst (λ (s : Schema).
      AllByRecursion (λ t. v.shape t.tree ≡ shape.Table) s.tables) has.1 laid.tables)

-- a store that is not broken is not shut
pub open_unless : (is_open is_broken : Bool) → (is_open ≡ false → IsTrue is_broken)
    → is_broken ≡ false → IsTrue is_open
open_unless true is_broken shut sound = refl
open_unless false true shut sound = absurd (cc)
open_unless false false shut sound = shut refl

-- what is said of a success
pub if_found : {D E : Type 0} (P : D → Type 0) (failed : Bool) (found result : Result D E)
    → IfOk result (λ d. failed ≡ false) → IfOk result (λ d. found ≡ Ok d)
    → (failed ≡ false → (d : D) → found ≡ Ok d → P d) → IfOk result P
if_found P failed found (Ok d) sound is says = says sound d is
if_found P failed found (Err e) sound is says = tt
