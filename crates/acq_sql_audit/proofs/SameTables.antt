-- A database with the rows of one that holds tables holds them, too.
use Rattle.std.proofs.Common.{◌∙◌, [], ◌∷◌, Option, Some, None, sym, subst}
use Rattle.sqlite_trees.specs.Tree.{IsTable}
use Rattle.sqlite_catalog.specs.Listing.{IsSound}
use Rattle.sqlite.specs.Effect.{Database, IsDatabase}
use Rattle.row_lemmas.proofs.NumberedRows.{numbered_shaped}
use Rattle.acq_core.specs.Tables.{Tables}
use Rattle.acq_sql_rows.specs.Relation.{Holds}
use Rattle.acq_sql_rows.specs.Rows.{book_row}
use Rattle.acq_sql_rows.specs.Schema.{IsBookSchema}
use Rattle.acq_sql_writes.proofs.RangeWrites.{ranges_shaped}
use Rattle.acq_sql_audit.specs.Audited.{Audits}
use Rattle.acq_sql_audit.specs.Compared.{AreInOrder, HaveSameRows, IsComparable}
use Rattle.acq_sql_audit.specs.Differences.{IsFirstDifference}
use Rattle.acq_sql_audit.specs.declared.difference.Difference.{Difference}
use Rattle.acq_sql_audit.specs.declared.table.Table.TheVariants.{Book, Merchants, Terminals}
use Rattle.acq_sql_audit.specs.declared.table.Table.TheVariants.{Ranges, Requests, Postings}
use Rattle.acq_sql_audit.specs.declared.table.Table.TheVariants.{Reconciliations, Running}
use Rattle.acq_sql_audit.proofs.WholeRows.{same_trees}

module _ (db : Database) (t : Tables) (holds : Holds db t) where
  in_order : AreInOrder db.trees
  in_order Book = subst IsTable (sym holds.rows.book)
      (numbered_shaped 1 (book_row t.limit t.day ∷ [])).0
  in_order Merchants = subst IsTable (sym holds.rows.merchants) (numbered_shaped 1 _).0
  in_order Terminals = subst IsTable (sym holds.rows.terminals) (numbered_shaped 1 _).0
  in_order Ranges =
      subst IsTable (sym holds.rows.ranges) (ranges_shaped t.ranges holds.rows.rising).0
  in_order Requests = subst IsTable (sym holds.rows.requests) (numbered_shaped 1 _).0
  in_order Postings = subst IsTable (sym holds.rows.postings) (numbered_shaped 1 _).0
  in_order Reconciliations =
      subst IsTable (sym holds.rows.reconciliations) (numbered_shaped 1 _).0
  in_order Running = subst IsTable (sym holds.rows.running) (numbered_shaped 1 _).0

  pub is_comparable : IsComparable db
  is_comparable = record { schema = holds.rows.schema; in_order = in_order }

  is_sound : IsDatabase db
  is_sound = subst (λ s. IsSound s db.trees) (sym holds.rows.schema.1) holds.rows.sound

  -- so do those rows in another database with a book's tables
  pub holds_too : (file : Database) → IsBookSchema file.schema → IsDatabase file
      → HaveSameRows file.trees db.trees → Holds file t
  holds_too file has sound same =
      let h = holds.rows in
      let is = same_trees file db has h.schema sound is_sound same in
      record {
        runs = holds.runs;
        rows = record {
          schema = has;
          sound = subst (λ s. IsSound s file.trees) has.1 sound;
          book = is Book ∙ h.book;
          merchants = is Merchants ∙ h.merchants;
          terminals = is Terminals ∙ h.terminals;
          ranges = is Ranges ∙ h.ranges;
          rising = h.rising;
          requests = is Requests ∙ h.requests;
          recorded = h.recorded;
          postings = is Postings ∙ h.postings;
          reconciliations = is Reconciliations ∙ h.reconciliations;
          running = is Running ∙ h.running;
          apart = h.apart;
        };
        tallied = holds.tallied;
        short = holds.short;
      }

-- what a comparison with a database that holds tables says of a file
pub audits : (file made : Database) (t : Tables) (d : Option Difference)
    → IsBookSchema file.schema → IsDatabase file → Holds made t
    → IsFirstDifference file.trees made.trees d → Audits file t d
audits file made t None has sound holds same = holds_too made t holds file has sound same
audits file made t (Some d) has sound holds first = (made, holds, first)
