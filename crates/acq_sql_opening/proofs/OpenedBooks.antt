-- What a connection that was just opened holds.
use Rattle.std.proofs.Common.{◌≡◌, ℕ, sym, ap, subst}
use Rattle.sqlite_disk.specs.declared.Disk.{Ghosts}
use Rattle.sqlite_wal.specs.Recovery.{Image}
use Rattle.sqlite_trees.specs.Tree.{Trees}
use Rattle.sqlite_store.specs.declared.store.FileStore.{FileStore}
use Rattle.sqlite.specs.Effect.{Database}
use Rattle.sqlite.specs.Held.{Held}
use Rattle.sqlite.specs.Files.{file_state, IsOpened, HoldsDatabase}
use Rattle.sqlite.specs.Start.{FindsIn}
use Rattle.sqlite.specs.State.{State, Opens, IsLive}
use Rattle.row_lemmas.proofs.OpenedStores.{one_schema}
use Rattle.acq_core.specs.Tables.{Tables}
use Rattle.acq_sql_rows.specs.Schema.{book_schema}
use Rattle.acq_sql_rows.specs.Relation.{HoldsOf}
use Rattle.acq_sql_rows.specs.Standing.{IsAtOf, HoldsAfterOf}

-- the trees that the last commit left tell the schema, and the rows the tables
pub opened_at : {number : ℕ} (s : State) (t : Tables) → Opens s → IsLive s
    → HoldsAfterOf number t s.committed.trees → IsAtOf number s t
opened_at {number} s t opens live (form, left) =
    let same : s.now.trees ≡ s.committed.trees = ap (λ (d : Database). d.trees) opens.clean in
    let known : book_schema form ≡ book_schema left.rows.schema.0 = left.rows.schema.1 in
    let schema_is : s.now.schema ≡ book_schema form =
    one_schema (book_schema form) s.now (live opens.is_open).0
    (rw (same, known) left.rows.sound) in
    let now_is : ◌≡◌ {A = Database}
    (record { schema = book_schema form; trees = s.committed.trees }) s.now =
    λ i. record { schema = sym schema_is i; trees = sym same i } in
    record {
      is_open = opens.is_open;
      settled = opens.autocommit;
      same = opens.clean;
      holds = subst (λ d. HoldsOf number d t) now_is left;
    }

-- the same over files that hold such trees
pub opened_over : {number : ℕ} {D : Type 0} {g : Ghosts D} (image : Image)
    (c : Held (FileStore D g)) (trees : Trees) (t : Tables)
    → IsOpened c → FindsIn image (file_state c) → HoldsDatabase image trees
    → HoldsAfterOf number t trees → IsAtOf number (file_state c) t
opened_over {number} image c trees t opened found holds left =
    opened_at (file_state c) t opened.0 opened.1
    (subst (HoldsAfterOf number t) (sym (found.holds trees holds)) left)
