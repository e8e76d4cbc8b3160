-- A new book that has taken events is at the tables after them.
use Rattle.std.proofs.Common.{◌≡◌, ◌∙◌, List, sym, ap, subst}
use Rattle.sqlite_trees.specs.declared.store.Store.{Ghosts}
use Rattle.sqlite.specs.Held.{Held, state}
use Rattle.sqlite.specs.State.{HasCleanDisk}
use Rattle.acq_core.specs.Tables.{Opening, new_tables, tables_after}
use Rattle.acq_core.specs.declared.event.Event.{Event}
use Rattle.acq_sql_rows.proofs.TablesReadBack.{tables_of-holds}
use Rattle.acq_sql.specs.Kept.{IsFresh, Kept}
use Rattle.acq_sql.specs.Opened.{IsOpenAt, is_honest, is_open, tables}
use Rattle.acq_sql.proofs.BookMakes.{nothing_wrong}

module _ {S : Type 0} (g : Ghosts S) (first after : Kept S) (opening : Opening)
    (events : List Event)
    (new : is_honest g first → IsOpenAt (state g first.connection) (new_tables opening))
    (fresh : IsFresh first) (was : is_honest g after → is_honest g first)
    (stays : is_honest g after → is_open g first → is_open g after)
    (led : is_honest g after → is_open g first
    → tables g after ≡ tables_after (tables g first) events) where
  begins : is_honest g first → tables g first ≡ new_tables opening
  begins honest = tables_of-holds (state g first.connection).now _ (new honest).at.holds

  opened : is_honest g first → is_open g first
  opened honest =
      record {
        opened = subst (IsOpenAt (state g first.connection)) (sym (begins honest)) (new honest);
        recalls = nothing_wrong fresh.0 (tables g first);
        outside = fresh.1;
      }

  ends_at : is_honest g after
      → IsOpenAt (state g after.connection) (tables_after (new_tables opening) events)
  ends_at honest =
      let before = was honest in
      subst (IsOpenAt (state g after.connection))
      (led honest (opened before) ∙ ap (λ t. tables_after t events) (begins before))
      (stays honest (opened before)).opened

  -- so is its connection
  pub ends_in : (h : Held S) → h ≡ after.connection → HasCleanDisk (state g h)
      → IsOpenAt (state g h) (tables_after (new_tables opening) events)
  ends_in h same clean =
      subst (λ k. IsOpenAt (state g k) (tables_after (new_tables opening) events)) (sym same)
      (ends_at (subst (λ k. HasCleanDisk (state g k)) same clean))
