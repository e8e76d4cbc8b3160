-- CREATE INDEX over a known schema: what it makes.
use Rattle.std.proofs.Common.{◌≡◌, ℕ, List, [], ◌∷◌, Option, Some, None, Ok, Err, Result, OnOk}
use Rattle.std.proofs.Common.{slice_get}
use Rattle.std.proofs.Common.{refl, sym, ap, subst, ◌∙◌}
use Rattle.std.specs.List.{AllByRecursion}
use Rattle.sqlite_trees.specs.Tree.{Trees}
use Rattle.sqlite_schema.specs.declared.schema.Index.{Index}
use Rattle.sqlite_schema.specs.declared.schema.Table.{Table}
use Rattle.sqlite_schema.specs.declared.schema.Schema.{Schema}
use Rattle.sqlite_schema.specs.declared.command.Command.TheVariants.{CreateIndex}
use Rattle.sqlite_catalog.specs.Change.{indexed, KeepsRows}
use Rattle.sqlite.specs.declared.error.Error.{Error}
use Rattle.sqlite.specs.Effect.{Database}
use Rattle.sqlite.specs.Does.{Tally, AtPlace, Defines, MakesIndex}
use Rattle.sqlite.specs.State.{State, Writes, mode_of, Executes}
use Rattle.sqlite.proofs.Callers.{runs_as}
use Rattle.row_lemmas.specs.Created.{Indexes, IsIndexed, IsBlank}
use Rattle.row_lemmas.proofs.StatementEffects.{went, same_value}

pub index_made : (schema : Schema) (sql : List ℕ) (at : ℕ) (table : Table) (index : Index) →
    Indexes schema sql at table index → (old new : State) (r : Result ℕ Error) →
    old.now.schema ≡ schema → Executes sql [] old new r →
    OnOk r (IsIndexed schema table index old new)
index_made schema sql at table index makes old new (Err e) has h = tt
index_made schema sql at table index makes old new (Ok count) has h =
    let ran = runs_as sql [] old new schema has (CreateIndex at) makes.command makes.plain count h
    in
    let w = subst (λ t. Writes old new None (CreateIndex at) t [] count) makes.statement ran in
    let here : slice_get old.now.schema.tables at ≡ Some table =
    ap (λ (s : Schema). slice_get s.tables at) has ∙ makes.placed in
    let On : Option Table → Type 0 =
    λ found. AtPlace (λ t. Defines (mode_of old) (MakesIndex sql old.now t)) found
    (Ok (w.tally, new.now)) in
    let all = went (subst On here w.changed) in
    let made = all.1 in
    let both : Ok made.index ≡ Ok index = sym made.defined ∙ makes.index_is in
    let same : made.index ≡ index = cc in
    let now : new.now ≡ all.0 = ap (λ (p : Tally × Database). p.1) (same_value all.2) in
    let is : all.0.schema ≡ indexed schema table index =
    made.is ∙ ap (λ s. indexed s table made.index) has ∙ ap (indexed schema table) same in
    let rows = subst (λ (s : Schema). KeepsRows s.tables old.now.trees all.0.trees) has made.rows
    in
    record {
      schema_is = ap (λ (d : Database). d.schema) now ∙ is;
      rows = subst (λ (d : Database). KeepsRows schema.tables old.now.trees d.trees) (sym now) rows;
    }

blank_kept : (tables : List Table) (old next : Trees) → KeepsRows tables old next
    → AllByRecursion (λ t. old t.tree ≡ []) tables → AllByRecursion (λ t. next t.tree ≡ []) tables
blank_kept [] old next keeps blank = tt
blank_kept (t ∷ tables) old next keeps blank =
    (keeps.0 ∙ blank.0, blank_kept tables old next keeps.1 blank.1)

-- an index more, and still no rows
pub blank_indexed : (schema : Schema) (table : Table) (index : Index) (old new : State) →
    IsBlank schema old.now → IsIndexed schema table index old new →
    IsBlank (indexed schema table index) new.now
blank_indexed schema table index old new blank made =
    record {
      schema_is = made.schema_is;
      blank = blank_kept schema.tables old.now.trees new.now.trees made.rows blank.blank;
    }
