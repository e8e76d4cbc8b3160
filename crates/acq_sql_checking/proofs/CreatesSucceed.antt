-- A statement that makes a table or an index of a book is not refused.
use Rattle.std.proofs.Common.{◌≡◌, inl, inr, ◌≤◌, ◌+◌, ◌^◌, ℕ, zero, suc, true}
use Rattle.std.proofs.Common.{List, [], ◌∷◌, length, codes, slice_get, Option, None, Some, Ok, Err}
use Rattle.std.proofs.Common.{IsTrue, IsUtf8, refl, sym, ap, subst, ◌∙◌, arith, true≢false}
use Rattle.std.specs.List.{AllByRecursion}
use Rattle.std.specs.Str.{IsAscii}
use Rattle.std.proofs.lemmas.Bool.{and_parts, ltb-true}
use Rattle.std.proofs.lemmas.Str.{IsUtf8-from_ascii}
use Rattle.sqlite_value.specs.declared.value.Value.TheVariants.{Text}
use Rattle.sqlite_trees.specs.Tree.{Trees}
use Rattle.sqlite_trees.proofs.ListLemmas.{all-slice_get}
use Rattle.sqlite_schema.specs.declared.schema.Constraint.{Constraint}
use Rattle.sqlite_schema.specs.declared.schema.Constraint.TheVariants.{Unique}
use Rattle.sqlite_schema.specs.declared.schema.Index.{Index}
use Rattle.sqlite_schema.specs.declared.schema.Schema.{Schema}
use Rattle.sqlite_schema.specs.declared.schema.Table.{Table}
use Rattle.sqlite_schema.specs.declared.command.Command.{Command}
use Rattle.sqlite_schema.specs.declared.command.Command.TheVariants.{CreateTable, CreateIndex}
use Rattle.sqlite_schema.specs.Rules.{index_reals, passes}
use Rattle.sqlite_rules.specs.Lists.{Has}
use Rattle.sqlite_resolve.specs.Compile.{index_defined_by}
use Rattle.sqlite_catalog.specs.declared.error.Refusal as alter
use Rattle.sqlite_catalog.specs.declared.error.Refusal.TheVariants as why
use Rattle.sqlite_catalog.specs.Change.{indexed, is_used, is_reserved}
use Rattle.sqlite_catalog.specs.Calls.{RefusesIndex}
use Rattle.sqlite_catalog.specs.Listing.{is_fit}
use Rattle.sqlite.specs.declared.error.Error.{Error}
use Rattle.sqlite.specs.Does.{AtPlace, Defines, Does, MakesIndex}
use Rattle.sqlite.specs.Effect.{Database}
use Rattle.sqlite.specs.Listing.{understood}
use Rattle.sqlite.specs.State.{State, Escapes, EndsScope, Executes, ExecutesInside, mode_of}
use Rattle.sqlite.proofs.Callers.{command_of}
use Rattle.row_lemmas.specs.Created.{IsBlank, are_ascii}
use Rattle.row_lemmas.specs.Excused.{IsExcused}
use Rattle.row_lemmas.proofs.CreatedTables.{create_excused}
use Rattle.row_lemmas.proofs.ShortRows.{no_reals}
use Rattle.row_lemmas.proofs.StatementFailures.{IsSteady, excused_inside}
use Rattle.acq_sql_checking.specs.Made.{IsIndexAllowed, TakesTable, TakesIndex}

-- ---- a table

-- a statement that ends no transaction is executed in one as it is alone
alone : (sql : List ℕ) (old new : State) (command : Command)
    → command_of (understood old.now.schema sql) ≡ command → ¬ Escapes 0 old command
    → (e : Error) → ExecutesInside 0 sql [] old new (Err e) → Executes sql [] old new (Err e)
unfolding EndsScope
alone sql old new command is stays e (inl runs) = runs.0
alone sql old new command is stays e (inr (ends, named, same)) =
    absurd (stays (subst (Escapes 0 old) (ap command_of (sym ends.1.is) ∙ is) ends.2))

stays_create : (old : State) → ¬ Escapes 0 old CreateTable
stays_create old (inl (inl so)) = cc
stays_create old (inl (inr so)) = cc
stays_create old (inr (name, inl so, held)) = cc
stays_create old (inr (name, inr so, held)) = cc

pub table_excused : (sql : List ℕ) (old new : State) (schema : Schema) (table : Table)
    → TakesTable schema sql table → old.now.schema ≡ schema → IsTrue old.is_open
    → (e : Error) → ExecutesInside 0 sql [] old new (Err e) → IsExcused old new e
table_excused sql old new schema table takes has opened e h =
    create_excused sql old new schema table has takes.makes takes.allowed
    (omega (arith, takes.alone.whole)) (sym takes.alone.given) opened e
    (alone sql old new CreateTable
    (ap (λ s. command_of (understood s sql)) has ∙ takes.makes.command) (stays_create old) e h)

-- ---- an index of a table with no rows

small_bytes : (bs : List ℕ) → are_ascii bs ≡ true → IsAscii bs
small_bytes [] h i = omega arith
small_bytes (b ∷ bs) h zero = ltb-true b 128 (and_parts _ _ h).0
small_bytes (b ∷ bs) h (suc i) = small_bytes bs (and_parts _ _ h).1 i

utf8 : (bs : List ℕ) → are_ascii bs ≡ true → IsUtf8 bs
utf8 bs h = IsUtf8-from_ascii bs (small_bytes bs h)

-- where there are no rows, each of them passes
blank_keeps : (rule : Constraint) (schema : Schema) (db : Trees) (tables : List Table)
    → AllByRecursion (λ t. db t.tree ≡ []) tables
    → AllByRecursion (λ t. AllByRecursion (λ row. passes rule schema db t row ≡ true) (db t.tree))
    tables
blank_keeps rule schema db [] blank = tt
blank_keeps rule schema db (t ∷ tables) blank = (
  subst (AllByRecursion (λ row. passes rule schema db t row ≡ true)) (sym blank.0) tt,
  blank_keeps rule schema db tables blank.1,
)

module _ (schema : Schema) (sql : List ℕ) (table : Table) (index : Index)
    (allowed : IsIndexAllowed schema sql table index) where
  same_index : (i : Index) → index_defined_by table sql ≡ Ok i → i ≡ index
  same_index i is = let both : Ok i ≡ Ok index = sym is ∙ allowed.index_is in cc

  not_refused : (db : Trees) → AllByRecursion (λ t. db t.tree ≡ []) schema.tables
      → (reason : alter.Refusal) → ¬ RefusesIndex schema db table sql reason
  not_refused db blank (why.Invalid f) refuses =
      let both : Err f ≡ Ok index = sym refuses ∙ allowed.index_is in cc
  not_refused db blank why.NameTaken (i, defined, used) =
      true≢false (sym used ∙ ap (λ (x : Index). is_used schema x.name) (same_index i defined)
      ∙ allowed.unused)
  not_refused db blank why.BadName (i, defined, inl (inl bad)) =
      bad (subst (λ (x : Index). IsUtf8 x.name) (sym (same_index i defined))
      (utf8 index.name allowed.name))
  not_refused db blank why.BadName (i, defined, inl (inr (reserved, own))) =
      true≢false (sym reserved ∙ ap (λ (x : Index). is_reserved x.name) (same_index i defined)
      ∙ allowed.unreserved)
  not_refused db blank why.BadName (i, defined, inr bad) = bad (utf8 table.name allowed.owner)
  not_refused db blank why.TooBig (i, defined, inl big) = omega (arith, big, allowed.room)
  not_refused db blank why.TooBig (i, defined, inr (inl big)) =
      omega (arith, big, allowed.no_reals)
  not_refused db blank why.TooBig (i, defined, inr (inr big)) =
      let none = ap (λ n. index_reals n i.columns) allowed.no_reals ∙ no_reals i.columns in
      omega (arith, big, none)
  not_refused db blank why.BadKey none = none
  not_refused db blank why.BadText (i, defined, bad) =
      let fits = λ (x : Index). is_fit (Text (codes "index")) (Text x.name) (Text table.name)
      (Text sql) in
      true≢false (sym allowed.fit ∙ ap fits (sym (same_index i defined)) ∙ bad)
  not_refused db blank (why.Violates rule) (i, defined, is, broken) =
      broken (blank_keeps Unique (indexed schema table i) db schema.tables blank)

  makes_it : (db : Database) → IsBlank schema db → db.trees table.tree ≡ [] → (stop : Option Error)
      → ¬ MakesIndex sql db table (Err stop)
  makes_it db blank none None (i, defined, inl long) =
      let Long = λ (x : Index). 10 ^ 9 ≤ length x.name + length table.name + length sql + 200 in
      let big = subst Long (same_index i defined) long in
      omega (arith, big, allowed.short)
  makes_it db blank none None (i, defined, inr (row, listed, large)) =
      subst (λ rows. Has rows row) none listed
  makes_it db blank none (Some e) (inl (bad, is)) = bad (utf8 sql allowed.text)
  makes_it db blank none (Some e) (inr (reason, refuses, is)) =
      not_refused db.trees blank.blank reason
      (subst (λ s. RefusesIndex s db.trees table sql reason) blank.schema_is refuses)

steady_index : (old : State) (at : ℕ) → IsSteady old (CreateIndex at)
steady_index old at =
    record {
      query = refl;
      pragma = refl;
      placed =
          λ e h. elim h [
            | inl (is, inl (so, tx)) ↦ cc
            | inl (is, inr (inl so, tx)) ↦ cc
            | inl (is, inr (inr so, tx)) ↦ cc
            | inr (is, name, inl so, un) ↦ cc
            | inr (is, name, inr so, un) ↦ cc
          ];
      stays =
          λ h. elim h [
            | inl (inl so) ↦ cc
            | inl (inr so) ↦ cc
            | inr (name, inl so, held) ↦ cc
            | inr (name, inr so, held) ↦ cc
          ];
    }

module _ (sql : List ℕ) (old new : State) (schema : Schema) (at : ℕ) (table : Table)
    (index : Index) (takes : TakesIndex schema sql at table index) (blank : IsBlank schema old.now)
    (opened : IsTrue old.is_open) where
  -- the table has no rows
  bare : old.now.trees table.tree ≡ []
  bare =
      all-slice_get (λ (t : Table). old.now.trees t.tree ≡ []) schema.tables at table
      takes.makes.placed blank.blank

  stops : (stop : Option Error)
      → ¬ Defines (mode_of old) (MakesIndex sql old.now table) (Err stop)
  stops stop (inl (s, made, is)) =
      makes_it schema sql table index takes.allowed old.now blank bare s made
  stops stop (inr (after, made, gives)) = absurd (let e = gives in cc)

  never : (stop : Option Error)
      → ¬ Does old.step_limit (mode_of old) [] old.now sql None (CreateIndex at) (Err stop)
  never stop does =
      let here : slice_get old.now.schema.tables at ≡ Some table =
      ap (λ (s : Schema). slice_get s.tables at) blank.schema_is ∙ takes.makes.placed in
      let On : Option Table → Type 0 =
      λ found. AtPlace (λ t. Defines (mode_of old) (MakesIndex sql old.now t)) found (Err stop) in
      stops stop (subst On here does)

  pub index_excused : (e : Error) → ExecutesInside 0 sql [] old new (Err e) → IsExcused old new e
  index_excused =
      excused_inside sql [] old new schema blank.schema_is (CreateIndex at) takes.makes.command
      takes.makes.plain (omega (arith, takes.alone.whole)) (sym takes.alone.given) opened
      (steady_index old at)
      (λ (stop, does). never stop
      (subst (λ t. Does old.step_limit (mode_of old) [] old.now t None (CreateIndex at) (Err stop))
      takes.makes.statement does))
