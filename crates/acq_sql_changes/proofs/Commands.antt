-- What BEGIN, COMMIT and ROLLBACK do to a connection, over any schema.
use Rattle.std.proofs.Common.{◌≡◌, inl, inr, ℕ, false, true, true≢false, List, [], Option}
use Rattle.std.proofs.Common.{None, Ok, Err, IsTrue, refl, sym, ap, subst, ◌∙◌, arith}
use Rattle.sqlite_value.specs.Order.{Row}
use Rattle.sqlite_trees.specs.Tree.{Trees}
use Rattle.sqlite_schema.specs.declared.command.Command.{Command}
use Rattle.sqlite_schema.specs.declared.command.Command.TheVariants.{Begin, Commit, Rollback}
use Rattle.sqlite_resolve.specs.declared.compiled.Compiled.{Compiled}
use Rattle.sqlite.specs.declared.error.Error.{Error}
use Rattle.sqlite.specs.declared.run.Mode.{Mode}
use Rattle.sqlite.specs.Calls.{IsWrite}
use Rattle.sqlite.specs.Clock.{timed}
use Rattle.sqlite.specs.Does.{Does}
use Rattle.sqlite.specs.Effect.{Database, is_query}
use Rattle.sqlite.specs.Listing.{understood}
use Rattle.sqlite.specs.State.{State, CommitsBy, Executes, ExecutesIn, IsMisplaced, IsNoStatement}
use Rattle.sqlite.specs.State.{IsNotRun, IsRolledBack, MayCommit, RunsCommand, Shows, is_pragma}
use Rattle.sqlite.specs.State.{mode_of, shows_rows, text_of}
use Rattle.sqlite.proofs.Callers.{IsPlain, command_of, runs_as}
use Rattle.row_lemmas.specs.Excused.{IsExcused}
use Rattle.row_lemmas.proofs.StatementFailures.{excused, excused_only, names_of, tail_of}
use Rattle.acq_sql_rows.specs.Texts as text
use Rattle.acq_sql_rows.proofs.TextLemmas.{IsCommand, begin_is, commit_is, rollback_is}

-- it looks nothing up, and writes no row
record IsBare (command : Command) : Type 0 where
  query : is_query command ≡ false
  pragma : is_pragma command ≡ false
  idle : ¬ IsWrite command
  small : (limit : Option ℕ) (mode : Mode) (params : Row) (db : Database) (text : List ℕ)
      → ¬ Does limit mode params db text None command (Err None)

begin_bare : IsBare Begin
begin_bare =
    record {
      query = refl;
      pragma = refl;
      idle = λ h. h;
      small = λ limit mode params db text h. cc;
    }

commit_bare : IsBare Commit
commit_bare =
    record {
      query = refl;
      pragma = refl;
      idle = λ h. h;
      small = λ limit mode params db text h. cc;
    }

rollback_bare : IsBare Rollback
rollback_bare =
    record {
      query = refl;
      pragma = refl;
      idle = λ h. h;
      small = λ limit mode params db text h. cc;
    }

module _ (old new : State) (sql : List ℕ) (command : Command)
    (it : IsCommand old.now.schema sql command) where
  its : (c : Compiled) → understood old.now.schema sql ≡ Ok c
      → (c.command ≡ command) × (c.returning ≡ None)
  its c is = (ap command_of (sym is) ∙ it.is, (subst IsPlain is it.plain).0)

  is_statement : (e : Error) → ¬ IsNoStatement old sql [] e
  is_statement e (inl (fault, bad, named)) = subst IsPlain bad it.plain
  is_statement e (inr (c, good, inl (long, named))) =
      let same = sym it.whole ∙ ap tail_of good in long (omega (arith, same))
  is_statement e (inr (c, good, inr (inl (many, named)))) =
      many (sym it.given ∙ ap names_of good)
  is_statement e (inr (c, good, inr (inr (times, named)))) = times (subst IsPlain good it.plain).1

  -- where it may stand it fails only since the transaction is broken off
  broken_off : IsBare command → ((e : Error) → ¬ IsMisplaced old command e) → (e : Error)
      → Executes sql [] old new (Err e)
      → IsRolledBack old new × (IsTrue old.is_open → IsExcused old new e)
  unfolding ExecutesIn IsNotRun
  broken_off bare placed e (inl (inl (idle, kept))) = absurd (is_statement e idle)
  broken_off bare placed e (inl (inr fails)) =
      (fails.3, λ opened. excused_only old new e opened fails)
  broken_off bare placed e (inr (c, s, alone)) =
      let same = its c s.is in
      let shown : shows_rows false c ≡ false = rw (same.0, same.1, bare.query, bare.pragma) refl in
      go c same.0 same.1 (timed [] c.formats s.now) (rw shown at alone)
    where
      go : (c : Compiled) → c.command ≡ command → c.returning ≡ None → (params : Row)
          → RunsCommand old new sql c params (Err e)
          → IsRolledBack old new × (IsTrue old.is_open → IsExcused old new e)
      go c same none params (inl (inl out, kept)) =
          absurd (placed e (subst (λ k. IsMisplaced old k e) same out))
      go c same none params (inl (inr does, kept)) = absurd (elim does.0 [
        | inl write ↦ bare.idle (subst IsWrite same write)
        | inr some ↦ true≢false (sym (rw none at some))
      ])
      go c same none params (inr fails) = (
        fails.3,
        λ opened. elim (excused old new _ e opened fails) [
          | inl why ↦ why
          | inr big ↦ absurd (bare.small old.step_limit (mode_of old) params old.now (text_of sql c)
              (rw (same, none) at big))
        ],
      )

module _ (old new : State) where
  -- ---- BEGIN

  pub begun : (count : ℕ) → Executes text.begin_text [] old new (Ok count)
      → Shows old new old.now old.committed true
  begun count h =
      let it = begin_is old.now.schema in
      (runs_as text.begin_text [] old new old.now.schema refl Begin it.is it.plain count h).1

  -- in a transaction there's none to begin
  begin_placed : old.in_transaction ≡ false → (e : Error) → ¬ IsMisplaced old Begin e
  begin_placed out e (inl (is, inl (so, inside))) = true≢false (sym inside ∙ out)
  begin_placed out e (inl (is, inr (inl so, inside))) = cc
  begin_placed out e (inl (is, inr (inr so, inside))) = cc
  begin_placed out e (inr (is, name, inl so, un)) = cc
  begin_placed out e (inr (is, name, inr so, un)) = cc

  pub not_begun : old.in_transaction ≡ false → (e : Error)
      → Executes text.begin_text [] old new (Err e)
      → IsRolledBack old new × (IsTrue old.is_open → IsExcused old new e)
  not_begun out =
      broken_off old new text.begin_text Begin (begin_is old.now.schema) begin_bare
      (begin_placed out)

  pub begin_commits : (db : Trees) → CommitsBy text.begin_text [] old db → ⊥
  unfolding CommitsBy
  begin_commits db (c, s, may) =
      let same = its old new text.begin_text Begin (begin_is old.now.schema) c s.is in
      done (timed [] c.formats s.now) (rw (same.1, same.0) at may)
    where
      done : (params : Row) → MayCommit old None Begin (text_of text.begin_text c) params db → ⊥
      done params (inl (inl commit, at)) = cc
      done params (inl (inr (name, at, release, newest, found), there)) = cc
      done params (inr (out, tally, after, does, sound, is, spares)) = cc

  -- ---- COMMIT

  pub committed : (count : ℕ) → Executes text.commit_text [] old new (Ok count)
      → Shows old new old.now old.now false
  committed count h =
      let it = commit_is old.now.schema in
      (runs_as text.commit_text [] old new old.now.schema refl Commit it.is it.plain count h).1

  commit_placed : old.in_transaction ≡ true → (e : Error) → ¬ IsMisplaced old Commit e
  commit_placed inside e (inl (is, inl (so, tx))) = cc
  commit_placed inside e (inl (is, inr (inl so, out))) = true≢false (sym inside ∙ out)
  commit_placed inside e (inl (is, inr (inr so, out))) = true≢false (sym inside ∙ out)
  commit_placed inside e (inr (is, name, inl so, un)) = cc
  commit_placed inside e (inr (is, name, inr so, un)) = cc

  -- one that fails in a transaction rolls back
  pub not_committed : old.in_transaction ≡ true → (e : Error)
      → Executes text.commit_text [] old new (Err e)
      → IsRolledBack old new × (IsTrue old.is_open → IsExcused old new e)
  not_committed inside =
      broken_off old new text.commit_text Commit (commit_is old.now.schema) commit_bare
      (commit_placed inside)

  pub commit_commits : (db : Trees) → CommitsBy text.commit_text [] old db → db ≡ old.now.trees
  unfolding CommitsBy
  commit_commits db (c, s, may) =
      let same = its old new text.commit_text Commit (commit_is old.now.schema) c s.is in
      done (timed [] c.formats s.now) (rw (same.1, same.0) at may)
    where
      done : (params : Row) → MayCommit old None Commit (text_of text.commit_text c) params db
          → db ≡ old.now.trees
      done params (inl shown) = shown.1
      done params (inr (out, tally, after, does, sound, is, spares)) = absurd cc

  -- ---- ROLLBACK

  rollback_placed : old.in_transaction ≡ true → (e : Error) → ¬ IsMisplaced old Rollback e
  rollback_placed inside e (inl (is, inl (so, tx))) = cc
  rollback_placed inside e (inl (is, inr (inl so, out))) = true≢false (sym inside ∙ out)
  rollback_placed inside e (inl (is, inr (inr so, out))) = true≢false (sym inside ∙ out)
  rollback_placed inside e (inr (is, name, inl so, un)) = cc
  rollback_placed inside e (inr (is, name, inr so, un)) = cc

  pub undone : (count : ℕ) → Executes text.rollback_text [] old new (Ok count)
      → IsRolledBack old new
  undone count h =
      let it = rollback_is old.now.schema in
      (runs_as text.rollback_text [] old new old.now.schema refl Rollback it.is it.plain count h).1

  -- so does one that fails in a transaction
  pub not_undone : old.in_transaction ≡ true → (e : Error)
      → Executes text.rollback_text [] old new (Err e) → IsRolledBack old new
  not_undone inside e h =
      (broken_off old new text.rollback_text Rollback (rollback_is old.now.schema) rollback_bare
      (rollback_placed inside) e h).0

  pub rollback_commits : (db : Trees) → CommitsBy text.rollback_text [] old db → ⊥
  unfolding CommitsBy
  rollback_commits db (c, s, may) =
      let same = its old new text.rollback_text Rollback (rollback_is old.now.schema) c s.is in
      done (timed [] c.formats s.now) (rw (same.1, same.0) at may)
    where
      done : (params : Row) → MayCommit old None Rollback (text_of text.rollback_text c) params db
          → ⊥
      done params (inl (inl commit, at)) = cc
      done params (inl (inr (name, at, release, newest, found), there)) = cc
      done params (inr (out, tally, after, does, sound, is, spares)) = cc
