-- What a statement that was executed in a transaction leaves.
use Rattle.std.proofs.Common.{◌≡◌, ◌⊎◌, inl, inr, ℕ, List, None, Ok, Err, Result, OnOk, OnErr}
use Rattle.std.proofs.Common.{IsTrue, true, false, true≢false, cond, sym, ap, subst, ◌∙◌}
use Rattle.std.proofs.lemmas.Bool.{cases_Bool}
use Rattle.sqlite_value.specs.Order.{Row}
use Rattle.sqlite_trees.specs.Tree.{Trees}
use Rattle.sqlite_schema.specs.declared.command.Command.{Command}
use Rattle.sqlite.specs.declared.error.Error.{Error}
use Rattle.sqlite.specs.Calls.{IsWrite}
use Rattle.sqlite.specs.Clock.{timed}
use Rattle.sqlite.specs.Effect.{Database}
use Rattle.sqlite.specs.Listing.{understood}
use Rattle.sqlite.specs.State.{State, HasCleanDisk, KeepsCommit, IsUnchanged, IsRolledBack, Shows}
use Rattle.sqlite.specs.State.{Runs, RunsCommand, IsNotRun, ExecutesIn, CommitsBy, Survives}
use Rattle.sqlite.specs.State.{shows_rows}
use Rattle.sqlite.specs.State as sqlite
use Rattle.sqlite.proofs.Callers.{runs_as, statement_of, command_of}
use Rattle.sqlite.proofs.StateLemmas.{survives_weaker}
use Rattle.acq_sql_rows.specs.declared.form.Form.{Form}
use Rattle.acq_sql_rows.specs.Schema.{IsBookSchema, book_schema}
use Rattle.acq_sql_rows.proofs.TextLemmas.{Means}
use Rattle.acq_sql_writes.specs.Written.{Executes, ExecutesInside, WritesInside, WritesGuarded}
use Rattle.acq_sql_writes.specs.Written.{CommitsNothing}

-- a statement that failed changed nothing, or ended its transaction
pub failed : (sql : List ℕ) (params : Row) (old new : State) (e : Error)
    → sqlite.Executes sql params old new (Err e) → IsUnchanged old new ⊎ IsRolledBack old new
unfolding ExecutesIn IsNotRun
failed sql params old new e (inl (inl idle)) = inl idle.1
failed sql params old new e (inl (inr fails)) = inr fails.3
failed sql params old new e (inr (c, it, ran)) =
    elim (cases_Bool (shows_rows false c)) [
      | inl shows ↦ inl (rw shows at ran).1
      | inr runs ↦ by (rw runs at ran)
    ]
  where
    by : RunsCommand old new sql c (timed params c.formats it.now) (Err e) →
        IsUnchanged old new ⊎ IsRolledBack old new
    by (inl refused) = inl refused.1
    by (inr fails) = inr fails.3

-- the command ran
pub record Ran (old new : State) (command : Command) (params : Row) : Type 0 where
  pub text : List ℕ
  pub count : ℕ
  pub ran : Runs old new None command text params count

-- it shows what it made, and where a transaction is open commits nothing of it
abbrev pub ShowsMade : State → State → Type 0
ShowsMade old new =
    Shows old new new.now (cond old.in_transaction old.committed new.now) old.in_transaction

-- in a transaction over the book's tables a write commits nothing
writes_inside : (old : State) (sql : List ℕ) (given : Row) (command : Command) → IsWrite command
    → ((form : Form) → Means form sql command) → (db : Trees) → IsBookSchema old.now.schema
    → IsTrue old.in_transaction
    → CommitsBy sql given old db → ⊥
unfolding CommitsBy
writes_inside old sql given command write means db has inside (c, it, may) =
    let same : c.command ≡ command =
    ap command_of (sym it.is ∙ ap (λ s. understood s sql) has.1) ∙ (means has.0).0 in
    let its : IsWrite c.command = subst IsWrite (sym same) write in
    elim may [
      | inl (inl commit, is) ↦ subst IsWrite commit its
      | inl (inr (name, at, release, newest, found), is) ↦ subst IsWrite release its
      | inr writes ↦ true≢false (sym inside ∙ writes.0)
    ]

module _ (old new : State) (res : Result (Unit {0}) Error) where
  -- a stop leaves what a statement of this text commits, with some parameters
  abbrev pub MayCommit : List ℕ → Type 0
  MayCommit sql = (given : Row) × Survives old new (CommitsBy sql given old)

  -- where the command ran over the book's tables
  abbrev IsLedBy : Command → Row → (Database → Database → Type 0) → Type 0
  IsLedBy command params Leads =
      (IsBookSchema old.now.schema → Ran old new command params) → Leads old.now new.now

  runs : (sql : List ℕ) (params : Row) (command : Command)
      → ((form : Form) → Means form sql command) → (count : ℕ)
      → sqlite.Executes sql params old new (Ok count) → IsBookSchema old.now.schema
      → Ran old new command params
  runs sql params command means count h has =
      record {
        text = statement_of sql (understood (book_schema has.0) sql);
        count = count;
        ran = runs_as sql params old new (book_schema has.0) has.1 command (means has.0).0
            (means has.0).1 count h;
      }

  -- a write leads where its command does
  pub writes : (sql : List ℕ) (params : Row) (Leads : Database → Database → Type 0)
      (command : Command) → ((form : Form) → Means form sql command) → IsWrite command
      → (Ran old new command params → ShowsMade old new) → IsLedBy command params Leads
      → MayCommit sql → (HasCleanDisk new → Executes sql params old new res)
      → WritesInside old new res Leads
  writes sql params Leads command means write shows leads commits executed =
      record {
        leads = λ clean inside. led res (executed clean);
        inside = λ has clean inside. shown has inside res (executed clean);
        undone = λ clean inside. nothing res (executed clean);
        stop = survives_weaker old new _ _
            (λ _ db may has inside.
            writes_inside old sql commits.0 command write means db has inside may)
            commits.1;
      }
    where
      led : (r : Result (Unit {0}) Error) → Executes sql params old new r
          → OnOk r (Leads old.now new.now)
      led (Ok done) (count, h) = leads (runs sql params command means count h)
      led (Err e) h = tt

      shown : IsBookSchema old.now.schema → IsTrue old.in_transaction
          → (r : Result (Unit {0}) Error) → Executes sql params old new r
          → OnOk r (Shows old new new.now old.committed true)
      shown has inside (Ok done) (count, h) =
          subst (λ b. Shows old new new.now (cond b old.committed new.now) b) inside
          (shows (runs sql params command means count h has))
      shown has inside (Err e) h = tt

      nothing : (r : Result (Unit {0}) Error) → Executes sql params old new r
          → OnErr r (IsUnchanged old new ⊎ IsRolledBack old new)
      nothing (Ok done) h = tt
      nothing (Err e) h = failed sql params old new e h

  -- so does one in a transaction that ends where it is dropped
  pub writes_guarded : (sql : List ℕ) (params : Row) (Leads : Database → Database → Type 0)
      (command : Command) → ((form : Form) → Means form sql command) → IsLedBy command params Leads
      → CommitsNothing old new
      → (HasCleanDisk new → IsTrue old.in_transaction → ExecutesInside sql params old new res)
      → WritesGuarded old new res Leads
  writes_guarded sql params Leads command means leads stop executed =
      record {
        leads = λ clean inside. led res (executed clean inside);
        inside = λ clean inside. shown res (executed clean inside);
        undone = λ clean inside. nothing res (executed clean inside);
        kept = λ clean inside. keeps res (executed clean inside);
        stop = stop;
      }
    where
      led : (r : Result (Unit {0}) Error) → ExecutesInside sql params old new r
          → OnOk r (Leads old.now new.now)
      led (Ok done) (count, h) = leads (runs sql params command means count h.0)
      led (Err e) h = tt

      shown : (r : Result (Unit {0}) Error) → ExecutesInside sql params old new r
          → OnOk r (Shows old new new.now old.committed true)
      shown (Ok done) (count, h) = h.1
      shown (Err e) h = tt

      nothing : (r : Result (Unit {0}) Error) → ExecutesInside sql params old new r
          → OnErr r (IsUnchanged old new ⊎ IsRolledBack old new)
      nothing (Ok done) h = tt
      nothing (Err e) (inl h) = h.1
      nothing (Err e) (inr h) = inl h.2

      undone_keeps : IsUnchanged old new ⊎ IsRolledBack old new → KeepsCommit old new
      undone_keeps (inl h) =
          record { was_open = λ _. h.0.was_open; committed = λ _. h.0.committed_is }
      undone_keeps (inr h) =
          record { was_open = h.was_open; committed = λ opened. (h.undone opened).1 }

      keeps : (r : Result (Unit {0}) Error) → ExecutesInside sql params old new r
          → KeepsCommit old new
      keeps (Ok done) (count, h) =
          record { was_open = λ _. h.1.was_open; committed = λ _. h.1.committed_is }
      keeps (Err e) h = undone_keeps (nothing (Err e) h)
