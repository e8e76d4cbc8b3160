-- a change of the connection is one of its book, in a transaction of its own or with its group
use Rattle.std.proofs.Common.{◌≡◌, ◌≤◌, inl, Bool, true, false, is_ok, refl, subst, sym, ◌∙◌, arith}
use Rattle.sqlite.specs.Held.{state}
use Rattle.sqlite.specs.State.{HasCleanDisk}
use Rattle.acq_core.specs.Tables.{after}
use Rattle.acq_book.specs.Groups.{IsLive, MakesWithinBy}
use Rattle.acq_book.specs.Promise.{MakesBy}
use Rattle.acq_recall.specs.Suits.{Suits}
use Rattle.acq_sql.specs.Kept.{Kept}
use Rattle.acq_sql.specs.Opened.{tables, is_honest, is_open, is_within, can_return, may_leave}
use Rattle.acq_sql.specs.Opened.{leaves_books, store_faults}
use Rattle.acq_sql.proofs.BookBlames.{blames_change}
use Rattle.acq_sql.proofs.BookGroups.{makes_outside_only, makes_within_at, makes_within_only}
use Rattle.acq_sql.proofs.BookMakes.{makes_at}
use Rattle.acq_sql.proofs.sql_book.SqlBookLenient.apply_any.Goals as goal

pub returns-clause-makes : goal.returns-clause-makes
returns-clause-makes g c suits =
    let inside = c.self.inside in
    let old : Kept _ =
    record {
      connection = inside.connection;
      failures = inside.failures;
      memo = inside.memo;
      in_group = inside.in_group;
    } in
    let now : Kept _ =
    record {
      connection = c.apply-made.new.conn;
      failures = c.counted.new.failures;
      memo = c.after-self-inside.result;
      in_group = inside.in_group;
    } in
    let change = c.args.change.now in
    let was_suited = subst (λ (k : Kept _). IsLive (is_open g.S.Store) (is_within g.S.Store) k
    → Suits (tables g.S.Store k) change) (sym c.self.view_is) suits in
    let Made : Kept _ → Bool → Type 0 = λ k ok. MakesBy (tables g.S.Store) (is_honest g.S.Store)
    (is_open g.S.Store) (may_leave g.S.Store) (leaves_books g.S.Store)
    (λ (book : Kept _). book.failures) (store_faults g.S.Store) k now ok
    (after (tables g.S.Store k) change) in
    let by : (b : Bool) → inside.in_group ≡ b → Made old (is_ok c.apply-made.result) =
    elim [
      | true ↦ (λ is. makes_within_only g.S.Store old now change c.apply-made.result
          (c.apply-made.ensures.inside is) is c.counted.ensures.rise)
      | false ↦ (λ is. makes_at g.S.Store g.met.S.Store.settled old now change c.apply-made.result
          (c.apply-made.ensures.whole is)
          (λ o. (was_suited (inl o)).0)
          (λ o. (was_suited (inl o)).1)
          (λ is. c.after-self-inside.ensures.made (c.is_ok.ensures.value ∙ is))
          (λ is. c.after-self-inside.ensures.failed (c.is_ok.ensures.value ∙ is))
          refl c.counted.ensures.rise)
    ] in
    subst (λ k. Made k (is_ok c.counted.result)) c.self.view_is
    (subst (Made old) (sym c.counted.ensures.succeeds) (by inside.in_group refl))

pub returns-clause-within : goal.returns-clause-within
returns-clause-within g c suits =
    let inside = c.self.inside in
    let old : Kept _ =
    record {
      connection = inside.connection;
      failures = inside.failures;
      memo = inside.memo;
      in_group = inside.in_group;
    } in
    let now : Kept _ =
    record {
      connection = c.apply-made.new.conn;
      failures = c.counted.new.failures;
      memo = c.after-self-inside.result;
      in_group = inside.in_group;
    } in
    let change = c.args.change.now in
    let was_suited = subst (λ (k : Kept _). IsLive (is_open g.S.Store) (is_within g.S.Store) k
    → Suits (tables g.S.Store k) change) (sym c.self.view_is) suits in
    let Made : Kept _ → Bool → Type 0 = λ k ok. MakesWithinBy (tables g.S.Store)
    (is_honest g.S.Store) (is_within g.S.Store) (can_return g.S.Store) (may_leave g.S.Store)
    (leaves_books g.S.Store) k now ok (after (tables g.S.Store k) change) in
    let by : (b : Bool) → inside.in_group ≡ b → Made old (is_ok c.apply-made.result) =
    elim [
      | true ↦ (λ is. makes_within_at g.S.Store old now change c.apply-made.result
          (c.apply-made.ensures.inside is)
          (λ live. (was_suited live).0)
          (λ live. (was_suited live).1)
          (λ is. c.after-self-inside.ensures.made (c.is_ok.ensures.value ∙ is)) refl)
      | false ↦ (λ is. makes_outside_only g.S.Store old now (is_ok c.apply-made.result) is)
    ] in
    subst (λ k. Made k (is_ok c.counted.result)) c.self.view_is
    (subst (Made old) (sym c.counted.ensures.succeeds) (by inside.in_group refl))

pub returns-clause-was_honest : goal.returns-clause-was_honest
returns-clause-was_honest g c = λ clean.
    let inside = c.self.inside in
    let stays : (b : Bool) → inside.in_group ≡ b →
    HasCleanDisk (state g.S.Store inside.connection) =
    elim [
      | true ↦ (λ is. let up = (c.apply-made.ensures.inside is).stop.clean in
          omega (arith, up, clean))
      | false ↦ (λ is. let up = (c.apply-made.ensures.whole is).stop.clean in
          omega (arith, up, clean))
    ] in
    subst (is_honest g.S.Store) c.self.view_is (stays inside.in_group refl)

pub returns-clause-counts : goal.returns-clause-counts
returns-clause-counts g c =
    let inside = c.self.inside in
    let up : (b : Bool) → inside.in_group ≡ b →
    (state g.S.Store inside.connection).faults ≤ (state g.S.Store c.apply-made.new.conn).faults =
    elim [
      | true ↦ (λ is. (c.apply-made.ensures.inside is).stop.counts)
      | false ↦ (λ is. (c.apply-made.ensures.whole is).stop.counts)
    ] in
    subst (λ (k : Kept _). store_faults g.S.Store k
    ≤ (state g.S.Store c.apply-made.new.conn).faults) c.self.view_is (up inside.in_group refl)

pub returns-clause-blames : goal.returns-clause-blames
returns-clause-blames g c suits =
    blames_change g.S.Store _ _
    (record {
      connection = c.apply-made.new.conn;
      failures = c.counted.new.failures;
      memo = c.after-self-inside.result;
      in_group = c.self.inside.in_group;
    })
    c.self.view_is c.apply-made.result c.counted.result c.args.change.now c.apply-made.ensures.fails
    c.apply-made.ensures.fails_inside c.counted.ensures.same c.counted.ensures.fault
    (λ live. (suits live).0) (λ live. (suits live).1)
