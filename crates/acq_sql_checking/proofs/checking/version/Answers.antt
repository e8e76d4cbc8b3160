use Rattle.std.proofs.Common.{◌≡◌, ◌≢◌, ◌∷◌, [], inl, IfOk, length, sym, ap, subst, ◌∙◌, arith}
use Rattle.std.proofs.lemmas.Result.{err_from_is_err_and}
use Rattle.sqlite.specs.Held.{state}
use Rattle.acq_sql_checking.specs.Checked.{HasVersion}
use Rattle.acq_sql_checking.proofs.Versions.{cells, one_version, no_version, only_row, unread}
use Rattle.acq_sql_checking.proofs.checking.version.Goals as goal
use Rattle.acq_sql_checking.proofs.checking.version.Goals.{in_default, in_default-2}
use Rattle.std.specs.List.Sorted.{IsPermutation}

pub returns-in-len1-clause-read : goal.returns-in-len1-clause-read
returns-in-len1-clause-read g c clean has =
    let trees = (state g.S.Store c.args.conn.now).now.trees in
    let items = c.as_slice.result.now in
    let only : items ≡ c.row-item.result ∷ [] =
    only_row items c.row-item.result c.in-len1.len_at_least c.in-len1.len_below c.row-item.is in
    one_version trees c.row-item.result c.in_ok-get-in-len1.field-0
    (subst (IsPermutation (cells trees)) (sym c.as_slice.ensures.value ∙ only)
    (c.in_ok-rows.ensures.shows clean has))
    c.in_ok-get-in-len1.ensures.ok.1

pub returns-clause-read : goal.returns-clause-read
returns-clause-read g c clean has =
    let trees = (state g.S.Store c.args.conn.now).now.trees in
    let moved = c.in_ok-rows.ensures.shows clean has in
    let same = ap length c.as_slice.ensures.value in
    let none : length c.in_ok-rows.rows.items ≢ 1 →
    IfOk c.if-as_slice-lt1.result (HasVersion trees) = λ other.
    elim c.if-as_slice-lt1.branch as (λ _. IfOk c.if-as_slice-lt1.result (HasVersion trees)) [
      | in_default w ↦ subst (λ r. IfOk r (HasVersion trees)) (sym w.result-is)
          (no_version trees c.in_ok-rows.rows.items moved other)
      | in_default-2 w ↦ subst (λ r. IfOk r (HasVersion trees)) (sym w.result-is)
          (no_version trees c.in_ok-rows.rows.items moved other)
    ] in
    none (elim c.if-as_slice-lt1.branch as (λ _. length c.in_ok-rows.rows.items ≢ 1) [
      | in_default w ↦ λ one. omega (arith, same, one, w.in_default.len_below)
      | in_default-2 w ↦ λ one. omega (arith, same, one, w.in_default.len_at_least)
    ])

pub returns-in_err-rows-clause-fails : goal.returns-in_err-rows-clause-fails
returns-in_err-rows-clause-fails g c has numbered clean opened free =
    let p = err_from_is_err_and c.from_residual.result c.from_residual.ensures.1 in
    rw (p.1, p.2) (c.in_err-rows.ensures.fails has clean opened free)

pub returns-in_err-get-in-len1-clause-fails : goal.returns-in_err-get-in-len1-clause-fails
returns-in_err-get-in-len1-clause-fails g c has numbered clean opened free =
    let trees = (state g.S.Store c.args.conn.now).now.trees in
    let items = c.as_slice.result.now in
    let only : items ≡ c.row-item.result ∷ [] =
    only_row items c.row-item.result c.in-len1.len_at_least c.in-len1.len_below c.row-item.is in
    let result = c.from_residual-in_err-get-in-len1.result in
    let p = err_from_is_err_and result c.from_residual-in_err-get-in-len1.ensures.1 in
    rw (p.1, p.2) (inl (unread trees c.row-item.result c.in_err-get-in-len1.field-0.0
    (subst (IsPermutation (cells trees)) (sym c.as_slice.ensures.value ∙ only)
    (c.in_ok-rows.ensures.shows clean has))
    c.in_err-get-in-len1.ensures.kind numbered))
