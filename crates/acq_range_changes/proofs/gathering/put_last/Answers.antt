use Rattle.std.proofs.Common.{◌≡◌, ◌∙◌, ◌++◌, ◌∷◌, [], ap, subst}
use Rattle.std.specs.Prelude.{OnOk}
use Rattle.card_no.specs.Ranges.{with_range}
use Rattle.acq_range_changes.proofs.gathering.put_last.Goals as goal

pub returns : goal.returns
returns c =
    let list = c.args.list.now in
    let put : with_range list c.in_ok-copy.copy ≡ list ++ c.args.range.now ∷ [] =
    ap (λ range. with_range list range) c.in_ok-copy.ensures
    ∙ c.lies_behind.ensures.last c.if-not-lies_behind.false in
    subst (λ l. OnOk c.add.result (c.add.new.self ≡ l)) put c.add.ensures.ok
