-- words, and then rows: all of one moment's tables
use Rattle.std.proofs.Common.{◌∙◌, refl, subst, IfOk}
use Rattle.acq_core.specs.Tables.{Tables}
use Rattle.acq_gateway.specs.Telling.{AddsRows, Says}
use Rattle.acq_gateway.proofs.Saying.{tells_if}
use Rattle.acq_gateway.proofs.gateway.Gateway.look.Goals as goal

pub returns-clause-tells : goal.returns-clause-tells
returns-clause-tells g c = λ h o.
    let one = c.in_ok-confirm_all.ensures in
    let two = c.in_ok-begin.ensures in
    let three = c.in_ok-advise_ended.ensures in
    let four = c.tell_rows.ensures in
    let h3 = four.looks.was_honest h in
    let h2 = three.looks.was_honest h3 in
    let h1 = two.looks.was_honest h2 in
    let o1 = one.looks.stays_open refl h1 o in
    let o2 = two.looks.stays_open refl h2 o1 in
    let o3 = three.looks.stays_open refl h3 o2 in
    let same2 = two.looks.same o2 ∙ one.looks.same o1 in
    let same3 = three.looks.same o3 ∙ same2 in
    tells_if (g.B.Book.tables c.args.host.now) c.args.moment c.args.self.now c.confirm_all.new.self
    c.begin.new.self c.advise_ended.new.self c.tell_rows.new.self c.tell_rows.result
    (one.says h1 o c.args.moment) two.output two.begins two.taken
    (subst (λ (t : Tables). Says t c.args.moment c.begin.new.self c.advise_ended.new.self) same2
    (three.says h3 o2))
    (subst (λ (t : Tables). IfOk c.tell_rows.result (λ done.
    AddsRows t c.args.moment c.advise_ended.new.self c.tell_rows.new.self)) same3 (four.tells h o3))
