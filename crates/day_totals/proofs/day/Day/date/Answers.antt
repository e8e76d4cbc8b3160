use Rattle.std.proofs.Common.{arith, ◌∙◌, FitsSigned, w64, pos}
use Rattle.std.proofs.lemmas.Int.{to_z-of_z}
use Rattle.jiff.proofs.SpanFacts.{signed_arith, date_add-days, can_add-days}
use Rattle.day_totals.proofs.DatesOfDays.{dates_of_days, IsDaysAfterFirst-one, IsEpochDay-number}
use Rattle.day_totals.proofs.day.Day.date.Goals as goal

pub add-requires : goal.add-requires
add-requires c =
    let fits : FitsSigned w64 c.from.result = omega (arith, signed_arith) in
    let kept = simp to_z-of_z at c.days.ensures in
    let only = rw c.from.ensures at kept in
    (can_add-days c.first_date.result (pos c.self.inside.number) c.days.result only).1
    (IsEpochDay-number c.self.inside.number c.first_date.result c.self.invariant
    c.first_date.ensures)

pub returns : goal.returns
returns c =
    let fits : FitsSigned w64 c.from.result = omega (arith, signed_arith) in
    let kept = simp to_z-of_z at c.days.ensures in
    let only = rw c.from.ensures at kept in
    let moved = date_add-days c.first_date.result (pos c.self.inside.number) c.days.result only in
    let after = IsDaysAfterFirst-one (pos c.self.inside.number) c.first_date.result c.add.result
    c.first_date.ensures
    (c.add.ensures ∙ moved) in
    rw (← c.self.view_is)
    ((dates_of_days c.self.inside.number c.add.result c.self.invariant).0 after)
