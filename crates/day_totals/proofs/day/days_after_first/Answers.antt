use Rattle.std.proofs.Common.{arith, FitsSigned, w32, refl}
use Rattle.std.proofs.lemmas.Int.{ints, to_z-of_z}
use Rattle.std.specs.Result.{IfOk}
use Rattle.jiff.specs.Words.{IsDateDifference}
use Rattle.jiff.specs.Types.{Day}
use Rattle.day_totals.proofs.DatesOfDays.{amount-days, IsDaysAfterFirst-one}
use Rattle.day_totals.proofs.day.days_after_first.Goals as goal

pub returns : goal.returns
returns c =
    let difference : IfOk c.until.result (IsDateDifference Day c.first_date.result c.args.date) =
    c.until.ensures.value (refl, refl) (omega arith) in
    let span = rw c.unwrap.ensures at difference in
    let fits : FitsSigned w32 c.get_days.result = omega (arith, ints) in
    simp to_z-of_z
    (IsDaysAfterFirst-one c.get_days.result c.first_date.result c.args.date c.first_date.ensures
    (rw c.get_days.ensures (amount-days c.first_date.result c.args.date c.unwrap.result span)))
