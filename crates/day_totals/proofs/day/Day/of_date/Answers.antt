use Rattle.std.proofs.Common.{arith, ◌≡◌, ℕ, ℤ, pos, negsuc, unsigned_abs, FitsSigned, w32, IfSome}
use Rattle.std.proofs.Common.{IfNone, SomeIff}
use Rattle.std.proofs.Common.{Option, Some, None, ap, sym, subst}
use Rattle.std.proofs.lemmas.Int.{ints, to_z-of_z}
use Rattle.std.specs.Int.{FitsUnsignedBits}
use Rattle.jiff.proofs.SpanFacts.{signed_arith}
use Rattle.day_totals.specs.Day.{IsDayNumber, IsDaysAfterFirst}
use Rattle.day_totals.proofs.DatesOfDays.{dates_of_days, same_distance}
use Rattle.day_totals.proofs.day.Day.of_date.Goals as goal

found : (P : ℕ → Type 0) (r : Option ℕ) (fits : Type 0) (number : ℕ) → SomeIff r fits number →
    (fits → P number)
    → IfSome r P
found P None fits number h k = tt
found P (Some n) fits number h k = subst P (sym h.1) (k h.0)

none : (P : Type 0) (r : Option ℕ) (fits : Type 0) (number : ℕ) → SomeIff r fits number →
    ((fits → ⊥) → P) → IfNone r P
none P None fits number h k = k h
none P (Some n) fits number h k = tt

natural : (z : ℤ) (n : ℕ) → FitsUnsignedBits 32 z × (n ≡ unsigned_abs z) → z ≡ pos n
natural (pos m) n h = ap pos (sym h.1)
natural (negsuc m) n h = absurd h.0

fits_bits : (z : ℤ) (n : ℕ) → z ≡ pos n → IsDayNumber n → FitsUnsignedBits 32 z
fits_bits z n e h = rw e (omega arith)

pub returns-in-Ok-clause-found : goal.returns-in-Ok-clause-found
returns-in-Ok-clause-found c =
    let fits : FitsSigned w32 c.days_after_first.result = omega (arith, ints) in
    let kept = simp to_z-of_z at c.in-Ok.ensures in
    let after : IsDaysAfterFirst (pos c.in-Ok.number) c.args.date =
    rw (natural c.days_after_first.result c.in-Ok.number kept) at c.days_after_first.ensures in
    found _ c.from_number.result _ _ c.from_number.ensures
    (λ h. (dates_of_days c.in-Ok.number c.args.date h).0 after)

pub returns-in-Ok-clause-none : goal.returns-in-Ok-clause-none
returns-in-Ok-clause-none c =
    let fits : FitsSigned w32 c.days_after_first.result = omega (arith, ints) in
    let kept = simp to_z-of_z at c.in-Ok.ensures in
    none _ c.from_number.result _ _ c.from_number.ensures
    (λ not n h parts.
    let same = same_distance _ _ c.args.date c.days_after_first.ensures
    ((dates_of_days n c.args.date h).1 parts) in
    let number = natural c.days_after_first.result c.in-Ok.number kept in
    not (omega (arith, signed_arith, same, number)))

pub returns-in-Err-clause-none : goal.returns-in-Err-clause-none
returns-in-Err-clause-none c =
    let fits : FitsSigned w32 c.days_after_first.result = omega (arith, ints) in
    let kept = simp to_z-of_z at c.in-Err.ensures in
    λ n h parts.
    kept (fits_bits _ n (same_distance _ _ c.args.date c.days_after_first.ensures
    ((dates_of_days n c.args.date h).1 parts)) h)
