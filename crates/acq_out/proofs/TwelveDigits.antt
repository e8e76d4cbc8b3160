-- Numbers of twelve digits or fewer.
use Rattle.std.proofs.Common.{◌≡◌, ℕ, ◌<◌, ◌≤◌, ◌^◌, true, Option, Some, None, arith, ap}
use Rattle.std.specs.Prelude.{SomeIff}
use Rattle.std.proofs.Math.Nat.{pow-le-pow_right}
use Rattle.std.proofs.lemmas.Bool.{le-leb}
use Rattle.acq_message.specs.Numbers.{is_reference}

-- it is a reference
pub twelve_digits : (n k : ℕ) → n < 10 ^ k → k ≤ 12 → is_reference n ≡ true
twelve_digits n k h le =
    let most : 10 ^ k ≤ 10 ^ 12 = pow-le-pow_right {n = 10} (omega arith) {i = k} {j = 12} le in
    le-leb n 999999999999 (omega arith)

-- what is there just where a fact holds, is there where it does
pub some_where : {A : Type 0} (o : Option A) (P : Type 0) (value : A) → SomeIff o P value → P →
    o ≡ Some value
some_where None P value h p = absurd (h p)
some_where (Some x) P value h p = ap Some h.1
