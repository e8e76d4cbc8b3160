-- How many were admitted, by how many count on each day.
use Rattle.std.proofs.Common.{◌≡◌, ℕ, zero, suc, ◌+◌, ◌*◌, ◌<◌, ◌≤◌, List, [], ◌∷◌, Option, Some}
use Rattle.std.proofs.Common.{None, Bool, true, false, cond, refl, arith, eqb, ltb, suc-mul}
use Rattle.std.specs.Prelude.{All, is_some, ◌&&◌}
use Rattle.std.proofs.lemmas.Bool.{lt-ltb}
use Rattle.std.proofs.lemmas.Bool.Decides.{nat_tests}
use Rattle.std.proofs.lemmas.List.Elements.{All-head, All-tail}
use Rattle.acq_core.specs.declared.request.Request.{Request}
use Rattle.acq_core.specs.Tables.{count, admitted_in, used_in}
use Rattle.acq_soundness.proofs.CountsOfRows.{one_if}

-- those that count, of the days before one
abbrev pub used_before : List Request → ℕ → ℕ
used_before rows n = count (λ row. row.admitted && ltb row.day n) rows

-- a day before the next one is before this one, or is this one
before_suc : (d n : ℕ) → one_if (ltb d (suc n)) ≡ one_if (ltb d n) + one_if (eqb d n)
before_suc d n = grind (arith, nat_tests)

-- one more of a count
counted : (b : Bool) (n : ℕ) → cond b (1 + n) n ≡ one_if b + n
counted true n = refl
counted false n = omega arith

-- those of one day more
used_before-suc : (rows : List Request) (n : ℕ) →
    used_before rows (suc n) ≡ used_before rows n + used_in rows n
used_before-suc [] n = omega arith
used_before-suc (x ∷ xs) n =
    let rest = used_before-suc xs n in
    let split = before_suc x.day n in
    let a = used_before xs (suc n) in
    let b = used_before xs n in
    let c = used_in xs n in
    elim x.admitted as (λ v. cond (v && ltb x.day (suc n)) (1 + a) a
    ≡ cond (v && ltb x.day n) (1 + b) b + cond (v && eqb x.day n) (1 + c) c) [
      | true ↦
          let next = counted (ltb x.day (suc n)) a in
          let before = counted (ltb x.day n) b in
          let today = counted (eqb x.day n) c in
          omega arith
      | false ↦ rest
    ]

-- no more than the limit on each day
used_before-within : (rows : List Request) (limit n : ℕ) → ((day : ℕ) → used_in rows day ≤ limit) →
    used_before rows n ≤ n * limit
used_before-within rows limit zero within = none rows
  where
    none : (xs : List Request) → used_before xs 0 ≤ 0 * limit
    none [] = omega arith
    none (x ∷ xs) =
        let rest = none xs in
        let never : ltb x.day 0 ≡ false = grind (arith, nat_tests) in
        rw never (elim x.admitted as
        (λ v. cond (v && false) (1 + used_before xs 0) (used_before xs 0) ≤ 0 * limit) [
          | true ↦ rest
          | false ↦ rest
        ])
used_before-within rows limit (suc n) within =
    let before = used_before-within rows limit n within in
    let today = within n in
    let more = used_before-suc rows n in
    let product : suc n * limit ≡ n * limit + limit = suc-mul n limit in
    omega arith

-- an admitted row counts, and is of a day before this one
pub record IsCounted (n : ℕ) (row : Request) : Type 0 where
  pub counts : (reference : ℕ) → row.reference ≡ Some reference → row.admitted ≡ true
  pub day : row.day < n

admitted_in-before : (rows : List Request) (n : ℕ) → All (IsCounted n) rows →
    admitted_in rows ≤ used_before rows n
admitted_in-before [] n all = omega arith
admitted_in-before (x ∷ xs) n all =
    let rest = admitted_in-before xs n (All-tail (IsCounted n) x xs all) in
    let here = All-head (IsCounted n) x xs all in
    let before = lt-ltb x.day n here.day in
    let a = admitted_in xs in
    let b = used_before xs n in
    let step : (o : Option ℕ) → x.reference ≡ o →
    cond (is_some o) (1 + a) a ≤ cond (x.admitted && ltb x.day n) (1 + b) b =
    elim [
      | None ↦ (λ e. elim (x.admitted && ltb x.day n) as (λ v. a ≤ cond v (1 + b) b) [
        | true ↦ omega arith
        | false ↦ rest
      ])
      | Some reference ↦ (λ e. rw (here.counts reference e, before) (omega arith))
    ] in
    step x.reference refl

-- so no more were admitted than the limits of all days allow
pub admitted_in-within : (rows : List Request) (limit n : ℕ) →
    ((day : ℕ) → used_in rows day ≤ limit) → All (IsCounted n) rows → admitted_in rows ≤ n * limit
admitted_in-within rows limit n within all =
    let a = admitted_in-before rows n all in
    let b = used_before-within rows limit n within in
    omega arith
