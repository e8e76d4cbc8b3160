use Rattle.std.proofs.Common.{◌≡◌, ℕ, ◌-◌, List, [], length, Some, None, Result, Ok, Err, refl, sym}
use Rattle.std.proofs.Common.{ap, arith, ◌∙◌}
use Rattle.std.specs.Result.{result_ok, result_unwrap_or}
use Rattle.iso_codec.specs.declared.decode_fault.DecodeFault.{DecodeFault}
use Rattle.iso_codec.specs.FaultPlaces.{standing_from, element_place}
use Rattle.iso_codec.proofs.fault_places.element_place.Goals as goal

there : (rest : List ℕ) (r : Result (List ℕ) DecodeFault) → Some rest ≡ result_ok r →
    result_unwrap_or r [] ≡ rest
there rest (Ok x) h = let some : Some rest ≡ Some x = h in cc
there rest (Err e) h = let some : Some rest ≡ None = h in cc

nowhere : (r : Result (List ℕ) DecodeFault) → None ≡ result_ok r → result_unwrap_or r [] ≡ []
nowhere (Ok x) h = let some : None ≡ Some x = h in cc
nowhere (Err e) h = refl

pub returns-in-Some : goal.returns-in-Some
unfolding element_place
returns-in-Some c =
    c.saturating_sub.ensures ∙ ap (λ (rest : List ℕ). length c.args.text.now - length rest)
    (sym (there c.in-Some.rest.now (standing_from c.args.number c.args.text.now) c.in-Some.ensures))

pub returns-in-None : goal.returns-in-None
unfolding element_place
returns-in-None c =
    let none : length c.args.text.now ≡ length c.args.text.now - length {A = ℕ} [] = omega arith in
    none ∙ ap (λ (rest : List ℕ). length c.args.text.now - length rest)
    (sym (nowhere (standing_from c.args.number c.args.text.now) c.in-None.ensures))
