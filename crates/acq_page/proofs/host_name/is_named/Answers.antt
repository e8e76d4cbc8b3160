use Rattle.std.proofs.Common.{◌≡◌, ◌↔◌, ◌-◌, ◌∙◌, ℕ, Bool, true, false, List, length, map, take}
use Rattle.std.proofs.Common.{drop, min, rules, tests, arith, refl, sym, ap}
use Rattle.std.specs.Prelude.{◌&&◌, IsTrue}
use Rattle.std.specs.Char.{to_ascii_lowercase}
use Rattle.std.specs.Str.{str_eq_ignore_ascii_case}
use Rattle.std.proofs.lemmas.Grind.{common_steps}
use Rattle.std.proofs.lemmas.List.{take_min, drop_min, take_all}
use Rattle.acq_page.specs.Requests.{is_named, is_port}
use Rattle.acq_page.proofs.host_name.is_named.Goals as goal

-- what a slice from a place on is
rest : (at : ℕ) (value : List ℕ) → take (length value - at) (drop at value) ≡ drop at value
rest at value = take_all _ _ (grind (arith, common_steps))

-- what is true exactly if two texts are the same in lower case tests that
same : (test : Bool) (one other : List ℕ)
    → IsTrue test ↔ (map to_ascii_lowercase one ≡ map to_ascii_lowercase other)
    → test ≡ str_eq_ignore_ascii_case one other
same test one other decides = search (rules, tests)

named : (name value : List ℕ) (end : ℕ) (same port : Bool)
    → end ≡ min (length name) (length value)
    → same ≡ str_eq_ignore_ascii_case (take end value) name
    → port ≡ is_port (drop end value)
    → (same && port) ≡ is_named name value
named name value end same port e s p =
    rw (p, s, e, take_min (length name) value, drop_min (length name) value) refl

pub returns-then-eq_ignore_ascii_case : goal.returns-then-eq_ignore_ascii_case
returns-then-eq_ignore_ascii_case c =
    named _ _ c.min-end.result true c.is_port.result c.min-end.ensures
    (sym c.if-eq_ignore_ascii_case.true ∙ same _ _ _ c.eq_ignore_ascii_case.ensures.test)
    (c.is_port.ensures ∙ ap is_port (rest c.min-end.result c.args.value.now))

pub returns-else-eq_ignore_ascii_case : goal.returns-else-eq_ignore_ascii_case
returns-else-eq_ignore_ascii_case c =
    c.if-eq_ignore_ascii_case.false
    ∙ named _ _ c.min-end.result false _ c.min-end.ensures
    (sym c.if-eq_ignore_ascii_case.false ∙ same _ _ _ c.eq_ignore_ascii_case.ensures.test) refl
