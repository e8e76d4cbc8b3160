-- The parts of a message's object.
use Rattle.std.proofs.Common.{◌≡◌, ℕ, List, [], ◌∷◌, length, Some, None, refl, arith}
use Rattle.std.specs.Prelude.{codes}
use Rattle.std.specs.Borrow.{Bor}
use Rattle.std.proofs.lemmas.Bool.{eq-eqb, ne_eqb}
use Rattle.json.specs.Find.{as_object, as_str, get}
use Rattle.json.specs.Json.{Json, Members}
use Rattle.json.specs.Strict.{keys}
use Rattle.json.specs.Value.{members_view}
use Rattle.json.specs.declared.value.Value.{Value}
use Rattle.acq_json.specs.Said.{parts_said}

pub keys_count : {A : Type 0} → (es : List (Bor (List ℕ) × Value A))
    → length (keys (members_view es)) ≡ length es
keys_count [] = refl
keys_count (e ∷ es) = omega (arith, keys_count es)

pub not_two : (j : Json) (ms : Members) → Some ms ≡ as_object j
    → (length (keys ms) ≡ 2 → ⊥) → None ≡ parts_said j
not_two j ms is other = rw (← is) (rw (ne_eqb (length (keys ms)) 2 other) refl)

pub two_parts : (j : Json) (ms es : Members) (k e : Json) (kind : List ℕ)
    → Some ms ≡ as_object j → length (keys ms) ≡ 2
    → Some k ≡ get (codes "type") j → Some kind ≡ as_str k
    → Some e ≡ get (codes "elements") j → Some es ≡ as_object e
    → Some (kind, es) ≡ parts_said j
two_parts j ms es k e kind is two at_type text at_elements object =
    rw (← is)
    (rw (eq-eqb (length (keys ms)) 2 two)
    (rw (← at_type, ← at_elements) (rw (← text, ← object) refl)))
