-- Of requests whose keys are distinct, one at most has a key.
use Rattle.std.proofs.Common.{◌≡◌, ◌≤◌, Bool, true, false, cond, List, [], ◌∷◌, map, filter}
use Rattle.std.proofs.Common.{length, refl, sym, subst, ◌∙◌, arith}
use Rattle.std.specs.List.{list_any}
use Rattle.std.proofs.lemmas.Bool.{and_parts, or_parts, not-true, both_ways, false_from_ne_true}
use Rattle.acq_message.specs.declared.request_key.RequestKey.{RequestKey}
use Rattle.acq_message.specs.Elements.{same_key}
use Rattle.acq_core.specs.declared.request.Request.{Request}
use Rattle.acq_soundness.specs.Keys.{are_distinct}
use Rattle.acq_soundness.proofs.Keys.{same_key_from, same_key_is}

-- the keys are those of no other request
abbrev pub HaveDistinctKeys : List Request → Type 0
HaveDistinctKeys rows = are_distinct same_key (map (λ row. row.key) rows) ≡ true

none_keyed : (a key : RequestKey) (rows : List Request)
    → list_any (same_key a) (map (λ row. row.key) rows) ≡ false → same_key a key ≡ true
    → filter (λ row. same_key row.key key) rows ≡ []
none_keyed a key [] none same = refl
none_keyed a key (x ∷ rows) none same =
    let parts = or_parts _ _ none in
    let other : same_key x.key key ≡ false =
    false_from_ne_true _ (λ is. both_ways _ parts.0
    (same_key_from a x.key (same_key_is a key same ∙ sym (same_key_is x.key key is)))) in
    rw other (none_keyed a key rows parts.1 same)

pub few_keyed : (key : RequestKey) (rows : List Request) → HaveDistinctKeys rows
    → length (filter (λ row. same_key row.key key) rows) ≤ 1
few_keyed key [] distinct = omega arith
few_keyed key (x ∷ rows) distinct =
    step (same_key x.key key) refl (few_keyed key rows (and_parts _ _ distinct).1)
  where
    rest : List Request
    rest = filter (λ row. same_key row.key key) rows

    step : (b : Bool) → same_key x.key key ≡ b → length rest ≤ 1
        → length (cond b (x ∷ rest) rest) ≤ 1
    step true is later =
        let parts = and_parts _ _ distinct in
        let none = none_keyed x.key key rows (not-true _ parts.0) is in
        subst (λ l. length (x ∷ l) ≤ 1) (sym none) (omega arith)
    step false is later = later
