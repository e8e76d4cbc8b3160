use Rattle.std.proofs.Common.{◌≡◌, ◌++◌, ◌∙◌, ◌∷◌, ap, arith, drop, map, sym, take}
use Rattle.std.proofs.Common.{take-append-drop}
use Rattle.std.proofs.lemmas.Grind.{common_steps}
use Rattle.std.proofs.lemmas.List.{map-append}
use Rattle.acq_rounds.specs.Places.{boxed}
use Rattle.acq_rounds.proofs.rounds.put_in.Goals as goal

pub returns : goal.returns
returns g c =
    let view = boxed g.L.Line g.T.Talk in
    let old = c.args.places.now.items in
    let at = c.place_of-at.result in
    let put : c.insert.new.self.items ≡ take at old ++ (c.args.place ∷ drop at old) =
    grind (arith, common_steps) in (
      map view (take at old),
      map view (drop at old),
      ap (map view) (sym (take-append-drop at old)) ∙ map-append view (take at old) (drop at old),
      ap (map view) put ∙ map-append view (take at old) (c.args.place ∷ drop at old),
    )
