use Rattle.std.proofs.Common.{◌≡◌, ◌∙◌, ◌++◌, ◌∷◌, [], None, ap, arith, map, refl, subst, sym}
use Rattle.std.proofs.lemmas.Grind.{common_steps}
use Rattle.std.proofs.lemmas.List.{map-append}
use Rattle.acq_controls.specs.Aside.{seen_in}
use Rattle.acq_controls.proofs.Placing.{each-append}
use Rattle.acq_controls.proofs.Staying.{AreFree, follow_first}
use Rattle.acq_controls.proofs.controls.Controls.new.Goals as goal

pub loop-preserved : goal.loop-preserved
loop-preserved g c =
    let put : c.push.new.self.items ≡ c.loop.all.items ++ None ∷ [] =
    grind (arith, common_steps) in
    record {
      free = subst AreFree
          (sym (ap (map seen_in) put ∙ map-append seen_in c.loop.all.items (None ∷ [])))
          (each-append (λ place. place ≡ None) (map seen_in c.loop.all.items) (None ∷ [])
          c.loop.invariant.free (refl, tt));
    }

pub returns : goal.returns
returns g c t = follow_first t c.new.result.list (map seen_in c.loop.all.items)
    c.new.ensures.list c.loop.invariant.free
