use Rattle.std.proofs.Common.{◌≡◌, Option, None, Some, ap, false, refl, sym, true≢false}
use Rattle.std.specs.Option.{is_some}
use Rattle.acq_gateways.specs.Told.{seen_in, told_of}
use Rattle.acq_gateways.proofs.Staying.{comes}
use Rattle.acq_gateways.proofs.gateways.Gateways.connect.Goals as goal

none_of : {X : Type 0} (x : Option X) → false ≡ is_some x → x ≡ None
none_of None e = refl
none_of (Some x) e = absurd (true≢false (sym e))

pub returns : goal.returns
returns g c =
    let was = c.args.self.now in
    record {
      stays = λ t steps f. comes t steps (told_of was) _ _
          (ap seen_in (none_of was.here c.if-is_some.ensures)) refl refl refl
          c.connect.ensures c.new.ensures.sent f;
    }
