-- Gateways go on to follow steps.
use Rattle.std.proofs.Common.{◌≡◌, ◌∙◌, ◌++◌, ◌∷◌, ◌+◌, ℕ, List, [], refl, sym, ap, subst}
use Rattle.std.proofs.Common.{arith, length, length-append, Option, Some, None}
use Rattle.std.specs.Prelude.{IfSome}
use Rattle.std.specs.List.{AllByRecursion}
use Rattle.acq_core.specs.Tables.{Tables}
use Rattle.acq_gateway.specs.declared.gateway.Gateway.{Gateway}
use Rattle.acq_gateway.specs.Telling.{IsNew}
use Rattle.acq_rounds.specs.Acts.{Connection}
use Rattle.acq_rounds.specs.Runs.{Step}
use Rattle.acq_gateways.specs.Following.{GatewaysFollow, IsTold, WasTold}
use Rattle.acq_gateways.specs.Following.{looks_by, many_here}
use Rattle.acq_gateways.specs.Parting.{EndsAs, last_of}
use Rattle.acq_gateways.specs.Told.{Open, Told}
use Rattle.acq_gateways.proofs.Stepping.{reached_more}

-- ---- whatever else the host does

told_more : (t : Tables) (steps more : List Step) (went : List ℕ) (gateway : Gateway) →
    IsTold t steps went gateway → IsTold t (steps ++ more) went gateway
told_more t steps more went gateway h = record {
  first = h.first;
  new = h.new;
  did = h.did;
  are = h.are;
  stands = h.stands;
  wrote = h.wrote;
  looks = reached_more t steps more (looks_by h.first h.did h.are) h.looks;
}

all_more : (t : Tables) (steps more : List Step) (ended : List Connection) →
    AllByRecursion (WasTold t steps) ended → AllByRecursion (WasTold t (steps ++ more)) ended
all_more t steps more [] h = tt
all_more t steps more (c ∷ ended) h =
    ((h.0.0, told_more t steps more c.went h.0.0 h.0.1), all_more t steps more ended h.1)

here_more : (t : Tables) (steps more : List Step) (here : Option Open) →
    IfSome here (λ o. IsTold t steps o.went o.gateway) →
    IfSome here (λ o. IsTold t (steps ++ more) o.went o.gateway)
here_more t steps more None h = tt
here_more t steps more (Some o) h = told_more t steps more o.went o.gateway h

pub follow_more : (t : Tables) (steps more : List Step) (g : Told) → GatewaysFollow t steps g →
    GatewaysFollow t (steps ++ more) g
follow_more t steps more g f = record {
  ended = all_more t steps more g.ended f.ended;
  here = here_more t steps more g.here f.here;
  every = f.every;
}

-- ---- one comes, goes on, and goes

pub none_came : (t : Tables) (ended : List Connection) → ended ≡ [] →
    GatewaysFollow t [] (record { count = 0; ended = ended; here = None })
none_came t ended none = rw none (record { ended = tt; here = tt; every = refl })

module _ (t : Tables) (steps : List Step) (before after : Told) where
  pub comes : (o : Open) → before.here ≡ None → after.here ≡ Some o →
      after.count ≡ before.count + 1 → after.ended ≡ before.ended → IsNew o.gateway →
      o.went ≡ [] → GatewaysFollow t steps before → GatewaysFollow t steps after
  comes o none here count ended new went f =
      let was : many_here before.here ≡ 0 = ap many_here none in
      let one : many_here after.here ≡ 1 = ap many_here here in
      let long = ap (λ (l : List Connection). length l) ended in
      record {
        ended = subst (AllByRecursion (WasTold t steps)) (sym ended) f.ended;
        here = subst (λ (h : Option Open). IfSome h (λ o. IsTold t steps o.went o.gateway))
            (sym here) (record {
              first = o.gateway;
              new = new;
              did = [];
              are = tt;
              stands = refl;
              wrote = sym went;
              looks = tt;
            });
        every = omega (arith, f.every, was, one, count, long);
      }

  pub goes : (o p : Open) → before.here ≡ Some o → after.here ≡ Some p →
      after.count ≡ before.count → after.ended ≡ before.ended →
      (IsTold t steps o.went o.gateway → IsTold t steps p.went p.gateway) →
      GatewaysFollow t steps before → GatewaysFollow t steps after
  goes o p was here count ended on f =
      let one : many_here before.here ≡ 1 = ap many_here was in
      let still : many_here after.here ≡ 1 = ap many_here here in
      let long = ap (λ (l : List Connection). length l) ended in
      let P : Option Open → Type 0 = λ h. IfSome h (λ o. IsTold t steps o.went o.gateway) in
      record {
        ended = subst (AllByRecursion (WasTold t steps)) (sym ended) f.ended;
        here = subst P (sym here) (on (subst P was f.here));
        every = omega (arith, f.every, one, still, count, long);
      }

all_and : (p : Connection → Type 0) (xs : List Connection) (x : Connection) →
    AllByRecursion p xs → p x → AllByRecursion p (xs ++ x ∷ [])
all_and p [] x h last = (last, tt)
all_and p (y ∷ xs) x h last = (h.0, all_and p xs x h.1 last)

-- it is gone, and stood somewhere
pub gone : (t : Tables) (steps : List Step) (before between after : Told) (o : Open) →
    before.here ≡ Some o → between.here ≡ None → between.count ≡ before.count →
    between.ended ≡ before.ended → (last : Open) → EndsAs last between after →
    (IsTold t steps o.went o.gateway → (g : Gateway) × IsTold t steps last.went g) →
    GatewaysFollow t steps before → GatewaysFollow t steps after
gone t steps before between after o here away count ended last ends on f =
    let all : after.ended ≡ before.ended ++ last_of ends.unsent last ∷ [] =
    ends.ended ∙ ap (λ (l : List Connection). l ++ last_of ends.unsent last ∷ []) ended in
    let none : after.here ≡ None = ends.here ∙ away in
    let was : IsTold t steps o.went o.gateway =
    subst (λ (h : Option Open). IfSome h (λ o. IsTold t steps o.went o.gateway)) here f.here in
    let one : many_here before.here ≡ 1 = ap many_here here in
    let zero_here : many_here after.here ≡ 0 = ap many_here none in
    let long = ap (λ (l : List Connection). length l) all
    ∙ length-append before.ended (last_of ends.unsent last ∷ []) in
    record {
      ended = subst (AllByRecursion (WasTold t steps)) (sym all)
          (all_and (WasTold t steps) before.ended (last_of ends.unsent last) f.ended (on was));
      here = subst (λ (h : Option Open). IfSome h (λ o. IsTold t steps o.went o.gateway))
          (sym none) tt;
      every = omega (arith, ends.count, count, f.every, one, zero_here, long);
    }
