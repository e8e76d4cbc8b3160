-- what is decided over what was looked up
use Rattle.std.proofs.Common.{◌≡◌, subst}
use Rattle.std.specs.Prelude.{IfOk}
use Rattle.acq_core.specs.Arrivals.{merchant_named}
use Rattle.acq_core.specs.Changes.{change_for}
use Rattle.acq_core.specs.Outcome.{outcome, output_of}
use Rattle.acq_host.proofs.Chains.{both_ok, gives_over}
use Rattle.acq_host.proofs.deciding.decide_arrival.Goals as goal

pub returns-clause-within : goal.returns-clause-within
returns-clause-within g c =
    let a = c.args.arrival.now in
    let found = c.in_ok-looked.ensures.within in
    let decided = c.decide_over-decided in
    gives_over g.B.Book decided.result g.met.B.Book.returns found.looks
    (λ began n w.
    let known = found.value began n w in
    both_ok _ _ decided.result
    (subst (λ k. IfOk decided.result (λ x. x.0 ≡ output_of (merchant_named a) (outcome k a))) known
    decided.ensures.output)
    (subst (λ k. IfOk decided.result (λ x. x.1 ≡ change_for k a)) known
    decided.ensures.change))
