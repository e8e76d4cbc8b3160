use Rattle.std.proofs.Common.{refl}
use Rattle.std.proofs.lemmas.List.Elements.{All-nil}
use Rattle.acq_front.specs.Stops.{left_of}
use Rattle.acq_front.proofs.GivenInOrder.{gives_none}
use Rattle.acq_front.proofs.StopsLeave.{none_stop}
use Rattle.acq_serving.proofs.Served.{none_served, nothing_yet}
use Rattle.acq_serving.proofs.connections.serve_ends.Goals as goal

pub returns-in-None-clause-served : goal.returns-in-None-clause-served
returns-in-None-clause-served g c = λ h o. (
  nothing_yet,
  rw c.in-None.is (refl, refl),
  gives_none _ _,
  All-nil _,
  gives_none _ _,
  none_served (g.I.Issuer.may_say c.args.issuer.now) (left_of g.B.Book c.args.host.now)
      (none_stop g.B.Book g.met.B.Book.settled g.met.B.Book.stored c.args.host.now o),
)
