use Rattle.acq_front.specs.Stops.{left_of}
use Rattle.acq_headline.proofs.ServedAlone.{served_alone}
use Rattle.acq_headline.proofs.laws.connections_are_alone.Goals as goal

pub returns : goal.returns
returns g c = λ old connection r s.
    served_alone (g.I.Issuer.may_say c.args.issuer.now) old (left_of g.B.Book c.args.left.now)
    connection r s
