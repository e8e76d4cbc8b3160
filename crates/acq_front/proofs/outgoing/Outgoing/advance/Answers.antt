use Rattle.std.proofs.Common.{sym}
use Rattle.std.proofs.lemmas.List.{drop-drop}
use Rattle.acq_front.proofs.outgoing.Outgoing.advance.Goals as goal

pub returns-clause-bytes : goal.returns-clause-bytes
returns-clause-bytes c = sym (drop-drop c.args.n c.args.self.now.gone c.args.self.now.frame)
