use Rattle.std.specs.Prelude.{None}
use Rattle.acq_control.proofs.answering.put_asked.Goals as goal

pub returns-clause-answers : goal.returns-clause-answers
returns-clause-answers g c = λ h o.
    let made = rw c.new-text.ensures.sent at (c.write_text-made.ensures.text h o) in
    c.put_text.ensures.answers None (g.X.BookText.text c.args.asked.now
    (g.B.Book.tables c.args.host.now)) (rw c.as_bytes.ensures made)
