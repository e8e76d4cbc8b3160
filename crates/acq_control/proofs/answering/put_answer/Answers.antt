use Rattle.acq_control.proofs.answering.put_answer.Goals as goal

pub returns-in-Some-clause-answers : goal.returns-in-Some-clause-answers
returns-in-Some-clause-answers g c = λ h o may.
    rw c.in-Some.is (c.put_question.ensures.answers c.args.number h o may)
