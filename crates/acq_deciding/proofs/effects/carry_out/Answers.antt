-- What the function of each arm ensures, at the decision of that arm.
use Rattle.std.proofs.Common.{refl}
use Rattle.acq_deciding.proofs.effects.carry_out.Goals as goal

pub returns-in-Refuses-clause-output : goal.returns-in-Refuses-clause-output
returns-in-Refuses-clause-output c = rw c.in-Refuses.is c.refused.ensures.output

pub returns-in-Refuses-clause-change : goal.returns-in-Refuses-clause-change
returns-in-Refuses-clause-change c = rw c.in-Refuses.is c.refused.ensures.change

pub returns-in-Admits-clause-output : goal.returns-in-Admits-clause-output
returns-in-Admits-clause-output c = rw c.in-Admits.is c.admitted.ensures.output

pub returns-in-Admits-clause-change : goal.returns-in-Admits-clause-change
returns-in-Admits-clause-change c = rw c.in-Admits.is c.admitted.ensures.change

pub returns-in-Completes-clause-output : goal.returns-in-Completes-clause-output
returns-in-Completes-clause-output c = rw c.in-Completes.is c.completed.ensures.output

pub returns-in-Completes-clause-change : goal.returns-in-Completes-clause-change
returns-in-Completes-clause-change c = rw c.in-Completes.is c.completed.ensures.change

pub returns-in-Reverses-clause-output : goal.returns-in-Reverses-clause-output
returns-in-Reverses-clause-output c = rw c.in-Reverses.is c.reversed.ensures.output

pub returns-in-Reverses-clause-change : goal.returns-in-Reverses-clause-change
returns-in-Reverses-clause-change c = rw c.in-Reverses.is c.reversed.ensures.change

pub returns-in-Reconciles-clause-output : goal.returns-in-Reconciles-clause-output
returns-in-Reconciles-clause-output c = rw c.in-Reconciles.is c.reconciled.ensures.output

pub returns-in-Reconciles-clause-change : goal.returns-in-Reconciles-clause-change
returns-in-Reconciles-clause-change c = rw c.in-Reconciles.is c.reconciled.ensures.change

pub returns-in-Answers-clause-output : goal.returns-in-Answers-clause-output
returns-in-Answers-clause-output c = rw c.in-Answers.is c.answered.ensures.output

pub returns-in-Answers-clause-change : goal.returns-in-Answers-clause-change
returns-in-Answers-clause-change c = rw c.in-Answers.is c.answered.ensures.change

pub returns-in-CutsOver-clause-output : goal.returns-in-CutsOver-clause-output
returns-in-CutsOver-clause-output c = rw (c.in-CutsOver.is, c.performed.ensures) refl

pub returns-in-CutsOver-clause-change : goal.returns-in-CutsOver-clause-change
returns-in-CutsOver-clause-change c =
    rw (c.in-CutsOver.is, c.performed.ensures, c.day_after.ensures) refl

pub returns-in-DropsRange-clause-output : goal.returns-in-DropsRange-clause-output
returns-in-DropsRange-clause-output c =
    rw (c.in-DropsRange.is, c.performed-in-DropsRange.ensures) refl

pub returns-in-DropsRange-clause-change : goal.returns-in-DropsRange-clause-change
returns-in-DropsRange-clause-change c =
    rw (c.in-DropsRange.is, c.performed-in-DropsRange.ensures) refl

pub returns-in-Enrols-clause-output : goal.returns-in-Enrols-clause-output
returns-in-Enrols-clause-output c = rw (c.in-Enrols.is, c.performed-in-Enrols.ensures) refl

pub returns-in-Enrols-clause-change : goal.returns-in-Enrols-clause-change
returns-in-Enrols-clause-change c = rw (c.in-Enrols.is, c.performed-in-Enrols.ensures) refl

pub returns-in-AddsTerminal-clause-output : goal.returns-in-AddsTerminal-clause-output
returns-in-AddsTerminal-clause-output c =
    rw (c.in-AddsTerminal.is, c.performed-in-AddsTerminal.ensures) refl

pub returns-in-AddsTerminal-clause-change : goal.returns-in-AddsTerminal-clause-change
returns-in-AddsTerminal-clause-change c =
    rw (c.in-AddsTerminal.is, c.performed-in-AddsTerminal.ensures) refl
