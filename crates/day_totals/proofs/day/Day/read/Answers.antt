use Rattle.std.proofs.Common.{◌≡◌, ◌∙◌, sym, false, true}
use Rattle.std.proofs.lemmas.Slice.Eq.{bytes_eq-Decides}
use Rattle.day_totals.proofs.DateTexts.{parsed, not_refused, date_text_of-same}
use Rattle.day_totals.proofs.day.Day.read.Goals as goal

pub returns-in_default-clause-none : goal.returns-in_default-clause-none
returns-in_default-clause-none c = λ n h e. not_refused c.args.text.now n h e c.in_default.field-0
    c.in_default.ensures.value

pub returns-in_err-day-clause-none : goal.returns-in_err-day-clause-none
returns-in_err-day-clause-none c =
    rw c.from_residual.ensures (λ n h e. c.in_err-day.ensures.none n h
    (parsed c.args.text.now n h e c.in-Ok.date c.in-Ok.ensures.value))

pub returns-else-eq-clause-none : goal.returns-else-eq-clause-none
returns-else-eq-clause-none c = λ n h e.
    let parts = parsed c.args.text.now n h e c.in-Ok.date c.in-Ok.ensures.value in
    let same = date_text_of-same c.in_ok-day.day n c.in-Ok.date c.in_ok-day.ensures.found parts in
    let texts : c.as_slice.result.now ≡ c.as_bytes.result.now = c.as_slice.ensures
    ∙ c.date_text.ensures ∙ same ∙ sym e
    ∙ sym c.as_bytes.ensures.value in
    let equal = (bytes_eq-Decides c.as_slice.result.now c.as_bytes.result.now).1 texts in
    let answer : true ≡ false = sym equal ∙ sym c.eq.ensures ∙ c.if-eq.false in
    cc
