use Rattle.std.proofs.Common.{refl, sym, ◌∙◌, inl}
use Rattle.acq_control.proofs.FirstLine.{no-line}
use Rattle.acq_control.proofs.AnswersRead.{bad_heading, in_text, whole_answer}
use Rattle.acq_control.proofs.host_answer.AnswerFront.of.Goals as goal

pub returns-in_default-clause-none : goal.returns-in_default-clause-none
returns-in_default-clause-none c =
    inl (no-line c.args.bytes.now (sym c.in_default.is ∙ c.line_end.ensures))

pub returns-in_default-length_behind-clause-bad : goal.returns-in_default-length_behind-clause-bad
returns-in_default-length_behind-clause-bad c = (
  refl,
  bad_heading c.args.bytes.now _ c.in-Some.end (sym c.in-Some.is ∙ c.line_end.ensures) refl
      c.of-kind.result c.of-kind.ensures
      (sym c.in_default-length_behind.is ∙ c.length_behind.ensures),
)

pub returns-then-behind-length-clause-none : goal.returns-then-behind-length-clause-none
returns-then-behind-length-clause-none c =
    in_text c.args.bytes.now _ c.in-Some.end (sym c.in-Some.is ∙ c.line_end.ensures) refl
    c.of-kind.result c.split_at.result.1.now c.in-Some-length_behind.length c.of-kind.ensures
    (sym c.in-Some-length_behind.is ∙ c.length_behind.ensures) c.split_at.ensures.back
    c.if-behind-length.true

pub returns-clause-some : goal.returns-clause-some
returns-clause-some c =
    whole_answer c.args.bytes.now _ c.in-Some.end (sym c.in-Some.is ∙ c.line_end.ensures) refl
    c.of-kind.result c.split_at.result.0.now c.split_at.result.1.now c.split_at-2.result.0.now
    c.split_at-2.result.1.now c.said_by-said.result.now c.in-Some-length_behind.length
    c.of-kind.ensures
    (sym c.in-Some-length_behind.is ∙ c.length_behind.ensures) c.split_at.ensures.front
    c.split_at.ensures.back c.split_at-2.ensures.front c.split_at-2.ensures.back
    c.if-behind-length.false c.said_by-said.ensures
