use Rattle.std.proofs.Common.{◌∙◌, ◌++◌, List, ℕ, [], refl, sym, ap, arith}
use Rattle.std.proofs.lemmas.Result.{err_from_is_err_and}
use Rattle.acq_link.proofs.hex_frames.LinesRead.{nothing}
use Rattle.acq_make.specs.Written.{written}
use Rattle.acq_make.proofs.Ended.{written_more, written_none}
use Rattle.acq_make.proofs.Steps.{or_so}
use Rattle.acq_json.proofs.SaidInTurn.{says_all, says_more, says_none, says_until}
use Rattle.acq_json.proofs.reading.make_of_json.Goals as goal

pub loop-rest-init : goal.loop-rest-init
loop-rest-init c = record {
  so = (
    [],
    says_none c.args.text.now [] refl,
    c.new-out.ensures.items ∙ written_none c.args.form.now [],
  );
  short = omega arith;
}

pub overflow_add-number : goal.overflow_add-number
overflow_add-number c = omega (arith, c.line_at.ensures.shorter, c.loop-rest.invariant.short)

pub loop-rest-smaller : goal.loop-rest-smaller
loop-rest-smaller c = c.line_at.ensures.shorter

pub loop-rest-preserved : goal.loop-rest-preserved
loop-rest-preserved c =
    let so = c.loop-rest.invariant.so in
    let does = rw c.without_return.ensures at c.in_ok-take_line.ensures.said in
    record {
      so = (
        so.0 ++ does.0,
        says_more c.args.text.now c.loop-rest.rest.now c.line_at.result.0.now
            c.line_at.result.1.now so.0 does.0 (so.0 ++ does.0) c.loop-rest.number so.1
            c.line_at.ensures.lines does.1 refl,
        does.2 ∙ ap (λ (x : List ℕ). x ++ written c.args.form.now does.0) so.2
            ∙ sym (written_more c.args.form.now so.0 does.0),
      );
      short = omega (arith, c.line_at.ensures.shorter, c.loop-rest.invariant.short);
    }

pub returns-in_err-take_line-clause-fault : goal.returns-in_err-take_line-clause-fault
returns-in_err-take_line-clause-fault c =
    let p = err_from_is_err_and c.from_residual.result c.from_residual.ensures.1 in
    let so = c.loop-rest.invariant.so in
    rw (p.1, p.2)
    (or_so (λ does. says_until c.args.text.now c.loop-rest.rest.now c.line_at.result.0.now
    c.line_at.result.1.now so.0 c.loop-rest.number c.in_err-take_line.field-0.0 so.1
    c.line_at.ensures.lines (rw c.without_return.ensures at does))
    c.in_err-take_line.ensures.fault)

pub returns-clause-made : goal.returns-clause-made
returns-clause-made c =
    let so = c.loop-rest.invariant.so in (
      so.0,
      says_all c.args.text.now c.loop-rest.rest.now so.0 c.loop-rest.number so.1
          (nothing c.loop-rest.rest.now (sym c.is_empty.ensures ∙ c.loop-rest-test.false)),
      so.2,
    )
