use Rattle.std.proofs.Common.{◌∙◌, sym, arith}
use Rattle.std.proofs.lemmas.Result.{err_from_is_err_and}
use Rattle.acq_link.proofs.hex_frames.LinesRead.{stands-start, stands-more, stands-end, stands-fault, nothing}
use Rattle.acq_link.proofs.hex_frames.hex_lines.frames_of_hex.Goals as goal

pub loop-rest-init : goal.loop-rest-init
loop-rest-init c = record {
  stands = stands-start c.args.text.now c.new-frames.result.items c.new-frames.ensures.items;
  short = omega arith;
}

pub loop-rest-preserved : goal.loop-rest-preserved
loop-rest-preserved c =
    let made = c.in_ok-add_line.ensures.ok in
    record {
      stands = stands-more c.args.text.now c.loop-rest.rest.now c.loop-rest.frames.items
          c.line_at.result.0.now
          c.line_at.result.1.now c.add_line.new.frames.items c.loop-rest.number
          c.loop-rest.invariant.stands
          c.line_at.ensures.lines made.0 made.1;
      short = omega (arith, c.line_at.ensures.shorter, c.loop-rest.invariant.short);
    }

pub overflow_add-number : goal.overflow_add-number
overflow_add-number c = omega (arith, c.line_at.ensures.shorter, c.loop-rest.invariant.short)

pub loop-rest-smaller : goal.loop-rest-smaller
loop-rest-smaller c = c.line_at.ensures.shorter

pub returns-in_err-add_line-clause-fault : goal.returns-in_err-add_line-clause-fault
returns-in_err-add_line-clause-fault c =
    let p = err_from_is_err_and c.from_residual.result c.from_residual.ensures.1 in
    rw (p.1, p.2)
    (stands-fault c.args.text.now c.loop-rest.rest.now c.loop-rest.frames.items
    c.line_at.result.0.now
    c.line_at.result.1.now c.loop-rest.number _ c.loop-rest.invariant.stands c.line_at.ensures.lines
    c.in_err-add_line.ensures.fault)

pub returns-clause-frames : goal.returns-clause-frames
returns-clause-frames c =
    let s = c.loop-rest.invariant.stands in
    let none = nothing c.loop-rest.rest.now (sym c.is_empty.ensures ∙ c.loop-rest-test.false) in (
      _,
      stands-end c.args.text.now c.loop-rest.rest.now c.loop-rest.frames.items c.loop-rest.number
          s none,
      s.made,
    )
