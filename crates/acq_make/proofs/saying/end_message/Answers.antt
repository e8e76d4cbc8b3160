use Rattle.std.proofs.Common.{◌∙◌, [], ◌∷◌, inr, sym}
use Rattle.acq_make.proofs.Ended.{ended_long, ended_none, ended_whole, spelled_first}
use Rattle.acq_make.proofs.Ended.{written_none, written_one}
use Rattle.acq_make.proofs.saying.end_message.Goals as goal

pub returns-in_default-clause-ok : goal.returns-in_default-clause-ok
returns-in_default-clause-ok c =
    ([], ended_none c.args.draft c.in_default.is, written_none c.args.form.now c.args.out.now.items)

pub returns-then-not-fits_frame-clause-fault : goal.returns-then-not-fits_frame-clause-fault
returns-then-not-fits_frame-clause-fault c =
    inr (ended_long c.args.draft c.in-Some.draft c.as_slice.result.now c.in-Some.is
    (c.as_slice.ensures.value
    ∙ spelled_first c.in-Some.draft.message c.new-text.result.items c.encode.new.out.items
    c.new-text.ensures.items c.in_ok-encode.ensures.exact)
    (sym c.fits_frame.ensures ∙ c.if-not-fits_frame.true))

pub returns-clause-ok : goal.returns-clause-ok
returns-clause-ok c =
    let spelled = spelled_first c.in-Some.draft.message c.new-text.result.items
    c.encode.new.out.items c.new-text.ensures.items c.in_ok-encode.ensures.exact in (
      c.in-Some.draft.message ∷ [],
      ended_whole c.args.draft c.in-Some.draft c.as_slice.result.now c.in-Some.is
          (c.as_slice.ensures.value ∙ spelled)
          (sym c.fits_frame.ensures ∙ c.if-not-fits_frame.false),
      written_one c.args.form.now c.in-Some.draft.message c.as_slice-2.result.now
          c.args.out.now.items c.put_made.new.out.items (c.as_slice-2.ensures.value ∙ spelled)
          c.in_ok-put_made.ensures,
    )
