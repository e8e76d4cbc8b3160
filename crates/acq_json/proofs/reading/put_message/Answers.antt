use Rattle.std.proofs.Common.{◌∙◌}
use Rattle.acq_make.proofs.Ended.{spelled_first, written_one}
use Rattle.acq_json.proofs.reading.put_message.Goals as goal

pub returns-clause-written : goal.returns-clause-written
returns-clause-written c =
    written_one c.args.form.now c.args.message.now c.as_slice.result.now c.args.out.now.items
    c.put_made.new.out.items
    (c.as_slice.ensures.value
    ∙ spelled_first c.args.message.now c.new-text.result.items c.encode.new.out.items
    c.new-text.ensures.items c.in_ok-encode.ensures.exact)
    c.in_ok-put_made.ensures
