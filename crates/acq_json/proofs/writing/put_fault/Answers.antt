use Rattle.json.specs.Token.{end_object}
use Rattle.acq_json.proofs.PutInTurn.{and_last, and_then, wrote}
use Rattle.acq_json.proofs.writing.put_fault.Goals as goal

pub returns : goal.returns
returns c =
    and_last c.end_object.result c.end_object.new.self end_object
    (and_then (and_then (and_then (and_then (wrote c.in_ok-begin_object.ensures)
    c.in_ok-put_number.ensures) c.in_ok-put_number-2.ensures) c.in_ok-put_number-3.ensures)
    c.in_ok-put_text.ensures)
    c.end_object.ensures
