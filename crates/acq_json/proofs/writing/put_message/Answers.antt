use Rattle.std.proofs.Common.{◌∷◌, [], codes}
use Rattle.json.specs.Json.{object}
use Rattle.json.specs.Token.{end_object, key, string}
use Rattle.json.specs.Tree.{json_tokens}
use Rattle.acq_json.specs.Written.{Behind, characters, elements_json}
use Rattle.acq_json.proofs.PutInTurn.{and_last, and_then, wrote}
use Rattle.acq_json.proofs.writing.put_message.Goals as goal

pub returns : goal.returns
returns c =
    let m = c.args.message.now in
    let kind : Behind c.begin_object.new.self c.put_bytes.new.writer
    (key (codes "type") ∷ string (characters m.kind) ∷ []) =
    rw (← c.kind.ensures) c.in_ok-put_bytes.ensures in
    let each : Behind c.key.new.self c.put_elements.new.writer
    (json_tokens (object (elements_json c.args.form m.elements))) =
    c.in_ok-put_elements.ensures in
    and_last c.end_object.result c.end_object.new.self end_object
    (and_then (and_then (and_then (wrote c.in_ok-begin_object.ensures) kind)
    (wrote c.in_ok-key.ensures)) each)
    c.end_object.ensures
