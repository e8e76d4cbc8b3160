use Rattle.std.proofs.Common.{◌≡◌, ◌-◌, ◌++◌, length}
use Rattle.std.specs.Prelude.{codes}
use Rattle.std.specs.Fmt.{decimal}
use Rattle.std.proofs.lemmas.Result.{on_ok_weaker}
use Rattle.acq_show.specs.Names.{element_name}
use Rattle.acq_show.specs.Contents.{content_shown}
use Rattle.acq_show.specs.Shown.{spaces}
use Rattle.acq_show.proofs.PutLines.{line_in_turn, on_ok_text}
use Rattle.acq_show.proofs.lines.put_element.Goals as goal

pub returns : goal.returns
returns c =
    let n = c.args.number in
    let name = element_name n in
    let one : c.put_right.new.text.items ≡ c.args.text.now.items
    ++ (spaces (5 - length (decimal n)) ++ decimal n) =
    rw (← c.format.ensures.text, ← c.as_bytes.ensures.value) c.in_ok-put_right.ensures in
    let two : c.extend_from_slice.new.self.items ≡ c.put_right.new.text.items ++ codes "  " =
    c.in_ok-extend_from_slice.ensures.items in
    let three : c.put_left.new.text.items ≡ c.extend_from_slice.new.self.items
    ++ (name ++ spaces (34 - length name)) =
    rw (← c.element_name.ensures, ← c.as_bytes-2.ensures.value) c.in_ok-put_left.ensures in
    let four : c.put_content.new.text.items ≡ c.put_left.new.text.items
    ++ content_shown n c.args.content.now =
    c.in_ok-put_content.ensures in
    on_ok_weaker c.extend_from_slice-2.result
    (line_in_turn c.args.text.now.items c.put_right.new.text.items
    c.extend_from_slice.new.self.items
    c.put_left.new.text.items c.put_content.new.text.items c.extend_from_slice-2.new.self.items
    (spaces (5 - length (decimal n))) (decimal n) (codes "  ") name (spaces (34 - length name))
    (content_shown n c.args.content.now) (codes "\n") one two three four)
    (on_ok_text c.extend_from_slice-2.result c.extend_from_slice-2.new.self.items
    (c.put_content.new.text.items ++ codes "\n") c.put_content.new.text.items
    c.extend_from_slice-2.ensures.items)
