use Rattle.std.proofs.Common.{◌++◌, ◌∙◌, ap}
use Rattle.std.specs.Prelude.{codes}
use Rattle.std.specs.Fmt.{decimal}
use Rattle.std.proofs.lemmas.Result.{on_ok_weaker}
use Rattle.acq_show.specs.Names.{element_name}
use Rattle.acq_show.specs.Remarks.{element_words}
use Rattle.acq_show.proofs.PutLines.{on_ok_text}
use Rattle.acq_show.proofs.PutParts.{five_in_turn}
use Rattle.acq_show.proofs.remarks.put_element_words.Goals as goal

pub returns : goal.returns
unfolding element_words
returns c = on_ok_weaker c.extend_from_slice-5.result
    (λ last. five_in_turn c.args.text.now.items c.extend_from_slice.new.self.items
    c.extend_from_slice-2.new.self.items c.extend_from_slice-3.new.self.items
    c.extend_from_slice-4.new.self.items c.extend_from_slice-5.new.self.items
    (codes "element ") (decimal c.args.number) (codes ", ") (element_name c.args.number)
    (codes ", ") c.in_ok-extend_from_slice.ensures.items
    (c.in_ok-extend_from_slice-2.ensures.items
    ∙ ap (λ l. c.extend_from_slice.new.self.items ++ l)
    (c.as_bytes.ensures.value ∙ c.format.ensures.text))
    c.in_ok-extend_from_slice-3.ensures.items
    (c.in_ok-extend_from_slice-4.ensures.items
    ∙ ap (λ l. c.extend_from_slice-3.new.self.items ++ l)
    (c.as_bytes-2.ensures.value ∙ c.element_name.ensures))
    last)
    (on_ok_text c.extend_from_slice-5.result c.extend_from_slice-5.new.self.items
    (c.extend_from_slice-4.new.self.items ++ codes ", ") c.extend_from_slice-4.new.self.items
    c.extend_from_slice-5.ensures.items)
