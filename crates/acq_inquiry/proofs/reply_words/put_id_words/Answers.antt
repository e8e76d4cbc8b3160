use Rattle.std.specs.Prelude.{codes}
use Rattle.std.proofs.lemmas.Result.{on_ok_weaker}
use Rattle.acq_show.specs.Contents.{content_shown}
use Rattle.acq_inquiry.proofs.InTurn.{two_in_turn}
use Rattle.acq_inquiry.proofs.reply_words.put_id_words.Goals as goal

pub returns-in_ok-extend_from_slice-in-Some : goal.returns-in_ok-extend_from_slice-in-Some
returns-in_ok-extend_from_slice-in-Some c =
    rw (← c.in-Some.ensures.value)
    (on_ok_weaker c.put_content.result
    (two_in_turn c.args.text.now.items c.extend_from_slice.new.self.items
    c.put_content.new.text.items (codes ", authorization id ")
    (content_shown 38 c.in-Some.id.now) c.in_ok-extend_from_slice-in-Some.ensures.items)
    c.put_content.ensures)
