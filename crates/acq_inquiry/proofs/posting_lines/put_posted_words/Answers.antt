use Rattle.std.specs.Prelude.{codes}
use Rattle.std.specs.Fmt.{decimal}
use Rattle.std.proofs.lemmas.Result.{on_ok_weaker}
use Rattle.day_totals.specs.Day.{date_text_of}
use Rattle.acq_inquiry.specs.PostingLines.{moved_words, posted_words}
use Rattle.acq_inquiry.proofs.InTurn.{five_in_turn}
use Rattle.acq_inquiry.proofs.posting_lines.put_posted_words.Goals as goal

pub returns : goal.returns
unfolding posted_words
returns c =
    let posting = c.args.posting.now in
    on_ok_weaker c.put_moved_words.result
    (five_in_turn c.args.text.now.items c.extend_from_slice.new.self.items
    c.extend_from_slice-2.new.self.items c.extend_from_slice-3.new.self.items
    c.put_number.new.text.items c.put_moved_words.new.text.items
    (codes "posted on ") (date_text_of posting.day) (codes " as number ") (decimal c.args.number)
    (moved_words posting)
    c.in_ok-extend_from_slice.ensures.items
    (rw (c.date_text.ensures) at c.in_ok-extend_from_slice-2.ensures.items)
    c.in_ok-extend_from_slice-3.ensures.items
    c.in_ok-put_number.ensures)
    c.put_moved_words.ensures
