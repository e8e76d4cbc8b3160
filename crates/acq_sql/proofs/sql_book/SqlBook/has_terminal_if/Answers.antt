use Rattle.std.specs.Prelude.{option_and_then}
use Rattle.acq_message.specs.Elements.{or_empty}
use Rattle.acq_core.specs.Known.{holds_if}
use Rattle.acq_book.specs.Lookups.{has_terminal_at}
use Rattle.acq_sql.proofs.BookBlames.{has_past}
use Rattle.acq_sql.proofs.BookGives.{asked}
use Rattle.acq_sql.proofs.sql_book.SqlBook.has_terminal_if.Goals as goal

pub returns : goal.returns
returns g c =
    let answer = c.has_terminal-answer in
    asked g.S.Store _ _ answer.new.conn c.counted.new.failures c.self.view_is c.self.invariant
    c.settled.ensures answer.result c.counted.result answer.ensures.looks c.counted.ensures
    (λ t. holds_if (has_terminal_at t (or_empty c.args.merchant))
    (option_and_then (λ m. c.args.id) c.args.merchant))
    (λ clean t holds past. rw (c.in-Some-Some.is-0, c.in-Some-Some.is-1)
    (answer.ensures.answers clean t holds))
    _ answer.ensures.fails has_past
