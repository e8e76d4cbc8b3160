use Rattle.acq_book.specs.Lookups.{postings_above_at}
use Rattle.acq_sql.proofs.BookBlames.{above_walked}
use Rattle.acq_sql.proofs.BookGives.{walked}
use Rattle.acq_sql.proofs.sql_book.SqlBookBook.walk_postings_above.Goals as goal

pub returns : goal.returns
returns g c =
    let walk = c.walk_postings_above-walked in
    walked g.S.Store _ _ walk.new.conn c.counted.new.failures c.self.view_is c.self.invariant
    c.settled.ensures g.V.Visit.sees
    (λ t. postings_above_at t c.args.merchant c.args.day c.args.number) c.args.visitor.now
    walk.new.visitor walk.result c.counted.result walk.ensures.looks c.counted.ensures
    walk.ensures.seen
    walk.ensures.begun
    walk.ensures.shown _ walk.ensures.fails (above_walked c.args.merchant c.args.day c.args.number)
