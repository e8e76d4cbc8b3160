-- first the rows, then what is the merchant's
use Rattle.acq_book.specs.Looked.{IsLooked}
use Rattle.acq_sql.specs.Given.{rows_of}
use Rattle.acq_sql.proofs.BookGives.{and_then, in_other_words}
use Rattle.acq_sql.proofs.sql_book.SqlBook.look_up_wanted.Goals as goal

pub returns : goal.returns
returns g c =
    in_other_words g.S.Store (λ done both is. both.1 (both.0 is))
    (and_then g.S.Store
    (λ t done. IsLooked t (rows_of c.args.wanted.now) c.look_up_rows.new.looked →
    IsLooked t c.args.wanted.now c.look_up_of_merchant.new.looked)
    c.in_ok-look_up_rows.ensures c.look_up_of_merchant.ensures)
