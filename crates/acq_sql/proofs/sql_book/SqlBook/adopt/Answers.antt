use Rattle.std.proofs.Common.{refl}
use Rattle.acq_sql.proofs.BookLooks.{stays_roomy}
use Rattle.acq_sql.proofs.sql_book.SqlBook.adopt.Goals as goal

pub returns-in-Ok-clause-room : goal.returns-in-Ok-clause-room
returns-in-Ok-clause-room g c clean room =
    let looks = c.in-Ok.ensures.looks in
    stays_roomy _ _ looks.stop.limit (looks.same clean refl).0.now_is room
