use Rattle.acq_soundness.proofs.BooksGoOn.{books_begin, books_go_on}
use Rattle.acq_soundness.proofs.BooksAreSound.{books_are_sound}
use Rattle.acq_soundness.proofs.book_laws.books_are_sound.Goals as goal

pub returns-clause-begin : goal.returns-clause-begin
returns-clause-begin c = books_begin

pub returns-clause-go_on : goal.returns-clause-go_on
returns-clause-go_on c = books_go_on

pub returns-clause-sound : goal.returns-clause-sound
returns-clause-sound c = books_are_sound
