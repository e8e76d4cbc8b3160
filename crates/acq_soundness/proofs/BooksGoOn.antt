-- Books begin, and go on; what each event of a book keeps holds of all books.
use Rattle.std.proofs.Common.{◌≡◌, List, [], ◌∷◌, ◌++◌, refl, sym, ap, ◌∙◌}
use Rattle.std.proofs.lemmas.List.Elements.{All-nil, All-push, All-head, All-tail}
use Rattle.acq_core.specs.declared.event.Event.{Event}
use Rattle.acq_core.specs.Arrivals.{arrival_of}
use Rattle.acq_core.specs.Tables.{Opening, Tables, new_tables, step_tables, tables_after}
use Rattle.acq_core.specs.Events.{IsEvent, AreEvents, IsOpening}
use Rattle.acq_core.specs.Pasts.{IsBook}
use Rattle.acq_soundness.specs.Books.{BooksBegin, BooksGoOn}

-- after one event more
tables_after-push : (t : Tables) (es : List Event) (e : Event) →
    tables_after t (es ++ e ∷ []) ≡ step_tables (tables_after t es) (arrival_of e)
tables_after-push t [] e = refl
tables_after-push t (x ∷ es) e = tables_after-push (step_tables t (arrival_of x)) es e

pub books_begin : BooksBegin
books_begin opening opens =
    record { opens = opens; events = []; are_events = All-nil IsEvent; after = refl }

pub books_go_on : BooksGoOn
books_go_on opening t e book is = record {
  opens = book.opens;
  events = book.events ++ e ∷ [];
  are_events = All-push IsEvent book.events e book.are_events is;
  after =
      ap (λ u. step_tables u (arrival_of e)) book.after
      ∙ sym (tables_after-push (new_tables opening) book.events e);
}

kept_from : (opening : Opening) (P : Tables → Type 0) →
    ((t : Tables) (e : Event) → IsBook opening t → IsEvent e → P t →
    P (step_tables t (arrival_of e))) →
    (t : Tables) (es : List Event) → IsBook opening t → AreEvents es → P t → P (tables_after t es)
kept_from opening P step t [] book are h = h
kept_from opening P step t (e ∷ es) book are h =
    let is = All-head IsEvent e es are in
    kept_from opening P step (step_tables t (arrival_of e)) es (books_go_on opening t e book is)
    (All-tail IsEvent e es are) (step t e book is h)

-- where each step may take it that its tables are a book's
pub kept_in_books : (opening : Opening) (P : Tables → Type 0) → IsOpening opening →
    ((t : Tables) (e : Event) → IsBook opening t → IsEvent e → P t →
    P (step_tables t (arrival_of e))) → (es : List Event) → AreEvents es → P (new_tables opening) →
    P (tables_after (new_tables opening) es)
kept_in_books opening P opens step es are h =
    kept_from opening P step (new_tables opening) es (books_begin opening opens) are h
