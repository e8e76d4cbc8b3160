-- A walk over the rows of a list: what its query shows, and whose each row is.
use Rattle.std.proofs.Common.{◌≡◌, ◌++◌, Bool, inl, inr, ℕ, List, [], ◌∷◌, map, Ok, Err, Result}
use Rattle.std.proofs.Common.{OnErr, sym, ap, subst}
use Rattle.std.proofs.Common.{◌∙◌}
use Rattle.sqlite_value.specs.Order.{Row}
use Rattle.sqlite_sql.specs.Query.{Query}
use Rattle.sqlite.specs.Clock.{timed}
use Rattle.sqlite.specs.Given.{IsPlain}
use Rattle.sqlite.specs.Listing.{understood}
use Rattle.sqlite.specs.State.{State, Shown}
use Rattle.sqlite.proofs.Callers.{EndsIn, command_of, begins_shown}
use Rattle.acq_book.specs.Visits.{SawAll, SawSome}
use Rattle.acq_sql_rows.specs.Schema.{IsBookSchema, book_schema}
use Rattle.acq_sql_reads.proofs.TextLemmas.{Asks}
use Rattle.acq_sql_reads.specs.Shown.{AreFirst, SawFirst, SawEnough}
use Rattle.acq_sql_reads.proofs.Showing.{unchanged_itself}
use Rattle.acq_sql_reads.proofs.Visiting.{AreOwn, read_front, read_whole, saw_all, saw_last}
use Rattle.acq_sql_reads.proofs.Visiting.{saw_some}

pub on_err_weaker : {T E P Q : Type 0} (r : Result T E) → (P → Q) → OnErr r P → OnErr r Q
on_err_weaker (Ok x) f is = tt
on_err_weaker (Err e) f is = f is

-- the query shows the rows of a list in turn, each of which is read as its own element alone
pub record ShowsList {T : Type 0} (sql : List ℕ) (params : Row) (old : State)
    (shows : Row → T → Type 0) (query : Query) (cells : T → Row) (ys : List T) : Type 0 where
  pub names : List (List ℕ)
  pub ask : Asks sql query names
  pub has : IsBookSchema old.now.schema
  pub found : (rows : List Row) → Shown sql params old old rows → rows ≡ map cells ys
  pub own : AreOwn shows cells ys

module _ {T : Type 0} {sql : List ℕ} {params : Row} {old : State} {shows : Row → T → Type 0}
    {query : Query} {cells : T → Row} {ys : List T}
    (list : ShowsList sql params old shows query cells ys) where
  pub is_plain : IsPlain (understood old.now.schema sql)
  is_plain = subst (λ d. IsPlain (understood d sql)) (sym list.has.1) (list.ask.plain list.has.0)

  -- the first rows are those of the list
  pub front : (rows : List Row) → AreFirst sql params old rows →
      (tail : List Row) × (rows ++ tail ≡ map cells ys)
  front rows (inl none) = (map cells ys, ap (λ l. l ++ map cells ys) none)
  front rows (inr begun) =
      let shown = begins_shown sql params old old rows begun.1 (unchanged_itself old begun.0)
      (λ c db it source.
      let known : understood (book_schema list.has.0) sql ≡ Ok c =
      ap (λ s. understood s sql) (sym list.has.1) ∙ it.is in
      let is = ap command_of (sym known) ∙ list.ask.is list.has.0 in
      subst (λ d. EndsIn d db (timed params c.formats it.now)) (sym is) tt) in
      (shown.0, list.found (rows ++ shown.0) shown.1)

  module _ {V : Type 0} (sees : V → T → Bool → V → Type 0) (v w : V) where
    pub saw_first : SawFirst sql params old shows sees v w → SawSome sees ys v w
    saw_first (rows, xs, first, read, saw) =
        let tail = front rows first in
        let rest = read_front shows cells ys rows tail.0 xs list.own tail.1 read in
        subst (λ l. SawSome sees l v w) (sym rest.1) (saw_some sees xs rest.0 v w saw)

    pub saw_enough : SawEnough sql params old shows sees v w → SawAll sees ys v w
    saw_enough (inl (rows, xs, shown, read, saw)) =
        subst (λ l. SawAll sees l v w)
        (read_whole shows cells ys rows xs list.own (list.found rows shown) read)
        (saw_all sees xs v w saw)
    saw_enough (inr (rows, xs, x, first, read, last)) =
        let tail = front rows first in
        let rest = read_front shows cells ys rows tail.0 (xs ++ x ∷ []) list.own tail.1 read in
        subst (λ l. SawAll sees l v w) (sym rest.1) (saw_last sees xs x rest.0 v w last)
