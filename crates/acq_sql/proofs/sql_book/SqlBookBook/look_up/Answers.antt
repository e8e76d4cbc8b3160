-- over the book's row, all that is wanted
use Rattle.std.proofs.Common.{◌≡◌, ℕ, ap, refl, sym, subst}
use Rattle.acq_core.specs.Known.{nothing}
use Rattle.acq_core.specs.Looking.{nothing_looked}
use Rattle.acq_core.specs.Tables.{Tables}
use Rattle.acq_book.specs.Looked.{IsLooked}
use Rattle.acq_sql.specs.Opened.{tables}
use Rattle.acq_sql.proofs.BookGives.{and_then, failed_with, put_together}
use Rattle.acq_sql.proofs.sql_book.SqlBookBook.look_up.Goals as goal

-- nothing but the book's row
nothing_is : (t : Tables) (limit today : ℕ) →
    ◌≡◌ {A = ℕ × ℕ} (limit, today) (t.limit, t.day) →
    IsLooked t nothing (nothing_looked today limit)
nothing_is t limit today is = record {
  today = ap (λ p. p.1) is;
  limit = ap (λ p. p.0) is;
  merchant = refl;
  has_terminal = refl;
  recorded = refl;
  original = refl;
  referred = refl;
  range = refl;
  overlapped = refl;
  admitted = refl;
  used = refl;
  totals = refl;
}

pub returns-in-Ok-clause-gives : goal.returns-in-Ok-clause-gives
returns-in-Ok-clause-gives g c =
    (put_together g.S.Store c.look_up_wanted.new.looked
    (and_then g.S.Store
    (λ t done. IsLooked t nothing c.nothing-looked.result →
    IsLooked t c.args.wanted.now c.look_up_wanted.new.looked)
    c.in_ok-limit.ensures c.in-Ok.ensures)
    (λ found. let t = tables g.S.Store c.args.self.now in
    found.1 (subst (IsLooked t nothing) (sym c.nothing-looked.ensures)
    (nothing_is t c.in_ok-limit.limit c.in_ok-limit.today found.0)))).gives

pub returns-in-Ok-clause-within : goal.returns-in-Ok-clause-within
returns-in-Ok-clause-within g c =
    (put_together g.S.Store c.look_up_wanted.new.looked
    (and_then g.S.Store
    (λ t done. IsLooked t nothing c.nothing-looked.result →
    IsLooked t c.args.wanted.now c.look_up_wanted.new.looked)
    c.in_ok-limit.ensures c.in-Ok.ensures)
    (λ found. let t = tables g.S.Store c.args.self.now in
    found.1 (subst (IsLooked t nothing) (sym c.nothing-looked.ensures)
    (nothing_is t c.in_ok-limit.limit c.in_ok-limit.today found.0)))).within

pub returns-in-Err-clause-gives : goal.returns-in-Err-clause-gives
returns-in-Err-clause-gives g c =
    (failed_with g.S.Store c.in-Err.fault c.in_ok-limit.ensures c.in-Err.ensures).gives

pub returns-in-Err-clause-within : goal.returns-in-Err-clause-within
returns-in-Err-clause-within g c =
    (failed_with g.S.Store c.in-Err.fault c.in_ok-limit.ensures c.in-Err.ensures).within
