-- Postings of terminals, as far as a walk has come.
use Rattle.std.proofs.Common.{◌≡◌, ℕ, List, [], ◌∷◌, ◌++◌, Bool, true, false, cond, refl, sym, ap}
use Rattle.std.proofs.Common.{◌∙◌, map, filter, append_assoc, append-nil, inl, inr}
use Rattle.std.proofs.Common.{true≢false}
use Rattle.std.proofs.lemmas.List.{map-append}
use Rattle.std.proofs.lemmas.List.Elements.{filter-append}
use Rattle.std.specs.Str.{bytes_eq}
use Rattle.day_totals.specs.declared.leg.Leg.{Leg}
use Rattle.day_totals.specs.declared.leg.Leg.TheVariants.{Credit, CreditReversal, Debit}
use Rattle.day_totals.specs.declared.leg.Leg.TheVariants.{DebitReversal}
use Rattle.day_totals.specs.Totals.{DayTotals, totals_of, with_leg_amount}
use Rattle.day_totals.proofs.TotalsOfPostings.{totals_of-push}
use Rattle.acq_core.specs.declared.posting.Posting.{Posting}
use Rattle.acq_core.specs.declared.terminal.Terminal.{Terminal}
use Rattle.acq_book.specs.Visits.{SawAll}
use Rattle.acq_statement.specs.declared.terminal_sums.AtTerminals.{AtTerminals}
use Rattle.acq_statement.specs.Sums.{capped_posting, capped_totals}
use Rattle.acq_statement.specs.TerminalRows.{AddsPosting}
use Rattle.acq_statement.specs.TerminalTotals.{sums_at_terminal, sums_at_terminals}
use Rattle.acq_statement.specs.TerminalTotals.{terminal_totals, with_posting}
use Rattle.acq_statement.proofs.Summing.{capped_amount_more}

-- one posting more, of capped totals
posting_more : (t : DayTotals) (leg : Leg) (amount : ℕ) →
    capped_posting (capped_totals t) leg amount ≡ capped_totals (with_leg_amount t leg amount)
posting_more t Credit amount =
    let leg = capped_amount_more t.credits amount in
    λ i. record (capped_totals t) { credits = leg i }
posting_more t CreditReversal amount =
    let leg = capped_amount_more t.credit_reversals amount in
    λ i. record (capped_totals t) { credit_reversals = leg i }
posting_more t Debit amount =
    let leg = capped_amount_more t.debits amount in
    λ i. record (capped_totals t) { debits = leg i }
posting_more t DebitReversal amount =
    let leg = capped_amount_more t.debit_reversals amount in
    λ i. record (capped_totals t) { debit_reversals = leg i }

-- leg and amount of a posting
abbrev leg_and_amount : ℕ × Posting → Leg × ℕ
leg_and_amount row = (row.1.leg, row.1.amount)

abbrev of_terminal : List ℕ → List (ℕ × Posting) → List (ℕ × Posting)
of_terminal terminal rows = filter (λ row. bytes_eq row.1.terminal terminal) rows

-- what a posting adds to the totals of a terminal
totals_more : (rows : List (ℕ × Posting)) (row : ℕ × Posting) (terminal : List ℕ) →
    terminal_totals (rows ++ row ∷ []) terminal
    ≡ cond (bytes_eq row.1.terminal terminal)
    (with_leg_amount (terminal_totals rows terminal) row.1.leg row.1.amount)
    (terminal_totals rows terminal)
totals_more rows row terminal =
    ap (λ l. totals_of (map leg_and_amount l))
    (filter-append (λ one. bytes_eq one.1.terminal terminal) rows (row ∷ []))
    ∙ at (bytes_eq row.1.terminal terminal)
  where
    at : (b : Bool) →
        totals_of (map leg_and_amount (of_terminal terminal rows ++ cond b (row ∷ []) []))
        ≡ cond b (with_leg_amount (terminal_totals rows terminal) row.1.leg row.1.amount)
        (terminal_totals rows terminal)
    at true =
        ap totals_of (map-append leg_and_amount (of_terminal terminal rows) (row ∷ []))
        ∙ totals_of-push (map leg_and_amount (of_terminal terminal rows)) row.1.leg row.1.amount
    at false = ap (λ l. totals_of (map leg_and_amount l)) (append-nil (of_terminal terminal rows))

module _ (done : List (ℕ × Posting)) (row : ℕ × Posting) where
  -- a terminal, after one posting more
  pub one_more : (id : List ℕ) →
      with_posting row.1 (sums_at_terminal done id) ≡ sums_at_terminal (done ++ row ∷ []) id
  one_more id =
      at (bytes_eq row.1.terminal id)
      ∙ ap (λ (t : DayTotals). record { id = id; sums = capped_totals t })
      (sym (totals_more done row id))
    where
      at : (b : Bool) → cond b
          (record {
            id = id;
            sums = capped_posting (capped_totals (terminal_totals done id)) row.1.leg row.1.amount;
          })
          (sums_at_terminal done id)
          ≡ record {
            id = id;
            sums = capped_totals (cond b
                (with_leg_amount (terminal_totals done id) row.1.leg row.1.amount)
                (terminal_totals done id));
          }
      at true =
          let more = posting_more (terminal_totals done id) row.1.leg row.1.amount in
          λ i. record { id = id; sums = more i }
      at false = refl

  all_more : (terminals : List Terminal) →
      map (with_posting row.1) (sums_at_terminals done terminals)
      ≡ sums_at_terminals (done ++ row ∷ []) terminals
  all_more [] = refl
  all_more (terminal ∷ terminals) =
      let first = one_more terminal.id in
      let rest = all_more terminals in
      λ i. first i ∷ rest i

-- all postings of a walk
pub all_posted : (terminals : List Terminal) (done rows : List (ℕ × Posting)) (v w : AtTerminals) →
    SawAll AddsPosting rows v w → v.sums.items ≡ sums_at_terminals done terminals →
    w.sums.items ≡ sums_at_terminals (done ++ rows) terminals
all_posted terminals done [] v w same is =
    ap (λ u. u.sums.items) (sym same)
    ∙ (is ∙ ap (λ l. sums_at_terminals l terminals) (sym (append-nil done)))
all_posted terminals done (row ∷ rows) v w (inl (u, seen, rest)) is =
    all_posted terminals (done ++ row ∷ []) rows u w rest
    (seen.1 ∙ (ap (map (with_posting row.1)) is ∙ all_more done row terminals))
    ∙ ap (λ l. sums_at_terminals l terminals) (append_assoc done (row ∷ []) rows)
all_posted terminals done (row ∷ rows) v w (inr seen) is = absurd (true≢false (sym seen.0))
