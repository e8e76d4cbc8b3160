use Rattle.std.proofs.Common.{◌≡◌, ℕ, List, length, Option, None, Some, SomeIff, refl, sym, ap, ◌∙◌}
use Rattle.sqlite_value.specs.Order.{Row, column}
use Rattle.sqlite_value.specs.declared.value.Value.{Value}
use Rattle.sqlite_value.specs.declared.value.Value.TheVariants.{Text}
use Rattle.row_lemmas.specs.Values.{number}
use Rattle.acq_core.specs.declared.posting.Posting.{Posting}
use Rattle.acq_sql_rows.specs.Rows.{leg_number, posting_row}
use Rattle.acq_sql_reads.proofs.RowReads.{nine_columns}
use Rattle.acq_sql_reads.proofs.posting_row.read_posting.Goals as goal

-- the text of a column was taken for what it fits
text_taken : (o : Option (List ℕ)) (fits : Type 0) (text x : List ℕ) (value : Value)
    → value ≡ Text text → SomeIff o fits text → o ≡ Some x → value ≡ Text x
text_taken None fits text x value is some found = absurd (let e : None ≡ Some x = found in cc)
text_taken (Some y) fits text x value is some found =
    let same : y ≡ x = cc in
    is ∙ ap Text (sym some.1 ∙ same)

posting_is : (row : Row) (p : ℕ × Posting) → length row ≡ 9
    → column row 0 ≡ Text p.1.merchant → column row 1 ≡ number p.1.day → column row 2 ≡ number p.0
    → column row 3 ≡ number (leg_number p.1.leg) → column row 4 ≡ number p.1.amount
    → column row 5 ≡ number p.1.reference → column row 6 ≡ Text p.1.card
    → column row 7 ≡ Text p.1.terminal → column row 8 ≡ Text p.1.trace → row ≡ posting_row p
posting_is row p len e0 e1 e2 e3 e4 e5 e6 e7 e8 =
    nine_columns row len ∙ rw (e0, e1, e2, e3, e4, e5, e6, e7, e8) refl

pub returns-clause-value : goal.returns-clause-value
returns-clause-value c len =
    posting_is c.args.row.now (
      c.in_ok-number.number,
      record {
        merchant = c.in_ok-merchant.merchant;
        day = c.in_ok-day.day;
        leg = c.in_ok-leg.leg;
        amount = c.in_ok-amount.amount;
        reference = c.in_ok-reference.reference;
        card = c.in_ok-card.card;
        terminal = c.in_ok-terminal.terminal;
        trace = c.in_ok-trace.trace;
      },
    )
    len c.in_ok-merchant.ensures.value c.in_ok-day.ensures.value c.in_ok-number.ensures.ok.1
    c.in_ok-leg.ensures.value c.in_ok-amount.ensures.value c.in_ok-reference.ensures.value
    c.in_ok-card.ensures.value c.in_ok-terminal.ensures.value
    (text_taken c.read.result _ c.in_ok-text_at.field-0.now c.in_ok-trace.trace _
    c.in_ok-text_at.ensures.value c.read.ensures c.in_ok-trace.ensures.value)
