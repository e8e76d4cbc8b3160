use Rattle.std.proofs.Common.{◌≡◌, ◌∙◌, ◌∷◌, [], ℕ, List, ap, refl, subst, sym}
use Rattle.std.specs.Prelude.{IfOk}
use Rattle.acq_statement.specs.Gathered.{HasClaims, IsGathered, only, sums_in}
use Rattle.acq_statement.specs.Statement.{statement_text}
use Rattle.acq_statement.specs.TerminalTotals.{day_postings, sums_at_terminal}
use Rattle.acq_statement.proofs.gathering.Gathering.text.Goals as goal

-- all is gathered over the tables at first
pub returns-clause-text : goal.returns-clause-text
returns-clause-text g c = λ honest opened is.
    let summed = c.in_ok-summed.ensures in
    let claimed = c.in_ok-whole.ensures in
    let honest2 = c.written.ensures.looks.was_honest honest in
    let honest1 = claimed.looks.was_honest honest2 in
    let opened1 = summed.looks.stays_open refl honest1 opened in
    let opened2 = claimed.looks.stays_open refl honest2 opened1 in
    let same1 = summed.looks.same opened1 in
    let same2 = claimed.looks.same opened2 in
    let at1 = subst (λ t. IsGathered t c.in_ok-summed.summed) (sym same1)
    (summed.goes honest1 opened is) in
    let claims = subst (λ t. HasClaims t c.in_ok-whole.whole) (sym same2)
    (claimed.whole honest2 opened1 at1 refl) in
    subst (λ (l : List ℕ). IfOk c.written.result (λ text. text.items ≡ l))
    (λ i. statement_text ((same2 ∙ same1) i) ((claimed.asks.0 ∙ summed.asks.0) i ∷ [])
    (only ((claimed.asks.1 ∙ summed.asks.1) i)) ((claimed.asks.2 ∙ summed.asks.2) i))
    (c.written.ensures.text honest opened2
    (λ terminal.
    ap (λ l. sums_in l terminal) claimed.sums ∙ summed.whole honest1 opened is refl terminal
    ∙ (λ i. sums_at_terminal (day_postings (sym (same2 ∙ same1) i) (sym claimed.asks.0 i)
    (sym claimed.asks.1 i)) terminal))
    claims)
