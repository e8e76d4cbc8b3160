-- What visitors that keep terminals, or their postings' sums, make of a row.
use Rattle.std.specs.Prelude.{◌≡◌, ◌⊎◌, ◌+◌, ℕ, Bool, true, false, List, [], ◌∷◌, ◌++◌, map}
use Rattle.acq_core.specs.declared.posting.Posting.{Posting}
use Rattle.acq_core.specs.declared.terminal.Terminal.{Terminal}
use Rattle.acq_statement.specs.declared.posted_sums.PostedSums.{PostedSums}
use Rattle.acq_statement.specs.declared.terminals.Terminals.{Terminals}
use Rattle.acq_statement.specs.declared.terminal_sums.AtTerminals.{AtTerminals}
use Rattle.acq_statement.specs.Gathered.{sums_in}
use Rattle.acq_reports.specs.Slices.{goes_on}
use Rattle.acq_statement.specs.TerminalTotals.{with_posting}

-- it has one terminal more, or memory ran out
abbrev pub KeepsTerminal : Terminals → Terminal → Bool → Terminals → Type 0
KeepsTerminal old row true new =
    (new.terminals.items ≡ old.terminals.items ++ row ∷ []) × (new.is_short ≡ old.is_short)
KeepsTerminal old row false new = new.is_short ≡ true

-- the posting is added to the sums of its terminal
abbrev pub AddsPosting : AtTerminals → ℕ × Posting → Bool → AtTerminals → Type 0
AddsPosting old row more new =
    (more ≡ true) × (new.sums.items ≡ map (with_posting row.1) old.sums.items)

-- so it is whichever terminal posted it, and the visitor goes on to its end; or memory ran out
abbrev pub SumsOne : PostedSums → ℕ × Posting → Bool → PostedSums → Type 0
SumsOne old row more new =
    (((terminal : List ℕ) →
    sums_in new.sums.items terminal ≡ with_posting row.1 (sums_in old.sums.items terminal))
    × (new.number ≡ row.0) × (new.gone ≡ old.gone + 1) × (new.end ≡ old.end)
    × (more ≡ goes_on new.end new.gone))
    ⊎ ((new.is_short ≡ true) × (more ≡ false))
