use Rattle.std.proofs.Common.{◌≡◌, ◌-◌, ℕ, List, length, take, drop, ap, sym, ◌∙◌, length-drop}
use Rattle.std.proofs.Common.{arith}
use Rattle.std.proofs.lemmas.List.{take_all}
use Rattle.acq_control.specs.Questions.{AsksBy, without_return, word_length, word_of}
use Rattle.acq_control.specs.declared.question_word.QuestionWord.TheVariants as word
use Rattle.acq_control.proofs.reading.question_of.Goals as goal

behind : (n : ℕ) (line : List ℕ) → take (length line - n) (drop n line) ≡ drop n line
behind n line = take_all (length line - n) (drop n line) (omega (arith, length-drop n line))

pub returns-in-Clearing-clause-asks : goal.returns-in-Clearing-clause-asks
returns-in-Clearing-clause-asks c =
    let line = c.without_return-line.result.now in
    let whole : line ≡ without_return c.args.line.now = c.without_return-line.ensures in
    let n : c.length.result ≡ 9 = c.length.ensures ∙ ap word_length c.in-Clearing.is in
    let is : word_of line ≡ word.Clearing = sym c.of-word.ensures.word ∙ c.in-Clearing.is in
    let asks : AsksBy (word_of line) c.args.now line c.report_on.result =
    rw is (rw (n, behind 9 line) at c.report_on.ensures) in
    rw whole at asks

pub returns-in-Report-clause-asks : goal.returns-in-Report-clause-asks
returns-in-Report-clause-asks c =
    let line = c.without_return-line.result.now in
    let whole : line ≡ without_return c.args.line.now = c.without_return-line.ensures in
    let n : c.length.result ≡ 7 = c.length.ensures ∙ ap word_length c.in-Report.is in
    let is : word_of line ≡ word.Report = sym c.of-word.ensures.word ∙ c.in-Report.is in
    let asks : AsksBy (word_of line) c.args.now line c.settlement_of.result =
    rw is (rw (n, behind 7 line) at c.settlement_of.ensures.asks) in
    rw whole at asks

pub returns-in-Sums-clause-asks : goal.returns-in-Sums-clause-asks
returns-in-Sums-clause-asks c =
    let line = c.without_return-line.result.now in
    let whole : line ≡ without_return c.args.line.now = c.without_return-line.ensures in
    let n : c.length.result ≡ 5 = c.length.ensures ∙ ap word_length c.in-Sums.is in
    let is : word_of line ≡ word.Sums = sym c.of-word.ensures.word ∙ c.in-Sums.is in
    let asks : AsksBy (word_of line) c.args.now line c.sums_on.result =
    rw is (rw (n, behind 5 line) at c.sums_on.ensures) in
    rw whole at asks

pub returns-in-Statement-clause-asks : goal.returns-in-Statement-clause-asks
returns-in-Statement-clause-asks c =
    let line = c.without_return-line.result.now in
    let whole : line ≡ without_return c.args.line.now = c.without_return-line.ensures in
    let n : c.length.result ≡ 10 = c.length.ensures ∙ ap word_length c.in-Statement.is in
    let is : word_of line ≡ word.Statement = sym c.of-word.ensures.word ∙ c.in-Statement.is in
    let asks : AsksBy (word_of line) c.args.now line c.stated_of.result =
    rw is (rw (n, behind 10 line) at c.stated_of.ensures.asks) in
    rw whole at asks

pub returns-in-Find-clause-asks : goal.returns-in-Find-clause-asks
returns-in-Find-clause-asks c =
    let line = c.without_return-line.result.now in
    let whole : line ≡ without_return c.args.line.now = c.without_return-line.ensures in
    let n : c.length.result ≡ 5 = c.length.ensures ∙ ap word_length c.in-Find.is in
    let is : word_of line ≡ word.Find = sym c.of-word.ensures.word ∙ c.in-Find.is in
    let asks : AsksBy (word_of line) c.args.now line c.find_of.result =
    rw is (rw (n, behind 5 line) at c.find_of.ensures.asks) in
    rw whole at asks

pub returns-in-Holds-clause-asks : goal.returns-in-Holds-clause-asks
returns-in-Holds-clause-asks c =
    let line = c.without_return-line.result.now in
    let whole : line ≡ without_return c.args.line.now = c.without_return-line.ensures in
    let n : c.length.result ≡ 6 = c.length.ensures ∙ ap word_length c.in-Holds.is in
    let is : word_of line ≡ word.Holds = sym c.of-word.ensures.word ∙ c.in-Holds.is in
    let asks : AsksBy (word_of line) c.args.now line c.holds_of.result =
    rw is (rw (n, behind 6 line) at c.holds_of.ensures.holds) in
    rw whole at asks

pub returns-in-List-clause-asks : goal.returns-in-List-clause-asks
returns-in-List-clause-asks c =
    let line = c.without_return-line.result.now in
    let whole : line ≡ without_return c.args.line.now = c.without_return-line.ensures in
    let n : c.length.result ≡ 5 = c.length.ensures ∙ ap word_length c.in-List.is in
    let is : word_of line ≡ word.List = sym c.of-word.ensures.word ∙ c.in-List.is in
    let asks : AsksBy (word_of line) c.args.now line c.list_of.result =
    rw is (rw (n, behind 5 line) at c.list_of.ensures.list) in
    rw whole at asks

pub returns-in-Pending-clause-asks : goal.returns-in-Pending-clause-asks
returns-in-Pending-clause-asks c =
    let line = c.without_return-line.result.now in
    let whole : line ≡ without_return c.args.line.now = c.without_return-line.ensures in
    let n : c.length.result ≡ 8 = c.length.ensures ∙ ap word_length c.in-Pending.is in
    let is : word_of line ≡ word.Pending = sym c.of-word.ensures.word ∙ c.in-Pending.is in
    let asks : AsksBy (word_of line) c.args.now line c.pending_on.result =
    rw is (rw (n, behind 8 line) at c.pending_on.ensures) in
    rw whole at asks

pub returns-in-Report-clause-shows : goal.returns-in-Report-clause-shows
returns-in-Report-clause-shows c = c.settlement_of.ensures.shows c.args.serving

pub returns-in-Statement-clause-shows : goal.returns-in-Statement-clause-shows
returns-in-Statement-clause-shows c = c.stated_of.ensures.shows c.args.serving

pub returns-in-Find-clause-shows : goal.returns-in-Find-clause-shows
returns-in-Find-clause-shows c = c.find_of.ensures.shows c.args.serving

pub returns-in-Holds-clause-shows : goal.returns-in-Holds-clause-shows
returns-in-Holds-clause-shows c = c.holds_of.ensures.shows c.args.serving

pub returns-in-List-clause-shows : goal.returns-in-List-clause-shows
returns-in-List-clause-shows c = c.list_of.ensures.shows c.args.serving

pub returns-in-End-clause-asks : goal.returns-in-End-clause-asks
returns-in-End-clause-asks c =
    let line = c.without_return-line.result.now in
    let whole : line ≡ without_return c.args.line.now = c.without_return-line.ensures in
    let n : c.length.result ≡ 4 = c.length.ensures ∙ ap word_length c.in-End.is in
    let is : word_of line ≡ word.End = sym c.of-word.ensures.word ∙ c.in-End.is in
    let asks : AsksBy (word_of line) c.args.now line c.end_of.result =
    rw is (rw (n, behind 4 line) at c.end_of.ensures) in
    rw whole at asks
