use Rattle.std.proofs.Common.{◌≡◌, ◌∙◌, ap₂}
use Rattle.acq_core.specs.Tables.{new_tables}
use Rattle.acq_commands.specs.Once.{widest_opening}
use Rattle.acq_commands.proofs.ServedInMemory.{served_at}
use Rattle.acq_commands.proofs.once.once_in_memory.Goals as goal

pub returns-clause-served : goal.returns-clause-served
returns-clause-served g c =
    let new = c.new_list_book-book in
    let began : new.result.tables ≡ new_tables widest_opening =
    new.ensures.tables
    ∙ ap₂ (λ limit day. new_tables (record { limit = limit; first_day = day }))
    c.greatest_limit.ensures
    c.first_day_of_all.ensures in
    rw c.end_of.ensures (served_at (g.C.Clock.may_give c.args.clock.now)
    (g.I.Issuer.may_say c.args.issuer.now) _ _ _ _ _ _ began
    (c.once_on-ran.ensures.served tt (new.ensures.outside, new.ensures.past)))
