use Rattle.std.proofs.Common.{◌∙◌, ap, refl, subst, sym}
use Rattle.std.specs.Prelude.{OnOk}
use Rattle.acq_core.specs.Pasts.{HasPast}
use Rattle.acq_core.specs.Tables.{Tables, tables_after}
use Rattle.acq_list_book.specs.Listed.{Listed}
use Rattle.acq_commands.specs.Explain.{ExplainsAll}
use Rattle.acq_commands.specs.Streams.{Stream}
use Rattle.acq_commands.proofs.explaining.explain_in_memory.Goals as goal

pub returns-clause-explained : goal.returns-clause-explained
returns-clause-explained g c =
    let new = c.new_list_book-book in
    let made = c.in-Ok.ensures.tables in
    let began = c.new-host.ensures in
    let back = c.into_book-book.ensures.book in
    let opened = made.stays_open refl tt (
      ap (λ (b : Listed). b.group) began ∙ new.ensures.outside,
      subst HasPast (sym (ap (λ (b : Listed). b.tables) began)) new.ensures.past,
    ) in
    let led = made.made refl (
      ap (λ (b : Listed). b.group) began ∙ new.ensures.outside,
      subst HasPast (sym (ap (λ (b : Listed). b.tables) began)) new.ensures.past,
    ) opened in
    let ended = c.explain_on-ended in
    let received : Stream = record {
      before = g.S.Source.received c.args.input.now;
      after = g.S.Source.received ended.new.input;
    } in
    let sent : Stream = record {
      before = g.K.Sink.sent c.args.output.now;
      after = g.K.Sink.sent ended.new.output;
    } in
    subst
    (λ (t : Tables). OnOk ended.result
    (ExplainsAll t c.args.options.now.form c.args.moment received sent))
    (ap (λ (b : Listed). b.tables) back
    ∙ (led ∙ ap (λ t. tables_after t c.args.events.now)
    (ap (λ (b : Listed). b.tables) began ∙ new.ensures.tables)))
    (ended.ensures.explained tt (
      ap (λ (b : Listed). b.group) back ∙ opened.0,
      subst HasPast (sym (ap (λ (b : Listed). b.tables) back)) opened.1,
    ))
