use Rattle.std.proofs.Common.{◌≡◌, ◌∙◌, ◌++◌, List, sym, ap, ap₂, subst, refl}
use Rattle.std.specs.Prelude.{OnOk}
use Rattle.acq_core.specs.declared.event.Event.{Event}
use Rattle.acq_core.specs.Tables.{Tables, tables_after}
use Rattle.acq_host.specs.Runs.{after_first}
use Rattle.acq_range_changes.specs.Changes.{changes_to}
use Rattle.acq_commands.specs.Ranges.{lines_of}
use Rattle.acq_commands.proofs.setting_ranges.set_ranges_on.Goals as goal

pub returns-clause-set : goal.returns-clause-set
returns-clause-set g c = λ h o.
    let book = g.B.Book in
    let began = c.new-host.ensures in
    let ended = c.into_book.ensures.book in
    let looks = c.in-Ok.ensures.looks in
    let after = c.take_and_tell-ended.new.host in
    let result = c.take_and_tell-ended.result in
    let sent = g.K.Sink.sent c.args.output.now in
    let sent_after = g.K.Sink.sent c.take_and_tell-ended.new.output in
    let honest_after = subst book.is_honest ended h in
    let honest =
    subst book.is_honest began (c.take_and_tell-ended.ensures.was_honest honest_after) in
    let opened = looks.stays_open refl honest o in
    let same = ap book.tables began ∙ looks.same opened in
    let events = c.as_slice.ensures.value ∙ c.in-Ok.ensures.events honest o in
    let t = book.tables c.args.book in
    let set = c.take_and_tell-ended.ensures.set honest_after
    (subst book.is_open (sym began) opened) in
    let changes = changes_to c.args.list.now t in
    subst (λ s. OnOk result ((book.tables s ≡ tables_after t changes)
    × (sent_after ≡ sent ++ lines_of changes))) (sym ended)
    (subst (λ (e : List Event). OnOk result ((book.tables after ≡ tables_after t e)
    × (sent_after ≡ sent ++ lines_of e))) events
    (subst (λ (x : Tables). OnOk result
    ((book.tables after ≡ tables_after x c.as_slice.result.now)
    × (sent_after ≡ sent ++ lines_of c.as_slice.result.now))) same set))

pub returns-clause-first : goal.returns-clause-first
returns-clause-first g c = λ h o opened_after.
    let book = g.B.Book in
    let began = c.new-host.ensures in
    let ended = c.into_book.ensures.book in
    let looks = c.in-Ok.ensures.looks in
    let honest_after = subst book.is_honest ended h in
    let honest =
    subst book.is_honest began (c.take_and_tell-ended.ensures.was_honest honest_after) in
    let opened = looks.stays_open refl honest o in
    let same = ap book.tables began ∙ looks.same opened in
    let events = c.as_slice.ensures.value ∙ c.in-Ok.ensures.events honest o in
    let first = c.take_and_tell-ended.ensures.first honest_after
    (subst book.is_open (sym began) opened) (subst book.is_open ended opened_after) in (
      first.0,
      ap book.tables ended
          ∙ (first.1
          ∙ ap₂ (λ (x : Tables) (e : List Event). after_first first.0 x e) same events),
    )
