use Rattle.acq_headline.specs.Headline.{IsAlone}
use Rattle.acq_headline.specs.ClearedAsTold.{IsClearedAsTold}
use Rattle.acq_headline.specs.OnlyWhatMay.{AcceptsOnlyWhatMay}
use Rattle.acq_headline.specs.WithinHolds.{CapturesWithinHolds}
use Rattle.acq_headline.proofs.Closed.{keeps_clearing}
use Rattle.acq_headline.proofs.PartiesAlone.{is_alone, keeps_postings}
use Rattle.acq_headline.proofs.RunsClear.{is_cleared_as_told, accepts_only_what_may}
use Rattle.acq_headline.proofs.RunsClear.{captures_within_holds}
use Rattle.acq_headline.proofs.RunsEnd.{whole, stopped, led_by}
use Rattle.acq_headline.proofs.running.run.Goals as goal

pub returns-clause-alone : goal.returns-clause-alone
returns-clause-alone g c = λ h o.
    whole (g.B.Book.tables c.args.host.now) (g.B.Book.tables c.run.new.self) c.args.events.now
    IsAlone (λ t now further said are. is_alone t now further said) c.every_event_of.ensures c.run.result (λ said. said.items)
    (c.run.ensures.outputs h o) (c.run.ensures.tables h o)

pub returns-clause-fault_alone : goal.returns-clause-fault_alone
returns-clause-fault_alone g c = λ o end.
    stopped (g.B.Book.tables c.args.host.now) (g.B.Book.tables c.run.new.self) c.args.events.now
    IsAlone (λ t now further said are. is_alone t now further said) c.every_event_of.ensures c.run.result
    (c.run.ensures.fault (g.met.B.Book.honest c.run.new.self end) o)
    (c.run.ensures.fault_tables o end)

pub returns-clause-postings : goal.returns-clause-postings
returns-clause-postings g c = λ o end.
    let t = g.B.Book.tables c.args.host.now in
    let now = g.B.Book.tables c.run.new.self in
    let led = led_by t now c.args.events.now c.run.result
    (c.run.ensures.tables (g.met.B.Book.honest c.run.new.self end) o)
    (c.run.ensures.fault_tables o end) in
    keeps_postings t now led.0 (c.run.ensures.began o) led.1

pub returns-clause-clearing : goal.returns-clause-clearing
returns-clause-clearing g c = λ o end.
    let t = g.B.Book.tables c.args.host.now in
    let now = g.B.Book.tables c.run.new.self in
    let led = led_by t now c.args.events.now c.run.result
    (c.run.ensures.tables (g.met.B.Book.honest c.run.new.self end) o)
    (c.run.ensures.fault_tables o end) in
    keeps_clearing t now led.0 (c.run.ensures.began o) (c.run.ensures.past end) led.1

pub returns-clause-cleared : goal.returns-clause-cleared
returns-clause-cleared g c = λ h o.
    whole (g.B.Book.tables c.args.host.now) (g.B.Book.tables c.run.new.self) c.args.events.now
    IsClearedAsTold is_cleared_as_told c.every_event_of.ensures c.run.result (λ said. said.items)
    (c.run.ensures.outputs h o) (c.run.ensures.tables h o)

pub returns-clause-fault_cleared : goal.returns-clause-fault_cleared
returns-clause-fault_cleared g c = λ o end.
    stopped (g.B.Book.tables c.args.host.now) (g.B.Book.tables c.run.new.self) c.args.events.now
    IsClearedAsTold is_cleared_as_told c.every_event_of.ensures c.run.result
    (c.run.ensures.fault (g.met.B.Book.honest c.run.new.self end) o)
    (c.run.ensures.fault_tables o end)

pub returns-clause-accepted : goal.returns-clause-accepted
returns-clause-accepted g c = λ h o.
    whole (g.B.Book.tables c.args.host.now) (g.B.Book.tables c.run.new.self) c.args.events.now
    (λ t further said now. AcceptsOnlyWhatMay t further said) accepts_only_what_may c.every_event_of.ensures c.run.result (λ said. said.items)
    (c.run.ensures.outputs h o) (c.run.ensures.tables h o)

pub returns-clause-fault_accepted : goal.returns-clause-fault_accepted
returns-clause-fault_accepted g c = λ o end.
    stopped (g.B.Book.tables c.args.host.now) (g.B.Book.tables c.run.new.self) c.args.events.now
    (λ t further said now. AcceptsOnlyWhatMay t further said) accepts_only_what_may c.every_event_of.ensures c.run.result
    (c.run.ensures.fault (g.met.B.Book.honest c.run.new.self end) o)
    (c.run.ensures.fault_tables o end)

pub returns-clause-captured : goal.returns-clause-captured
returns-clause-captured g c = λ h o.
    whole (g.B.Book.tables c.args.host.now) (g.B.Book.tables c.run.new.self) c.args.events.now
    CapturesWithinHolds captures_within_holds c.every_event_of.ensures c.run.result (λ said. said.items)
    (c.run.ensures.outputs h o) (c.run.ensures.tables h o)

pub returns-clause-fault_captured : goal.returns-clause-fault_captured
returns-clause-fault_captured g c = λ o end.
    stopped (g.B.Book.tables c.args.host.now) (g.B.Book.tables c.run.new.self) c.args.events.now
    CapturesWithinHolds captures_within_holds c.every_event_of.ensures c.run.result
    (c.run.ensures.fault (g.met.B.Book.honest c.run.new.self end) o)
    (c.run.ensures.fault_tables o end)
