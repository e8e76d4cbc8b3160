use Rattle.std.proofs.Common.{[], append-nil, sym}
use Rattle.std.proofs.lemmas.Result.{err_from_is_err_and}
use Rattle.acq_ask.specs.Turns.{outcome_of}
use Rattle.acq_ask.proofs.Turning.{stopped_before, stopped_behind, talk_of, turn_taken}
use Rattle.acq_ask.proofs.asking.take_turn.Goals as goal

pub returns-in_err-put_message : goal.returns-in_err-put_message
returns-in_err-put_message g c =
    let p = err_from_is_err_and c.from_residual.result c.from_residual.ensures.1 in
    let so = stopped_before c.args.within c.args.message.now c.args.held.now
    (g.K.Sink.sent c.args.output.now) (g.K.Sink.sent c.put_message.new.output)
    c.in_err-put_message.field-0.0 c.in_err-put_message.ensures in (
      talk_of [] [] so.0,
      sym (append-nil _),
      sym (append-nil _),
      so.1,
      rw (p.1, p.2) so.2,
    )

pub returns-in_err-put_outcome : goal.returns-in_err-put_outcome
returns-in_err-put_outcome g c =
    let p = err_from_is_err_and c.from_residual-in_err-put_outcome.result
    c.from_residual-in_err-put_outcome.ensures.1 in
    let said = c.exchange-outcome.ensures in
    let so = stopped_behind c.args.within c.args.message.now c.args.held.now
    (g.K.Sink.sent c.args.output.now) (g.K.Sink.sent c.put_message.new.output)
    (g.K.Sink.sent c.put_outcome.new.output) said.0 said.1 c.exchange-outcome.new.held
    (outcome_of c.exchange-outcome.result) c.in_ok-put_message.ensures said.4
    c.in_err-put_outcome.field-0.0 c.in_err-put_outcome.ensures in (
      talk_of said.0 said.1 so.0,
      said.2,
      said.3,
      so.1,
      rw (p.1, p.2) so.2,
    )

pub returns : goal.returns
returns g c =
    let said = c.exchange-outcome.ensures in
    let so = turn_taken c.args.within c.args.message.now c.args.held.now
    (g.K.Sink.sent c.args.output.now) (g.K.Sink.sent c.put_message.new.output)
    (g.K.Sink.sent c.put_outcome.new.output) said.0 said.1 c.exchange-outcome.new.held
    (outcome_of c.exchange-outcome.result) c.in_ok-put_message.ensures said.4
    c.end_of.result c.in_ok-put_outcome.ensures c.end_of.ensures in (
      talk_of said.0 said.1 so.0,
      said.2,
      said.3,
      so.1,
      so.2,
    )
