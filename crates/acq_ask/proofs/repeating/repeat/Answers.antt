use Rattle.std.proofs.Common.{List, ℕ, [], ◌++◌, ◌≡◌, ◌∙◌, ap, append-nil, map, refl, sym}
use Rattle.std.proofs.lemmas.Result.{err_from_is_err_and}
use Rattle.acq_ask.specs.Asking.{of_input}
use Rattle.acq_ask.specs.Codes.{code_of, counts_text}
use Rattle.acq_ask.specs.declared.reply_code.ReplyCode.{ReplyCode}
use Rattle.acq_ask.proofs.CountedUp.{none_unread, nothing_sent, shown_part, shown_whole}
use Rattle.acq_ask.proofs.Turning.{talk_of}
use Rattle.acq_ask.proofs.CountedUp.{text_cut}
use Rattle.acq_ask.proofs.repeating.repeat.Goals as goal

pub returns-in_err-bytes-clause-repeats : goal.returns-in_err-bytes-clause-repeats
returns-in_err-bytes-clause-repeats g c =
    let p = err_from_is_err_and c.from_residual.result c.from_residual.ensures.1 in
    let more = c.in_err-bytes.ensures.grows in (
      more.0,
      talk_of [] [] [],
      more.1,
      sym (append-nil _),
      sym (append-nil _),
      sym (append-nil _),
      rw (p.1, p.2) (nothing_sent c.args.count more.0 (of_input c.in_err-bytes.field-0.0)
          (none_unread more.0 c.in_err-bytes.field-0.0)),
    )

pub returns-in_err-message-clause-repeats : goal.returns-in_err-message-clause-repeats
returns-in_err-message-clause-repeats g c =
    let p = err_from_is_err_and c.from_residual-in_err-message.result
    c.from_residual-in_err-message.ensures.1 in (
      c.as_slice.result.now,
      talk_of [] [] [],
      c.in_ok-bytes.ensures.received
          ∙ ap (λ (bytes : List ℕ). g.S.Source.received c.args.input.now ++ bytes)
          (sym c.as_slice.ensures.value),
      sym (append-nil _),
      sym (append-nil _),
      sym (append-nil _),
      rw (p.1, p.2) (nothing_sent c.args.count c.as_slice.result.now c.in_err-message.field-0.0
          c.in_err-message.ensures.none),
    )

pub returns-in_err-text-clause-repeats : goal.returns-in_err-text-clause-repeats
returns-in_err-text-clause-repeats g c =
    let p = err_from_is_err_and c.from_residual-in_err-text.result
    c.from_residual-in_err-text.ensures.1 in
    let so = c.send_all-ended.ensures in (
      c.as_slice.result.now,
      talk_of so.0 so.1 [],
      c.in_ok-bytes.ensures.received
          ∙ ap (λ (bytes : List ℕ). g.S.Source.received c.args.input.now ++ bytes)
          (sym c.as_slice.ensures.value),
      so.3,
      so.4,
      sym (append-nil _),
      rw (p.1, p.2)
          (shown_part c.args.count c.as_slice.result.now so.0 so.1 c.in_ok-message.message so.2
          c.send_all-ended.result c.in_ok-message.ensures.one so.6 _ [] [] (_, refl)),
    )

pub returns-in_err-put_text-clause-repeats : goal.returns-in_err-put_text-clause-repeats
returns-in_err-put_text-clause-repeats g c =
    let p = err_from_is_err_and c.from_residual-in_err-put_text.result
    c.from_residual-in_err-put_text.ensures.1 in
    let so = c.send_all-ended.ensures in
    let text = c.in_ok-text.ensures in
    let counted : c.send_all-ended.new.load.codes.items ≡ map code_of so.2 =
    so.5 ∙ ap (λ (l : List ReplyCode). l ++ map code_of so.2) c.new-load.ensures in
    let is = c.as_slice-2.ensures.value ∙ text.1
    ∙ ap (λ (l : List ReplyCode). counts_text c.args.count l ++ text.0) counted in
    let cut = text_cut c.as_slice-2.result.now (g.K.Sink.sent c.args.output.now)
    (g.K.Sink.sent c.put_text.new.output) c.in_err-put_text.field-0.0 c.in_err-put_text.ensures in (
      c.as_slice.result.now,
      talk_of so.0 so.1 cut.0,
      c.in_ok-bytes.ensures.received
          ∙ ap (λ (bytes : List ℕ). g.S.Source.received c.args.input.now ++ bytes)
          (sym c.as_slice.ensures.value),
      so.3,
      so.4,
      cut.1,
      rw (p.1, p.2)
          (shown_part c.args.count c.as_slice.result.now so.0 so.1 c.in_ok-message.message so.2
          c.send_all-ended.result c.in_ok-message.ensures.one so.6 c.in_err-put_text.field-0.0
          text.0 cut.0 (cut.2.0, sym is ∙ cut.2.1)),
    )

pub returns-clause-repeats : goal.returns-clause-repeats
returns-clause-repeats g c =
    let so = c.send_all-ended.ensures in
    let text = c.in_ok-text.ensures in
    let counted : c.send_all-ended.new.load.codes.items ≡ map code_of so.2 =
    so.5 ∙ ap (λ (l : List ReplyCode). l ++ map code_of so.2) c.new-load.ensures in
    let is = c.as_slice-2.ensures.value ∙ text.1
    ∙ ap (λ (l : List ReplyCode). counts_text c.args.count l ++ text.0) counted in (
      c.as_slice.result.now,
      talk_of so.0 so.1 c.as_slice-2.result.now,
      c.in_ok-bytes.ensures.received
          ∙ ap (λ (bytes : List ℕ). g.S.Source.received c.args.input.now ++ bytes)
          (sym c.as_slice.ensures.value),
      so.3,
      so.4,
      c.in_ok-put_text.ensures,
      shown_whole c.args.count c.as_slice.result.now so.0 so.1 c.in_ok-message.message so.2
          c.send_all-ended.result c.in_ok-message.ensures.one so.6 text.0
          c.as_slice-2.result.now is,
    )
