use Rattle.std.proofs.Common.{[], append-nil, inl, sym}
use Rattle.std.proofs.lemmas.Result.{err_from_is_err_and}
use Rattle.acq_ask.proofs.Turning.{nothing_asked, talk_of}
use Rattle.acq_ask.proofs.asking.ask.Goals as goal

pub returns-in_err-bytes-clause-asks : goal.returns-in_err-bytes-clause-asks
returns-in_err-bytes-clause-asks g c =
    let p = err_from_is_err_and c.from_residual.result c.from_residual.ensures.1 in
    let more = c.in_err-bytes.ensures.grows in (
      more.0,
      talk_of [] [] [],
      more.1,
      sym (append-nil _),
      sym (append-nil _),
      sym (append-nil _),
      rw (p.1, p.2) (inl (nothing_asked c.in_err-bytes.field-0.0)),
    )
