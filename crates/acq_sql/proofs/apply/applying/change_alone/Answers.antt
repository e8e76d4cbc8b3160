use Rattle.std.proofs.Common.{refl}
use Rattle.acq_core.specs.Pasts.{HasPast}
use Rattle.acq_sql_changes.proofs.Whole.{dropped_fails, dropped_whole, kept_fails, kept_whole}
use Rattle.acq_sql.proofs.apply.applying.change_alone.Goals as goal

pub returns-in-Ok-clause-whole : goal.returns-in-Ok-clause-whole
returns-in-Ok-clause-whole g c =
    kept_whole c.in_ok-begin.ensures.begins c.begin.ensures.stop c.in-Ok.ensures.changes
    c.keep.result c.keep.ensures.stop c.keep.ensures.keeps c.keep.ensures.undoes

pub returns-in-Ok-clause-fails : goal.returns-in-Ok-clause-fails
returns-in-Ok-clause-fails g c short =
    kept_fails c.in_ok-begin.ensures.begins c.begin.ensures.stop c.in-Ok.ensures.changes
    c.keep.result c.keep.ensures.stop c.args.change.now HasPast
    (λ t takes. (takes.0.fits, takes.1)) c.keep.ensures.fails

pub returns-in-Err-clause-whole : goal.returns-in-Err-clause-whole
returns-in-Err-clause-whole g c =
    dropped_whole c.in_ok-begin.ensures.begins c.begin.ensures.stop c.in-Err.ensures.changes refl
    c.roll_back.ensures.returns c.roll_back.ensures.stop

pub returns-in-Err-clause-fails : goal.returns-in-Err-clause-fails
returns-in-Err-clause-fails g c short =
    dropped_fails c.in_ok-begin.ensures.begins c.begin.ensures.stop c.in-Err.ensures.changes
    c.args.change.now HasPast (c.in-Err.ensures.fails short) c.roll_back.ensures.stop
