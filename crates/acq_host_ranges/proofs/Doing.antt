-- Events that a host has done, one after the other.
use Rattle.std.proofs.Common.{◌≡◌, ◌∙◌, ◌+◌, ◌<◌, ℕ, List, [], ◌∷◌, ◌++◌, ap, append-nil, get_or}
use Rattle.std.proofs.Common.{length, subst, sym, take}
use Rattle.std.proofs.lemmas.List.{take_more}
use Rattle.std.proofs.lemmas.List.Concat.{flat_map-append}
use Rattle.acq_core.specs.declared.event.Event.{Event}
use Rattle.acq_control.specs.Telling.{Talk}
use Rattle.acq_range_changes.specs.Lines.{change_line}
use Rattle.acq_host_ranges.specs.Exchanges.{AreDone, IsDone, Streams, behind, lines_of}

-- one more behind them
pub one_more : (events : List Event) (event : Event) (before between : Streams) (talk : Talk) →
    AreDone events before between → IsDone event talk →
    AreDone (events ++ event ∷ []) before (behind between talk)
one_more [] event before between talk done is =
    (talk, is, ap (λ (streams : Streams). behind streams talk) done)
one_more (first ∷ events) event before between talk (was, is_first, rest) is =
    (was, is_first, one_more events event (behind before was) between talk rest is)

-- the first of a list's events, and one more
first_more : (events : List Event) (at : ℕ) (event : Event) → at < length events →
    event ≡ get_or events at event → take (at + 1) events ≡ take at events ++ event ∷ []
first_more events at event within is =
    take_more events at event within ∙ ap (λ (e : Event). take at events ++ e ∷ []) (sym is)

pub done_next : (events : List Event) (at : ℕ) (event : Event) (before between after : Streams)
    (talk : Talk) → at < length events → event ≡ get_or events at event →
    AreDone (take at events) before between → IsDone event talk → after ≡ behind between talk →
    AreDone (take (at + 1) events) before after
done_next events at event before between after talk within is done one same =
    subst (λ (s : Streams). AreDone (take (at + 1) events) before s) (sym same)
    (subst (λ (es : List Event). AreDone es before (behind between talk))
    (sym (first_more events at event within is))
    (one_more (take at events) event before between talk done one))

pub lines_next : (events : List Event) (at : ℕ) (event : Event) → at < length events →
    event ≡ get_or events at event →
    lines_of (take (at + 1) events) ≡ lines_of (take at events) ++ change_line event
lines_next events at event within is =
    ap lines_of (first_more events at event within is)
    ∙ flat_map-append change_line (take at events) (event ∷ [])
    ∙ ap (λ (l : List ℕ). lines_of (take at events) ++ l) (append-nil (change_line event))
