-- That what came since a connection's beginning is what was taken and what is held, and so has each
-- message's frame.
use Rattle.std.proofs.Common.{◌≡◌, ℕ, List, [], ◌++◌, sym, ap, ◌∙◌, append_assoc}
use Rattle.std.proofs.Common.{append-nil}
use Rattle.acq_link.specs.Frames.{frame}
use Rattle.acq_link.specs.FramesAt.{BeginsWithFrame}
use Rattle.acq_serving.specs.Serving.{FrameCame}

-- these bytes were taken since, and those are held
abbrev pub TookAndHolds : (old now held : List ℕ) → Type 0
TookAndHolds old now held = (taken : List ℕ) × (now ≡ old ++ (taken ++ held))

pub none_came : (old held : List ℕ) → held ≡ [] → old ≡ old ++ ([] ++ held)
none_came old held none = rw none (sym (append-nil old))

pub piece_came : (old mid now held fed piece : List ℕ) → fed ≡ held ++ piece → now ≡ mid ++ piece →
    TookAndHolds old mid held → TookAndHolds old now fed
piece_came old mid now held fed piece is more so = (
  so.0,
  rw (more, is, so.1) (append_assoc old (so.0 ++ held) piece
      ∙ ap (λ (l : List ℕ). old ++ l) (append_assoc so.0 held piece)),
)

pub frame_taken : (old now held message left : List ℕ) → BeginsWithFrame held message left →
    TookAndHolds old now held → TookAndHolds old now left
frame_taken old now held message left begins so = (
  so.0 ++ frame message,
  so.1 ∙ ap (λ (l : List ℕ). old ++ l) (ap (λ (l : List ℕ). so.0 ++ l) begins.whole
      ∙ sym (append_assoc so.0 (frame message) left)),
)

pub frame_came : (old now held message left : List ℕ) → BeginsWithFrame held message left →
    TookAndHolds old now held → FrameCame old now
frame_came old now held message left begins so = (
  so.0 ++ held,
  so.1,
  (so.0, message, left, begins.fits, ap (λ (l : List ℕ). so.0 ++ l) begins.whole),
)
