-- A buffer that a frame was put into, and that is written out.
use Rattle.std.proofs.Common.{◌≡◌, ◌+◌, ◌<◌, ℕ, List, [], ◌∷◌, ◌++◌, take, length, refl, arith}
use Rattle.std.proofs.Common.{Result, Ok, Err, subst, ap, ◌∙◌}
use Rattle.std.specs.Prelude.{IfErr, OnOk}
use borrow.Rule.Slice.PartMut.{put_mid}
use Rattle.std.proofs.lemmas.Slice.{take-put_mid}
use Rattle.acq_link.specs.Frames.{frame}
use Rattle.acq_link.specs.FramesAt.{SendsFrame}

-- behind two bytes of length stands the text
pub filled : (high low k : ℕ) (header rest copy text : List ℕ) → header ≡ high ∷ low ∷ [] →
    copy ≡ text
    → take (2 + length text) (put_mid 2 k (header ++ rest) copy) ≡ high ∷ low ∷ text
filled high low k header rest copy text is same =
    rw (is, same) (take-put_mid 2 k (high ∷ low ∷ rest) text (2 + length text) refl (omega arith))

-- what is written out of it is the frame
pub sends : (message bytes old new : List ℕ) (r : Result (Unit {0}) ℕ) → bytes ≡ frame message →
    OnOk r (new ≡ old ++ bytes) → IfErr r (λ n. new ≡ old ++ take n bytes) →
    IfErr r (λ n. n < length bytes) → SendsFrame message old new r
sends message bytes old new (Ok u) is ok err short = ok ∙ ap (λ l. old ++ l) is
sends message bytes old new (Err n) is ok err short = (
  subst (λ l. n < length l) is short,
  err ∙ ap (λ l. old ++ take n l) is,
)
