-- What is left behind the frame in front of some bytes of a buffer, once its message was taken.
use Rattle.std.proofs.Common.{◌≡◌, ◌≤◌, ◌+◌, ◌-◌, ℕ, List, ◌++◌, take, drop, length, arith}
use Rattle.std.proofs.Common.{length-append, length-take, length-drop, sym, ap, ◌∙◌}
use Rattle.std.proofs.lemmas.List.{drop-drop, drop-take}
use Rattle.std.proofs.Math.Seq.{drop-append_seam}
use Rattle.acq_link.specs.Frames.{frame, fits_frame}
use Rattle.acq_link.specs.FramesAt.{BeginsWithFrame}

-- what stands behind the front
behind : (bytes front rest : List ℕ) → take (length front + length rest) bytes ≡ front ++ rest
    → take (length rest) (drop (length front) bytes) ≡ rest
behind bytes front rest e =
    sym (drop-take (length front) (length rest) bytes) ∙ ap (drop (length front)) e
    ∙ drop-append_seam front rest

-- the same, by the places where it begins and ends
behind_at : (bytes front rest : List ℕ) (start end : ℕ) → start ≤ end → end ≤ length bytes
    → take (end - start) (drop start bytes) ≡ front ++ rest
    → take (end - (end - length rest)) (drop (end - length rest) bytes) ≡ rest
behind_at bytes front rest start end order inside e =
    let sizes : length (take (end - start) (drop start bytes)) ≡ length (front ++ rest) =
    ap length e in
    let total : end ≡ start + length front + length rest =
    omega (arith, sizes, length-take {A = ℕ}, length-drop {A = ℕ}, length-append {A = ℕ}) in
    let from : end - length rest ≡ start + length front = omega arith in
    let count : end - (start + length front) ≡ length rest = omega arith in
    let all : end - start ≡ length front + length rest = omega arith in
    rw (from, count) (ap (take (length rest)) (sym (drop-drop (length front) start bytes))
    ∙ behind (drop start bytes) front rest
    (ap (λ (n : ℕ). take n (drop start bytes)) (sym all) ∙ e))

-- the first message is taken out of a buffer, and what stands behind its frame stays where it is
pub takes_out : (view bytes message copy rest : List ℕ) (start end : ℕ)
    → take (end - start) (drop start bytes) ≡ view → start ≤ end → end ≤ length bytes
    → BeginsWithFrame (take (end - start) (drop start bytes)) message rest → copy ≡ message
    → BeginsWithFrame view copy (take (end - (end - length rest)) (drop (end - length rest) bytes))
takes_out view bytes message copy rest start end is order inside begins same =
    let left : take (end - (end - length rest)) (drop (end - length rest) bytes) ≡ rest =
    behind_at bytes (frame message) rest start end order inside begins.whole in
    record {
      whole = sym is ∙ begins.whole ∙ ap (λ (l : List ℕ). frame l ++ rest) (sym same)
          ∙ ap (λ (l : List ℕ). frame copy ++ l) (sym left);
      fits = ap fits_frame same ∙ begins.fits;
    }
