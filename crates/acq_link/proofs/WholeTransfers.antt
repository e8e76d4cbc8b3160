-- What the loops of `write_out` and `read_to_end` keep.
use Rattle.std.proofs.Common.{◌≡◌, ◌≤◌, ◌+◌, ◌-◌, ℕ, List, ◌++◌, take, drop, length, Option, Some, None}
use Rattle.std.proofs.Common.{Result, Ok, Err, IsErr, true≢false, arith, length-drop, append_assoc, subst, take_all, sym, ap, ◌∙◌}
use Rattle.std.proofs.Math.Seq.{take-add}
use Rattle.std.specs.Io.KnownBytes.{Consumes}
use Rattle.acq_link.specs.Moves.{Receives, CountsFailure}

-- the first n of the bytes went out, and no write failed
pub record WroteFirst (sent_before sent_now : List ℕ) (failures_before failures_now : ℕ)
    (bytes : List ℕ)
    (n : ℕ) : Type 0 where
  pub within : n ≤ length bytes
  pub sent : sent_now ≡ sent_before ++ take n bytes
  pub failures : failures_now ≡ failures_before

-- these bytes were read, and no read failed
pub record ReadAll (received_before received_now : List ℕ)
    (remaining_before remaining_now : Option (List ℕ))
    (failures_before failures_now : ℕ) (bytes : List ℕ) : Type 0 where
  pub received : received_now ≡ received_before ++ bytes
  pub known : Consumes remaining_before remaining_now bytes
  pub failures : failures_now ≡ failures_before

-- what `&bytes[n..]` holds
abbrev pub from : ℕ → List ℕ → List ℕ
from n bytes = take (length bytes - n) (drop n bytes)

from-drop : (n : ℕ) (bytes : List ℕ) → from n bytes ≡ drop n bytes
from-drop n bytes = take_all (length bytes - n) (drop n bytes) (omega (arith, length-drop {A = ℕ}))

-- one more write, of the first more of what was left
pub WroteFirst-more : (before mid now : List ℕ) (failures_before failures_mid failures_now : ℕ)
    (bytes : List ℕ)
    (n more : ℕ)
    → WroteFirst before mid failures_before failures_mid bytes n → more ≤ length (from n bytes) →
    now ≡ mid ++ take more (from n bytes) → failures_now ≡ failures_mid
    → WroteFirst before now failures_before failures_now bytes (n + more)
WroteFirst-more before mid now failures_before failures_mid failures_now bytes n more wrote fits
    sent kept =
    let within = wrote.within in
    let small : more ≤ length (drop n bytes) = subst (λ (l : List ℕ). more ≤ length l)
    (from-drop n bytes) fits in
    let next : now ≡ mid ++ take more (drop n bytes) = subst (λ (l : List ℕ). now ≡ mid
    ++ take more l) (from-drop n bytes) sent in
    record {
      within = omega (arith, length-drop {A = ℕ}, small, within);
      sent = next ∙ ap (λ l. l ++ take more (drop n bytes)) wrote.sent
          ∙ append_assoc before (take n bytes) (take more (drop n bytes))
          ∙ ap (λ l. before ++ l) (sym (take-add n more bytes));
      failures = kept ∙ wrote.failures;
    }

-- what came is more of what had come before
pub grows_by : (before mid now more piece : List ℕ) → mid ≡ before ++ more → now ≡ mid ++ piece
    → (all : List ℕ) × (now ≡ before ++ all)
grows_by before mid now more piece first next =
    (more ++ piece, next ∙ ap (λ l. l ++ piece) first ∙ append_assoc before more piece)

-- what two reads consume is consumed by both together
consumes_both : (old mid new : Option (List ℕ)) (first next : List ℕ) → Consumes old mid first
    → Consumes mid new next → Consumes old new (first ++ next)
consumes_both None mid new first next a b = tt
consumes_both (Some xs) None new first next a b = absurd a
consumes_both (Some xs) (Some ys) None first next a b = absurd b
consumes_both (Some xs) (Some ys) (Some zs) first next a b =
    a ∙ ap (λ l. first ++ l) b ∙ sym (append_assoc first next zs)

-- one more read, of a piece that stands behind the others now
pub ReadAll-more : (before mid now : List ℕ) (known_before known_mid known_now : Option (List ℕ))
    (failures_before failures_mid failures_now : ℕ) (bytes all piece : List ℕ)
    → ReadAll before mid known_before known_mid failures_before failures_mid bytes
    → now ≡ mid ++ piece → Consumes known_mid known_now piece → failures_now ≡ failures_mid
    → all ≡ bytes ++ piece
    → ReadAll before now known_before known_now failures_before failures_now all
ReadAll-more before mid now known_before known_mid known_now failures_before failures_mid
    failures_now bytes all piece read next known kept grown =
    record {
      received = next ∙ ap (λ l. l ++ piece) read.received
          ∙ append_assoc before bytes piece ∙ ap (λ l. before ++ l) (sym grown);
      known = subst (λ l. Consumes known_before known_now l) (sym grown)
          (consumes_both known_before known_mid known_now bytes piece read.known known);
      failures = kept ∙ read.failures;
    }

-- a read that may have failed
pub grows_anyway : {E : Type 0} (before mid now more buffer : List ℕ) (r : Result ℕ E)
    → mid ≡ before ++ more → Receives mid now r buffer → (all : List ℕ) × (now ≡ before ++ all)
grows_anyway before mid now more buffer (Ok n) first next =
    grows_by before mid now more (take n buffer) first next
grows_anyway before mid now more buffer (Err e) first next = (more, next ∙ first)

pub counts_error : {T E : Type 0} (old new : ℕ) (r : Result T E) → IsErr r → CountsFailure old new r
    → new ≡ old + 1
counts_error old new (Ok t) failed counts = absurd (true≢false (sym failed))
counts_error old new (Err e) failed counts = counts
