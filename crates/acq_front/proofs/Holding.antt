-- What is held to be written for a message that was taken.
use Rattle.std.proofs.Common.{◌≡◌, Bool, ◌&&◌, true, false, true≢false, List, ℕ, [], Ok, refl, sym}
use Rattle.std.specs.Prelude.{IfSome}
use Rattle.iso_codec.specs.declared.decode_fault.DecodeFault.{DecodeFault}
use Rattle.acq_core.specs.declared.output.Output.{Output}
use Rattle.acq_core.specs.declared.output.Output.TheVariants.{Late, Undecodable, UnservedType}
use Rattle.acq_core.specs.declared.output.Output.TheVariants.{Waiting}
use Rattle.acq_front.specs.Outgoing.{frame_said}
use Rattle.acq_front.specs.Ready.{ends_after}
use Rattle.acq_front.specs.Silences.{unanswered_by}
use Rattle.acq_front.specs.Turns.{ReplyFits}

pub is_right : (a b : Bool) → (a && b) ≡ true → b ≡ true
is_right true b h = h
is_right false b h = absurd (true≢false (sym h))

-- of a message that gets no reply, nothing is to be written
pub none_said : (o : Output) (kind unsent : List ℕ) → (ReplyFits o → unsent ≡ frame_said o) →
    IfSome (unanswered_by kind o) (λ message. unsent ≡ [])
none_said (UnservedType type) kind unsent h = h (λ party text e. cc)
none_said Waiting kind unsent h = h (λ party text e. cc)
none_said Late kind unsent h = h (λ party text e. cc)
none_said o kind unsent h = tt

-- one that reads ends nothing
pub goes_on : (o : Output) → ((f : DecodeFault) → o ≡ Undecodable f → ⊥) → Ok tt ≡ ends_after o
goes_on (Undecodable f) read = absurd (read f refl)
goes_on o read = refl
