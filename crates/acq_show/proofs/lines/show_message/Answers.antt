use Rattle.std.proofs.Common.{◌≡◌, ◌⊎◌, inl, inr, ℕ, List, Err, subst}
use Rattle.std.specs.Prelude.{IfOk}
use Rattle.iso_codec.specs.declared.decode_fault.DecodeFault.{DecodeFault}
use Rattle.iso_codec.specs.declared.decode_fault.DecodeFault.TheVariants.{Memory}
use Rattle.iso_codec.specs.Reading.{reading_of}
use Rattle.acq_show.specs.Shown.{shown, fault_line}
use Rattle.acq_show.proofs.lines.show_message.Goals as goal

-- the text's own fault, where memory sufficed
own_fault : (text : List ℕ) (f : DecodeFault) → (f ≡ Memory → ⊥) →
    (f ≡ Memory) ⊎ (reading_of text ≡ Err f)
    → reading_of text ≡ Err f
own_fault text f not (inl memory) = absurd (not memory)
own_fault text f not (inr read) = read

pub returns-in-Ok : goal.returns-in-Ok
unfolding shown
returns-in-Ok c = rw c.in-Ok.ensures.exact c.remarked_text.ensures

pub returns-in_default : goal.returns-in_default
unfolding shown
returns-in_default c =
    let f = c.in-Err.fault in
    let read = own_fault c.args.message.now f c.in_default.not-Memory c.in-Err.ensures.exact in
    rw read (subst (λ (place : ℕ). IfOk c.fault_text.result
    (λ text. text.items ≡ fault_line f place))
    c.fault_place.ensures c.fault_text.ensures)
