-- Where no messages were made.
use Rattle.std.proofs.Common.{◌≡◌, ◌⊎◌, inl, inr, ℕ, ◌+◌, List, [], Err, refl, arith}
use Rattle.acq_link.specs.declared.input_fault.InputFault as input
use Rattle.acq_make.specs.declared.made_form.MadeForm.{MadeForm}
use Rattle.acq_make.specs.declared.make_fault.MakeFault as make
use Rattle.acq_faults.specs.Faults.{failed_reads, failed_writes, of_input, of_make}
use Rattle.acq_commands.specs.Make.{MakesOf, messages_said}
use Rattle.acq_commands.specs.declared.said_form.SaidForm.{SaidForm}

pub input_unmade : (said : SaidForm) (form : MadeForm) (e : input.InputFault) (text : List ℕ) →
    MakesOf said form text [] (Err (of_input e))
input_unmade said form input.TheVariants.Memory text = refl
input_unmade said form input.TheVariants.Read text = refl

pub text_unmade : (said : SaidForm) (form : MadeForm) (text : List ℕ) (e : make.MakeFault) →
    (e ≡ make.TheVariants.Memory) ⊎ (messages_said said text ≡ Err e) →
    MakesOf said form text [] (Err (of_make e))
text_unmade said form text make.TheVariants.Memory h = refl
text_unmade said form text (make.TheVariants.BadLine n) (inl h) = absurd (cc)
text_unmade said form text (make.TheVariants.BadLine n) (inr h) = (h, refl)
text_unmade said form text (make.TheVariants.BadMessage n cause) (inl h) = absurd (cc)
text_unmade said form text (make.TheVariants.BadMessage n cause) (inr h) = (h, refl)

pub make_unread : (e : make.MakeFault) → failed_reads (Err (of_make e)) ≡ 0
make_unread make.TheVariants.Memory = refl
make_unread (make.TheVariants.BadLine n) = refl
make_unread (make.TheVariants.BadMessage n cause) = refl

pub make_unwritten : (e : make.MakeFault) (n : ℕ) → n ≡ n + failed_writes (Err (of_make e))
make_unwritten make.TheVariants.Memory n = omega arith
make_unwritten (make.TheVariants.BadLine line) n = omega arith
make_unwritten (make.TheVariants.BadMessage line cause) n = omega arith
