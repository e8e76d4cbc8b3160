-- What a host says, as it comes to whoever asked.
use Rattle.std.specs.Prelude.{◌≡◌, ℕ, List, []}
use Rattle.acq_faults.specs.Faults.{fault_line}
use Rattle.acq_faults.specs.declared.fault.Fault.{Fault}
use Rattle.acq_control.specs.Answers.{text_answer}
use Rattle.acq_control.specs.HostAnswers.{Answer, BeginsWithAnswer, shown, told}

-- a text comes as one answer, whose bytes alone are shown
abbrev pub ComesAsText : List ℕ → Type 0
ComesAsText text =
    (answer : Answer) × BeginsWithAnswer (text_answer text) answer [] × (shown answer ≡ text)
    × (told answer ≡ [])

-- a fault comes as one answer, which is told as it came
abbrev pub ComesAsFault : Fault → Type 0
ComesAsFault fault =
    (answer : Answer) × BeginsWithAnswer (fault_line fault) answer [] × (shown answer ≡ [])
    × (told answer ≡ fault_line fault)
