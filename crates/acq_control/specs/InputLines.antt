-- The lines of an input, as they come.
use Rattle.std.specs.Prelude.{ℕ, Bool, List}
use Rattle.acq_control.specs.declared.input_lines.InputLines.{InputLines}

-- what came and belongs to no line yet
abbrev pub held_of : InputLines → List ℕ
held_of it = it.buffer

-- whether the input ended
abbrev pub has_ended : InputLines → Bool
has_ended it = it.ended
