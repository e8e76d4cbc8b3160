-- What an answer unfolds to compute this crate's definitions on literals.
use Rattle.std.specs.Prelude.{⊤}
use Rattle.std.specs.Str.{chars, is_utf8}
use Rattle.json.proofs.OnLiterals.{json_on_literals}
use Rattle.acq_make.proofs.OnLiterals.{said_on_literals}
use Rattle.acq_json.specs.Lines.{json_lines, no_digits}
use Rattle.acq_json.specs.Said.{line_said, messages_said, said_behind, value_said}
use Rattle.acq_json.specs.Written.{json_line}

unfoldable pub lines_on_literals : ⊤
unfolding said_on_literals json_on_literals chars is_utf8 json_line json_lines no_digits value_said line_said said_behind messages_said
lines_on_literals = tt
