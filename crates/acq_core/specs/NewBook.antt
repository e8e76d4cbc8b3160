-- What a new book says to a frame: nobody is enrolled, and there is no range.
use Rattle.std.specs.Prelude.{ℕ, List}
use Rattle.iso_codec.specs.Reading.{reading_of}
use Rattle.acq_core.specs.declared.output.Output.{Output}
use Rattle.acq_core.specs.Arrivals.{arrival_of_reading}
use Rattle.acq_core.specs.Tables.{Opening, new_tables, step_output}

-- what the host says to a frame at a moment, over a new book
abbrev pub output_of_new_book : Opening → ℕ → List ℕ → Output
output_of_new_book opening moment text =
    step_output (new_tables opening) (arrival_of_reading moment (reading_of text))

-- the same over a book with the greatest limit that begins on the first day, at its first second
abbrev pub output_to : List ℕ → Output
output_to text = output_of_new_book (record { limit = 999999; first_day = 0 }) 946684800 text
