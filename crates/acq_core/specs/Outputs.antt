-- The numbers of outputs (own profile).
use Rattle.std.specs.Prelude.{ℕ, Option, Some, None}
use Rattle.acq_core.specs.declared.output.Output.{Output}
use Rattle.acq_core.specs.declared.output.Output.TheVariants as output

-- the number of an output that says that nothing was done
abbrev pub output_number : Output → Option ℕ
output_number (output.Reply merchant reply) = None
output_number (output.Ask query) = None
output_number output.Done = None
output_number output.BadRange = Some 20
output_number (output.Overlap range) = Some 21
output_number output.NoSuchRange = Some 22
output_number (output.Undecodable fault) = Some 30
output_number (output.UnservedType kind) = Some 31
output_number output.Waiting = Some 32
output_number output.Late = Some 33
output_number output.UnknownReference = Some 34
output_number output.AlreadyAnswered = Some 35
output_number output.AlreadyEnrolled = Some 36
output_number output.NoSuchMerchant = Some 37
output_number output.LastDay = Some 38
