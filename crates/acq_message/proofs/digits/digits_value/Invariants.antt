use Rattle.std.proofs.Common.{◌≡◌, ◌<◌, ◌^◌, take}
use Rattle.std.specs.Str.Parse.{digits_value}
use Rattle.acq_message.proofs.digits.digits_value.Given as goal

abbrev pub invariant-loop-b : goal.invariant-loop-b
invariant-loop-b l = record {
  number_is : l.number ≡ digits_value 10 (take l.b-index l.digits);
  bound : l.number < 10 ^ l.b-index;
}
