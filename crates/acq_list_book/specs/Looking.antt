-- What is looked up in memory in two steps.
use Rattle.std.specs.Prelude.{None}
use Rattle.acq_core.specs.declared.wanted.Wanted.{Wanted}

-- of what is wanted, what is found without a copy of a row
abbrev pub values_of : Wanted → Wanted
values_of w =
    record w { key = None; original = None; reference = None; prefix = None; bounds = None }
