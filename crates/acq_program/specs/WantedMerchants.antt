-- Merchants that the values of an option name.
use Rattle.std.specs.Prelude.{List}
use Rattle.clap.specs.Words.{Text}
use Rattle.acq_program.specs.declared.option_name.OptionName.TheVariants as option
use Rattle.acq_program.specs.declared.usage_fault.UsageFault.{UsageFault}
use Rattle.acq_program.specs.declared.usage_fault.UsageFault.TheVariants.{Words, BadValue}
use Rattle.std.specs.Prelude.{◌≡◌}
use Rattle.acq_program.specs.Arguments.{IsNoMemory}
use Rattle.acq_program.specs.Options.{GivesNoMerchants}

-- why an option's values name no merchants: one is out of form, or there was no memory
abbrev pub MayRefuseMerchants : List Text → UsageFault → Type 0
MayRefuseMerchants texts (BadValue name) = (name ≡ option.Merchant) × GivesNoMerchants texts
MayRefuseMerchants texts (Words error) = IsNoMemory (Words error)
