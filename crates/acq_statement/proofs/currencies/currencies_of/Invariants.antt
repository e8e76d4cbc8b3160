-- the currencies of the merchants so far, each once
use Rattle.std.proofs.Common.{◌≡◌, drop}
use Rattle.acq_statement.specs.Currencies.{currencies_of, with_currencies}
use Rattle.acq_statement.proofs.currencies.currencies_of.Given as goal

abbrev pub invariant-loop-merchant : goal.invariant-loop-merchant
invariant-loop-merchant l =
    with_currencies l.found.items (drop l.merchant-index l.merchants)
    ≡ currencies_of l.merchants
