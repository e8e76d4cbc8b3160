-- What `==` answers of two names of terminals.
use Rattle.std.proofs.Common.{◌≡◌}
use Rattle.std.specs.Prelude.{◌&&◌}
use Rattle.std.specs.Str.{bytes_eq}
use Rattle.acq_core.specs.declared.terminal.Terminal.{Terminal}
use Rattle.acq_book.proofs.KeyTests.{text_swap}
use Rattle.acq_lists.specs.declared.merchant_terminal.MerchantTerminal.{MerchantTerminal}
use Rattle.acq_lists.specs.Keys.{terminal_eq, key_of_terminal}

pub terminal_eq-same : (k : MerchantTerminal) (row : Terminal)
    → terminal_eq k (key_of_terminal row)
    ≡ (bytes_eq row.merchant k.merchant && bytes_eq row.id k.id)
terminal_eq-same k row i = text_swap k.merchant row.merchant i && text_swap k.id row.id i
