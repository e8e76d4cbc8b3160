-- What `==` answers of keys.
use Rattle.std.specs.Prelude.{ℕ, Bool, List}
use Rattle.acq_message.specs.declared.request_key.RequestKey.{RequestKey}
use Rattle.acq_message.specs.contracts.request_key.RequestKeyPartialEq.TheImpl as key_block
use Rattle.acq_message.specs.contracts.merchant_id.MerchantIdPartialEq.TheImpl as merchant_block

abbrev pub key_eq : RequestKey → RequestKey → Bool
key_eq = (key_block.ghosts).eq

abbrev pub merchant_eq : List ℕ → List ℕ → Bool
merchant_eq = (merchant_block.ghosts).eq
