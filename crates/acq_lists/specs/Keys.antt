-- Rows by their keys.
use Rattle.std.specs.Prelude.{◌≡◌, ℕ, suc, ◌&&◌, Bool, List, [], ◌∷◌, Option, Some, None}
use Rattle.std.specs.Prelude.{option_map, if◌then◌else◌}
use Rattle.std.specs.Str.{bytes_eq}
use Rattle.acq_message.specs.Numbers.{is_number}
use Rattle.acq_core.specs.declared.reconciliation.Reconciliation.{Reconciliation}
use Rattle.acq_core.specs.declared.request.Request.{Request}
use Rattle.acq_core.specs.declared.terminal.Terminal.{Terminal}
use Rattle.acq_lists.specs.declared.merchant_day.MerchantDay.{MerchantDay}
use Rattle.acq_lists.specs.contracts.merchant_day.MerchantDayPartialEq.TheImpl
    as day_block
use Rattle.acq_lists.specs.declared.merchant_reference.MerchantReference.{
  MerchantReference,
}
use Rattle.acq_lists.specs.contracts.merchant_reference.MerchantReferencePartialEq.TheImpl
    as reference_block
use Rattle.acq_lists.specs.declared.merchant_terminal.MerchantTerminal.{MerchantTerminal}
use Rattle.acq_lists.specs.contracts.merchant_terminal.MerchantTerminalPartialEq.TheImpl
    as terminal_block

-- ---- what `==` answers

abbrev pub day_eq : MerchantDay → MerchantDay → Bool
day_eq = (day_block.ghosts).eq

abbrev pub reference_eq : MerchantReference → MerchantReference → Bool
reference_eq = (reference_block.ghosts).eq

abbrev pub terminal_eq : MerchantTerminal → MerchantTerminal → Bool
terminal_eq = (terminal_block.ghosts).eq

-- ---- rows by key

-- each row stands under its own key
abbrev pub IsKeyedBy : {K X : Type 0} → (X → K) → List (K × X) → Type 0
IsKeyedBy key [] = Unit {0}
IsKeyedBy key (e ∷ es) = (e.0 ≡ key e.1) × IsKeyedBy key es

-- the name of a terminal at its merchant
abbrev pub key_of_terminal : Terminal → MerchantTerminal
key_of_terminal row = record { merchant = row.merchant; id = row.id }

-- the day of a request at its merchant
abbrev pub day_of_request : Request → MerchantDay
day_of_request row = record { merchant = row.key.merchant; day = row.day }

-- the day of a reconciliation at its merchant
abbrev pub day_of_reconciliation : Reconciliation → MerchantDay
day_of_reconciliation row = record { merchant = row.merchant; day = row.day }

-- the place of the first that passes
abbrev pub place : {X : Type 0} → (X → Bool) → List X → Option ℕ
place p [] = None
place p (x ∷ xs) = if p x then Some 0 else option_map suc (place p xs)

-- the row has this reference of a merchant
abbrev pub refers : MerchantReference → Request → Bool
refers r row = bytes_eq row.key.merchant r.merchant && is_number r.reference row.reference

-- the value of the first key that passes is changed so
abbrev pub changed_at : {K X : Type 0} → (K → Bool) → (X → X) → List (K × X) → List (K × X)
changed_at test f [] = []
changed_at test f (e ∷ es) =
    if test e.0 then (e.0, f e.1) ∷ es else e ∷ changed_at test f es
