-- What contracts see of a book in SQL.
use Rattle.std.proofs.Common.{◌≡◌, ℕ, Bool, false, List, ◌++◌, codes, Option, None, Some, refl, ap}
use Rattle.std.specs.Coded.{Coded, code_by, coded×, coded_bool, coded_list, coded_option, coded_ℕ}
use Rattle.sqlite.specs.Held.{Held, held_code}
use Rattle.acq_message.specs.declared.request_key.RequestKey.{RequestKey}
use Rattle.acq_message.specs.declared.service.Service.{Service}
use Rattle.acq_message.specs.declared.service.Service.TheVariants as service
use Rattle.acq_message.specs.Services.{digits_of, service_of}
use Rattle.acq_sql.specs.Memos.{nothing_recalled}
use Rattle.acq_sql.specs.declared.memo.Memo.{Memo}
use Rattle.acq_sql.specs.declared.memo.used_on.UsedOn.{UsedOn}
use Rattle.acq_sql.specs.declared.memo.may_wait.MayWait.{MayWait}
use Rattle.acq_sql.specs.declared.memo.may_wait.MayWait.TheVariants as may_wait

-- its connection, how many of its calls failed for another cause than memory, what it recalls of
-- its tables, and whether a group is begun
pub record Kept (S : Type 0) : Type 0 where
  pub connection : Held S
  pub failures : ℕ
  pub memo : Memo
  pub in_group : Bool

-- it recalls nothing, and no group is begun
abbrev pub IsFresh : {S : Type 0} → Kept S → Type 0
IsFresh book = (book.memo ≡ nothing_recalled) × (book.in_group ≡ false)

-- ---- how the logic stores it

abbrev pub some_service : Option Service → Service
some_service (Some s) = s
some_service None = service.Authorization

abbrev pub service_named : List ℕ → Service
service_named digits = some_service (service_of (digits ++ codes "0"))

pub services_named : (s : Service) → service_named (digits_of s) ≡ s
services_named service.Authorization = refl
services_named service.Financial = refl
services_named service.Completion = refl
services_named service.Reversal = refl
services_named service.ReversalAdvice = refl
services_named service.Reconciliation = refl
services_named service.NetworkManagement = refl

abbrev pub key_code : Coded RequestKey
key_code =
    let text = coded_list coded_ℕ in
    code_by (List ℕ × (List ℕ × (List ℕ × (List ℕ × List ℕ))))
    (coded× text (coded× text (coded× text (coded× text text))))
    (λ k. (k.merchant, (k.terminal, (digits_of k.service, (k.trace, k.transmission)))))
    (λ p. record {
      merchant = p.0;
      terminal = p.1.0;
      service = service_named p.1.1.0;
      trace = p.1.1.1.0;
      transmission = p.1.1.1.1;
    })
    (λ k. ap (λ s. record k { service = s }) (services_named k.service))

-- whether it is any, and else the key of the only one, if it is not none
abbrev pub split : MayWait → Option (Option RequestKey)
split may_wait.Any = None
split (may_wait.Only key) = Some (Some key)
split may_wait.None = Some None

abbrev pub joined : Option (Option RequestKey) → MayWait
joined None = may_wait.Any
joined (Some (Some key)) = may_wait.Only key
joined (Some None) = may_wait.None

pub joins : (w : MayWait) → joined (split w) ≡ w
joins may_wait.Any = refl
joins (may_wait.Only key) = refl
joins may_wait.None = refl

abbrev pub waiting_code : Coded MayWait
waiting_code =
    code_by (Option (Option RequestKey)) (coded_option (coded_option key_code)) split joined joins

abbrev pub used_code : Coded UsedOn
used_code =
    code_by (ℕ × ℕ) (coded× coded_ℕ coded_ℕ) (λ u. (u.day, u.count))
    (λ p. record { day = p.0; count = p.1 }) (λ _. refl)

abbrev pub memo_code : Coded Memo
memo_code =
    code_by (Option (ℕ × ℕ) × (MayWait × Option UsedOn))
    (coded× (coded_option (coded× coded_ℕ coded_ℕ))
    (coded× waiting_code (coded_option used_code)))
    (λ m. (m.row, (m.waiting, m.used)))
    (λ p. record { row = p.0; waiting = p.1.0; used = p.1.1 }) (λ _. refl)

abbrev pub kept_code : {S : Type 0} → Coded S → Coded (Kept S)
kept_code {S} store =
    code_by (Held S × (ℕ × (Memo × Bool)))
    (coded× (held_code store) (coded× coded_ℕ (coded× memo_code coded_bool)))
    (λ k. (k.connection, (k.failures, (k.memo, k.in_group))))
    (λ p. record {
      connection = p.0;
      failures = p.1.0;
      memo = p.1.1.0;
      in_group = p.1.1.1;
    })
    (λ _. refl)
