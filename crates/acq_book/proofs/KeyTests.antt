-- What `==` answers of two keys.
use Rattle.std.proofs.Common.{◌≡◌, ℕ, List, Bool, true, false, refl, ◌∙◌}
use Rattle.std.specs.Prelude.{◌&&◌}
use Rattle.std.specs.Str.{bytes_eq}
use Rattle.std.specs.Cmp.Lexicographic.{nat_list_eq_equiv}
use Rattle.acq_message.specs.declared.service.Service.{Service}
use Rattle.acq_message.specs.declared.service.Service.TheVariants.{Authorization, Financial}
use Rattle.acq_message.specs.declared.service.Service.TheVariants.{Completion, Reversal}
use Rattle.acq_message.specs.declared.service.Service.TheVariants.{ReversalAdvice, Reconciliation}
use Rattle.acq_message.specs.declared.service.Service.TheVariants.{NetworkManagement}
use Rattle.acq_message.specs.contracts.service.ServicePartialEq.TheImpl as service_block
use Rattle.acq_message.specs.declared.request_key.RequestKey.{RequestKey}
use Rattle.acq_message.specs.Services.{same_service}
use Rattle.acq_message.specs.Elements.{same_key}
use Rattle.acq_book.specs.Keys.{key_eq}

service_eq-same : (a b : Service) → (service_block.ghosts).eq a b ≡ same_service b a
service_eq-same Authorization Authorization = refl
service_eq-same Authorization Financial = refl
service_eq-same Authorization Completion = refl
service_eq-same Authorization Reversal = refl
service_eq-same Authorization ReversalAdvice = refl
service_eq-same Authorization Reconciliation = refl
service_eq-same Authorization NetworkManagement = refl
service_eq-same Financial Authorization = refl
service_eq-same Financial Financial = refl
service_eq-same Financial Completion = refl
service_eq-same Financial Reversal = refl
service_eq-same Financial ReversalAdvice = refl
service_eq-same Financial Reconciliation = refl
service_eq-same Financial NetworkManagement = refl
service_eq-same Completion Authorization = refl
service_eq-same Completion Financial = refl
service_eq-same Completion Completion = refl
service_eq-same Completion Reversal = refl
service_eq-same Completion ReversalAdvice = refl
service_eq-same Completion Reconciliation = refl
service_eq-same Completion NetworkManagement = refl
service_eq-same Reversal Authorization = refl
service_eq-same Reversal Financial = refl
service_eq-same Reversal Completion = refl
service_eq-same Reversal Reversal = refl
service_eq-same Reversal ReversalAdvice = refl
service_eq-same Reversal Reconciliation = refl
service_eq-same Reversal NetworkManagement = refl
service_eq-same ReversalAdvice Authorization = refl
service_eq-same ReversalAdvice Financial = refl
service_eq-same ReversalAdvice Completion = refl
service_eq-same ReversalAdvice Reversal = refl
service_eq-same ReversalAdvice ReversalAdvice = refl
service_eq-same ReversalAdvice Reconciliation = refl
service_eq-same ReversalAdvice NetworkManagement = refl
service_eq-same Reconciliation Authorization = refl
service_eq-same Reconciliation Financial = refl
service_eq-same Reconciliation Completion = refl
service_eq-same Reconciliation Reversal = refl
service_eq-same Reconciliation ReversalAdvice = refl
service_eq-same Reconciliation Reconciliation = refl
service_eq-same Reconciliation NetworkManagement = refl
service_eq-same NetworkManagement Authorization = refl
service_eq-same NetworkManagement Financial = refl
service_eq-same NetworkManagement Completion = refl
service_eq-same NetworkManagement Reversal = refl
service_eq-same NetworkManagement ReversalAdvice = refl
service_eq-same NetworkManagement Reconciliation = refl
service_eq-same NetworkManagement NetworkManagement = refl

pub text_swap : (a b : List ℕ) → bytes_eq a b ≡ bytes_eq b a
text_swap a b = nat_list_eq_equiv.symm a b

regroup : (a b c d e : Bool) → (a && (b && (c && (d && e)))) ≡ ((((a && b) && c) && d) && e)
regroup false b c d e = refl
regroup true false c d e = refl
regroup true true false d e = refl
regroup true true true d e = refl

-- `==` of keys is the test of the definitions, turned round
pub key_eq-same : (a b : RequestKey) → key_eq a b ≡ same_key b a
key_eq-same a b =
    regroup (bytes_eq a.merchant b.merchant) (bytes_eq a.terminal b.terminal)
    ((service_block.ghosts).eq a.service b.service) (bytes_eq a.trace b.trace)
    (bytes_eq a.transmission b.transmission)
    ∙ (λ i. text_swap a.merchant b.merchant i && text_swap a.terminal b.terminal i
    && service_eq-same a.service b.service i && text_swap a.trace b.trace i
    && text_swap a.transmission b.transmission i)
