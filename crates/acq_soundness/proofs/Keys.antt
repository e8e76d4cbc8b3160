-- Two keys with the same parts are one.
use Rattle.std.proofs.Common.{◌≡◌, ℕ, List, true, refl, sym, ap, ◌∙◌, subst, arith, eqb}
use Rattle.std.specs.Prelude.{◌&&◌, if◌then◌else◌}
use Rattle.std.specs.Str.{bytes_eq}
use Rattle.std.proofs.lemmas.Slice.Eq.{bytes_eq-Decides}
use Rattle.std.proofs.lemmas.Bool.Decides.{nat_tests}
use Rattle.acq_message.specs.declared.service.Service.{Service}
use Rattle.acq_message.specs.declared.service.Service.TheVariants.{Authorization, Financial}
use Rattle.acq_message.specs.declared.service.Service.TheVariants.{Completion, Reversal}
use Rattle.acq_message.specs.declared.service.Service.TheVariants.{ReversalAdvice, Reconciliation}
use Rattle.acq_message.specs.declared.service.Service.TheVariants.{NetworkManagement}
use Rattle.acq_message.specs.declared.request_key.RequestKey.{RequestKey}
use Rattle.acq_message.specs.Services.{digits_of, same_service}
use Rattle.acq_message.specs.Elements.{same_key}
use Rattle.std.proofs.lemmas.Bool.{and_parts}

pub bytes_eq_itself : (a : List ℕ) → bytes_eq a a ≡ true
bytes_eq_itself a = (bytes_eq-Decides a a).1 refl

pub bytes_eq_from : (a b : List ℕ) → a ≡ b → bytes_eq a b ≡ true
bytes_eq_from a b e = (bytes_eq-Decides a b).1 e

pub bytes_eq_is : (a b : List ℕ) → bytes_eq a b ≡ true → a ≡ b
bytes_eq_is a b e = (bytes_eq-Decides a b).0 e

pub eqb_itself : (n : ℕ) → eqb n n ≡ true
eqb_itself n = grind (arith, nat_tests)

pub eqb_is : (a b : ℕ) → eqb a b ≡ true → a ≡ b
eqb_is a b e = grind (arith, nat_tests)

-- the service with these digits
abbrev service_with : List ℕ → Service
service_with digits =
    if bytes_eq digits (digits_of Authorization) then Authorization
    else if bytes_eq digits (digits_of Financial) then Financial
    else if bytes_eq digits (digits_of Completion) then Completion
    else if bytes_eq digits (digits_of Reversal) then Reversal
    else if bytes_eq digits (digits_of ReversalAdvice) then ReversalAdvice
    else if bytes_eq digits (digits_of Reconciliation) then Reconciliation
    else NetworkManagement

-- the digits of a type name its service
service_back : (s : Service) → service_with (digits_of s) ≡ s
service_back Authorization = refl
service_back service = refl

pub same_service_is : (a b : Service) → same_service a b ≡ true → a ≡ b
same_service_is a b e =
    sym (service_back a)
    ∙ (ap service_with (bytes_eq_is (digits_of a) (digits_of b) e) ∙ service_back b)

pub same_key_itself : (a : RequestKey) → same_key a a ≡ true
same_key_itself a =
    λ i. bytes_eq_itself a.merchant i && bytes_eq_itself a.terminal i && bytes_eq_itself
    (digits_of a.service) i
    && bytes_eq_itself a.trace i && bytes_eq_itself a.transmission i

pub same_key_from : (a b : RequestKey) → a ≡ b → same_key a b ≡ true
same_key_from a b e = subst (λ k. same_key a k ≡ true) e (same_key_itself a)

pub same_key_is : (a b : RequestKey) → same_key a b ≡ true → a ≡ b
same_key_is a b e =
    let merchants = bytes_eq a.merchant b.merchant in
    let terminals = merchants && bytes_eq a.terminal b.terminal in
    let services = terminals && same_service a.service b.service in
    let traces = services && bytes_eq a.trace b.trace in
    let last = and_parts traces (bytes_eq a.transmission b.transmission) e in
    let fourth = and_parts services (bytes_eq a.trace b.trace) last.0 in
    let third = and_parts terminals (same_service a.service b.service) fourth.0 in
    let second = and_parts merchants (bytes_eq a.terminal b.terminal) third.0 in
    λ i. record {
      merchant = bytes_eq_is a.merchant b.merchant second.0 i;
      terminal = bytes_eq_is a.terminal b.terminal second.1 i;
      service = same_service_is a.service b.service third.1 i;
      trace = bytes_eq_is a.trace b.trace fourth.1 i;
      transmission = bytes_eq_is a.transmission b.transmission last.1 i;
    }
