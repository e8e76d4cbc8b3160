-- Runs that agree in a party's own events, and hosts that share the merchants among them.
use Rattle.std.proofs.Common.{◌≡◌, ℕ, List, [], ◌∷◌, Some, None, Bool, true, false, cond, refl, sym}
use Rattle.std.proofs.Common.{ap, ◌∙◌}
use Rattle.std.specs.Prelude.{filter, is_none, not, ◌||◌, ◌==◌}
use Rattle.std.proofs.lemmas.Bool.{and_parts}
use Rattle.acq_core.specs.declared.arrival.Arrival.{Arrival}
use Rattle.acq_core.specs.Arrivals.{arrival_of, merchant_named, is_shared}
use Rattle.acq_history.specs.PartyHistory.{Party, is_of, outputs_alone}
use Rattle.acq_history.specs.Splitting.{given, SplitsOverHosts}
use Rattle.acq_history.specs.Isolation.{IsIsolated, IsSameInTwoRuns}
use Rattle.acq_soundness.proofs.Lookups.{or_true, clash, none_of}
use Rattle.acq_soundness.proofs.Keys.{eqb_itself}
use Rattle.acq_history.proofs.TablesAgreeWithHistory.{names_is}
use Rattle.acq_history.proofs.MerchantsRuns.{merchant_isolated}
use Rattle.acq_history.proofs.NobodysRuns.{nobody_isolated}

pub isolated : (party : Party) → IsIsolated party
isolated None = nobody_isolated
isolated (Some m) = merchant_isolated m

pub two_runs : (party : Party) → IsSameInTwoRuns party
two_runs party opening es fs same =
    isolated party opening [] es
    ∙ (ap (outputs_alone opening party []) same ∙ sym (isolated party opening [] fs))

-- ---- hosts

-- what is a party's names just that party
party_is : (party : Party) (a : Arrival) → is_of party a ≡ true → merchant_named a ≡ party
party_is None a mine =
    none_of (merchant_named a) (and_parts (is_none (merchant_named a)) (not (is_shared a)) mine).0
party_is (Some m) a mine = names_is (merchant_named a) m mine

-- what a party needs is given to its host
given_own : (host_of : Party → ℕ) (party : Party) (a : Arrival) →
    (is_of party a || is_shared a) ≡ true →
    (is_shared a || (host_of (merchant_named a) == host_of party)) ≡ true
given_own host_of party a needed =
    let step : (b c : Bool) → is_of party a ≡ b → is_shared a ≡ c → (b || c) ≡ true →
    (c || (host_of (merchant_named a) == host_of party)) ≡ true =
    elim [
      | true ↦
          (λ c mine shared e. ap (λ p. c || (host_of p == host_of party)) (party_is party a mine)
          ∙ (ap (λ b. c || b) (eqb_itself (host_of party)) ∙ or_true c))
      | false ↦ elim [ true ↦ (λ other shared e. refl) | false ↦ (λ other shared e. absurd (cc)) ]
    ] in
    step (is_of party a) (is_shared a) refl refl needed

-- a filter behind a wider one does all by itself
filter-twice : {X : Type 0} (p q : X → Bool) → ((x : X) → p x ≡ true → q x ≡ true) → (xs : List X) →
    filter p (filter q xs) ≡ filter p xs
filter-twice p q wider [] = refl
filter-twice {X} p q wider (x ∷ xs) =
    let step : (b c : Bool) → p x ≡ b → q x ≡ c →
    filter p (cond c (x ∷ filter q xs) (filter q xs)) ≡ cond b (x ∷ filter p xs) (filter p xs) =
    elim [
      | true ↦ elim [
        | true ↦
            (λ e f. ap (λ b. cond b (x ∷ filter p (filter q xs)) (filter p (filter q xs))) e
            ∙ ap (λ ys. x ∷ ys) (filter-twice p q wider xs))
        | false ↦ (λ e f. clash (q x) (wider x e) f)
      ]
      | false ↦ elim [
        | true ↦
            (λ e f. ap (λ b. cond b (x ∷ filter p (filter q xs)) (filter p (filter q xs))) e
            ∙ filter-twice p q wider xs)
        | false ↦ (λ e f. filter-twice p q wider xs)
      ]
    ] in
    step (p x) (q x) refl refl

pub splits : SplitsOverHosts
splits host_of party opening es =
    two_runs party opening (given host_of (host_of party) es) es
    (filter-twice (λ e. is_of party (arrival_of e) || is_shared (arrival_of e))
    (λ e. is_shared (arrival_of e) || (host_of (merchant_named (arrival_of e)) == host_of party))
    (λ e. given_own host_of party (arrival_of e)) es)
