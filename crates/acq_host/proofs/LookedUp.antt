-- What was looked up part by part is what the tables let an event know.
use Rattle.std.proofs.Common.{◌≡◌, ℕ, List, [], ◌∷◌, Option, Some, None, Bool, true, false, cond}
use Rattle.std.proofs.Common.{◌⊎◌, inl, inr, refl}
use Rattle.std.proofs.Common.{sym, ap, ◌∙◌, subst}
use Rattle.std.specs.Prelude.{take, filter, find, option_map, option_and_then, IfSome, IfOk, Result}
use Rattle.std.specs.Prelude.{Ok, Err}
use Rattle.std.specs.Str.{bytes_eq}
use Rattle.iso_codec.specs.Message.{IsoMessage}
use Rattle.acq_message.specs.declared.service.Service.{Service}
use Rattle.acq_message.specs.declared.service.Service.TheVariants.{Authorization, Financial}
use Rattle.acq_message.specs.declared.service.Service.TheVariants.{Completion, Reversal}
use Rattle.acq_message.specs.declared.service.Service.TheVariants.{ReversalAdvice, Reconciliation}
use Rattle.acq_message.specs.declared.service.Service.TheVariants.{NetworkManagement}
use Rattle.acq_message.specs.declared.request_key.RequestKey.{RequestKey}
use Rattle.acq_message.specs.Elements.{or_empty, text_at, same_key, original_key_with}
use Rattle.acq_message.specs.Elements.{original_service}
use Rattle.acq_core.specs.declared.request.Request.{Request}
use Rattle.acq_core.specs.declared.wanted.Wanted.{Wanted}
use Rattle.acq_core.specs.declared.looked.Looked.{Looked}
use Rattle.acq_core.specs.declared.arrival.Arrival.{Arrival}
use Rattle.acq_core.specs.declared.arrival.Arrival.TheVariants.{Undecoded, Unserved, Malformed}
use Rattle.acq_core.specs.declared.arrival.Arrival.TheVariants.{Requested, Answered}
use Rattle.acq_core.specs.declared.arrival.Arrival.TheVariants.{CutOver, RangeAdded, RangeDropped}
use Rattle.acq_core.specs.declared.arrival.Arrival.TheVariants.{Enrolled}
use Rattle.acq_core.specs.declared.arrival.Arrival.TheVariants.{TerminalAdded}
use Rattle.acq_core.specs.Arrivals.{merchant_named}
use Rattle.acq_core.specs.Known.{nothing, wanted_for, wanted_by, holds_if, number_if, totals_if}
use Rattle.acq_core.specs.Known.{used_if}
use Rattle.acq_core.specs.Known.{known_for}
use Rattle.acq_core.specs.Looking.{known_of}
use Rattle.acq_core.specs.Tables.{Tables, prior_of, requests_of, recorded_in, facts_in, known_in}
use Rattle.acq_book.specs.Lookups.{merchant_at, has_terminal_at, request_at, referred_at}
use Rattle.acq_book.specs.Lookups.{admitted_at, used_at, totals_at}
use Rattle.acq_book.specs.Looked.{IsLooked}
use Rattle.acq_soundness.proofs.Keys.{bytes_eq_from, same_key_is}

-- ---- what is wanted is of the merchant that is named

pub record IsOfMerchant (w : Wanted) (m : List ℕ) : Type 0 where
  pub merchant : (w.merchant ≡ None) ⊎ (w.merchant ≡ Some m)
  -- none of these without a merchant
  pub terminal : option_and_then (λ id. w.terminal) w.merchant ≡ w.terminal
  pub reference : option_and_then (λ id. w.reference) w.merchant ≡ w.reference
  pub used_day : option_and_then (λ id. w.used_day) w.merchant ≡ w.used_day
  pub totals_day : option_and_then (λ id. w.totals_day) w.merchant ≡ w.totals_day
  pub key : IfSome w.key (λ key. key.merchant ≡ m)
  pub original : IfSome w.original (λ key. key.merchant ≡ m)

original_of : (m : IsoMessage) (o : Option Service) →
    IfSome (option_map (original_key_with m) o) (λ key. key.merchant ≡ text_at m 42)
original_of m None = tt
original_of m (Some service) = refl

of_nothing : (m : List ℕ) → IsOfMerchant nothing m
of_nothing m =
    record {
      merchant = inl refl;
      terminal = refl;
      reference = refl;
      used_day = refl;
      totals_day = refl;
      key = tt;
      original = tt;
    }

wanted_for-of : (today : ℕ) (s : Service) (m : IsoMessage) →
    IsOfMerchant (wanted_for today s m) (text_at m 42)
wanted_for-of today Authorization m =
    record {
      merchant = inr refl;
      terminal = refl;
      reference = refl;
      used_day = refl;
      totals_day = refl;
      key = refl;
      original = tt;
    }
wanted_for-of today Financial m =
    record {
      merchant = inr refl;
      terminal = refl;
      reference = refl;
      used_day = refl;
      totals_day = refl;
      key = refl;
      original = tt;
    }
wanted_for-of today Completion m =
    record {
      merchant = inr refl;
      terminal = refl;
      reference = refl;
      used_day = refl;
      totals_day = refl;
      key = refl;
      original = tt;
    }
wanted_for-of today Reversal m = record {
  merchant = inr refl;
  terminal = refl;
  reference = refl;
  used_day = refl;
  totals_day = refl;
  key = refl;
  original = original_of m (original_service (take 3 (text_at m 90)));
}
wanted_for-of today ReversalAdvice m = record {
  merchant = inr refl;
  terminal = refl;
  reference = refl;
  used_day = refl;
  totals_day = refl;
  key = refl;
  original = original_of m (original_service (take 3 (text_at m 90)));
}
wanted_for-of today Reconciliation m =
    record {
      merchant = inr refl;
      terminal = refl;
      reference = refl;
      used_day = refl;
      totals_day = refl;
      key = refl;
      original = tt;
    }
wanted_for-of today NetworkManagement m = of_nothing (text_at m 42)

wanted_by-of : (today : ℕ) (a : Arrival) →
    IsOfMerchant (wanted_by today a) (or_empty (merchant_named a))
wanted_by-of today (Undecoded fault) = of_nothing _
wanted_by-of today (Unserved m) = of_nothing _
wanted_by-of today (Malformed r) = of_nothing _
wanted_by-of today (Requested r) = wanted_for-of today r.service r.message
wanted_by-of today (Answered moment merchant reference verdict) =
    record {
      merchant = inr refl;
      terminal = refl;
      reference = refl;
      used_day = refl;
      totals_day = refl;
      key = tt;
      original = tt;
    }
wanted_by-of today CutOver = of_nothing _
wanted_by-of today (RangeAdded range) =
    record {
      merchant = inl refl;
      terminal = refl;
      reference = refl;
      used_day = refl;
      totals_day = refl;
      key = tt;
      original = tt;
    }
wanted_by-of today (RangeDropped low high) =
    record {
      merchant = inl refl;
      terminal = refl;
      reference = refl;
      used_day = refl;
      totals_day = refl;
      key = tt;
      original = tt;
    }
wanted_by-of today (Enrolled merchant) =
    record {
      merchant = inr refl;
      terminal = refl;
      reference = refl;
      used_day = refl;
      totals_day = refl;
      key = tt;
      original = tt;
    }
wanted_by-of today (TerminalAdded terminal) =
    record {
      merchant = inr refl;
      terminal = refl;
      reference = refl;
      used_day = refl;
      totals_day = refl;
      key = tt;
      original = tt;
    }

-- ---- a merchant's request by its key

-- what is found among all is found among those that pass, where what it is found by implies that
find-implied : {X : Type 0} (p c : X → Bool) → ((x : X) → c x ≡ true → p x ≡ true) → (xs : List X) →
    find c (filter p xs) ≡ find c xs
find-implied p c implies [] = refl
find-implied {X} p c implies (x ∷ xs) = step (find-implied p c implies xs) (p x) (c x) refl refl
  where
    step : find c (filter p xs) ≡ find c xs → (b d : Bool) → p x ≡ b → c x ≡ d →
        find c (cond b (x ∷ filter p xs) (filter p xs)) ≡ cond d (Some x) (find c xs)
    step rest true d e f =
        ap (λ v. cond v (Some x) (find c (filter p xs))) f ∙ ap (λ o. cond d (Some x) o) rest
    step rest false true e f = absurd (let h = implies x f in cc)
    step rest false false e f = rest

request_of_merchant : (t : Tables) (m : List ℕ) (o : Option RequestKey) →
    IfSome o (λ key. key.merchant ≡ m) →
    option_map prior_of (option_and_then (request_at t) o) ≡ option_and_then
    (recorded_in (requests_of m t.requests)) o
request_of_merchant t m None of = refl
request_of_merchant t m (Some key) of =
    ap (option_map prior_of)
    (sym (find-implied (λ (row : Request). bytes_eq row.key.merchant m)
    (λ (row : Request). same_key row.key key)
    (λ row e. bytes_eq_from row.key.merchant m
    (ap (λ k. k.merchant) (same_key_is row.key key e) ∙ of)) t.requests))

-- ---- all of it

-- a view of the merchant that is wanted is one of the merchant that is named
at_merchant : {X : Type 0} (f g : Option (List ℕ) → X) (m : List ℕ) (o : Option (List ℕ)) →
    (o ≡ None) ⊎ (o ≡ Some m) → f None ≡ g None → f (Some m) ≡ g (Some m) → f o ≡ g o
at_merchant f g m o (inl e) none some = ap f e ∙ (none ∙ sym (ap g e))
at_merchant f g m o (inr e) none some = ap f e ∙ (some ∙ sym (ap g e))

-- without a merchant none are counted
none_counted : (counted : Bool) (n k : ℕ) → number_if counted n None ≡ number_if counted k None
none_counted true n k = refl
none_counted false n k = refl

-- what a found row says
map_then : {X Y Z : Type 0} (f : Y → Z) (g : X → Option Y) (o : Option X) →
    option_map f (option_and_then g o) ≡ option_and_then (λ x. option_map f (g x)) o
map_then f g None = refl
map_then f g (Some x) = refl

known_for-looked : (t : Tables) (w : Wanted) (m : List ℕ) (l : Looked) → IsOfMerchant w m →
    IsLooked t w l →
    known_of l ≡ known_for w (facts_in t m)
known_for-looked t w m l of is = λ i. record {
  today = is.today i;
  limit = is.limit i;
  merchant =
      (is.merchant
      ∙ at_merchant (option_and_then (merchant_at t)) (option_and_then (λ id. merchant_at t m)) m
      w.merchant
      of.merchant refl refl) i;
  has_terminal =
      (is.has_terminal
      ∙ (at_merchant
      (λ o. holds_if (has_terminal_at t (or_empty o)) (option_and_then (λ id. w.terminal) o))
      (λ o. holds_if (has_terminal_at t m) (option_and_then (λ id. w.terminal) o)) m w.merchant
      of.merchant refl refl
      ∙ ap (holds_if (has_terminal_at t m)) of.terminal)) i;
  recorded = (ap (option_map prior_of) is.recorded ∙ request_of_merchant t m w.key of.key) i;
  original = (ap (option_map prior_of) is.original ∙ request_of_merchant t m w.original of.original)
      i;
  referred =
      (ap (option_map prior_of) is.referred
      ∙ (ap (option_map prior_of)
      (at_merchant (λ o. option_and_then (referred_at t (or_empty o))
      (option_and_then (λ id. w.reference) o))
      (λ o. option_and_then (referred_at t m) (option_and_then (λ id. w.reference) o)) m w.merchant
      of.merchant refl
      refl)
      ∙ (ap (λ o. option_map prior_of (option_and_then (referred_at t m) o)) of.reference
      ∙ map_then prior_of (referred_at t m) w.reference))) i;
  range = is.range i;
  overlapped = is.overlapped i;
  admitted =
      (is.admitted
      ∙ at_merchant (λ o. number_if w.admitted (admitted_at t (or_empty o)) o)
      (number_if w.admitted (admitted_at t m)) m w.merchant of.merchant
      (none_counted w.admitted (admitted_at t []) (admitted_at t m)) refl) i;
  used =
      (is.used
      ∙ (at_merchant
      (λ o. used_if (used_at t (or_empty o)) (option_and_then (λ id. w.used_day) o))
      (λ o. used_if (used_at t m) (option_and_then (λ id. w.used_day) o)) m w.merchant
      of.merchant refl refl
      ∙ ap (used_if (used_at t m)) of.used_day)) i;
  totals =
      (is.totals
      ∙ (at_merchant
      (λ o. totals_if (totals_at t (or_empty o)) (option_and_then (λ id. w.totals_day) o))
      (λ o. totals_if (totals_at t m) (option_and_then (λ id. w.totals_day) o)) m w.merchant
      of.merchant refl refl
      ∙ ap (totals_if (totals_at t m)) of.totals_day)) i;
}

-- so it is what the tables let the event know
pub known_is : (t : Tables) (a : Arrival) (w : Wanted) (l : Looked) → w ≡ wanted_by t.day a →
    IsLooked t w l →
    known_of l ≡ known_in t a
known_is t a w l wanted is =
    let m = or_empty (merchant_named a) in
    known_for-looked t w m l (subst (λ v. IsOfMerchant v m) (sym wanted) (wanted_by-of t.day a)) is
    ∙ ap (λ v. known_for v (facts_in t m)) wanted

-- the same where the look-up succeeded
pub known_if : {F : Type 0} (t : Tables) (a : Arrival) (w : Wanted) (r : Result Looked F) →
    w ≡ wanted_by t.day a → IfOk r (IsLooked t w) → IfOk r (λ l. known_of l ≡ known_in t a)
known_if t a w (Ok l) wanted is = known_is t a w l wanted is
known_if t a w (Err fault) wanted is = tt
