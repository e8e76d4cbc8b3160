-- The open holds are those that can be captured.
use Rattle.std.proofs.Common.{◌≡◌, ◌≤◌, ℕ, List, [], ◌∷◌, Some, true, inl, inr}
use Rattle.std.proofs.Common.{refl, sym, ap, ◌∙◌, subst}
use Rattle.std.specs.Prelude.{map}
use Rattle.acq_message.specs.declared.request_message.RequestMessage.{RequestMessage}
use Rattle.acq_message.specs.declared.response_code.ResponseCode.TheVariants as code
use Rattle.acq_message.specs.Elements.{amount_in}
use Rattle.acq_message.specs.Numbers.{is_number}
use Rattle.acq_core.specs.declared.merchant.Merchant.{Merchant}
use Rattle.acq_core.specs.Known.{Prior}
use Rattle.acq_core.specs.Decision.{is_open_at}
use Rattle.acq_core.specs.Tables.{Opening}
use Rattle.acq_soundness.specs.Requests.{is_admissible}
use Rattle.acq_soundness.proofs.Lookups.{some_is}
use Rattle.acq_soundness.proofs.Members.{In, from_In, to_In, In-find, In-filter, In-filtered}
use Rattle.acq_history.specs.Entries.{Entry}
use Rattle.acq_history.specs.History.{Found, referred, prior, day_after, amount_of, reference_by}
use Rattle.acq_history.specs.History.{reference_of}
use Rattle.acq_history.specs.PartyHistory.{history_of}
use Rattle.acq_history.specs.Isolation.{all_recorded, open_at}
use Rattle.acq_history.specs.Acceptance.{MayComplete, result_on}
use Rattle.acq_history.specs.Told.{told, IsTold00}
use Rattle.acq_history.specs.OpenHolds as statement
use Rattle.acq_history.specs.OpenHolds.{AsksToCapture, IsListed, open_holds}
use Rattle.acq_history.proofs.RecordedInHistory.{IsFoundAgain, each_found_again, find_referred}
use Rattle.acq_history.proofs.RecordedInHistory.{AdmitsOnlyEnrolled, referred_is}
use Rattle.acq_history.proofs.NewRows.{own_reference}
use Rattle.acq_history.proofs.MerchantsRuns.{from_new, holds_alone}
use Rattle.acq_history.proofs.EntriesThatAccept.{each_in}
use Rattle.acq_history.proofs.AcceptedRequests.{accepts_completions}
use Rattle.acq_history.proofs.ExactlyAccepted.{completes_only, says_code}
use Rattle.acq_history.proofs.AtMostOnce.{is_open}

-- ---- views of a list's members

In-viewed : {X Y : Type 0} (v : X → Y) (x : X) (xs : List X) → In x xs → In (v x) (map v xs)
In-viewed v x [] there = absurd there
In-viewed v x (y ∷ ys) (inl e) = inl (ap v e)
In-viewed v x (y ∷ ys) (inr later) = inr (In-viewed v x ys later)

In-view_of : {X Y : Type 0} (v : X → Y) (y : Y) (xs : List X) → In y (map v xs) →
    (x : X) × In x xs × (v x ≡ y)
In-view_of v y [] there = absurd there
In-view_of v y (x ∷ xs) (inl e) = (x, inl refl, e)
In-view_of v y (x ∷ xs) (inr later) =
    let a = In-view_of v y xs later in (a.0, inr a.1, a.2)

-- ---- in a history

abbrev holds_in : List Entry → ℕ → List Prior
holds_in h moment = open_at moment (map prior (all_recorded h))

-- a hold that may be captured is listed
listed_in : (h : List Entry) (n moment amount : ℕ) (f : Found) → referred n h ≡ Some f →
    is_open_at moment (prior f).hold_end ≡ true → amount ≤ amount_of f →
    IsListed (holds_in h moment) n amount
listed_in h n moment amount f found opens within =
    let there = (In-find (λ g. is_number n (reference_of g)) (all_recorded h) f
    (find_referred n h ∙ found)).0 in
    let opened = is_open f moment opens in
    record {
      hold = prior f;
      listed = from_In (prior f) (holds_in h moment)
          (In-filter (λ p. is_open_at moment p.hold_end) (prior f) (map prior (all_recorded h))
          (In-viewed prior f (all_recorded h) there) opens);
      numbered = own_reference f n f.request.service (ap is_admissible opened.service)
          (referred_is n h f found).0;
      enough = within;
    }

-- what is listed can be found by its reference
pub record IsOpenIn (h : List Entry) (n moment amount : ℕ) : Type 0 where
  pub hold : Found
  pub found : referred n h ≡ Some hold
  pub opens : is_open_at moment (prior hold).hold_end ≡ true
  pub within : amount ≤ amount_of hold

open_in : (h : List Entry) (n moment amount : ℕ) → AdmitsOnlyEnrolled h →
    IsListed (holds_in h moment) n amount → IsOpenIn h n moment amount
open_in h n moment amount genuine w =
    let members = In-filtered (λ p. is_open_at moment p.hold_end) w.hold
    (map prior (all_recorded h)) (to_In w.hold (holds_in h moment) w.listed) in
    let f = In-view_of prior w.hold (all_recorded h) members.0 in
    of_found h n moment amount f.0
    (each_in (IsFoundAgain h) (all_recorded h) f.0 (each_found_again h genuine) f.1)
    (subst (λ p. is_open_at moment p.hold_end ≡ true) (sym f.2) members.1)
    (subst (λ p. p.reference ≡ Some n) (sym f.2) w.numbered)
    (subst (λ p. amount ≤ p.amount) (sym f.2) w.enough)
  where
    of_found : (h : List Entry) (n moment amount : ℕ) (f : Found) → IsFoundAgain h f →
        is_open_at moment (prior f).hold_end ≡ true → (prior f).reference ≡ Some n →
        amount ≤ (prior f).amount → IsOpenIn h n moment amount
    of_found h n moment amount f again opens numbered enough =
        let opened = is_open f moment opens in
        record {
          hold = f;
          found = again.numbered n (sym (ap (λ s. reference_by s f) opened.service) ∙ numbered);
          opens = opens;
          within = enough;
        }

-- ---- the law

may_complete : (opening : Opening) (h : List Entry) (r : RequestMessage) (merchant : Merchant)
    (n : ℕ) → AsksToCapture opening h r merchant n → IsOpenIn h n r.moment (amount_in r.message) →
    MayComplete opening h r merchant
may_complete opening h r merchant n asks w =
    record {
      request = asks.request;
      service = asks.service;
      transaction = asks.transaction;
      currency = asks.currency;
      amount = asks.amount;
      reference = n;
      hold = w.hold;
      named = asks.named;
      found = w.found;
      opens = w.opens;
      within = w.within;
    }

pub open_holds_are_capturable : (m : List ℕ) → statement.OpenHoldsAreCapturable m
open_holds_are_capturable m opening es r merchant n asks = (listed, captured)
  where
    h : List Entry
    h = history_of opening (Some m) es

    same : open_holds m opening es r.moment ≡ holds_in (history_of opening (Some m) es) r.moment
    same = holds_alone m opening r.moment es

    listed : IsTold00 (result_on m opening es r) →
        IsListed (open_holds m opening es r.moment) n (amount_in r.message)
    listed said =
        let may = (completes_only m opening es r asks.service asks.request.new said).1 in
        let named : may.reference ≡ n =
        some_is may.reference n (sym may.named ∙ asks.named) in
        subst (λ holds. IsListed holds n (amount_in r.message)) (sym same)
        (listed_in (history_of opening (Some m) es) n r.moment (amount_in r.message) may.hold
        (ap (λ k. referred k (history_of opening (Some m) es)) (sym named) ∙ may.found)
        may.opens may.within)

    captured : IsListed (open_holds m opening es r.moment) n (amount_in r.message) →
        IsTold00 (result_on m opening es r)
    captured is =
        let w = open_in (history_of opening (Some m) es) n r.moment (amount_in r.message)
        (from_new opening m es).rows.genuine
        (subst (λ holds. IsListed holds n (amount_in r.message)) same is) in
        ap told
        (accepts_completions m opening es r merchant
        (may_complete opening (history_of opening (Some m) es) r merchant n asks w))
        ∙ says_code (day_after opening.first_day (history_of opening (Some m) es)) r code.Approved
