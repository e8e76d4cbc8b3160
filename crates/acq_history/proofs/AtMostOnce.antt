-- Of each hold at most one completion is accepted, and of each original at most one reversal, which
-- lets no more of it remain than its own amount.
use Rattle.std.proofs.Common.{◌≡◌, ◌+◌, ◌≤◌, ℕ, List, [], ◌∷◌, Option, Some, None, Bool, true, false}
use Rattle.std.proofs.Common.{cond, refl, sym, ap, ◌∙◌, subst, arith}
use Rattle.std.specs.Prelude.{option_map, option_and_then, find, is_some, not, unwrap_or}
use Rattle.std.specs.Prelude.{◌&&◌, ◌||◌, ◌<◌, ◌==◌, nat_le}
use Rattle.std.proofs.lemmas.Bool.Decides.{nat_tests}
use Rattle.std.specs.List.{list_any}
use Rattle.std.specs.Option.{option_or}
use Rattle.std.proofs.lemmas.Bool.{and_parts}
use Rattle.acq_message.specs.declared.service.Service.{Service}
use Rattle.acq_message.specs.declared.service.Service.TheVariants.{Authorization, Completion}
use Rattle.acq_message.specs.declared.request_key.RequestKey.{RequestKey}
use Rattle.acq_message.specs.declared.request_message.RequestMessage.{RequestMessage}
use Rattle.acq_message.specs.Elements.{amount_in, reference_in, remaining_in, original_key}
use Rattle.acq_message.specs.Elements.{same_key, key_of}
use Rattle.acq_message.specs.Numbers.{is_number}
use Rattle.acq_core.specs.declared.merchant.Merchant.{Merchant}
use Rattle.acq_core.specs.declared.event.Event.{Event}
use Rattle.acq_core.specs.declared.arrival.Arrival.{Arrival}
use Rattle.acq_core.specs.declared.arrival.Arrival.TheVariants.{Requested}
use Rattle.acq_core.specs.Arrivals.{arrival_of}
use Rattle.acq_core.specs.Changes.{end_of_hold}
use Rattle.acq_core.specs.Decision.{is_open_at}
use Rattle.acq_core.specs.Outcome.{Outcome, outcome}
use Rattle.acq_core.specs.Tables.{Opening, count}
use Rattle.acq_soundness.specs.Requests.{recordable, is_reversal}
use Rattle.acq_soundness.proofs.Keys.{eqb_is, same_key_is}
use Rattle.acq_soundness.proofs.Lookups.{none_some, some_is, map_none, own_none}
use Rattle.acq_soundness.proofs.Lookups.{or_split, not_true}
use Rattle.acq_soundness.proofs.RecordableRequests.{recordable_is}
use Rattle.acq_history.specs.Entries.{Entry, request_of, is_approved, is_completion, completes}
use Rattle.acq_history.specs.Entries.{is_past_merchant}
use Rattle.acq_history.specs.Entries.{is_completing, is_key, reverses, is_reversing, remaining_by}
use Rattle.acq_history.specs.History.{Found, aged, newest, recorded, recording, referred, referring}
use Rattle.acq_history.specs.History.{admits, next_reference, is_completed, is_reversed, is_declined}
use Rattle.acq_history.specs.History.{is_admitted, is_accepted, is_reversible, reversal_of, amount_of}
use Rattle.acq_history.specs.History.{any_with, lowered_to, approval_of, hold_days_of}
use Rattle.acq_history.specs.History.{hold_end_by, is_undone}
use Rattle.acq_history.specs.PartyHistory.{known_by, entry_for, history_after}
use Rattle.acq_history.specs.Acceptance.{MayComplete, MayReverse}
use Rattle.acq_history.proofs.RecordedInHistory.{key_in, referred_is, recorded_is}
use Rattle.acq_history.proofs.ExactlyAccepted.{known, Results, unapproved, completes_by, reverses_by}

-- ---- what an entry was that completes or reverses

-- a completion of the hold with a reference
pub record CompletesIn (opening : Opening) (h : List Entry) (a : Arrival) (n : ℕ) : Type 0 where
  pub request : RequestMessage
  pub merchant : Merchant
  pub came : a ≡ Requested request
  pub may : MayComplete opening h request merchant
  pub named : may.reference ≡ n

completion_is : (s : Service) → is_completion s ≡ true → s ≡ Completion
completion_is Completion e = refl
completion_is s e = absurd (cc)

number_is : (o : Option ℕ) (k n : ℕ) → o ≡ Some k → is_number n o ≡ true → k ≡ n
number_is o k n is same = eqb_is k n (ap (is_number n) (sym is) ∙ same)

pub completes_in : (opening : Opening) (h : List Entry) (a : Arrival) (n : ℕ) →
    is_completing n (entry_for opening h a) ≡ true → CompletesIn opening h a n
completes_in opening h (Requested r) n on = step (recordable r r.service) refl on
  where
    o : Outcome
    o = outcome (known_by opening h (Requested r)) (Requested r)

    step : (rq : Option RequestMessage) → recordable r r.service ≡ rq → completes n rq o ≡ true →
        CompletesIn opening h (Requested r) n
    step None came on = absurd (cc)
    step (Some q) came on =
        let mine = subst (λ x. completes n (Some x) o ≡ true)
        (sym (recordable_is r.service r q came)) on in
        let last = and_parts (is_completion r.service && is_approved o)
        (is_number n (reference_in r.message)) mine in
        let both = and_parts (is_completion r.service) (is_approved o) last.0 in
        let is = completion_is r.service both.0 in
        let may = completes_by opening h r is_approved is (unapproved (known opening h r Completion) r)
        (subst (Results opening h r is_approved) is both.1) in
        record {
          request = r;
          merchant = may.0;
          came = refl;
          may = may.1;
          named = number_is (reference_in r.message) may.1.reference n may.1.named last.1;
        }
completes_in opening h other n on = absurd (cc)

-- a reversal of the original with a key
pub record ReversesIn (opening : Opening) (h : List Entry) (a : Arrival)
    (key : RequestKey) : Type 0 where
  pub request : RequestMessage
  pub merchant : Merchant
  pub original : Found
  pub came : a ≡ Requested request
  pub recorded : request_of a ≡ Some request
  pub may : MayReverse opening h request merchant original
  pub named : may.key ≡ key

key_is : (o : Option RequestKey) (k key : RequestKey) → o ≡ Some k → is_key key o ≡ true → k ≡ key
key_is o k key is same = same_key_is k key (ap (is_key key) (sym is) ∙ same)

pub reverses_in : (opening : Opening) (h : List Entry) (a : Arrival) (key : RequestKey) →
    is_reversing key (entry_for opening h a) ≡ true → ReversesIn opening h a key
reverses_in opening h (Requested r) key on = step (recordable r r.service) refl on
  where
    o : Outcome
    o = outcome (known_by opening h (Requested r)) (Requested r)

    step : (rq : Option RequestMessage) → recordable r r.service ≡ rq → reverses key rq o ≡ true →
        ReversesIn opening h (Requested r) key
    step None came on = absurd (cc)
    step (Some q) came on =
        let same = recordable_is r.service r q came in
        let mine = subst (λ x. reverses key (Some x) o ≡ true) (sym same) on in
        let last = and_parts (is_reversal r.service && is_approved o)
        (is_key key (original_key r.message)) mine in
        let both = and_parts (is_reversal r.service) (is_approved o) last.0 in
        let may = reverses_by opening h r is_approved r.service refl both.0
        (unapproved (known opening h r r.service) r) both.1
        in
        record {
          request = r;
          merchant = may.0;
          original = may.1;
          came = refl;
          recorded = came ∙ ap Some (sym same);
          may = may.2;
          named = key_is (original_key r.message) may.2.key key may.2.named last.1;
        }
reverses_in opening h other key on = absurd (cc)

-- ---- at most one entry of a kind

-- none of those after what was found is of the kind, where one more is
count-none : (p : Entry → Bool) (es : List Entry) → list_any p es ≡ false → count p es ≡ 0
count-none p [] none = refl
count-none p (e ∷ es) none =
    let parts = or_split (p e) (list_any p es) none in
    ap (λ b. cond b (1 + count p es) (count p es)) parts.0 ∙ count-none p es parts.1

module _ (opening : Opening) (is : Entry → Bool) (look : List Entry → Option Found)
    (newly : Entry → List Entry → Option Found)
    (empty : look [] ≡ None)
    (more : (e : Entry) (h : List Entry) →
    look (e ∷ h) ≡ option_or (option_map (aged e) (look h)) (newly e h))
    (fresh : (e : Entry) (h : List Entry) (f : Found) → newly e h ≡ Some f → f.later ≡ [])
    (needs : (h : List Entry) (a : Arrival) → is (entry_for opening h a) ≡ true →
    (f : Found) × (look h ≡ Some f) × (list_any is f.later ≡ false)) where
  record IsOnce (h : List Entry) : Type 0 where
    none : look h ≡ None → count is h ≡ 0
    some : (f : Found) → look h ≡ Some f → count is h ≡ count is f.later
    once : count is h ≤ 1

  is_once-step : (h : List Entry) (a : Arrival) → IsOnce h → IsOnce (entry_for opening h a ∷ h)
  is_once-step h a before = record {
    none = λ absent. still (own_none (option_map (aged e) (look h)) (newly e h) (sym (more e h) ∙ absent));
    some = λ f there. found (look h) refl f (sym (more e h) ∙ there);
    once = once (is e) refl;
  }
    where
      e : Entry
      e = entry_for opening h a

      other : look h ≡ None → is (entry_for opening h a) ≡ false
      other absent = step (is (entry_for opening h a)) refl
        where
          step : (b : Bool) → is (entry_for opening h a) ≡ b → b ≡ false
          step true on = let w = needs h a on in none_some w.0 (sym absent ∙ w.1)
          step false off = refl

      still : option_map (aged (entry_for opening h a)) (look h) ≡ None →
          count is (entry_for opening h a ∷ h) ≡ 0
      still absent =
          let none = map_none (aged (entry_for opening h a)) (look h) absent in
          ap (λ b. cond b (1 + count is h) (count is h)) (other none) ∙ before.none none

      found : (o : Option Found) → look h ≡ o → (f : Found) →
          option_or (option_map (aged (entry_for opening h a)) o) (newly (entry_for opening h a) h)
          ≡ Some f →
          count is (entry_for opening h a ∷ h) ≡ count is f.later
      found None absent f there =
          ap (λ b. cond b (1 + count is h) (count is h)) (other absent)
          ∙ (before.none absent
          ∙ sym (ap (count is) (fresh (entry_for opening h a) h f there)))
      found (Some g) there f same =
          ap (λ n. cond (is (entry_for opening h a)) (1 + n) n) (before.some g there)
          ∙ ap (λ x. count is x.later) (some_is (aged (entry_for opening h a) g) f same)

      once : (b : Bool) → is (entry_for opening h a) ≡ b → cond b (1 + count is h) (count is h) ≤ 1
      once true on =
          let w = needs h a on in
          let none = before.some w.0 w.1 ∙ count-none is w.0.later w.2 in
          subst (λ n. 1 + n ≤ 1) (sym none) (omega arith)
      once false off = before.once

  is_once : (h : List Entry) → IsOnce h → (es : List Event) →
      count is (history_after opening h es) ≤ 1
  is_once h before [] = before.once
  is_once h before (e ∷ es) =
      is_once (entry_for opening h (arrival_of e) ∷ h) (is_once-step h (arrival_of e) before) es

  pub once_from_new : (es : List Event) → count is (history_after opening [] es) ≤ 1
  once_from_new es =
      is_once [] (record {
        none = λ absent. refl;
        some = λ f there. none_some f (sym empty ∙ there);
        once = omega arith;
      }) es

-- ---- completions

referring-newest : (n : ℕ) (e : Entry) (h : List Entry) (rq : Option RequestMessage) (f : Found) →
    referring n e h rq ≡ Some f → f.later ≡ []
referring-newest n e h None f is = none_some f is
referring-newest n e h (Some r) f is = step (admits (Some r) e h && (next_reference h == n)) is
  where
    step : (b : Bool) → cond b (Some (newest r e h)) None ≡ Some f → f.later ≡ []
    step true is = ap (λ x. x.later) (sym (some_is (newest r e h) f is))
    step false is = none_some f is

-- nothing has completed what may be completed
pub uncaptured : (h : List Entry) (n : ℕ) (hold : Found) → referred n h ≡ Some hold →
    is_completed hold ≡ false → list_any (is_completing n) hold.later ≡ false
uncaptured h n hold found free =
    ap (λ o. any_with is_completing o hold.later) (sym (referred_is n h hold found).0) ∙ free

-- ---- reversals

recording-newest : (key : RequestKey) (e : Entry) (h : List Entry) (rq : Option RequestMessage)
    (f : Found) → recording key e h rq ≡ Some f → f.later ≡ []
recording-newest key e h None f is = none_some f is
recording-newest key e h (Some r) f is =
    step (same_key (key_of r.service r.message) key && is_past_merchant e.outcome) is
  where
    step : (b : Bool) → cond b (Some (newest r e h)) None ≡ Some f → f.later ≡ []
    step true is = ap (λ x. x.later) (sym (some_is (newest r e h) f is))
    step false is = none_some f is

-- ---- an open hold

-- what an open hold is
pub record IsOpen (f : Found) (moment : ℕ) : Type 0 where
  pub service : f.request.service ≡ Authorization
  pub uncompleted : is_completed f ≡ false
  pub standing : is_undone f ≡ false
  pub approved : ℕ
  pub days : ℕ
  pub at : approval_of f ≡ Some approved
  pub kept : hold_days_of f ≡ Some days
  pub in_time : moment ≤ end_of_hold approved days

no_later : (a b : ℕ) → nat_le a b ≡ true → a ≤ b
no_later a b h = grind (arith, nat_tests)

pub is_open : (f : Found) (moment : ℕ) →
    is_open_at moment (hold_end_by f.request.service f) ≡ true → IsOpen f moment
is_open f moment opens = by_service f.request.service refl opens
  where
    ended : (o p : Option ℕ) → f.request.service ≡ Authorization → is_completed f ≡ false →
        is_undone f ≡ false → approval_of f ≡ o → hold_days_of f ≡ p →
        is_open_at moment (option_and_then (λ t. option_map (end_of_hold t) p) o) ≡ true →
        IsOpen f moment
    ended None p is un standing at kept opens = absurd (cc)
    ended (Some t) None is un standing at kept opens = absurd (cc)
    ended (Some t) (Some d) is un standing at kept opens =
        record {
          service = is;
          uncompleted = un;
          standing = standing;
          approved = t;
          days = d;
          at = at;
          kept = kept;
          in_time = no_later moment (end_of_hold t d) opens;
        }

    step : (b c : Bool) → f.request.service ≡ Authorization → is_completed f ≡ b →
        is_undone f ≡ c →
        is_open_at moment (cond (b || c) None
        (option_and_then (λ t. option_map (end_of_hold t) (hold_days_of f)) (approval_of f))) ≡ true →
        IsOpen f moment
    step false false is un standing opens =
        ended (approval_of f) (hold_days_of f) is un standing refl refl opens
    step false true is un standing opens = absurd (cc)
    step true c is un standing opens = absurd (cc)

    by_service : (s : Service) → f.request.service ≡ s →
        is_open_at moment (hold_end_by s f) ≡ true → IsOpen f moment
    by_service Authorization is opens = step (is_completed f) (is_undone f) is refl refl opens
    by_service s is opens = absurd (cc)

-- ---- at most once

pub captured_once : (opening : Opening) (es : List Event) (n : ℕ) →
    count (is_completing n) (history_after opening [] es) ≤ 1
captured_once opening es n =
    once_from_new opening (is_completing n) (referred n)
    (λ e h. referring n e h (request_of e.arrival)) refl (λ e h. refl)
    (λ e h f is. referring-newest n e h (request_of e.arrival) f is)
    (λ h a on.
    let w = completes_in opening h a n on in
    let found = ap (λ k. referred k h) (sym w.named) ∙ w.may.found in
    let opened = is_open w.may.hold w.request.moment w.may.opens in
    (w.may.hold, found, uncaptured h n w.may.hold found opened.uncompleted)) es

-- what can be reversed wasn't
pub unreversed : (f : Found) → is_reversible f ≡ true → is_reversed f ≡ false
unreversed f can =
    let last = and_parts ((is_admitted f || is_accepted f) && not (is_completed f)
    && not (is_reversed f)) (not (is_declined f)) can in
    let both = and_parts ((is_admitted f || is_accepted f) && not (is_completed f))
    (not (is_reversed f)) last.0 in
    not_true (is_reversed f) both.1

pub none_found : (p : Entry → Bool) (es : List Entry) →
    is_some (option_map (λ e. remaining_by (request_of e.arrival)) (find p es)) ≡ false →
    list_any p es ≡ false
none_found p [] none = refl
none_found p (e ∷ es) none = step (p e) (λ later. none_found p es later) none
  where
    step : (b : Bool) →
        (is_some (option_map (λ x. remaining_by (request_of x.arrival)) (find p es)) ≡ false →
        list_any p es ≡ false) →
        is_some (option_map (λ x. remaining_by (request_of x.arrival))
        (cond b (Some e) (find p es))) ≡ false →
        (b || list_any p es) ≡ false
    step true later none = absurd (cc)
    step false later none = later none

pub reversed_once : (opening : Opening) (es : List Event) (key : RequestKey) →
    count (is_reversing key) (history_after opening [] es) ≤ 1
reversed_once opening es key =
    once_from_new opening (is_reversing key) (recorded key)
    (λ e h. recording key e h (request_of e.arrival)) refl (λ e h. refl)
    (λ e h f is. recording-newest key e h (request_of e.arrival) f is)
    (λ h a on.
    let w = reverses_in opening h a key on in
    let found = ap (λ k. recorded k h) (sym w.named) ∙ w.may.found in
    let free = none_found (is_reversing (key_in w.original)) w.original.later
    (unreversed w.original w.may.reversible) in (
      w.original,
      found,
      ap (λ k. list_any (is_reversing k) w.original.later)
          (sym (recorded_is key h w.original found))
          ∙ free,
    )) es

-- ---- what a reversal lets remain

-- no reversal lets more remain than the original's own amount
abbrev pub LowersAll : List Entry → Type 0
LowersAll h =
    (key : RequestKey) (f : Found) (remains : ℕ) → recorded key h ≡ Some f →
    reversal_of f ≡ Some remains → remains ≤ amount_in f.request.message

own_amount : (f : Found) → is_reversed f ≡ false → amount_of f ≡ amount_in f.request.message
own_amount f none = step (reversal_of f) none
  where
    step : (o : Option ℕ) → is_some o ≡ false →
        unwrap_or (lowered_to f.request.service o) (amount_in f.request.message)
        ≡ amount_in f.request.message
    step None none = refl
    step (Some n) none = absurd (cc)

lowers-step : (opening : Opening) (h : List Entry) (a : Arrival) → LowersAll h →
    LowersAll (entry_for opening h a ∷ h)
lowers-step opening h a before key f remains there reversed =
    step (recorded key h) refl there
  where
    e : Entry
    e = entry_for opening h a

    newly : recording key (entry_for opening h a) h (request_of a) ≡ Some f →
        remains ≤ amount_in f.request.message
    newly is =
        none_some remains
        (sym (ap (λ es. option_map (λ x. remaining_by (request_of x.arrival))
        (find (is_reversing (key_in f)) es))
        (recording-newest key (entry_for opening h a) h (request_of a) f is))
        ∙ reversed)

    lowered : (g : Found) → recorded key h ≡ Some g → (b : Bool) →
        is_reversing (key_in g) (entry_for opening h a) ≡ b →
        option_map (λ x. remaining_by (request_of x.arrival))
        (cond b (Some (entry_for opening h a)) (find (is_reversing (key_in g)) g.later))
        ≡ Some remains →
        remains ≤ amount_in g.request.message
    lowered g there false off is = before key g remains there is
    lowered g there true on is =
        let w = reverses_in opening h a (key_in g) on in
        let same : w.original ≡ g =
        some_is w.original g
        (sym w.may.found
        ∙ (ap (λ k. recorded k h) (w.named ∙ recorded_is key h g there) ∙ there)) in
        let less : remaining_in w.request.message < amount_of g =
        subst (λ x. remaining_in w.request.message < amount_of x) same w.may.less in
        let free : is_reversed g ≡ false =
        ap is_reversed (sym same) ∙ unreversed w.original w.may.reversible in
        let amount : amount_of g ≡ amount_in g.request.message = own_amount g free in
        let left : remaining_in w.request.message ≡ remains =
        sym (ap remaining_by w.recorded) ∙ some_is _ remains is in
        omega arith

    step : (o : Option Found) → recorded key h ≡ o →
        option_or (option_map (aged (entry_for opening h a)) o)
        (recording key (entry_for opening h a) h (request_of a)) ≡ Some f →
        remains ≤ amount_in f.request.message
    step None none there = newly there
    step (Some g) found there =
        let same = some_is (aged (entry_for opening h a) g) f there in
        subst (λ x. remains ≤ amount_in x.request.message) same
        (lowered g found (is_reversing (key_in g) (entry_for opening h a)) refl
        (ap reversal_of same ∙ reversed))

pub lowers_all : (opening : Opening) (h : List Entry) → LowersAll h → (es : List Event) →
    LowersAll (history_after opening h es)
lowers_all opening h all [] = all
lowers_all opening h all (e ∷ es) =
    lowers_all opening (entry_for opening h (arrival_of e) ∷ h)
    (lowers-step opening h (arrival_of e) all) es
