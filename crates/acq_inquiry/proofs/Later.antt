-- What a search found stays found, whatever events are taken.
use Rattle.std.proofs.Common.{◌≡◌, ◌∙◌, ◌++◌, ◌∷◌, ◌+◌, ◌≤◌, ◌==◌, ℕ, zero, suc, Bool, true, false}
use Rattle.std.proofs.Common.{List, [], Option, Some, None, cond, refl, sym, ap, ap₂, arith, length}
use Rattle.std.proofs.Common.{take}
use Rattle.std.specs.Prelude.{◌&&◌, ◌||◌, filter, flat_map, nat_eq}
use Rattle.std.specs.List.{ends_with}
use Rattle.std.specs.Str.{bytes_eq}
use Rattle.std.proofs.lemmas.List.Elements.{All-weaker}
use Rattle.acq_message.specs.declared.request_key.RequestKey.{RequestKey}
use Rattle.acq_message.specs.Elements.{or_empty, same_key}
use Rattle.acq_message.specs.Numbers.{is_number}
use Rattle.acq_core.specs.declared.change.Change.{Change}
use Rattle.acq_core.specs.declared.change.Change.TheVariants as change
use Rattle.acq_core.specs.declared.event.Event.{Event}
use Rattle.acq_core.specs.declared.request.Request.{Request}
use Rattle.acq_core.specs.Arrivals.{arrival_of}
use Rattle.acq_core.specs.Tables.{Tables, after, after_any, answered_row, followed_row}
use Rattle.acq_core.specs.Changes.{change_for}
use Rattle.acq_core.specs.Tables.{known_in, step_tables, tables_after, with_changed}
use Rattle.acq_statement.proofs.Numbers as numbers
use Rattle.acq_inquiry.specs.declared.inquiry.Inquiry.{Inquiry}
use Rattle.acq_inquiry.specs.declared.inquiry.Inquiry.TheVariants.{Reference, Trace, CardEnds}
use Rattle.acq_inquiry.specs.declared.posted_day.PostedDay.{PostedDay}
use Rattle.acq_inquiry.specs.declared.search.Search.{Search}
use Rattle.acq_inquiry.specs.Gathering.{has_one_of, place_if, references_if}
use Rattle.acq_inquiry.specs.Inquiries.{is_asked, is_found, is_one_of, reference_if}
use Rattle.acq_inquiry.specs.KeptPostings.{IsKept}
use Rattle.acq_inquiry.specs.Searching.{IsSearched, given_from}

-- ---- what of a request no event changes

-- two requests have what decides whether one is found
pub record AreAlike (x y : Request) : Type 0 where
  pub key : x.key ≡ y.key
  pub reference : x.reference ≡ y.reference
  pub follows : x.follows ≡ y.follows
  pub day : x.day ≡ y.day
  pub card : x.card ≡ y.card

alike_itself : (x : Request) → AreAlike x x
alike_itself x = record { key = refl; reference = refl; follows = refl; day = refl; card = refl }

alike_then : (x y z : Request) → AreAlike x y → AreAlike y z → AreAlike x z
alike_then x y z first second =
    record {
      key = first.key ∙ second.key;
      reference = first.reference ∙ second.reference;
      follows = first.follows ∙ second.follows;
      day = first.day ∙ second.day;
      card = first.card ∙ second.card;
    }

asked_alike : (inquiry : Inquiry) (x y : Request) → AreAlike x y →
    is_asked inquiry x ≡ is_asked inquiry y
asked_alike (Reference n) x y a = ap (λ reference. is_number n reference) a.reference
asked_alike (Trace terminal trace) x y a =
    ap (λ (k : RequestKey). bytes_eq k.terminal terminal && bytes_eq k.trace trace) a.key
asked_alike (CardEnds digits day) x y a =
    ap₂ (λ card on. (on == day) && ends_with nat_eq (or_empty card) digits) a.card a.day

found_alike : (inquiry : Inquiry) (references : List ℕ) (x y : Request) → AreAlike x y →
    is_found inquiry references x ≡ is_found inquiry references y
found_alike inquiry references x y a =
    ap₂ (λ p q. p || is_one_of references q)
    (ap₂ (λ p q. p || is_one_of references q) (asked_alike inquiry x y a) a.reference) a.follows

given_alike : (merchant : List ℕ) (inquiry : Inquiry) (x y : Request) → AreAlike x y →
    references_if merchant inquiry x ≡ references_if merchant inquiry y
given_alike merchant inquiry x y a =
    ap₂ (λ b xs. cond b xs [])
    (ap₂ (λ (k : RequestKey) b. bytes_eq k.merchant merchant && b) a.key
    (asked_alike inquiry x y a))
    (ap₂ (λ p q. reference_if p ++ reference_if q) a.reference a.follows)

placed_alike : (merchant : List ℕ) (inquiry : Inquiry) (references : List ℕ) (place : ℕ)
    (x y : Request) → AreAlike x y →
    place_if merchant inquiry references place x ≡ place_if merchant inquiry references place y
placed_alike merchant inquiry references place x y a =
    ap (λ b. cond b (place ∷ []) [])
    (ap₂ (λ (k : RequestKey) b. bytes_eq k.merchant merchant && b) a.key
    (found_alike inquiry references x y a))

-- ---- requests that begin with others, as far as that goes

abbrev GoesOnFrom : List Request → List Request → Type 0
GoesOnFrom [] ys = Unit
GoesOnFrom (x ∷ xs) [] = ⊥
GoesOnFrom (x ∷ xs) (y ∷ ys) = AreAlike x y × GoesOnFrom xs ys

from_itself : (xs : List Request) → GoesOnFrom xs xs
from_itself [] = tt
from_itself (x ∷ xs) = (alike_itself x, from_itself xs)

from_then : (xs ys zs : List Request) → GoesOnFrom xs ys → GoesOnFrom ys zs → GoesOnFrom xs zs
from_then [] ys zs first second = tt
from_then (x ∷ xs) (y ∷ ys) (z ∷ zs) first second =
    (alike_then x y z first.0 second.0, from_then xs ys zs first.1 second.1)
from_then (x ∷ xs) [] zs first second = absurd first
from_then (x ∷ xs) (y ∷ ys) [] first second = absurd second

from_more : (xs ys zs : List Request) → GoesOnFrom xs ys → GoesOnFrom xs (ys ++ zs)
from_more [] ys zs goes = tt
from_more (x ∷ xs) (y ∷ ys) zs goes = (goes.0, from_more xs ys zs goes.1)
from_more (x ∷ xs) [] zs goes = absurd goes

from_changed : (key : RequestKey) (changed : Request → Request) →
    ((x : Request) → AreAlike x (changed x)) → (xs : List Request) →
    GoesOnFrom xs (with_changed key changed xs)
from_changed key changed alike [] = tt
from_changed key changed alike (x ∷ xs) =
    (one (same_key x.key key), from_changed key changed alike xs)
  where
    one : (b : Bool) → AreAlike x (cond b (changed x) x)
    one true = alike x
    one false = alike_itself x

after_change : (t : Tables) (c : Change) → GoesOnFrom t.requests (after t c).requests
after_change t (change.AddMerchant merchant) = from_itself t.requests
after_change t (change.AddTerminal terminal) = from_itself t.requests
after_change t (change.AddRange range) = from_itself t.requests
after_change t (change.DropRange low high) = from_itself t.requests
after_change t (change.SetDay day) = from_itself t.requests
after_change t (change.AddRequest row) =
    from_more t.requests t.requests (row ∷ []) (from_itself t.requests)
after_change t (change.Answered key status reply hold_end posting) =
    from_changed key (answered_row status reply hold_end)
    (λ x. record { key = refl; reference = refl; follows = refl; day = refl; card = refl })
    t.requests
after_change t (change.Follow row original remains posting) =
    from_more t.requests (with_changed original (followed_row remains) t.requests) (row ∷ [])
    (from_changed original (followed_row remains)
    (λ x. record { key = refl; reference = refl; follows = refl; day = refl; card = refl })
    t.requests)
after_change t (change.Reconciled row reconciliation) =
    from_more t.requests t.requests (row ∷ []) (from_itself t.requests)

after_any_change : (t : Tables) (c : Option Change) →
    GoesOnFrom t.requests (after_any t c).requests
after_any_change t None = from_itself t.requests
after_any_change t (Some c) = after_change t c

after_events : (t : Tables) (events : List Event) →
    GoesOnFrom t.requests (tables_after t events).requests
after_events t [] = from_itself t.requests
after_events t (e ∷ es) =
    from_then t.requests (step_tables t (arrival_of e)).requests
    (tables_after (step_tables t (arrival_of e)) es).requests
    (after_any_change t (change_for (known_in t (arrival_of e)) (arrival_of e)))
    (after_events (step_tables t (arrival_of e)) es)

-- ---- what the first of them give

no_fewer : (xs ys : List Request) → GoesOnFrom xs ys → length xs ≤ length ys
no_fewer [] ys goes = omega arith
no_fewer (x ∷ xs) (y ∷ ys) goes = omega (arith, no_fewer xs ys goes.1)
no_fewer (x ∷ xs) [] goes = absurd goes

module _ {X : Type 0} (gives : ℕ → Request → List X)
    (alike : (place : ℕ) (x y : Request) → AreAlike x y → gives place x ≡ gives place y) where
  first_give : (place n : ℕ) (xs ys : List Request) → n ≤ length xs → GoesOnFrom xs ys →
      given_from gives place (take n xs) ≡ given_from gives place (take n ys)
  first_give place zero xs ys within goes = refl
  first_give place (suc n) [] ys within goes = absurd (omega (arith, within))
  first_give place (suc n) (x ∷ xs) [] within goes = absurd goes
  first_give place (suc n) (x ∷ xs) (y ∷ ys) within goes =
      ap₂ (λ a b. a ++ b) (alike place x y goes.0)
      (first_give (place + 1) n xs ys (omega (arith, within)) goes.1)

-- what rows give wherever they stand
pub given_anywhere : {X : Type 0} (gives : Request → List X) (place : ℕ) (rows : List Request) →
    given_from (λ at. gives) place rows ≡ flat_map gives rows
given_anywhere gives place [] = refl
given_anywhere gives place (row ∷ rows) =
    ap (λ xs. gives row ++ xs) (given_anywhere gives (place + 1) rows)

-- ---- what is kept of postings

kept_on : (t u : Tables) (m references : List ℕ) →
    ((day : ℕ) → numbers.GoesOn m day t.postings u.postings) → (kept : PostedDay) →
    IsKept t m references kept → IsKept u m references kept
kept_on t u m references posted kept is =
    let goes = posted kept.day in
    record {
      within = omega (arith, is.within, goes.grows);
      postings = is.postings
          ∙ ap (filter (has_one_of references)) (sym (goes.same kept.number is.within));
    }

searched_on : (t u : Tables) (s : Search) → GoesOnFrom t.requests u.requests →
    ((day : ℕ) → numbers.GoesOn s.merchant day t.postings u.postings) → IsSearched t s →
    IsSearched u s
searched_on t u s goes posted is =
    record {
      seen = omega (arith, is.seen, more);
      looked = omega (arith, is.looked, more);
      references = is.references
          ∙ sym (given_anywhere (references_if s.merchant s.inquiry) 0 (take s.seen t.requests))
          ∙ first_give (λ place. references_if s.merchant s.inquiry)
          (λ place. given_alike s.merchant s.inquiry) 0 s.seen t.requests u.requests is.seen goes
          ∙ given_anywhere (references_if s.merchant s.inquiry) 0 (take s.seen u.requests);
      places = is.places
          ∙ first_give (place_if s.merchant s.inquiry s.references.items)
          (placed_alike s.merchant s.inquiry s.references.items) 0 s.looked t.requests u.requests
          is.looked goes;
      days = All-weaker (IsKept t s.merchant s.references.items)
          (IsKept u s.merchant s.references.items)
          (kept_on t u s.merchant s.references.items posted) s.days.items is.days;
    }
  where
    more : length t.requests ≤ length u.requests
    more = no_fewer t.requests u.requests goes

-- a search over tables is one over those after events
pub searched_later : (t : Tables) (events : List Event) (s : Search) → IsSearched t s →
    IsSearched (tables_after t events) s
searched_later t events s is =
    searched_on t (tables_after t events) s (after_events t events)
    (λ day. numbers.after_events s.merchant day t events) is
