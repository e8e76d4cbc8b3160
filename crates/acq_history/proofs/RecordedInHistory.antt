-- What is recorded in a history, found by its key and by its reference.
use Rattle.std.proofs.Common.{◌≡◌, ℕ, ◌+◌, ◌<◌, List, [], ◌∷◌, ◌++◌, Option, Some, None, Bool, true}
use Rattle.std.proofs.Common.{false, cond, refl, sym, ap, ◌∙◌, subst, arith}
use Rattle.std.specs.Prelude.{map, find, option_map, ◌&&◌, not, is_some, is_none, ◌==◌}
use Rattle.std.specs.Prelude.{if◌then◌else◌}
use Rattle.std.specs.Option.{option_or}
use Rattle.std.proofs.lemmas.List.{append-nil}
use Rattle.std.proofs.lemmas.List.Folds.{find-append}
use Rattle.std.proofs.lemmas.Bool.{and_parts}
use Rattle.acq_message.specs.declared.request_key.RequestKey.{RequestKey}
use Rattle.acq_core.specs.declared.merchant.Merchant.{Merchant}
use Rattle.acq_message.specs.Elements.{key_of, same_key}
use Rattle.acq_message.specs.declared.request_message.RequestMessage.{RequestMessage}
use Rattle.acq_core.specs.Outcome.{Outcome, Asked}
use Rattle.acq_core.specs.Tables.{count}
use Rattle.acq_message.specs.Numbers.{is_number}
use Rattle.acq_core.proofs.Counts.{count-push_if}
use Rattle.acq_soundness.specs.Requests.{is_admissible}
use Rattle.acq_history.specs.Entries.{Entry, request_of, is_past_merchant, is_asked}
use Rattle.acq_history.specs.History.{Found, newest, aged, recording, recorded, referring, referred}
use Rattle.acq_history.specs.History.{admits, is_admission, admitted, first_reference}
use Rattle.acq_history.specs.History.{next_reference, reference_of, enrolled}
use Rattle.acq_history.specs.Isolation.{recording_first, all_recorded}
use Rattle.acq_soundness.proofs.Lookups.{none_of, not_some, some_is, find-view, count-view, Each}
use Rattle.acq_soundness.proofs.Lookups.{each-push, each-map}
use Rattle.acq_soundness.proofs.Keys.{same_key_itself, same_key_is, eqb_itself, eqb_is}

-- the key of a recorded request
abbrev pub key_in : Found → RequestKey
key_in f = key_of f.request.service f.request.message

-- ---- look-ups among all that is recorded

-- the newest entry's request, found by its key only where that is new
new_by_key : (q : Found → Bool) (x : Found) (o : Option Found) (u : Found → Found)
    (p : Option Found) (s c : Bool) → q x ≡ s → (s ≡ true → p ≡ o) →
    option_or (option_map u o) (find q (cond (c && not (is_some p)) (x ∷ []) []))
    ≡ option_or (option_map u o) (cond (s && c) (Some x) None)
new_by_key q x (Some g) u p s c fits same = refl
new_by_key q x None u p true true fits same =
    (λ i. find q (cond (not (is_some (same refl i))) (x ∷ []) []))
    ∙ ap (λ b. cond b (Some x) None) fits
new_by_key q x None u p true false fits same = refl
new_by_key q x None u p false c fits same =
    elim (c && not (is_some p)) as (λ b. find q (cond b (x ∷ []) []) ≡ None) [
      | true ↦ ap (λ b. cond b (Some x) None) fits
      | false ↦ refl
    ]

-- with one more entry
by_key_more : (key : RequestKey) (e : Entry) (h : List Entry) (rq : Option RequestMessage) →
    option_or (option_map (aged e) (recorded key h))
    (find (λ f. same_key (key_in f) key) (recording_first e h rq))
    ≡ option_or (option_map (aged e) (recorded key h)) (recording key e h rq)
by_key_more key e h None = refl
by_key_more key e h (Some r) =
    new_by_key (λ f. same_key (key_in f) key) (newest r e h) (recorded key h) (aged e)
    (recorded (key_of r.service r.message) h)
    (same_key (key_of r.service r.message) key) (is_past_merchant e.outcome) refl
    (λ s. ap (λ k. recorded k h) (same_key_is (key_of r.service r.message) key s))

-- the first of all that is recorded under a key is what is recorded under it
pub find_recorded : (key : RequestKey) (h : List Entry) →
    find (λ f. same_key (key_in f) key) (all_recorded h) ≡ recorded key h
find_recorded key [] = refl
find_recorded key (e ∷ h) =
    find-append (λ f. same_key (key_in f) key) (map (aged e) (all_recorded h))
    (recording_first e h (request_of e.arrival))
    ∙ (ap (λ o. option_or o
    (find (λ f. same_key (key_in f) key) (recording_first e h (request_of e.arrival))))
    (find-view (aged e) (λ f. same_key (key_in f) key) (all_recorded h))
    ∙ (ap (λ o. option_or (option_map (aged e) o)
    (find (λ f. same_key (key_in f) key) (recording_first e h (request_of e.arrival))))
    (find_recorded key h)
    ∙ by_key_more key e h (request_of e.arrival)))

-- the newest entry's request, found by its reference
new_by_reference : (q : Found → Bool) (x : Found) (adm c b : Bool) → q x ≡ (adm && b) →
    (adm ≡ true → c ≡ true) → find q (cond c (x ∷ []) []) ≡ cond (adm && b) (Some x) None
new_by_reference q x true c b fits there =
    (λ i. find q (cond (there refl i) (x ∷ []) [])) ∙ ap (λ t. cond t (Some x) None) fits
new_by_reference q x false c b fits there =
    elim c as (λ t. find q (cond t (x ∷ []) []) ≡ None)
    [ true ↦ ap (λ t. cond t (Some x) None) fits | false ↦ refl ]

-- a reference is there only where the request was admitted
number_if : (n k : ℕ) (adm : Bool) → is_number n (if adm then Some k else None) ≡ (adm && k == n)
number_if n k true = refl
number_if n k false = refl

-- what is asked of an issuer is past the merchant check
asked_past : (o : Outcome) → is_asked o ≡ true → is_past_merchant o ≡ true
asked_past (Asked query) e = refl
asked_past other e = absurd (cc)

-- what is admitted has a new key, and is recorded
pub admits_first : (r : RequestMessage) (e : Entry) (h : List Entry) → admits (Some r) e h ≡ true →
    (is_admissible r.service ≡ true) × (is_past_merchant e.outcome ≡ true)
    × (recorded (key_of r.service r.message) h ≡ None)
admits_first r e h adm =
    let last =
    and_parts (is_admissible r.service && is_asked e.outcome)
    (is_none (recorded (key_of r.service r.message) h)) adm in
    let both = and_parts (is_admissible r.service) (is_asked e.outcome) last.0 in
    (both.0, asked_past e.outcome both.1, none_of (recorded (key_of r.service r.message) h) last.1)

-- what is admitted is recorded
first_there : (r : RequestMessage) (e : Entry) (h : List Entry) → admits (Some r) e h ≡ true →
    (is_past_merchant e.outcome && not (is_some (recorded (key_of r.service r.message) h))) ≡ true
first_there r e h adm = let a = admits_first r e h adm in λ i. a.1 i && not (is_some (a.2 i))

-- with one more entry
by_reference_more : (n : ℕ) (e : Entry) (h : List Entry) (rq : Option RequestMessage) →
    find (λ f. is_number n (reference_of f)) (recording_first e h rq) ≡ referring n e h rq
by_reference_more n e h None = refl
by_reference_more n e h (Some r) =
    new_by_reference (λ f. is_number n (reference_of f)) (newest r e h) (admits (Some r) e h)
    (is_past_merchant e.outcome && not (is_some (recorded (key_of r.service r.message) h)))
    (next_reference h == n)
    (number_if n (next_reference h) (admits (Some r) e h)) (first_there r e h)

-- the first of all that has a reference is what is found by it
pub find_referred : (n : ℕ) (h : List Entry) →
    find (λ f. is_number n (reference_of f)) (all_recorded h) ≡ referred n h
find_referred n [] = refl
find_referred n (e ∷ h) =
    find-append (λ f. is_number n (reference_of f)) (map (aged e) (all_recorded h))
    (recording_first e h (request_of e.arrival))
    ∙ (ap (λ o. option_or o
    (find (λ f. is_number n (reference_of f)) (recording_first e h (request_of e.arrival))))
    (find-view (aged e) (λ f. is_number n (reference_of f)) (all_recorded h))
    ∙ (λ i. option_or (option_map (aged e) (find_referred n h i))
    (by_reference_more n e h (request_of e.arrival) i)))

-- only what is admitted has one
some_if : (k : ℕ) (c adm : Bool) → (adm ≡ true → c ≡ true) →
    (c && is_some (if adm then Some k else None)) ≡ adm
some_if k true true there = refl
some_if k true false there = refl
some_if k false true there = absurd (let h : false ≡ true = there refl in cc)
some_if k false false there = refl

-- with one more entry
count_more : (fs : List Found) (e : Entry) (h : List Entry) (rq : Option RequestMessage) →
    count (λ f. is_some (reference_of f)) fs ≡ admitted h →
    count (λ f. is_some (reference_of f)) (fs ++ recording_first e h rq)
    ≡ cond (admits rq e h) (1 + admitted h) (admitted h)
count_more fs e h None same = ap (count (λ f. is_some (reference_of f))) (append-nil fs) ∙ same
count_more fs e h (Some r) same =
    count-push_if (λ f. is_some (reference_of f)) fs (newest r e h)
    (is_past_merchant e.outcome && not (is_some (recorded (key_of r.service r.message) h)))
    ∙ (λ i. cond (some_if (next_reference h)
    (is_past_merchant e.outcome && not (is_some (recorded (key_of r.service r.message) h)))
    (admits (Some r) e h)
    (first_there r e h) i) (1 + same i) (same i))

-- those with a reference are the admitted
pub count_admitted : (h : List Entry) →
    count (λ f. is_some (reference_of f)) (all_recorded h) ≡ admitted h
count_admitted [] = refl
count_admitted (e ∷ h) =
    count_more (map (aged e) (all_recorded h)) e h (request_of e.arrival)
    (count-view (aged e) (λ f. is_some (reference_of f)) (all_recorded h) ∙ count_admitted h)

-- ---- what is found stands under its own key and its own reference

-- the two ways in which something is found in a longer history
found_in_longer : (o : Option Found) (e : Entry) (x : Found) (c : Bool) (f : Found) →
    option_or (option_map (aged e) o) (if c then Some x else None) ≡ Some f → (P : Found → Type 0) →
    ((g : Found) → o ≡ Some g → P (aged e g)) → (o ≡ None → c ≡ true → P x) → P f
found_in_longer (Some g) e x c f is P old new = let same : aged e g ≡ f = cc in
    subst P same (old g refl)
found_in_longer None e x true f is P old new = let same : x ≡ f = cc in subst P same (new refl refl)
found_in_longer None e x false f is P old new =
    absurd (let none : ◌≡◌ {A = Option Found} None (Some f) = is in cc)

-- what was found stays found, and grows older
still : (e : Entry) (o : Option Found) (f : Found) (c : Option Found) → o ≡ Some f →
    option_or (option_map (aged e) o) c ≡ Some (aged e f)
still e o f c is = ap (λ (p : Option Found). option_or (option_map (aged e) p) c) is

-- a request is admitted only once its merchant is enrolled
abbrev pub AdmitsOnlyEnrolled : List Entry → Type 0
AdmitsOnlyEnrolled [] = Unit {0}
AdmitsOnlyEnrolled (e ∷ h) = (is_admission e h ≡ true → is_some (enrolled h) ≡ true)
    × AdmitsOnlyEnrolled h

-- a reference is one of those that the merchant has given
abbrev IsBelow : ℕ → Option Merchant → ℕ → Type 0
IsBelow n None a = ⊥
IsBelow n (Some merchant) a = n < merchant.first_reference + a

-- a given one stays given
below_later : (n : ℕ) (o p : Option Merchant) (a : ℕ) (b : Bool) → IsBelow n o a →
    IsBelow n (option_or o p) (cond b (1 + a) a)
below_later n None p a b lt = absurd lt
below_later n (Some merchant) p a true lt = omega arith
below_later n (Some merchant) p a false lt = lt

-- the newest is given
below_new : (n : ℕ) (o p : Option Merchant) (a : ℕ) (b : Bool) → is_some o ≡ true → b ≡ true →
    first_reference o + a ≡ n → IsBelow n (option_or o p) (cond b (1 + a) a)
below_new n None p a b there adm is = absurd (cc)
below_new n (Some merchant) p a true there adm is = omega arith
below_new n (Some merchant) p a false there adm is = absurd (cc)

-- with one more entry
below_more : (n : ℕ) (e : Entry) (h : List Entry) (p : Option Merchant) (rq : Option RequestMessage)
    (f : Found) → (admits rq e h ≡ true → is_some (enrolled h) ≡ true) →
    ((g : Found) → referred n h ≡ Some g → IsBelow n (enrolled h) (admitted h)) →
    option_or (option_map (aged e) (referred n h)) (referring n e h rq) ≡ Some f →
    IsBelow n (option_or (enrolled h) p) (cond (admits rq e h) (1 + admitted h) (admitted h))
below_more n e h p None f genuine before is =
    found_in_longer (referred n h) e f false f is
    (λ f. IsBelow n (option_or (enrolled h) p) (admitted h))
    (λ g eg. below_later n (enrolled h) p (admitted h) false (before g eg)) (λ none c. absurd (cc))
below_more n e h p (Some r) f genuine before is =
    found_in_longer (referred n h) e (newest r e h) (admits (Some r) e h && (next_reference h == n))
    f is
    (λ f. IsBelow n (option_or (enrolled h) p)
    (cond (admits (Some r) e h) (1 + admitted h) (admitted h)))
    (λ g eg. below_later n (enrolled h) p (admitted h) (admits (Some r) e h) (before g eg))
    (λ none c. let both = and_parts (admits (Some r) e h) (next_reference h == n) c in
    below_new n (enrolled h) p (admitted h) (admits (Some r) e h) (genuine both.0) both.0
    (eqb_is (next_reference h) n both.1))

-- what is found by a reference has a given one
below : (n : ℕ) (h : List Entry) (f : Found) → AdmitsOnlyEnrolled h → referred n h ≡ Some f →
    IsBelow n (enrolled h) (admitted h)
below n [] f genuine is = absurd (cc)
below n (e ∷ h) f genuine is =
    below_more n e h _ (request_of e.arrival) f genuine.0 (λ g eg. below n h g genuine.1 eg) is

-- so its merchant is enrolled
pub enrolled_where : (n : ℕ) (h : List Entry) (f : Found) → AdmitsOnlyEnrolled h →
    referred n h ≡ Some f → is_some (enrolled h) ≡ true
enrolled_where n h f genuine is = step (enrolled h) (below n h f genuine is)
  where
    step : (o : Option Merchant) → IsBelow n o (admitted h) → is_some o ≡ true
    step None lt = absurd lt
    step (Some merchant) lt = refl

-- the next reference is new
fresh_in : (o : Option Merchant) (a : ℕ) → is_some o ≡ true → IsBelow (first_reference o + a) o a →
    ⊥
fresh_in None a there lt = lt
fresh_in (Some merchant) a there lt = omega arith

-- so the next reference finds nothing
pub fresh : (h : List Entry) → AdmitsOnlyEnrolled h → is_some (enrolled h) ≡ true →
    referred (next_reference h) h ≡ None
fresh h genuine there =
    let step : (o : Option Found) → referred (next_reference h) h ≡ o → o ≡ None =
    elim [
      | None ↦ (λ e. refl)
      | Some f ↦ (λ e.
          absurd (fresh_in (enrolled h) (admitted h) there
          (below (next_reference h) h f genuine e)))
    ] in
    step (referred (next_reference h) h) refl

-- its own key and its own reference find it
pub record IsFoundAgain (h : List Entry) (f : Found) : Type 0 where
  pub own : recorded (key_in f) h ≡ Some f
  pub numbered : (n : ℕ) → reference_of f ≡ Some n → referred n h ≡ Some f

-- a reference, where it is there
pub reference_if : (adm : Bool) (k n : ℕ) → (if adm then Some k else None) ≡ Some n →
    (adm ≡ true) × (k ≡ n)
reference_if true k n e = (refl, some_is k n e)
reference_if false k n e = absurd (cc)

-- the newest entry's request
newest_found_again : (e : Entry) (h : List Entry) (r : RequestMessage) →
    AdmitsOnlyEnrolled (e ∷ h) → request_of e.arrival ≡ Some r → (c : Bool) →
    (is_past_merchant e.outcome && not (is_some (recorded (key_of r.service r.message) h))) ≡ c →
    Each (IsFoundAgain (e ∷ h)) (cond c (newest r e h ∷ []) [])
newest_found_again e h r genuine came false first = tt
newest_found_again e h r genuine came true first =
    let both = and_parts (is_past_merchant e.outcome)
    (not (is_some (recorded (key_of r.service r.message) h))) first in
    let none = not_some (recorded (key_of r.service r.message) h) both.1 in
    let x = newest r e h in (
      record {
        own =
            (λ i. option_or (option_map (aged e) (none i))
            (recording (key_of r.service r.message) e h (came i)))
            ∙ (λ i. cond (same_key_itself (key_of r.service r.message) i && both.0 i)
            (Some x) None);
        numbered = λ n is.
            let own = reference_if (admits (Some r) e h) (next_reference h) n is in
            let there : is_some (enrolled h) ≡ true =
            genuine.0 (ap (λ rq. admits rq e h) came ∙ own.0) in
            (λ i. option_or (option_map (aged e) (referred (sym own.1 i) h))
            (referring (sym own.1 i) e h (came i)))
            ∙ (λ i. option_or (option_map (aged e) (fresh h genuine.1 there i))
            (cond (own.0 i && eqb_itself (next_reference h) i) (Some x) None));
      },
      tt,
    )

-- where it is recorded
first_found_again : (e : Entry) (h : List Entry) (rq : Option RequestMessage) →
    AdmitsOnlyEnrolled (e ∷ h) →
    request_of e.arrival ≡ rq → Each (IsFoundAgain (e ∷ h)) (recording_first e h rq)
first_found_again e h None genuine came = tt
first_found_again e h (Some r) genuine came =
    newest_found_again e h r genuine came
    (is_past_merchant e.outcome && not (is_some (recorded (key_of r.service r.message) h))) refl

-- all that is recorded
pub each_found_again : (h : List Entry) → AdmitsOnlyEnrolled h →
    Each (IsFoundAgain h) (all_recorded h)
each_found_again [] genuine = tt
each_found_again (e ∷ h) genuine =
    each-push (IsFoundAgain (e ∷ h)) (map (aged e) (all_recorded h))
    (recording_first e h (request_of e.arrival))
    (each-map (IsFoundAgain h) (IsFoundAgain (e ∷ h)) (aged e)
    (λ f p. record {
      own = still e (recorded (key_in f) h) f (recording (key_in f) e h (request_of e.arrival))
          p.own;
      numbered = λ n is. still e (referred n h) f (referring n e h (request_of e.arrival))
          (p.numbered n is);
    })
    (all_recorded h) (each_found_again h genuine.1))
    (first_found_again e h (request_of e.arrival) genuine refl)

-- ---- what a look-up finds

-- found by a reference, it has that reference, and its own key finds it
abbrev Referred : ℕ → List Entry → Found → Type 0
Referred n h f = (reference_of f ≡ Some n) × (recorded (key_in f) h ≡ Some f)

referred_more : (n : ℕ) (e : Entry) (h : List Entry) (rq : Option RequestMessage) (f : Found) →
    request_of e.arrival ≡ rq → ((g : Found) → referred n h ≡ Some g → Referred n h g) →
    option_or (option_map (aged e) (referred n h)) (referring n e h rq) ≡ Some f →
    Referred n (e ∷ h) f
referred_more n e h None f came before is =
    found_in_longer (referred n h) e f false f is (Referred n (e ∷ h))
    (λ g eg. let b = before g eg in
    (b.0, still e (recorded (key_in g) h) g (recording (key_in g) e h (request_of e.arrival)) b.1))
    (λ none c. absurd (cc))
referred_more n e h (Some r) f came before is =
    found_in_longer (referred n h) e (newest r e h) (admits (Some r) e h && (next_reference h == n))
    f is
    (Referred n (e ∷ h))
    (λ g eg. let b = before g eg in
    (b.0, still e (recorded (key_in g) h) g (recording (key_in g) e h (request_of e.arrival)) b.1))
    (λ none c.
    let both = and_parts (admits (Some r) e h) (next_reference h == n) c in
    let a = admits_first r e h both.0 in (
      (λ i. if both.0 i then Some (eqb_is (next_reference h) n both.1 i) else None),
      (λ i. option_or (option_map (aged e) (a.2 i))
          (recording (key_of r.service r.message) e h (came i)))
          ∙ (λ i. cond (same_key_itself (key_of r.service r.message) i && a.1 i)
          (Some (newest r e h)) None),
    ))

pub referred_is : (n : ℕ) (h : List Entry) (f : Found) → referred n h ≡ Some f → Referred n h f
referred_is n [] f is = absurd (cc)
referred_is n (e ∷ h) f is = referred_more n e h (request_of e.arrival) f refl
    (λ g eg. referred_is n h g eg) is

recorded_more : (key : RequestKey) (e : Entry) (h : List Entry) (rq : Option RequestMessage)
    (f : Found) → ((g : Found) → recorded key h ≡ Some g → key_in g ≡ key) →
    option_or (option_map (aged e) (recorded key h)) (recording key e h rq) ≡ Some f →
    key_in f ≡ key
recorded_more key e h None f before is =
    found_in_longer (recorded key h) e f false f is (λ f. key_in f ≡ key) (λ g eg. before g eg)
    (λ none c. absurd (cc))
recorded_more key e h (Some r) f before is =
    found_in_longer (recorded key h) e (newest r e h)
    (same_key (key_of r.service r.message) key && is_past_merchant e.outcome) f is
    (λ f. key_in f ≡ key)
    (λ g eg. before g eg)
    (λ none c. same_key_is (key_of r.service r.message) key
    (and_parts (same_key (key_of r.service r.message) key) (is_past_merchant e.outcome) c).0)

pub recorded_is : (key : RequestKey) (h : List Entry) (f : Found) → recorded key h ≡ Some f →
    key_in f ≡ key
recorded_is key [] f is = absurd (cc)
recorded_is key (e ∷ h) f is = recorded_more key e h (request_of e.arrival) f
    (λ g eg. recorded_is key h g eg) is
