-- What one more request adds to look-ups.
use Rattle.std.proofs.Common.{◌≡◌, ℕ, ◌+◌, List, [], ◌∷◌, Bool, true, false, cond, Option}
use Rattle.std.proofs.Common.{None, Some, find, refl, sym, ap, ap₂, subst, true≢false, ◌∙◌}
use Rattle.std.specs.Prelude.{◌&&◌, ◌==◌, filter, is_some, option_and_then}
use Rattle.std.specs.Option.{option_or}
use Rattle.std.specs.Str.{bytes_eq}
use Rattle.std.proofs.lemmas.List.Elements.{filter-append}
use Rattle.std.proofs.lemmas.List.Folds.{find-append}
use Rattle.acq_message.specs.declared.request_key.RequestKey.{RequestKey}
use Rattle.acq_message.specs.Elements.{or_empty, same_key}
use Rattle.acq_message.specs.Numbers.{is_number}
use Rattle.acq_core.specs.declared.change.Change.TheVariants as change
use Rattle.acq_core.specs.declared.request.Request.{Request}
use Rattle.acq_core.specs.Known.{number_if, used_if}
use Rattle.acq_core.specs.Tables.{Tables, after}
use Rattle.acq_book.specs.Lookups.{admitted_at, referred_at, request_at, used_at}
use Rattle.acq_book.proofs.Counting.{count-filter-push}

stays : {X : Type 0} (place other : Option X) → is_some place ≡ true
    → place ≡ option_or place other
stays (Some x) other is = refl
stays None other is = absurd (true≢false (sym is))

nothing : {X : Type 0} (place : Option X) → is_some place ≡ false → option_or place None ≡ place
nothing (Some x) is = absurd (true≢false is)
nothing None is = refl

first : {X : Type 0} (place : Option X) (x : X) → is_some place ≡ false
    → option_or place (Some x) ≡ Some x
first (Some y) x is = absurd (true≢false is)
first None x is = refl

module _ (t : Tables) (r : Request) where
  abbrev more : Tables
  more = after t (change.AddRequest r)

  -- the first that was there, and else the last
  pub key_more : (key : RequestKey)
      → request_at more key
      ≡ option_or (request_at t key) (cond (same_key r.key key) (Some r) None)
  key_more key = find-append (λ row. same_key row.key key) t.requests (r ∷ [])

  pub referred_more : (m : List ℕ) (n : ℕ)
      → referred_at more m n
      ≡ option_or (referred_at t m n)
      (cond (bytes_eq r.key.merchant m && is_number n r.reference) (Some r) None)
  referred_more m n =
      ap (find (λ row. is_number n row.reference))
      (filter-append (λ row. bytes_eq row.key.merchant m) t.requests (r ∷ []))
      ∙ find-append (λ row. is_number n row.reference)
      (filter (λ row. bytes_eq row.key.merchant m) t.requests)
      (filter (λ row. bytes_eq row.key.merchant m) (r ∷ []))
      ∙ ap (option_or (referred_at t m n)) (one (bytes_eq r.key.merchant m))
    where
      one : (b : Bool)
          → find (λ row. is_number n row.reference) (cond b (r ∷ []) [])
          ≡ cond (b && is_number n r.reference) (Some r) None
      one true = refl
      one false = refl

  pub admitted_more : (m : List ℕ)
      → admitted_at more m
      ≡ cond (bytes_eq r.key.merchant m && is_some r.reference) (1 + admitted_at t m)
      (admitted_at t m)
  admitted_more m =
      count-filter-push (λ row. is_some row.reference) (λ row. bytes_eq row.key.merchant m)
      t.requests r

  pub used_more : (m : List ℕ) (day : ℕ)
      → used_at more m day
      ≡ cond (bytes_eq r.key.merchant m && (r.admitted && (r.day == day))) (1 + used_at t m day)
      (used_at t m day)
  used_more m day =
      count-filter-push (λ row. row.admitted && (row.day == day))
      (λ row. bytes_eq row.key.merchant m) t.requests r

  -- ---- under a key that is wanted

  module _ (key : Option RequestKey) (k : RequestKey) (is : key ≡ Some k) (place : Option Request)
      (was : place ≡ option_and_then (request_at t) key) where
    found_is : place ≡ request_at t k
    found_is = was ∙ ap (option_and_then (request_at t)) is

    more_is : option_and_then (request_at more) key
        ≡ option_or place (cond (same_key r.key k) (Some r) None)
    more_is = ap (option_and_then (request_at more)) is ∙ key_more k
        ∙ ap (λ o. option_or o (cond (same_key r.key k) (Some r) None)) (sym found_is)

    pub key_found : is_some place ≡ true → place ≡ option_and_then (request_at more) key
    key_found some = stays place _ some ∙ sym more_is

    pub key_other : is_some place ≡ false → same_key r.key k ≡ false
        → place ≡ option_and_then (request_at more) key
    key_other none other = sym (more_is ∙ ap (λ b. option_or place (cond b (Some r) None)) other
        ∙ nothing place none)

    pub key_own : is_some place ≡ false → same_key r.key k ≡ true
        → Some r ≡ option_and_then (request_at more) key
    key_own none own = sym (more_is ∙ ap (λ b. option_or place (cond b (Some r) None)) own
        ∙ first place r none)

  -- ---- with a reference that is wanted

  module _ (merchant : Option (List ℕ)) (reference : Option ℕ) (m : List ℕ) (n : ℕ)
      (is_m : merchant ≡ Some m) (is_n : reference ≡ Some n) (place : Option Request)
      (was : place ≡ option_and_then (referred_at t (or_empty merchant))
      (option_and_then (λ _. reference) merchant)) where
    abbrev at : Tables → Option Request
    at u = option_and_then (referred_at u (or_empty merchant))
        (option_and_then (λ _. reference) merchant)

    at_is : (u : Tables) → at u ≡ referred_at u m n
    at_is u = ap₂ (λ (a : Option (List ℕ)) (b : Option ℕ).
        option_and_then (referred_at u (or_empty a)) (option_and_then (λ _. b) a)) is_m is_n

    abbrev own_is : Bool
    own_is = bytes_eq r.key.merchant m && is_number n r.reference

    referred_is : at more ≡ option_or place (cond own_is (Some r) None)
    referred_is = at_is more ∙ referred_more m n
        ∙ ap (λ o. option_or o (cond own_is (Some r) None)) (sym (was ∙ at_is t))

    pub referred_found : is_some place ≡ true → place ≡ at more
    referred_found some = stays place _ some ∙ sym referred_is

    pub referred_other : is_some place ≡ false → own_is ≡ false → place ≡ at more
    referred_other none other = sym (referred_is
        ∙ ap (λ b. option_or place (cond b (Some r) None)) other ∙ nothing place none)

    pub referred_own : is_some place ≡ false → own_is ≡ true → Some r ≡ at more
    referred_own none own = sym (referred_is
        ∙ ap (λ b. option_or place (cond b (Some r) None)) own ∙ first place r none)

  -- ---- counts

  module _ (merchant : Option (List ℕ)) (m : List ℕ) (is_m : merchant ≡ Some m) where
    -- one that isn't counted adds nothing
    pub admitted_same : (wanted : Bool) → (bytes_eq r.key.merchant m && is_some r.reference) ≡ false
        → number_if wanted (admitted_at t (or_empty merchant)) merchant
        ≡ number_if wanted (admitted_at more (or_empty merchant)) merchant
    admitted_same wanted other =
        subst (λ a. number_if wanted (admitted_at t (or_empty a)) a
        ≡ number_if wanted (admitted_at more (or_empty a)) a) (sym is_m) (by wanted)
      where
        by : (b : Bool) → number_if b (admitted_at t m) (Some m)
            ≡ number_if b (admitted_at more m) (Some m)
        by false = refl
        by true = sym (admitted_more m
            ∙ ap (λ b. cond b (1 + admitted_at t m) (admitted_at t m)) other)

    pub admitted_one : (wanted : Bool) → wanted ≡ true
        → (bytes_eq r.key.merchant m && is_some r.reference) ≡ true
        → number_if wanted (admitted_at more (or_empty merchant)) merchant
        ≡ 1 + number_if wanted (admitted_at t (or_empty merchant)) merchant
    admitted_one wanted is_wanted own =
        subst (λ a. number_if wanted (admitted_at more (or_empty a)) a
        ≡ 1 + number_if wanted (admitted_at t (or_empty a)) a) (sym is_m)
        (subst (λ b. number_if b (admitted_at more m) (Some m)
        ≡ 1 + number_if b (admitted_at t m) (Some m)) (sym is_wanted)
        (admitted_more m ∙ ap (λ b. cond b (1 + admitted_at t m) (admitted_at t m)) own))

    module _ (day : Option ℕ) (d : ℕ) (is_d : day ≡ Some d) where
      abbrev used_then : Tables → ℕ
      used_then u = used_if (used_at u (or_empty merchant)) (option_and_then (λ _. day) merchant)

      used_then_is : (u : Tables) → used_then u ≡ used_at u m d
      used_then_is u = ap₂ (λ (a : Option (List ℕ)) (b : Option ℕ).
          used_if (used_at u (or_empty a)) (option_and_then (λ _. b) a)) is_m is_d

      abbrev is_counted : Bool
      is_counted = bytes_eq r.key.merchant m && (r.admitted && (r.day == d))

      pub used_same : is_counted ≡ false → used_then t ≡ used_then more
      used_same other = used_then_is t
          ∙ sym (ap (λ b. cond b (1 + used_at t m d) (used_at t m d)) other)
          ∙ sym (used_more m d) ∙ sym (used_then_is more)

      pub used_one : is_counted ≡ true → used_then more ≡ 1 + used_then t
      used_one own = used_then_is more ∙ used_more m d
          ∙ ap (λ b. cond b (1 + used_at t m d) (used_at t m d)) own
          ∙ ap (λ n. 1 + n) (sym (used_then_is t))
