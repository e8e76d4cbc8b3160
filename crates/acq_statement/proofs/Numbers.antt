-- A merchant's postings of a day: their numbers rise as they come.
use Rattle.std.proofs.Common.{◌≡◌, ◌==◌, ◌&&◌, ◌+◌, ◌≤◌, ◌<◌, ◌∙◌, ◌∷◌, ◌++◌, ℕ, Bool, true, false}
use Rattle.std.proofs.Common.{cond, List, [], Ordering, Less, Equal, Greater, Option, None, Some}
use Rattle.std.proofs.Common.{refl, sym, ap, ap₂, subst, true≢false, filter, append-nil}
use Rattle.std.proofs.Common.{append_assoc, arith}
use Rattle.std.specs.Prelude.{◌||◌, nat_le, nat_lt}
use Rattle.std.specs.Cmp.Lexicographic.{slice_cmp}
use Rattle.std.specs.List.{AllByRecursion}
use Rattle.std.specs.Ordering.{is_eq, is_lt, nat_cmp, ordering_then}
use Rattle.std.specs.Str.{bytes_eq}
use Rattle.std.proofs.lemmas.Bool.{and_from, and_parts}
use Rattle.std.proofs.lemmas.Bool.Decides.{nat_tests}
use Rattle.std.proofs.lemmas.List.{append_cancel_right}
use Rattle.std.proofs.lemmas.List.Elements.{filter-append}
use Rattle.std.proofs.lemmas.Map.Text.{is_eq-slice_cmp}
use Rattle.acq_core.specs.declared.change.Change.{Change}
use Rattle.acq_core.specs.declared.change.Change.TheVariants as change
use Rattle.acq_core.specs.declared.event.Event.{Event}
use Rattle.acq_core.specs.declared.posting.Posting.{Posting}
use Rattle.acq_core.specs.Arrivals.{arrival_of}
use Rattle.acq_core.specs.Changes.{change_for}
use Rattle.acq_core.specs.Pasts.{HasPast}
use Rattle.acq_core.specs.Tables.{Tables, after, after_any, count, known_in, postings_before}
use Rattle.acq_core.specs.Tables.{step_tables, tables_after, with_next_posting}
use Rattle.acq_core.proofs.Counts.{count-push}
use Rattle.acq_soundness.proofs.Keys.{bytes_eq_from, bytes_eq_is}
use Rattle.acq_book.specs.Lookups.{is_posting_before, postings_above_at}
use Rattle.acq_book.specs.Order.{in_order, put_in_order}
use Rattle.acq_clearing.proofs.Numbers.{AreCounted, AreRising, IsBelow, Numbered, counted_by_past}
use Rattle.acq_clearing.proofs.Numbers.{is_beside, rising_by_past}
use Rattle.acq_clearing.proofs.Rows as rows
use Rattle.acq_statement.specs.Gathered.{is_of_day, postings_up_to}
use Rattle.acq_statement.specs.TerminalTotals.{day_postings}
use Rattle.acq_statement.proofs.SumsOfTerminals.{last_number}

-- ---- by number

abbrev is_less : Numbered → Numbered → Bool
is_less x y = nat_lt x.0 y.0

never : (x : Numbered) → is_less x x ≡ false
never x = grind (arith, nat_tests)

chain : (x y z : Numbered) → is_less x y ≡ true → is_less y z ≡ true → is_less x z ≡ true
chain x y z h k = grind (arith, nat_tests, h, k)

abbrev Rise : List Numbered → Type 0
Rise = rows.Ascend is_less never chain

filter_both : (p q : Numbered → Bool) (xs : List Numbered) →
    filter (λ x. p x && q x) xs ≡ filter q (filter p xs)
filter_both p q [] = refl
filter_both p q (x ∷ xs) =
    elim (p x) as (λ b. cond (b && q x) (x ∷ filter (λ y. p y && q y) xs)
    (filter (λ y. p y && q y) xs)
    ≡ filter q (cond b (x ∷ filter p xs) (filter p xs))) [
      | true ↦ ap (λ l. cond (q x) (x ∷ l) l) (filter_both p q xs)
      | false ↦ filter_both p q xs
    ]

equal_is : (o : Ordering) → is_eq o ≡ true → o ≡ Equal
equal_is Less h = absurd (true≢false (sym h))
equal_is Equal h = refl
equal_is Greater h = absurd (true≢false (sym h))

abbrev is_beyond : ℕ → Numbered → Bool
is_beyond n row = nat_lt n row.0

abbrev is_up_to : ℕ → Numbered → Bool
is_up_to n row = nat_lt 0 row.0 && nat_le row.0 n

module _ (n : ℕ) where
  both_parts : (x : Numbered) → is_beyond 0 x ≡ (is_up_to n x || is_beyond n x)
  both_parts x =
      go (nat_lt 0 x.0) (nat_le x.0 n) (nat_lt n x.0) refl refl refl
    where
      go : (a b c : Bool) → nat_lt 0 x.0 ≡ a → nat_le x.0 n ≡ b → nat_lt n x.0 ≡ c →
          a ≡ ((a && b) || c)
      go true true c e f g = refl
      go true false true e f g = refl
      go true false false e f g =
          let bad : ⊥ = grind (arith, nat_tests, e, f, g) in absurd bad
      go false b false e f g = refl
      go false b true e f g =
          let bad : ⊥ = grind (arith, nat_tests, e, g) in absurd bad

  apart : (x : Numbered) → is_beyond n x ≡ true → is_up_to n x ≡ false
  apart x h = go (nat_lt 0 x.0) (nat_le x.0 n) refl
    where
      go : (a b : Bool) → nat_le x.0 n ≡ b → (a && b) ≡ false
      go true true e = let bad : ⊥ = grind (arith, nat_tests, e, h) in absurd bad
      go true false e = refl
      go false b e = refl

  up : (x y : Numbered) → is_less x y ≡ true → is_beyond n x ≡ true → is_beyond n y ≡ true
  up x y h k = grind (arith, nat_tests, h, k)

  -- those up to a number, and those beyond it
  in_two : (xs : List Numbered) → Rise xs →
      filter (is_up_to n) xs ++ filter (is_beyond n) xs ≡ filter (is_beyond 0) xs
  in_two xs rises =
      rows.in_two is_less never chain (is_beyond 0) (is_up_to n) (is_beyond n) both_parts apart up
      xs rises

module _ (xs : List Numbered) (rises : Rise xs) where
  module _ (n : ℕ) (y : Numbered) (ys : List Numbered)
      (is : filter (is_beyond n) xs ≡ y ∷ ys) where
    beyond_next : filter (is_beyond y.0) xs ≡ ys
    beyond_next =
        rows.rest_behind is_less never chain (is_beyond n) (up n) xs rises [] y ys is

    up_to_next : filter (is_up_to y.0) xs ≡ filter (is_up_to n) xs ++ y ∷ []
    up_to_next =
        append_cancel_right (filter (is_up_to y.0) xs) (filter (is_up_to n) xs ++ y ∷ []) ys
        (ap (λ l. filter (is_up_to y.0) xs ++ l) (sym beyond_next)
        ∙ in_two y.0 xs rises ∙ sym (in_two n xs rises)
        ∙ ap (λ l. filter (is_up_to n) xs ++ l) is
        ∙ sym (append_assoc (filter (is_up_to n) xs) (y ∷ []) ys))

  up_to_last : (n : ℕ) (ys left : List Numbered) → filter (is_beyond n) xs ≡ ys ++ left →
      filter (is_up_to (last_number n ys)) xs ≡ filter (is_up_to n) xs ++ ys
  up_to_last n [] left is = sym (append-nil (filter (is_up_to n) xs))
  up_to_last n (y ∷ ys) left is =
      up_to_last y.0 ys left (beyond_next n y (ys ++ left) is)
      ∙ ap (λ l. l ++ ys) (up_to_next n y (ys ++ left) is)
      ∙ append_assoc (filter (is_up_to n) xs) (y ∷ []) ys

last_within : (most n : ℕ) (ys left : List Numbered) → n ≤ most →
    AllByRecursion (λ y. y.0 ≤ most) (ys ++ left) → last_number n ys ≤ most
last_within most n [] left le all = le
last_within most n (y ∷ ys) left le all = last_within most y.0 ys left all.0 all.1

-- ---- of a merchant and day

module _ (m : List ℕ) (day : ℕ) where
  abbrev own : Numbered → Bool
  own = is_of_day m day

  own_merchant : (x : Numbered) → own x ≡ true → x.1.merchant ≡ m
  own_merchant x h = bytes_eq_is x.1.merchant m (and_parts _ _ h).0

  own_day : (x : Numbered) → own x ≡ true → x.1.day ≡ day
  own_day x h = let k = (and_parts (bytes_eq x.1.merchant m) _ h).1 in grind (arith, nat_tests, k)

  less : (x y : Numbered) → own x ≡ true → own y ≡ true → IsBelow x y → is_less x y ≡ true
  less x y here there below =
      let merchants : y.1.merchant ≡ x.1.merchant =
      own_merchant y there ∙ sym (own_merchant x here) in
      let a = own_day x here in
      let b = own_day y there in
      let days : (y.1.day == x.1.day) ≡ true = grind (arith, nat_tests, a, b) in
      let low : x.0 < y.0 =
      below (and_from (bytes_eq y.1.merchant x.1.merchant) (y.1.day == x.1.day)
      (bytes_eq_from y.1.merchant x.1.merchant merchants) days) in
      grind (arith, nat_tests, low)

  not_before : (z y : Numbered) → own z ≡ true → own y ≡ true → is_less y z ≡ true →
      is_posting_before z y ≡ false
  not_before z y there here low =
      let merchants : z.1.merchant ≡ y.1.merchant =
      own_merchant z there ∙ sym (own_merchant y here) in
      let equal : slice_cmp nat_cmp z.1.merchant y.1.merchant ≡ Equal =
      equal_is (slice_cmp nat_cmp z.1.merchant y.1.merchant)
      (is_eq-slice_cmp z.1.merchant y.1.merchant
      ∙ bytes_eq_from z.1.merchant y.1.merchant merchants) in
      let numbers : is_lt (nat_cmp z.0 y.0) ≡ false = grind (arith, nat_tests, low) in
      ap (λ o. is_lt (ordering_then o (nat_cmp z.0 y.0))) equal ∙ numbers

  -- rows that pass a test that only the day's do
  module _ (p : Numbered → Bool) (owned : (x : Numbered) → p x ≡ true → own x ≡ true) where
    less_from : (x : Numbered) → own x ≡ true → (ys : List Numbered) →
        AllByRecursion (IsBelow x) ys → AllByRecursion (λ y. is_less x y ≡ true) (filter p ys)
    less_from x here [] below = tt
    less_from x here (y ∷ ys) below = go (less_from x here ys below.1) (p y) refl
      where
        go : AllByRecursion (λ z. is_less x z ≡ true) (filter p ys) → (b : Bool) → p y ≡ b →
            AllByRecursion (λ z. is_less x z ≡ true) (cond b (y ∷ filter p ys) (filter p ys))
        go rest true there = (less x y here (owned y there) below.0, rest)
        go rest false there = rest

    rise : (xs : List Numbered) → AreRising xs → Rise (filter p xs)
    rise [] rises = tt
    rise (x ∷ xs) rises = go (rise xs rises.1) (p x) refl
      where
        go : Rise (filter p xs) → (b : Bool) → p x ≡ b →
            Rise (cond b (x ∷ filter p xs) (filter p xs))
        go rest true here = (less_from x (owned x here) xs rises.0, rest)
        go rest false here = rest

    all_own : (xs : List Numbered) → AllByRecursion (λ x. own x ≡ true) (filter p xs)
    all_own [] = tt
    all_own (x ∷ xs) = go (all_own xs) (p x) refl
      where
        go : AllByRecursion (λ y. own y ≡ true) (filter p xs) → (b : Bool) → p x ≡ b →
            AllByRecursion (λ y. own y ≡ true) (cond b (x ∷ filter p xs) (filter p xs))
        go rest true here = (owned x here, rest)
        go rest false here = rest

  -- they are in order as they came
  first_put : (y : Numbered) → own y ≡ true → (zs : List Numbered) →
      AllByRecursion (λ z. own z ≡ true) zs → AllByRecursion (λ z. is_less y z ≡ true) zs →
      put_in_order is_posting_before y zs ≡ y ∷ zs
  first_put y here [] all less = refl
  first_put y here (z ∷ zs) all less =
      ap (λ b. cond b (z ∷ put_in_order is_posting_before y zs) (y ∷ z ∷ zs))
      (not_before z y all.0 here less.0)

  ordered : (ys : List Numbered) → AllByRecursion (λ y. own y ≡ true) ys → Rise ys →
      in_order is_posting_before ys ≡ ys
  ordered [] all rises = refl
  ordered (y ∷ ys) all rises =
      ap (put_in_order is_posting_before y) (ordered ys all.1 rises.1)
      ∙ first_put y all.0 ys all.1 rises.0

  -- ---- over tables with a past

  module _ (t : Tables) (past : HasPast t) where
    abbrev mine : List Numbered
    mine = filter own t.postings

    mine_rise : Rise mine
    mine_rise = rise own (λ x h. h) t.postings (rising_by_past t past)

    pub above_is : (n : ℕ) → postings_above_at t m day n ≡ filter (is_beyond n) mine
    above_is n =
        ordered (filter (λ row. own row && is_beyond n row) t.postings)
        (all_own (λ row. own row && is_beyond n row)
        (λ x h. (and_parts (own x) (is_beyond n x) h).0) t.postings)
        (rise (λ row. own row && is_beyond n row)
        (λ x h. (and_parts (own x) (is_beyond n x) h).0) t.postings (rising_by_past t past))
        ∙ filter_both own (is_beyond n) t.postings

    up_to_is : (n : ℕ) → postings_up_to t m day n ≡ filter (is_up_to n) mine
    up_to_is n = filter_both own (is_up_to n) t.postings

    -- those up to a number, and those beyond it
    pub day_in_two : (n : ℕ) →
        postings_up_to t m day n ++ postings_above_at t m day n ≡ day_postings t m day
    day_in_two n =
        ap₂ (λ a b. a ++ b) (up_to_is n) (above_is n) ∙ in_two n mine mine_rise
        ∙ sym (above_is 0)

    module _ (n : ℕ) (gone left : List Numbered)
        (parts : postings_above_at t m day n ≡ gone ++ left) where
      -- some of those beyond it more
      pub gone_on : postings_up_to t m day (last_number n gone) ≡ postings_up_to t m day n ++ gone
      gone_on =
          up_to_is (last_number n gone)
          ∙ up_to_last mine mine_rise n gone left (sym (above_is n) ∙ parts)
          ∙ ap (λ l. l ++ gone) (sym (up_to_is n))

      counted_own : (whole xs : List Numbered) → AreCounted whole xs →
          AllByRecursion (λ y. y.0 ≤ count own whole) (filter own xs)
      counted_own whole [] all = tt
      counted_own whole (x ∷ xs) all = go (counted_own whole xs all.1) (own x) refl
        where
          same : own x ≡ true → count (is_beside x.1) whole ≡ count own whole
          same here =
              ap₂ (λ (a : List ℕ) (d : ℕ). count (is_of_day a d) whole) (own_merchant x here)
              (own_day x here)

          go : AllByRecursion (λ y. y.0 ≤ count own whole) (filter own xs) → (b : Bool) →
              own x ≡ b → AllByRecursion (λ y. y.0 ≤ count own whole)
              (cond b (x ∷ filter own xs) (filter own xs))
          go rest true here = (let e = same here in omega (arith, all.0, e), rest)
          go rest false here = rest

      all_beyond : (q : Numbered → Bool) (most : ℕ) (xs : List Numbered) →
          AllByRecursion (λ y. y.0 ≤ most) xs → AllByRecursion (λ y. y.0 ≤ most) (filter q xs)
      all_beyond q most [] all = tt
      all_beyond q most (x ∷ xs) all = go (all_beyond q most xs all.1) (q x)
        where
          go : AllByRecursion (λ y. y.0 ≤ most) (filter q xs) → (b : Bool) →
              AllByRecursion (λ y. y.0 ≤ most) (cond b (x ∷ filter q xs) (filter q xs))
          go rest true = (all.0, rest)
          go rest false = rest

      -- whose numbers are no greater than how many there are
      pub gone_within : n ≤ count own t.postings → last_number n gone ≤ count own t.postings
      gone_within le =
          last_within (count own t.postings) n gone left le
          (subst (AllByRecursion (λ y. y.0 ≤ count own t.postings)) (sym (above_is n) ∙ parts)
          (all_beyond (is_beyond n) (count own t.postings) mine
          (counted_own t.postings t.postings (counted_by_past t past))))

  -- ---- later ones

  -- as many are there, and those up to a number are the same
  pub record GoesOn (before after : List Numbered) : Type 0 where
    pub grows : count own before ≤ count own after
    pub same : (n : ℕ) → n ≤ count own before →
        filter (λ row. own row && is_up_to n row) after
        ≡ filter (λ row. own row && is_up_to n row) before

  goes_itself : (xs : List Numbered) → GoesOn xs xs
  goes_itself xs = record { grows = omega arith; same = λ n le. refl }

  goes_then : (xs ys zs : List Numbered) → GoesOn xs ys → GoesOn ys zs → GoesOn xs zs
  goes_then xs ys zs first second = record {
    grows = omega (arith, first.grows, second.grows);
    same = λ n le. second.same n (omega (arith, le, first.grows)) ∙ first.same n le;
  }

  module _ (xs : List Numbered) (p : Posting) where
    abbrev new : Numbered
    new = (postings_before xs p + 1, p)

    more : (b : Bool) (k n : ℕ) → k ≡ cond b (1 + n) n → n ≤ k
    more true k n is = omega (arith, is)
    more false k n is = omega (arith, is)

    new_passes : (n : ℕ) → n ≤ count own xs → (own new && is_up_to n new) ≡ false
    new_passes n le = go (own new) refl (nat_lt 0 new.0) (nat_le new.0 n) refl
      where
        go : (a : Bool) → own new ≡ a → (b c : Bool) → nat_le new.0 n ≡ c →
            (a && (b && c)) ≡ false
        go true here true true e =
            let same : postings_before xs p ≡ count own xs =
            ap₂ (λ (a : List ℕ) (d : ℕ). count (is_of_day a d) xs) (own_merchant new here)
            (own_day new here) in
            let bad : ⊥ = grind (arith, nat_tests, e, le, same) in absurd bad
        go true here true false e = refl
        go true here false c e = refl
        go false here b c e = refl

    with_new : GoesOn xs (xs ++ new ∷ [])
    with_new = record {
      grows = more (own new) _ (count own xs) (count-push own xs new);
      same = λ n le.
          let q = λ (row : Numbered). own row && is_up_to n row in
          filter-append q xs (new ∷ [])
          ∙ ap (λ b. filter q xs ++ cond b (new ∷ []) []) (new_passes n le)
          ∙ append-nil (filter q xs);
    }

  with_any : (xs : List Numbered) (o : Option Posting) → GoesOn xs (with_next_posting xs o)
  with_any xs None = goes_itself xs
  with_any xs (Some p) = with_new xs p

  after_change : (t : Tables) (c : Change) → GoesOn t.postings (after t c).postings
  after_change t (change.Answered key status reply hold_end posting) = with_any t.postings posting
  after_change t (change.Follow row original remains posting) = with_any t.postings posting
  after_change t c = goes_itself t.postings

  after_any_change : (t : Tables) (o : Option Change) → GoesOn t.postings (after_any t o).postings
  after_any_change t None = goes_itself t.postings
  after_any_change t (Some c) = after_change t c

  pub after_events : (t : Tables) (events : List Event) →
      GoesOn t.postings (tables_after t events).postings
  after_events t [] = goes_itself t.postings
  after_events t (e ∷ es) =
      goes_then t.postings (step_tables t (arrival_of e)).postings
      (tables_after (step_tables t (arrival_of e)) es).postings
      (after_any_change t (change_for (known_in t (arrival_of e)) (arrival_of e)))
      (after_events (step_tables t (arrival_of e)) es)
