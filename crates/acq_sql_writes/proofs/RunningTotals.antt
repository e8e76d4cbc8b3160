-- What the running totals say after a merchant's day is raised.
use Rattle.std.proofs.Common.{◌≡◌, ◌+◌, ◌==◌, ◌&&◌, inl, inr, ℕ, Bool, true, false, cond, List, []}
use Rattle.std.proofs.Common.{◌∷◌, ◌++◌, map, find}
use Rattle.std.proofs.Common.{Option, None, Some, option_map, refl, sym, ap, ap₂, ◌∙◌, arith}
use Rattle.std.specs.List.{AllByRecursion}
use Rattle.std.specs.Option.{option_or}
use Rattle.std.specs.Str.{bytes_eq}
use Rattle.std.proofs.lemmas.Bool.{and_parts}
use Rattle.sqlite_rules.specs.Lists.{Has}
use Rattle.sqlite_rules.proofs.ListLemmas.{all_has, all_from, has_found}
use Rattle.sqlite_trees.proofs.ListLemmas.{ascending-append, ascending-map, ascending_weaker}
use Rattle.day_totals.specs.declared.leg_total.LegTotal.{LegTotal}
use Rattle.acq_sql_rows.specs.Tallies.{Tally, Running, AreApart, no_tally, plus, leg_plus, is_for}
use Rattle.acq_sql_rows.specs.Tallies.{or_no_tally, tally_in}
use Rattle.acq_sql_rows.specs.Tallies.{raised, raised_at}
use Rattle.acq_sql_rows.proofs.SameKeys.{bytes_same, number_same}
use Rattle.acq_sql_rows.proofs.SameKeys.{bytes_back, number_back}

-- ---- rows

pub find_none : {X : Type 0} (p : X → Bool) (xs : List X) (x : X) → find p xs ≡ None → Has xs x →
    p x ≡ false
find_none p [] x none h = absurd h
find_none p (y ∷ xs) x none h = go (p y) refl none h (find_none p xs x)
  where
    go : (b : Bool) → p y ≡ b → cond b (Some y) (find p xs) ≡ None → Has (y ∷ xs) x
        → (find p xs ≡ None → Has xs x → p x ≡ false) → p x ≡ false
    go true is none h rest = absurd (let e = none in cc)
    go false is none (inl same) rest = ap p same ∙ is
    go false is none (inr later) rest = rest none later

-- ---- sums

none_first : (n : ℕ) → 0 + n ≡ n
none_first n = omega arith

none_leg : (a : LegTotal) → leg_plus (record { count = 0; amount = 0 }) a ≡ a
none_leg a = λ i. record { count = none_first a.count i; amount = none_first a.amount i }

pub plus_none : (a : Tally) → plus no_tally a ≡ a
plus_none a = λ i. record {
  used = none_first a.used i;
  totals =
      record {
        credits = none_leg a.totals.credits i;
        credit_reversals = none_leg a.totals.credit_reversals i;
        debits = none_leg a.totals.debits i;
        debit_reversals = none_leg a.totals.debit_reversals i;
      };
}

-- ---- rows

abbrev pub is_key : List ℕ → ℕ → List ℕ → ℕ → Bool
is_key merchant day m d = bytes_eq merchant m && (day == d)

module _ (merchant : List ℕ) (day : ℕ) (more : Tally) where
  abbrev new : Running
  new = record { merchant = merchant; day = day; tally = more }

  abbrev more_of : Running → Running
  more_of r = record r { tally = plus r.tally more }

  abbrev turned : Running → Running
  turned r = cond (is_for merchant day r) (more_of r) r

  -- the key stays
  stays : (m : List ℕ) (d : ℕ) (r : Running) → is_for m d (turned r) ≡ is_for m d r
  stays m d r =
      elim (is_for merchant day r) as (λ b. is_for m d (cond b (more_of r) r) ≡ is_for m d r)
      [ true ↦ refl | false ↦ refl ]

  raised_find : (m : List ℕ) (d : ℕ) (runs : List Running)
      → find (is_for m d) (map turned runs) ≡ option_map turned (find (is_for m d) runs)
  raised_find m d [] = refl
  raised_find m d (r ∷ runs) =
      rw (stays m d r) (elim (is_for m d r)
      as (λ b. cond b (Some (turned r)) (find (is_for m d) (map turned runs))
      ≡ option_map turned (cond b (Some r) (find (is_for m d) runs)))
      [ true ↦ refl | false ↦ raised_find m d runs ])

  turned_key : (r : Running) → ((turned r).merchant ≡ r.merchant) × ((turned r).day ≡ r.day)
  turned_key r =
      elim (is_for merchant day r)
      as (λ b. ((cond b (more_of r) r).merchant ≡ r.merchant)
      × ((cond b (more_of r) r).day ≡ r.day))
      [ true ↦ (refl, refl) | false ↦ (refl, refl) ]

  find_last : (p : Running → Bool) (runs : List Running) (q : Option Running) → find p runs ≡ q
      → find p (runs ++ new ∷ []) ≡ option_or q (cond (p new) (Some new) None)
  find_last p [] q is = rw (sym is) refl
  find_last p (r ∷ runs) q is = go (p r) is (find_last p runs q)
    where
      go : (b : Bool) → cond b (Some r) (find p runs) ≡ q
          → (find p runs ≡ q →
          find p (runs ++ new ∷ []) ≡ option_or q (cond (p new) (Some new) None))
          → cond b (Some r) (find p (runs ++ new ∷ [])) ≡ option_or q (cond (p new) (Some new) None)
      go true is rest = rw (sym is) refl
      go false is rest = rest is

  same_find : (m : List ℕ) (d : ℕ) (runs : List Running) → is_key merchant day m d ≡ true
      → find (is_for merchant day) runs ≡ find (is_for m d) runs
  same_find m d runs h =
      let parts = and_parts _ _ h in
      ap₂ (λ a b. find (is_for a b) runs) (bytes_same merchant m parts.0)
      (number_same day d parts.1)

  -- its own day has more, and each other what it had
  pub tally_raised : (m : List ℕ) (d : ℕ) (runs : List Running) →
      tally_in (raised merchant day more runs) m d
      ≡ cond (is_key merchant day m d) (plus (tally_in runs m d) more) (tally_in runs m d)
  tally_raised m d runs =
      go (find (is_for merchant day) runs) (find (is_for m d) runs)
      (is_key merchant day m d) refl refl refl
    where
      go : (o q : Option Running) (b : Bool) → find (is_for merchant day) runs ≡ o →
          find (is_for m d) runs ≡ q
          → is_key merchant day m d ≡ b
          → or_no_tally (find (is_for m d) (raised_at runs merchant day more o))
          ≡ cond b (plus (or_no_tally q) more) (or_no_tally q)
      go None None true none absent key =
          ap or_no_tally (find_last (is_for m d) runs None absent) ∙ rw key (sym (plus_none more))
      go None None false none absent key = ap or_no_tally (find_last (is_for m d) runs None absent)
          ∙ rw key refl
      go None (Some r) true none found key =
          absurd (let e = sym none ∙ same_find m d runs key ∙ found in cc)
      go None (Some r) false none found key =
          ap or_no_tally (find_last (is_for m d) runs (Some r) found)
      go (Some r0) None true is absent key =
          absurd (let e = sym is ∙ same_find m d runs key ∙ absent in cc)
      go (Some r0) None false is absent key =
          ap or_no_tally (raised_find m d runs ∙ ap (option_map turned) absent)
      go (Some r0) (Some r) b is found key =
          let parts = and_parts _ _ (has_found (is_for m d) runs r found).1 in
          let same : is_for merchant day r ≡ b =
          ap₂ (λ x y. bytes_eq x merchant && (y == day)) (bytes_same r.merchant m parts.0)
          (number_same r.day d parts.1)
          ∙ ap₂ ◌&&◌ (bytes_back m merchant) (number_back d day) ∙ key in
          ap or_no_tally (raised_find m d runs ∙ ap (option_map turned) found)
          ∙ rw same (elim b as
          (λ b. (cond b (more_of r) r).tally ≡ cond b (plus r.tally more) r.tally)
          [ true ↦ refl | false ↦ refl ])

  pub raised_apart : (runs : List Running) → AreApart runs →
      AreApart (raised merchant day more runs)
  raised_apart runs apart = go (find (is_for merchant day) runs) refl
    where
      go : (o : Option Running) → find (is_for merchant day) runs ≡ o →
          AreApart (raised_at runs merchant day more o)
      go None none =
          ascending-append _ runs (new ∷ []) apart (tt, tt)
          (all_from (λ a. AllByRecursion (λ (b : Running). is_for b.merchant b.day a ≡ false)
          (new ∷ [])) runs
          (λ a h. (find_none (is_for merchant day) runs a none h, tt)))
      go (Some r) is =
          ascending-map (λ a b. is_for b.merchant b.day a ≡ false) turned runs
          (ascending_weaker (λ a b. is_for b.merchant b.day a ≡ false)
          (λ a b. is_for (turned b).merchant (turned b).day (turned a) ≡ false)
          (λ a b h. rw ((turned_key b).0, (turned_key b).1) (stays b.merchant b.day a ∙ h)) runs
          apart)

  -- the one row of its key
  pub found_first : (runs : List Running) (r : Running) → AreApart runs → Has runs r →
      is_for merchant day r ≡ true
      → find (is_for merchant day) runs ≡ Some r
  found_first [] r apart here passes = absurd here
  found_first (x ∷ runs) r apart (inl is) passes =
      rw (ap (is_for merchant day) (sym is) ∙ passes) (ap Some (sym is))
  found_first (x ∷ runs) r apart (inr later) passes =
      let parts = and_parts _ _ passes in
      let other : is_for merchant day x ≡ false =
      ap₂ (λ a b. is_for a b x) (sym (bytes_same r.merchant merchant parts.0))
      (sym (number_same r.day day parts.1))
      ∙ all_has _ runs r apart.0 later in
      rw other (found_first runs r apart.1 later passes)
