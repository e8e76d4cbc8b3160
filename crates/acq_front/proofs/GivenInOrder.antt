-- What a clock or an issuer gave, one after the other.
use Rattle.std.proofs.Common.{ℕ, ◌≡◌, List, [], ◌∷◌, ◌++◌, Option, Some, None, refl, subst, sym}
use Rattle.std.specs.List.{All}
use Rattle.std.proofs.lemmas.List.Elements.{All-nil, All-cons, All-append, All-same, All-weaker}
use Rattle.acq_front.specs.Coming.{later_than, GivesNext, AreNext, GivesAll}

module _ {X : Type 0} (other : X) where
  pub gives_none : (coming : Option (List X)) → GivesAll other coming coming []
  gives_none None = tt
  gives_none (Some xs) = refl

  pub gives_one : (before now : Option (List X)) (x : X) → GivesNext other before now x →
      GivesAll other before now (x ∷ [])
  gives_one None now x g = tt
  gives_one (Some coming) None x g = g
  gives_one (Some coming) (Some now) x g = g

  are_next-append : (coming mid now xs ys : List X) → AreNext other coming mid xs →
      AreNext other mid now ys → AreNext other coming now (xs ++ ys)
  are_next-append coming mid now [] ys e h = subst (λ (l : List X). AreNext other l now ys) e h
  are_next-append coming mid now (x ∷ xs) ys p h =
      (p.0, are_next-append (later_than coming) mid now xs ys p.1 h)

  pub gives_append : (before mid now : Option (List X)) (xs ys : List X) →
      GivesAll other before mid xs → GivesAll other mid now ys →
      GivesAll other before now (xs ++ ys)
  gives_append None mid now xs ys g h = tt
  gives_append (Some coming) None now xs ys g h = absurd g
  gives_append (Some coming) (Some mid) None xs ys g h = h
  gives_append (Some coming) (Some mid) (Some now) xs ys g h =
      are_next-append coming mid now xs ys g h

  -- the same, for the list that these make together
  pub gives_along : (before mid now : Option (List X)) (xs ys all : List X) → all ≡ xs ++ ys →
      GivesAll other before mid xs → GivesAll other mid now ys → GivesAll other before now all
  gives_along before mid now xs ys all e g h = subst (λ (l : List X). GivesAll other before now l)
      (sym e) (gives_append before mid now xs ys g h)

-- what a clock may give

pub two_moments : (may_give : ℕ → Type 0) (first second : ℕ) → may_give first → may_give second →
    All may_give (first ∷ second ∷ [])
two_moments may_give first second p q =
    All-cons may_give first (second ∷ []) p (All-cons may_give second [] q (All-nil may_give))

-- some moments, and then those that a later clock may give
pub may_append : (may_give later : ℕ → Type 0) (xs ys all : List ℕ) → all ≡ xs ++ ys →
    ((m : ℕ) → later m → may_give m) → All may_give xs → All later ys → All may_give all
may_append may_give later xs ys all is weaker p q =
    All-same may_give all (xs ++ ys) is
    (All-append may_give xs ys p (All-weaker later may_give weaker ys q))
