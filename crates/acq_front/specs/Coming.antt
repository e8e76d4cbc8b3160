-- What a clock or an issuer gives, one after the other, where it is known what is to come.
use Rattle.std.specs.Prelude.{◌≡◌, List, [], ◌∷◌, Option, Some, None}

module _ {X : Type 0} where
  -- the next one, or another once none are to come
  abbrev pub next_or : X → List X → X
  next_or other [] = other
  next_or other (x ∷ later) = x

  -- those behind the next one
  abbrev pub later_than : List X → List X
  later_than [] = []
  later_than (x ∷ later) = later

  -- one was given: the next one, where it is known
  abbrev pub GivesNext : X → Option (List X) → Option (List X) → X → Type 0
  GivesNext other None now given = Unit {0}
  GivesNext other (Some coming) None given = ⊥
  GivesNext other (Some coming) (Some now) given =
      (given ≡ next_or other coming) × (now ≡ later_than coming)

  -- these are the next ones, and then these are to come
  abbrev pub AreNext : X → List X → List X → List X → Type 0
  AreNext other coming now [] = now ≡ coming
  AreNext other coming now (x ∷ later) =
      (x ≡ next_or other coming) × AreNext other (later_than coming) now later

  -- these were given, in order
  abbrev pub GivesAll : X → Option (List X) → Option (List X) → List X → Type 0
  GivesAll other None now given = Unit {0}
  GivesAll other (Some coming) None given = ⊥
  GivesAll other (Some coming) (Some now) given = AreNext other coming now given
