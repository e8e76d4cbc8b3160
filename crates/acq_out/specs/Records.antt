-- Records (own profile): CSV as the crate `csv` reads it, with no header line, where each record
-- spells a value.
use Rattle.std.specs.Prelude.{◌≡◌, ℕ, ◌+◌, Bool, List, ◌∷◌, ◌++◌, length, map, filter_map}
use Rattle.std.specs.Prelude.{Option, Some, None, is_none, Result, Ok, Err}
use Rattle.std.specs.List.{position}
use Rattle.card_no.specs.RangeFiles.{records_of}

-- what a record's fields spell, if they are in their form
abbrev pub Spelling : Type 0 → Type 0
Spelling V = List (List ℕ) → Option V

-- these values, or the number of the record at a place, counted from 1
abbrev pub values_unless : {V : Type 0} → List V → Option ℕ → Result (List V) ℕ
values_unless values None = Ok values
values_unless values (Some place) = Err (place + 1)

module _ {V : Type 0} (spelled : Spelling V) where
  -- the record spells no value
  abbrev pub is_bad : List (List ℕ) → Bool
  is_bad fields = is_none (spelled fields)

  -- the place of the first record that spells no value
  abbrev pub first_bad : List (List (List ℕ)) → Option ℕ
  first_bad records = position is_bad records

  -- the values of records, or the number of the first record that spells none
  abbrev pub values_of_records : List (List (List ℕ)) → Result (List V) ℕ
  values_of_records records = values_unless (filter_map spelled records) (first_bad records)

  -- the values of a text's records, or the number of the first record that spells none
  abbrev pub values_of_text : List ℕ → Result (List V) ℕ
  values_of_text text = values_of_records (records_of text)

  -- ---- the same as relations

  -- the records spell these values, one each, in order
  abbrev pub Spell : List (List (List ℕ)) → List V → Type 0
  Spell records values = map spelled records ≡ map Some values

  -- Record n, counted from 1, spells no value, and each record before it spells one.
  pub record IsFirstBad (records : List (List (List ℕ))) (n : ℕ) : Type 0 where
    pub before : List (List (List ℕ))
    pub bad : List (List ℕ)
    pub after : List (List (List ℕ))
    pub values : List V
    pub whole : records ≡ before ++ bad ∷ after
    pub number : n ≡ length before + 1
    pub none : spelled bad ≡ None
    pub spell : Spell before values
