-- Records that each spell a value.
use Rattle.std.proofs.Common.{◌≡◌, ◌∙◌, ℕ, ◌+◌, List, [], ◌∷◌, map, Ok, ap, refl}
use Rattle.std.specs.Prelude.{Some, None, filter_map}
use Rattle.std.specs.List.{AllByRecursion, cons_option, position_from}
use Rattle.std.proofs.lemmas.Iterator.Adapters.{position_from-zero}
use Rattle.acq_out.specs.Records.{Spelling, is_bad, values_of_records, values_unless}

module _ {V Row : Type 0} (spelled : Spelling V) (fields : Row → List (List ℕ)) (value : Row → V)
  where
    -- a row's fields spell its value
    abbrev pub Spells : Row → Type 0
    Spells row = spelled (fields row) ≡ Some (value row)

    values : (rows : List Row) → AllByRecursion Spells rows →
        filter_map spelled (map fields rows) ≡ map value rows
    values [] all = refl
    values (row ∷ rows) all = λ i. cons_option (all.0 i) (values rows all.1 i)

    none_bad : (rows : List Row) (n : ℕ) → AllByRecursion Spells rows →
        position_from (is_bad spelled) n (map fields rows) ≡ None
    none_bad [] n all = refl
    none_bad (row ∷ rows) n all = rw all.0 (none_bad rows (n + 1) all.1)

    pub all_values : (rows : List Row) → AllByRecursion Spells rows →
        values_of_records spelled (map fields rows) ≡ Ok (map value rows)
    all_values rows all =
        ap (λ place. values_unless (filter_map spelled (map fields rows)) place)
        (position_from-zero (is_bad spelled) (map fields rows) ∙ none_bad rows 0 all)
        ∙ ap Ok (values rows all)
