-- Each record spells a value, up to the first that spells none.
use Rattle.std.proofs.Common.{◌≡◌, ℕ, suc, ◌+◌, ◌<◌, List, [], ◌∷◌, length, Option, Some, None}
use Rattle.std.proofs.Common.{Ok, Err, refl, ap, ◌∙◌, leb, inl, inr, arith}
use Rattle.std.specs.Prelude.{map, filter_map}
use Rattle.std.specs.List.{prefix_len}
use Rattle.std.proofs.lemmas.Bool.{cases_Bool, leb-true, leb-false}
use Rattle.std.proofs.lemmas.List.Sums.{prefix_len-le-length}
use Rattle.card_no.specs.RangeFiles.{records_of}
use Rattle.acq_out.specs.Records.{Spelling, values_of_text, Spell, IsFirstBad}
use Rattle.acq_out.proofs.records.RecordsRead.{is_good}

-- where all are good, each spells a value
all_spell : {V : Type 0} (spelled : Spelling V) (rows : List (List (List ℕ))) →
    prefix_len (is_good spelled) rows ≡ length rows
    → Spell spelled rows (filter_map spelled rows)
all_spell {V} spelled [] h = refl
all_spell {V} spelled (r ∷ rows) h = by_value (all_spell spelled rows) (spelled r) refl
  where
    by_value : (prefix_len (is_good spelled) rows ≡ length rows →
        Spell spelled rows (filter_map spelled rows))
        → (o : Option V) → spelled r ≡ o → Spell spelled (r ∷ rows) (filter_map spelled (r ∷ rows))
    by_value later None is = let e : 0 ≡ suc (length rows) = rw is at h in absurd (omega (arith, e))
    by_value later (Some value) is =
        let tail : 1 + prefix_len (is_good spelled) rows ≡ suc (length rows) = rw is at h in
        let rest = later (omega (arith, tail)) in
        rw (is, rest) refl

-- where not all are good, the first that isn't stands behind good ones
first_bad : {V : Type 0} (spelled : Spelling V) (rows : List (List (List ℕ))) →
    prefix_len (is_good spelled) rows < length rows
    → IsFirstBad spelled rows (prefix_len (is_good spelled) rows + 1)
first_bad {V} spelled [] h = absurd (omega arith)
first_bad {V} spelled (r ∷ rows) h = by_value (first_bad spelled rows) (spelled r) refl
  where
    by_value : (prefix_len (is_good spelled) rows < length rows →
        IsFirstBad spelled rows (prefix_len (is_good spelled) rows + 1))
        → (o : Option V) → spelled r ≡ o
        → IsFirstBad spelled (r ∷ rows) (prefix_len (is_good spelled) (r ∷ rows) + 1)
    by_value later None is =
        let none : prefix_len (is_good spelled) (r ∷ rows) ≡ 0 = rw is refl in
        record {
          before = [];
          bad = r;
          after = rows;
          values = [];
          whole = refl;
          number = omega (arith, none);
          none = is;
          spell = refl;
        }
    by_value later (Some value) is =
        let one : prefix_len (is_good spelled) (r ∷ rows) ≡ 1 + prefix_len (is_good spelled) rows =
        rw is refl in
        let rest = later (omega (arith, one, h)) in
        record {
          before = r ∷ rest.before;
          bad = rest.bad;
          after = rest.after;
          values = value ∷ rest.values;
          whole = ap (λ (more : List (List (List ℕ))). r ∷ more) rest.whole;
          number = omega (arith, one, rest.number);
          none = rest.none;
          spell = ap (λ (o : Option V). o ∷ map spelled rest.before) is
              ∙ ap (λ (later : List (Option V)). Some value ∷ later) rest.spell;
        }

pub text_spells : {V : Type 0} (spelled : Spelling V) (text : List ℕ) (values : List V) →
    values_of_text spelled text ≡ Ok values
    → Spell spelled (records_of text) values
text_spells {V} spelled text values h =
    let rows = records_of text in
    elim (cases_Bool (leb (suc (prefix_len (is_good spelled) rows)) (length rows))) [
      | inl bad ↦ let e : Err (prefix_len (is_good spelled) rows + 1) ≡ Ok values = rw bad at h in
          absurd cc
      | inr good ↦
          let e : Ok (filter_map spelled rows) ≡ Ok values = rw good at h in
          let same : filter_map spelled rows ≡ values = cc in
          let most = leb-false (suc (prefix_len (is_good spelled) rows)) (length rows) good in
          let least = prefix_len-le-length (is_good spelled) rows in
          rw (← same) (all_spell spelled rows (omega (arith, most, least)))
    ]

pub text_is_bad : {V : Type 0} (spelled : Spelling V) (text : List ℕ) (n : ℕ) →
    values_of_text spelled text ≡ Err n → IsFirstBad spelled (records_of text) n
text_is_bad {V} spelled text n h =
    let rows = records_of text in
    elim (cases_Bool (leb (suc (prefix_len (is_good spelled) rows)) (length rows))) [
      | inl bad ↦
          let e : Err (prefix_len (is_good spelled) rows + 1) ≡ Err n = rw bad at h in
          let same : prefix_len (is_good spelled) rows + 1 ≡ n = cc in
          let less = leb-true (suc (prefix_len (is_good spelled) rows)) (length rows) bad in
          rw (← same) (first_bad spelled rows (omega (arith, less)))
      | inr good ↦ let e : Ok (filter_map spelled rows) ≡ Err n = rw good at h in absurd cc
    ]
