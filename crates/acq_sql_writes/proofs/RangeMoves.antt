-- What widening makes of the rows of ranges: low is the rowid, so the first statement turns the
-- order of the rows round, and the second turns it back.
use mathlib.Core.List.{reverse-cons}
use Rattle.std.proofs.Common.{◌≡◌, ◌<◌, ◌≤◌, ◌+◌, ◌*◌, ◌^◌, ◌-ℤ◌, ℕ, pos, negsuc, true, List, []}
use Rattle.std.proofs.Common.{◌∷◌, map, reverse, length, int_cmp, Less, refl, sym, ap, ap₂, subst}
use Rattle.std.proofs.Common.{◌∙◌, arith}
use Rattle.std.specs.List.{AllByRecursion, list_all}
use Rattle.std.specs.List.Sorted.{IsPermutation}
use Rattle.std.proofs.lemmas.Bool.{lt-ltb, and_parts, and_from}
use Rattle.std.proofs.lemmas.Bool.Decides.{nat_tests}
use Rattle.std.proofs.lemmas.List.Sorted.{IsPermutation-sym, IsPermutation-map}
use Rattle.std.proofs.lemmas.List.Sorted.{IsPermutation-reverse}
use Rattle.sqlite_value.specs.declared.value.Value.TheVariants.{Int}
use Rattle.sqlite_value.specs.Order.{Row}
use Rattle.sqlite_value.proofs.OrderLemmas.{value_cmp-Int}
use Rattle.sqlite_trees.specs.Tree.{IsTable, IsAscending, rowid}
use Rattle.sqlite_trees.specs.View.{IsShaped, is_int}
use Rattle.sqlite_trees.specs.declared.store.Shape.TheVariants as shape
use Rattle.sqlite_trees.proofs.ListLemmas.{ascending-map, ascending_weaker, ascending-append}
use Rattle.sqlite_sql.specs.declared.ops.BinaryOp.TheVariants.{Arith}
use Rattle.sqlite_sql.specs.declared.ops.ArithOp.TheVariants.{Sub}
use Rattle.sqlite_sql.specs.Ops.{binary, fits_i64}
use Rattle.sqlite_rules.specs.Lists.{Has}
use Rattle.sqlite_rules.specs.Cast.{cast_row}
use Rattle.sqlite_rules.proofs.ListLemmas.{all_has, all_from, test_has}
use Rattle.row_lemmas.specs.Values.{number}
use Rattle.row_lemmas.proofs.Elements.{has_permuted, map_has}
use Rattle.row_lemmas.proofs.ColumnTests.{small_fits, number_product, number_sum, cast_int}
use Rattle.row_lemmas.proofs.ColumnTests.{cast_null}
use Rattle.row_lemmas.proofs.QueryRows.{shown_of}
use Rattle.row_lemmas.proofs.ShortRows.{AreShort, not_oversized}
use Rattle.row_lemmas.proofs.StatementEffects.{bare}
use Rattle.row_lemmas.proofs.TableRows.{Under}
use Rattle.row_lemmas.proofs.MovesSucceed.{IsSoundRow, IsMove}
use Rattle.card_no.specs.declared.range.Range.{Range}
use Rattle.card_no.specs.Prefix.{PrefixProfile, six_digits, eight_digits}
use Rattle.card_no.specs.Ranges.{is_valid_range_under}
use Rattle.card_no.specs.Widening.{widened, widened_ranges}
use Rattle.acq_sql_rows.specs.declared.form.Form.{Form}
use Rattle.acq_sql_rows.specs.Schema.{book_schema}
use Rattle.acq_sql_rows.specs.Rows.{range_row, range_rows, turned_row, turned_rows}
use Rattle.acq_sql_rows.specs.Queries.{widened_columns, turned_columns}
use Rattle.acq_sql_rows.specs.Relation.{AreRising}
use Rattle.acq_sql_rows.proofs.TableTurns.{the_ranges}
use Rattle.acq_sql_writes.proofs.RangeWrites.{ranges_shaped}
use Rattle.acq_sql_writes.proofs.MovedTables.{ranges_narrow}

-- ---- ranges of a profile

-- the ends are prefixes, and the issuer is short
pub record IsNarrow (profile : PrefixProfile) (r : Range) : Type 0 where
  pub ends : r.low ≤ r.high
  pub high : r.high ≤ profile.greatest
  pub issuer : length r.issuer ≤ 11

pub narrow_of : (profile : PrefixProfile) (r : Range) → is_valid_range_under profile r ≡ true
    → IsNarrow profile r
narrow_of profile r valid =
    record {
      ends = grind (arith, nat_tests, valid);
      high = grind (arith, nat_tests, valid);
      issuer = grind (arith, nat_tests, valid);
    }

widened_valid : (r : Range) → is_valid_range_under six_digits r ≡ true
    → is_valid_range_under eight_digits (widened r) ≡ true
widened_valid r valid = grind (arith, nat_tests, valid)

pub all_valid : (xs : List Range) → list_all (is_valid_range_under six_digits) xs ≡ true
    → list_all (is_valid_range_under eight_digits) (widened_ranges xs) ≡ true
all_valid [] valid = refl
all_valid (x ∷ xs) valid =
    let parts = and_parts _ _ valid in
    and_from _ _ (widened_valid x parts.0) (all_valid xs parts.1)

-- ---- -1 - x

negative_fits : (n : ℕ) → n < 2 ^ 63 → fits_i64 (negsuc n) ≡ true
negative_fits n low = lt-ltb n (2 ^ 63) low

turn_down : (n : ℕ) → negsuc 0 -ℤ pos n ≡ negsuc n
turn_down n = grind arith

turn_up : (n : ℕ) → negsuc 0 -ℤ negsuc n ≡ pos n
turn_up n = grind arith

number_turned : (n : ℕ) → n < 2 ^ 63
    → binary (Arith Sub) (Int (negsuc 0)) (number n) ≡ Int (negsuc n)
unfolding binary
number_turned n low = rw (turn_down n, negative_fits n low) refl

number_back : (n : ℕ) → n < 2 ^ 63
    → binary (Arith Sub) (Int (negsuc 0)) (Int (negsuc n)) ≡ number n
unfolding binary
number_back n low = rw (turn_up n, small_fits n low) refl

-- ---- what each row becomes

abbrev widen : Row → Row
widen r = cast_row (bare the_ranges) (shown_of widened_columns [] r)

abbrev turn : Row → Row
turn r = cast_row (bare the_ranges) (shown_of turned_columns [] r)

row_widened : (r : Range) → IsNarrow six_digits r → widen (range_row r) ≡ turned_row (widened r)
row_widened r narrow =
    rw (
      number_product r.low 100 (omega (arith, narrow.ends, narrow.high)),
      number_turned (r.low * 100) (omega (arith, narrow.ends, narrow.high)),
      number_product r.high 100 (omega (arith, narrow.high)),
      number_sum (r.high * 100) 99 (omega (arith, narrow.high)),
      cast_int (negsuc (r.low * 100)),
      cast_null,
      cast_int (pos (r.high * 100 + 99)),
      cast_int (pos r.hold_days),
    ) refl

row_turned : (r : Range) → r.low < 2 ^ 63 → turn (turned_row r) ≡ range_row r
row_turned r low =
    rw (
      number_back r.low low,
      cast_int (pos r.low),
      cast_null,
      cast_int (pos r.high),
      cast_int (pos r.hold_days),
    ) refl

-- ---- turned rows are a table

lower : (a b : ℕ) → a < b → int_cmp (negsuc b) (negsuc a) ≡ Less
lower a b low = grind (arith, nat_tests)

turned_under : (a b : Range) → a.low < b.low → Under (turned_row b) (turned_row a)
turned_under a b low = value_cmp-Int (negsuc b.low) (negsuc a.low) ∙ lower a.low b.low low

ascending_reversed : {X : Type 0} (R : X → X → Type 0) (xs : List X)
    → IsAscending (λ a b. R b a) xs → IsAscending R (reverse xs)
ascending_reversed R [] up = tt
ascending_reversed R (x ∷ xs) up =
    subst (IsAscending R) (sym (reverse-cons x xs))
    (ascending-append R (reverse xs) (x ∷ []) (ascending_reversed R xs up.1) (tt, tt)
    (all_from (λ y. AllByRecursion (R y) (x ∷ [])) (reverse xs)
    (λ y h.
    let there =
    has_permuted (reverse xs) xs y (IsPermutation-sym _ _ (IsPermutation-reverse xs)) h in
    (all_has (λ y. R y x) xs y up.0 there, tt))))

turned_table : (xs : List Range) → AreRising xs → IsTable (turned_rows xs)
turned_table xs up =
    ascending_reversed Under (map turned_row xs)
    (ascending-map (λ a b. Under b a) turned_row xs
    (ascending_weaker (λ (a b : Range). a.low < b.low)
    (λ a b. Under (turned_row b) (turned_row a)) turned_under xs up))

-- the range of a turned row
of_turned : (xs : List Range) (r : Row) → Has (turned_rows xs) r
    → (x : Range) × Has xs x × (r ≡ turned_row x)
of_turned xs r h =
    map_has turned_row xs r
    (has_permuted (turned_rows xs) _ r
    (IsPermutation-sym _ _ (IsPermutation-reverse (map turned_row xs))) h)

pub turned_shaped : (xs : List Range) → AreRising xs → IsShaped shape.Table (turned_rows xs)
turned_shaped xs up = (
  turned_table xs up,
  all_from (λ r. is_int (rowid r) ≡ true) (turned_rows xs)
      (λ r h. let it = of_turned xs r h in ap (λ (s : Row). is_int (rowid s)) it.2),
)

-- ---- a row of either form keeps the rules

abbrev IsSound : (form : Form) → Row → Type 0
IsSound form = IsSoundRow (book_schema form) (bare the_ranges)

pub short_range : (r : Range) → length r.issuer ≤ 11 → AreShort (range_row r)
short_range r few = (tt, (tt, (tt, (omega (arith, few), (tt, tt)))))

short_turned : (r : Range) → length r.issuer ≤ 11 → AreShort (turned_row r)
short_turned r few = (tt, (tt, (tt, (omega (arith, few), (tt, tt)))))

range_sound : (form : Form) (r : Range) → r.low < 2 ^ 63 → length r.issuer ≤ 11
    → IsSound form (range_row r)
range_sound form r low few =
    record {
      id = pos r.low;
      at = refl;
      small = small_fits r.low low;
      pass = record { typed = refl; present = refl; checked = refl };
      sized = not_oversized (book_schema form) (bare the_ranges) (range_row r) (ranges_narrow form)
          (short_range r few) (omega arith) (omega arith);
    }

turned_sound : (form : Form) (r : Range) → r.low < 2 ^ 63 → length r.issuer ≤ 11
    → IsSound form (turned_row r)
turned_sound form r low few =
    record {
      id = negsuc r.low;
      at = refl;
      small = negative_fits r.low low;
      pass = record { typed = refl; present = refl; checked = refl };
      sized = not_oversized (book_schema form) (bare the_ranges) (turned_row r) (ranges_narrow form)
          (short_turned r few) (omega arith) (omega arith);
    }

-- ---- both statements are moves

pub low_of : (r : Range) → IsNarrow eight_digits r → r.low < 2 ^ 63
low_of r narrow = omega (arith, narrow.ends, narrow.high)

pub still_rising : (xs : List Range) → AreRising xs → AreRising (widened_ranges xs)
still_rising xs up =
    ascending-map (λ (a b : Range). a.low < b.low) widened xs
    (ascending_weaker (λ (a b : Range). a.low < b.low)
    (λ (a b : Range). a.low * 100 < b.low * 100) (λ a b low. omega (arith, low)) xs up)

all_widened : (xs : List Range) → list_all (is_valid_range_under six_digits) xs ≡ true
    → map widen (range_rows xs) ≡ map turned_row (widened_ranges xs)
all_widened [] valid = refl
all_widened (x ∷ xs) valid =
    let parts = and_parts _ _ valid in
    ap₂ (λ r rows. r ∷ rows) (row_widened x (narrow_of six_digits x parts.0))
    (all_widened xs parts.1)

all_turned : (xs : List Range) → list_all (is_valid_range_under eight_digits) xs ≡ true
    → map turn (map turned_row xs) ≡ range_rows xs
all_turned [] valid = refl
all_turned (x ∷ xs) valid =
    let parts = and_parts _ _ valid in
    ap₂ (λ r rows. r ∷ rows) (row_turned x (low_of x (narrow_of eight_digits x parts.0)))
    (all_turned xs parts.1)

pub widen_moves : (form : Form) (xs : List Range) → AreRising xs
    → list_all (is_valid_range_under six_digits) xs ≡ true
    → IsMove (book_schema form) (bare the_ranges) widened_columns [] (range_rows xs)
    (turned_rows (widened_ranges xs))
widen_moves form xs up valid =
    record {
      sound = λ r h.
          let it = map_has range_row xs r h in
          let one = test_has (is_valid_range_under six_digits) xs it.0 valid it.1 in
          let narrow = narrow_of six_digits it.0 one in
          let wide = narrow_of eight_digits (widened it.0) (widened_valid it.0 one) in
          subst (IsSound form) (sym (ap widen it.2 ∙ row_widened it.0 narrow))
          (turned_sound form (widened it.0) (low_of (widened it.0) wide) narrow.issuer);
      up = turned_table (widened_ranges xs) (still_rising xs up);
      same =
          subst (λ rows. IsPermutation rows (turned_rows (widened_ranges xs)))
          (sym (all_widened xs valid))
          (IsPermutation-reverse (map turned_row (widened_ranges xs)));
    }

pub turn_moves : (form : Form) (xs : List Range) → AreRising xs
    → list_all (is_valid_range_under eight_digits) xs ≡ true
    → IsMove (book_schema form) (bare the_ranges) turned_columns [] (turned_rows xs) (range_rows xs)
turn_moves form xs up valid =
    let rows = map turned_row xs in
    record {
      sound = λ r h.
          let it = of_turned xs r h in
          let narrow = narrow_of eight_digits it.0
          (test_has (is_valid_range_under eight_digits) xs it.0 valid it.1) in
          let is : turn r ≡ range_row it.0 = ap turn it.2 ∙ row_turned it.0 (low_of it.0 narrow) in
          subst (IsSound form) (sym is) (range_sound form it.0 (low_of it.0 narrow) narrow.issuer);
      up = (ranges_shaped xs up).0;
      same =
          subst (IsPermutation (map turn (reverse rows))) (all_turned xs valid)
          (IsPermutation-map turn (reverse rows) rows
          (IsPermutation-sym _ _ (IsPermutation-reverse rows)));
    }
