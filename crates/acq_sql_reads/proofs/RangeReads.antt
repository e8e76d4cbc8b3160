-- What the look-ups of ranges answer.
use Rattle.std.proofs.Common.{◌≡◌, ◌<◌, ◌≤◌, ℕ, inl, inr, Bool, true, false, true≢false, cond}
use Rattle.std.proofs.Common.{nat_le, nat_lt, ◌&&◌, List, []}
use Rattle.std.proofs.Common.{◌∷◌, filter, find, option_map, length, slice_get, None, Some, refl}
use Rattle.std.proofs.Common.{sym, ap, subst}
use Rattle.std.proofs.Common.{◌∙◌, arith}
use Rattle.std.specs.Option.{option_to_list}
use Rattle.std.specs.Ordering.{is_gt}
use Rattle.std.proofs.lemmas.Bool.{and_parts, le-leb}
use Rattle.std.proofs.lemmas.Bool.Decides.{nat_tests}
use Rattle.sqlite_value.specs.Order.{Row, column, value_cmp}
use Rattle.sqlite_value.proofs.OrderLemmas.{then-Equal}
use Rattle.sqlite_trees.specs.Tree.{IsAscending}
use Rattle.sqlite_trees.proofs.ListLemmas.{ascending_weaker}
use Rattle.sqlite_sql.specs.Query.{Output}
use Rattle.sqlite_rules.specs.Lists.{Has}
use Rattle.sqlite_rules.proofs.ListLemmas.{all_has, all_from, test_has, has_filtered, has_kept}
use Rattle.sqlite.specs.State.{State, Shown}
use Rattle.row_lemmas.specs.Values.{number}
use Rattle.row_lemmas.proofs.ColumnTests.{at_most_test, number_at_most, and_true}
use Rattle.row_lemmas.proofs.Elements.{either_way}
use Rattle.row_lemmas.proofs.ListReads.{shows_keyed}
use Rattle.row_lemmas.proofs.OrderedRows.{IsFirst, first_element}
use Rattle.card_no.specs.declared.range.Range.{Range}
use Rattle.card_no.specs.Ranges.{holds_prefix, range_of_prefix, overlaps, between, are_apart}
use Rattle.card_no.specs.Ranges.{is_before}
use Rattle.acq_core.specs.Tables.{Tables}
use Rattle.acq_book.specs.Lookups.{overlapping_at}
use Rattle.acq_sql_rows.specs.Schema.{book_schema}
use Rattle.acq_sql_rows.specs.Rows.{range_row}
use Rattle.acq_sql_rows.specs.Tallies.{Running}
use Rattle.acq_sql_rows.specs.Relation.{HoldsRows, AreRising}
use Rattle.acq_sql_reads.specs.Looked.{range_cells, if_holds, IsNearest, ReachFrom}
use Rattle.acq_sql_reads.specs.Texts as text
use Rattle.acq_sql_reads.specs.Queries as query
use Rattle.acq_sql_reads.proofs.TextLemmas as asks

at_most_is : (a b : ℕ) → nat_le a b ≡ true → a ≤ b
at_most_is a b h = grind (arith, nat_tests, h)

below_is : (a b : ℕ) → nat_lt a b ≡ true → a < b
below_is a b h = grind (arith, nat_tests, h)

abbrev pub range_out : Range → Output
range_out r = (number r.low ∷ [], range_cells r)

-- ---- the range of a prefix

-- each begins before the next, and ends before it begins
abbrev Precedes : Range → Range → Type 0
Precedes a b = (a.low < b.low) × (a.high < b.low)

precede : (xs : List Range) → are_apart xs ≡ true → AreRising xs → IsAscending Precedes xs
precede [] apart up = tt
precede (x ∷ xs) apart up =
    let parts = and_parts _ _ apart in
    let each : (y : Range) → Has xs y → Precedes x y = λ y here.
    (all_has _ xs y up.0 here, below_is x.high y.low (test_has (is_before x) xs y parts.0 here)) in
    (all_from (Precedes x) xs each, precede xs parts.1 up.1)

find_only : {X : Type 0} (p : X → Bool) (xs : List X) (x : X) → Has xs x → p x ≡ true
    → ((y : X) → Has xs y → p y ≡ true → y ≡ x) → find p xs ≡ Some x
find_only p [] x here passes one = absurd here
find_only p (y ∷ xs) x here passes one =
    go (p y) refl here (λ later. find_only p xs x later passes (λ z h. one z (inr h)))
  where
    go : (b : Bool) → p y ≡ b → Has (y ∷ xs) x → (Has xs x → find p xs ≡ Some x) →
        cond b (Some y) (find p xs) ≡ Some x
    go true is here later = ap Some (one y (inl refl) is)
    go false is (inl same) later = absurd (true≢false (sym passes ∙ ap p same ∙ is))
    go false is (inr there) later = later there

find_no : {X : Type 0} (p : X → Bool) (xs : List X) → ((x : X) → Has xs x → p x ≡ true → ⊥) →
    find p xs ≡ None
find_no p [] none = refl
find_no p (x ∷ xs) none = go (p x) refl (find_no p xs (λ y h. none y (inr h)))
  where
    go : (b : Bool) → p x ≡ b → find p xs ≡ None → cond b (Some x) (find p xs) ≡ None
    go true is later = absurd (none x (inl refl) is)
    go false is later = later

module _ (prefix : ℕ) where
  abbrev begins_by : Range → Bool
  begins_by r = nat_le r.low prefix

  abbrev Nearer : Range → Range → Type 0
  Nearer x y = y.low ≤ x.low

  nearest_first : (old new : State) (t : Tables) (runs : List Running) (rows : List Row) →
      HoldsRows old.now t runs
      → Shown text.nearest_text (number prefix ∷ []) old new rows
      → IsFirst Nearer (filter begins_by t.ranges) range_cells rows
  nearest_first old new t runs rows has shown =
      let ask = asks.nearest_asks in
      let it = query.nearest_query in
      let all = shows_keyed range_row (book_schema has.schema.0) 5 t.ranges old new has.schema.1
      has.ranges
      text.nearest_text
      (number prefix ∷ []) _ (ask.plain has.schema.0) (ask.unlisted has.schema.0) rows shown
      it.filter it.project begins_by
      (λ x. rw (at_most_test x.low prefix, and_true) refl) it.order it.limit range_out
      (λ x. refl) (ask.is has.schema.0) in
      first_element Nearer (filter begins_by t.ranges) all.0 range_cells rows all.1
      (ascending_weaker _ Nearer (λ x y h. number_at_most y.low x.low
      (ap is_gt (sym (then-Equal (value_cmp (number y.low) (number x.low)))) ∙ h)) all.0 all.2)
      all.3

  nearest_is : (xs : List Range) (rows : List Row) → IsAscending Precedes xs
      → IsFirst Nearer (filter begins_by xs) range_cells rows → IsNearest prefix xs rows
  nearest_is xs rows apart (inl h) =
      inl (
        h.0,
        find_no (holds_prefix prefix) xs (λ x here holds.
            subst (λ l. Has l x) h.1 (has_kept begins_by xs x here (and_parts _ _ holds).0)),
      )
  nearest_is xs rows apart (inr (x, among, is, nearest)) =
      let listed = has_filtered begins_by xs x among in
      let below = at_most_is x.low prefix listed.1 in
      let only : (y : Range) → Has xs y → holds_prefix prefix y ≡ true → y ≡ x = λ y here holds.
      let parts = and_parts _ _ holds in
      let high = at_most_is prefix y.high parts.1 in
      let near : y.low ≤ x.low = elim (nearest y (has_kept begins_by xs y here parts.0)) [
        | inl same ↦ rw same (omega arith)
        | inr before ↦ before
      ] in
      elim (either_way _ xs y x apart here listed.0) [
        | inl same ↦ same
        | inr (inl before) ↦ absurd (omega (arith, before.1, below, high))
        | inr (inr after) ↦ absurd (omega (arith, after.0, near))
      ] in
      inr (x, is, go (holds_prefix prefix x) refl only, listed.0, below)
    where
      go : (b : Bool) → holds_prefix prefix x ≡ b →
          ((y : Range) → Has xs y → holds_prefix prefix y ≡ true → y ≡ x)
          → find (holds_prefix prefix) xs ≡ cond b (Some x) None
      go true holds only = find_only (holds_prefix prefix) xs x
          (has_filtered begins_by xs x among).0 holds only
      go false short only = find_no (holds_prefix prefix) xs (λ y here holds.
          absurd (true≢false (sym holds ∙ ap (holds_prefix prefix) (only y here holds) ∙ short)))

  pub nearest_found : (old new : State) (t : Tables) (runs : List Running) (rows : List Row) →
      HoldsRows old.now t runs
      → are_apart t.ranges ≡ true → Shown text.nearest_text (number prefix ∷ []) old new rows
      → IsNearest prefix t.ranges rows
  nearest_found old new t runs rows has apart shown =
      nearest_is t.ranges rows (precede t.ranges apart has.rising)
      (nearest_first old new t runs rows has shown)

-- ---- of the ranges that overlap, the one of least low

least : (p : Range → Bool) (xs : List Range) (x : Range) → AreRising xs → Has xs x → p x ≡ true
    → ((y : Range) → Has xs y → p y ≡ true → x.low ≤ y.low) → find p xs ≡ Some x
least p [] x up here passes low = absurd here
least p (y ∷ xs) x up here passes low =
    go (p y) refl here (λ later. least p xs x up.1 later passes (λ z h. low z (inr h)))
  where
    go : (b : Bool) → p y ≡ b → Has (y ∷ xs) x → (Has xs x → find p xs ≡ Some x) →
        cond b (Some y) (find p xs) ≡ Some x
    go true is (inl same) later = ap Some (sym same)
    go true is (inr there) later =
        absurd (omega (arith, all_has _ xs x up.0 there, low y (inl refl) is))
    go false is (inl same) later = absurd (true≢false (sym passes ∙ ap p same ∙ is))
    go false is (inr there) later = later there

module _ (first low high : ℕ) where
  abbrev overlaps_ends : Range → Bool
  overlaps_ends = overlaps (between low high)

  -- it begins at or above the first, and overlaps
  abbrev is_sought : Range → Bool
  is_sought r = nat_le first r.low && overlaps_ends r

  abbrev ends_row : Row
  ends_row = number first ∷ number low ∷ number high ∷ []

  abbrev NotAbove : Range → Range → Type 0
  NotAbove x y = x.low ≤ y.low

  sought : (xs : List Range) → ReachFrom low xs first → (x : Range) → Has xs x
      → overlaps_ends x ≡ true → is_sought x ≡ true
  sought xs reach x here passes =
      let far = at_most_is low x.high (and_parts _ _ passes).0 in
      rw (le-leb first x.low (reach x here far)) passes

  least_is : (xs : List Range) (rows : List Row) → AreRising xs → ReachFrom low xs first
      → IsFirst NotAbove (filter is_sought xs) range_cells rows
      → rows ≡ option_to_list (option_map range_cells (find overlaps_ends xs))
  least_is xs rows up reach (inl h) =
      let none = find_no overlaps_ends xs (λ x here passes.
      subst (λ l. Has l x) h.1 (has_kept is_sought xs x here (sought xs reach x here passes))) in
      h.0 ∙ ap (λ o. option_to_list (option_map range_cells o)) (sym none)
  least_is xs rows up reach (inr (x, among, is, foremost)) =
      let listed = has_filtered is_sought xs x among in
      let low_is : (y : Range) → Has xs y → overlaps_ends y ≡ true →
      x.low ≤ y.low = λ y here passes.
      elim (foremost y (has_kept is_sought xs y here (sought xs reach y here passes))) [
        | inl same ↦ rw same (omega arith)
        | inr before ↦ before
      ] in
      let found = least overlaps_ends xs x up listed.0 (and_parts _ _ listed.1).1 low_is in
      is ∙ ap (λ o. option_to_list (option_map range_cells o)) (sym found)

  pub overlapping_found : (old new : State) (t : Tables) (runs : List Running) (rows : List Row)
      → HoldsRows old.now t runs → ReachFrom low t.ranges first
      → Shown text.overlapping_text ends_row old new rows
      → rows ≡ option_to_list (option_map range_cells (overlapping_at t low high))
  overlapping_found old new t runs rows has reach shown =
      let ask = asks.overlapping_asks in
      let it = query.overlapping_query in
      let all = shows_keyed range_row (book_schema has.schema.0) 5 t.ranges old new has.schema.1
      has.ranges
      text.overlapping_text
      ends_row _ (ask.plain has.schema.0) (ask.unlisted has.schema.0) rows shown it.filter
      it.project is_sought
      (λ x. rw (
        at_most_test first x.low,
        at_most_test low x.high,
        at_most_test x.low high,
        and_true,
      ) refl) it.order it.limit range_out
      (λ x. refl) (ask.is has.schema.0) in
      least_is t.ranges rows has.rising reach
      (first_element NotAbove (filter is_sought t.ranges) all.0 range_cells rows all.1
      (ascending_weaker _ NotAbove (λ x y h. number_at_most x.low y.low
      (ap is_gt (sym (then-Equal (value_cmp (number x.low) (number y.low)))) ∙ h)) all.0 all.2)
      all.3)

-- ---- from which low on ranges reach up to a number

-- those before one that begins by then end before it begins
reach_from : (up_to : ℕ) (xs : List Range) (r : Range) → are_apart xs ≡ true → AreRising xs
    → Has xs r → r.low ≤ up_to → ReachFrom up_to xs r.low
reach_from up_to xs r apart up listed below s here far =
    elim (either_way _ xs s r (precede xs apart up) here listed) [
      | inl same ↦ rw same (omega arith)
      | inr (inl before) ↦ absurd (omega (arith, before.1, below, far))
      | inr (inr after) ↦ omega (arith, after.0)
    ]

pub first_read : (up_to : ℕ) (xs : List Range) (rows : List Row) (row : Row) (n : ℕ)
    → are_apart xs ≡ true → AreRising xs → IsNearest up_to xs rows
    → Some row ≡ slice_get rows 0 → column row 0 ≡ number n → ReachFrom up_to xs n
first_read up_to xs rows row n apart up (inl none) some is =
    absurd (let e = some ∙ ap (λ l. slice_get l 0) none.0 in cc)
first_read up_to xs rows row n apart up (inr (r, one, found, listed, below)) some is =
    let first : row ≡ range_cells r =
    let e : Some row ≡ Some (range_cells r) = some ∙ ap (λ l. slice_get l 0) one in cc in
    let low : number r.low ≡ number n = sym (ap (λ l. column l 0) first) ∙ is in
    let same : r.low ≡ n = cc in
    subst (ReachFrom up_to xs) same (reach_from up_to xs r apart up listed below)

-- ---- the range that was read

pub same_range : (a b : Range) → range_cells a ≡ range_cells b → a ≡ b
same_range a b h =
    let e1 : a.low ≡ b.low = cc in
    let e2 : a.high ≡ b.high = cc in
    let e3 : a.issuer ≡ b.issuer = cc in
    let e4 : a.hold_days ≡ b.hold_days = cc in
    λ i. record { low = e1 i; high = e2 i; issuer = e3 i; hold_days = e4 i }

pub no_range : (prefix : ℕ) (xs : List Range) (rows : List Row) → IsNearest prefix xs rows →
    None ≡ slice_get rows 0
    → None ≡ range_of_prefix xs prefix
no_range prefix xs rows (inl none) is = sym none.1
no_range prefix xs rows (inr (r, one, found, listed, below)) is =
    absurd (let e = is ∙ ap (λ l. slice_get l 0) one in cc)

pub range_read : (prefix : ℕ) (xs : List Range) (rows : List Row) (row : Row) (x : Range) →
    IsNearest prefix xs rows
    → Some row ≡ slice_get rows 0 → (length row ≡ 4 → row ≡ range_cells x)
    → if_holds prefix x ≡ range_of_prefix xs prefix
range_read prefix xs rows row x (inl none) some read =
    absurd (let e = some ∙ ap (λ l. slice_get l 0) none.0 in cc)
range_read prefix xs rows row x (inr (r, one, found, listed, below)) some read =
    let first : row ≡ range_cells r =
    let e : Some row ≡ Some (range_cells r) = some ∙ ap (λ l. slice_get l 0) one in cc in
    ap (if_holds prefix) (same_range x r (sym (read (ap length first)) ∙ first)) ∙ sym found
