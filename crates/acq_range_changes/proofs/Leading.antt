-- The changes, taken in their order, lead to the list.
use Rattle.std.proofs.Common.{◌≡◌, ◌≤◌, true, Bool, List, [], ◌∷◌, ◌++◌, map, refl, sym, ap, subst}
use Rattle.std.proofs.Common.{◌∙◌, append_assoc, inl, inr}
use Rattle.std.specs.Prelude.{not, ◌||◌}
use Rattle.std.specs.List.{filter, list_all}
use Rattle.std.proofs.lemmas.Bool.{and_from, and_parts, cases_Bool}
use Rattle.std.proofs.lemmas.List.Folds.{list_all-append}
use Rattle.card_no.specs.declared.range.Range.{Range}
use Rattle.card_no.specs.Ranges.{are_apart, are_ranges, between, is_before, is_valid_range}
use Rattle.card_no.specs.Ranges.{overlaps, with_range}
use Rattle.card_no.proofs.ElementsThatPass.{all-filter}
use Rattle.card_no.proofs.OneRangeLess.{ranges_without}
use Rattle.card_no.proofs.OneRangeMore.{ranges_with}
use Rattle.card_no.proofs.RangeEnds.{ends_in_order}
use Rattle.acq_core.specs.declared.event.Event.{Event}
use Rattle.acq_core.specs.declared.event.Event.TheVariants.{AddRange}
use Rattle.acq_core.specs.Tables.{Tables}
use Rattle.acq_range_changes.specs.Changes.{changes_to, drop_of, in_turn, is_among}
use Rattle.acq_range_changes.proofs.Apart.{all_before, all_behind, all_clear_before}
use Rattle.acq_range_changes.proofs.Apart.{all_clear_behind, apart_around, apart_filter}
use Rattle.acq_range_changes.proofs.Apart.{clear_behind, found_behind, is_clear_of, none_found}
use Rattle.acq_range_changes.proofs.Apart.{overlaps_itself, with_middle, without_middle}
use Rattle.acq_range_changes.proofs.Filters.{all_there, dropped_in_turn, filter_with}
use Rattle.acq_range_changes.proofs.Filters.{gone_of_stay_yet, gone_with, stay_of_stay_yet}
use Rattle.acq_range_changes.proofs.Kept.{kept_both, there_among}
use Rattle.acq_range_changes.proofs.Leads.{Leads, add_done, drop_done, leads_first, leads_none}
use Rattle.acq_range_changes.proofs.Leads.{leads_on}

-- tables of which only the ranges matter
abbrev with_ranges : Tables → List Range → Tables
with_ranges t ranges = record t { ranges = ranges }

-- those before a range are valid, and so is it
valid_around : (xs ys : List Range) (r : Range) → list_all is_valid_range (xs ++ r ∷ ys) ≡ true →
    (list_all is_valid_range xs ≡ true) × (is_valid_range r ≡ true)
valid_around xs ys r valid =
    let parts = and_parts (list_all is_valid_range xs) (list_all is_valid_range (r ∷ ys))
    (sym (list_all-append is_valid_range xs (r ∷ ys)) ∙ valid) in
    (parts.0, (and_parts (is_valid_range r) (list_all is_valid_range ys) parts.1).0)

-- what stands round one range of a list of ranges
record Around (xs ys : List Range) (r : Range) : Type 0 where
  pub before_valid : list_all is_valid_range xs ≡ true
  pub valid : is_valid_range r ≡ true
  pub order : r.low ≤ r.high
  pub before : all_before r xs ≡ true
  pub behind : all_behind r ys ≡ true

around : (xs ys : List Range) (r : Range) → are_ranges (xs ++ r ∷ ys) ≡ true → Around xs ys r
around xs ys r ranges =
    let parts = and_parts (list_all is_valid_range (xs ++ r ∷ ys)) (are_apart (xs ++ r ∷ ys)) ranges
    in
    let valid = valid_around xs ys r parts.0 in
    let apart = apart_around xs ys r parts.1 in
    record {
      before_valid = valid.0;
      valid = valid.1;
      order = ends_in_order r valid.1;
      before = apart.0;
      behind = apart.1;
    }

-- the ranges that don't pass are dropped, one after another
drops_lead : (t : Tables) (q : Range → Bool) (xs ys : List Range) →
    are_ranges (xs ++ ys) ≡ true →
    Leads (with_ranges t (xs ++ ys)) (map drop_of (filter (λ r. not (q r)) ys))
    (with_ranges t (xs ++ filter q ys))
drops_lead t q xs [] ranges = leads_none (with_ranges t (xs ++ []))
drops_lead t q xs (y ∷ ys) ranges =
    elim (cases_Bool (q y)) [
      | inl passes ↦
          let more : xs ++ y ∷ ys ≡ (xs ++ y ∷ []) ++ ys = sym (append_assoc xs (y ∷ []) ys) in
          let rest = drops_lead t q (xs ++ y ∷ []) ys
          (subst (λ rs. are_ranges rs ≡ true) more ranges) in
          rw passes (rw (append_assoc xs (y ∷ []) ys, append_assoc xs (y ∷ []) (filter q ys))
          at rest)
      | inr fails ↦
          let near = around xs ys y ranges in
          let gone = without_middle xs ys y near.before_valid near.order near.before near.behind in
          let found = found_behind (overlaps (between y.low y.high)) xs ys y
          (all_clear_before y xs near.before) (overlaps_itself y near.order) in
          let done = drop_done (with_ranges t (xs ++ y ∷ ys)) y found in
          let rest = drops_lead t q xs ys
          (subst (λ rs. are_ranges rs ≡ true) gone
          (ranges_without (xs ++ y ∷ ys) y.low y.high ranges)) in
          rw fails (leads_first (with_ranges t (xs ++ y ∷ ys)) (drop_of y)
          (map drop_of (filter (λ r. not (q r)) ys)) (with_ranges t (xs ++ ys))
          (with_ranges t (xs ++ filter q ys)) done.0
          (done.1 ∙ ap (λ rs. with_ranges t rs) gone) rest)
    ]

-- ---- one range's turn

-- those that stay, and those that lie behind a range
abbrev stays_yet : (Range → Bool) → Range → Range → Bool
stays_yet q y s = q s || is_before y s

-- a range that overlaps none that stays overlaps none that stays yet
free_yet : (q : Range → Bool) (y : Range) (rs : List Range) →
    list_all (is_clear_of y) (filter q rs) ≡ true →
    list_all (is_clear_of y) (filter (stays_yet q y) rs) ≡ true
free_yet q y [] free = refl
free_yet q y (r ∷ rs) free =
    elim (cases_Bool (q r)) [
      | inl stays ↦
          let parts = and_parts (is_clear_of y r) (list_all (is_clear_of y) (filter q rs))
          (rw stays at free) in
          rw stays (and_from (is_clear_of y r)
          (list_all (is_clear_of y) (filter (stays_yet q y) rs)) parts.0
          (free_yet q y rs parts.1))
      | inr goes ↦
          let rest = free_yet q y rs (rw goes at free) in
          elim (cases_Bool (is_before y r)) [
            | inl behind ↦ rw (goes, behind) (and_from (is_clear_of y r)
                (list_all (is_clear_of y) (filter (stays_yet q y) rs))
                (clear_behind y r behind) rest)
            | inr near ↦ rw (goes, near) rest
          ]
    ]

-- the drops that make room for a range that stays, and its addition
turn_leads : (t : Tables) (q : Range → Bool) (rs : List Range) (y : Range) (later : List Event)
    (u : Tables) → are_ranges rs ≡ true → is_valid_range y ≡ true →
    list_all (is_clear_of y) (filter q rs) ≡ true →
    Leads (with_ranges t (with_range (filter (stays_yet q y) rs) y)) later u →
    Leads (with_ranges t rs)
    (map drop_of (filter (λ s. not (is_before y s)) (filter (λ r. not (q r)) rs))
    ++ AddRange y ∷ later) u
turn_leads t q rs y later u ranges valid free rest =
    let stay = filter (stays_yet q y) rs in
    let drops = drops_lead t (stays_yet q y) [] rs ranges in
    let none = none_found (overlaps (between y.low y.high)) stay (free_yet q y rs free) in
    let done = add_done (with_ranges t stay) y valid none in
    subst (λ dropped. Leads (with_ranges t rs) (map drop_of dropped ++ AddRange y ∷ later) u)
    (dropped_in_turn q (is_before y) rs)
    (leads_on (map drop_of (filter (λ r. not (stays_yet q y r)) rs)) (AddRange y ∷ later)
    (with_ranges t rs) (with_ranges t stay) u drops
    (leads_first (with_ranges t stay) (AddRange y) later
    (with_ranges t (with_range stay y)) u done.0 done.1 rest))

-- ---- all turns

-- a range overlaps none that end before it or begin behind it
all_clear : (y : Range) (xs ys : List Range) → all_before y xs ≡ true → all_behind y ys ≡ true →
    list_all (is_clear_of y) (xs ++ ys) ≡ true
all_clear y xs ys before behind =
    list_all-append (is_clear_of y) xs ys
    ∙ and_from (list_all (is_clear_of y) xs) (list_all (is_clear_of y) ys)
    (all_clear_before y xs before) (all_clear_behind y ys behind)

-- one range less to come: those that stay are the list up to it, and those behind it that stay
kept_in_turn : (p q : Range → Bool) (rs xs ys : List Range) (y : Range) → Around xs ys y →
    list_all is_valid_range rs ≡ true → are_apart rs ≡ true → q y ≡ true →
    filter q rs ≡ xs ++ filter p ys →
    filter q (with_range (filter (stays_yet q y) rs) y) ≡ xs ++ y ∷ filter p ys
kept_in_turn p q rs xs ys y near valid apart stays kept =
    filter_with q (filter (stays_yet q y) rs) y
    (all-filter is_valid_range (stays_yet q y) rs valid) (apart_filter (stays_yet q y) rs apart)
    stays
    ∙ ap (λ l. with_range l y) (stay_of_stay_yet q (is_before y) rs ∙ kept)
    ∙ with_middle xs (filter p ys) y near.before_valid near.order near.before
    (all-filter (is_before y) p ys near.behind)

-- Of a list xs and ys the ranges xs are there, and those of ys that pass; the others come in turn,
-- and what isn't of the list goes.
turns_lead : (t : Tables) (p q : Range → Bool) (rs xs ys : List Range) → are_ranges rs ≡ true →
    are_ranges (xs ++ ys) ≡ true → filter q rs ≡ xs ++ filter p ys → list_all q ys ≡ true →
    Leads (with_ranges t rs)
    (in_turn (filter (λ r. not (q r)) rs) (filter (λ r. not (p r)) ys))
    (with_ranges t (xs ++ ys))
turns_lead t p q rs xs [] ranges list kept stay =
    subst (λ l. Leads (with_ranges t rs) (map drop_of (filter (λ r. not (q r)) rs))
    (with_ranges t l)) kept (drops_lead t q [] rs ranges)
turns_lead t p q rs xs (y ∷ ys) ranges list kept stay =
    let more : xs ++ y ∷ ys ≡ (xs ++ y ∷ []) ++ ys = sym (append_assoc xs (y ∷ []) ys) in
    let more_list = subst (λ l. are_ranges l ≡ true) more list in
    let stays = and_parts (q y) (list_all q ys) stay in
    elim (cases_Bool (p y)) [
      | inl passes ↦
          let there : filter q rs ≡ (xs ++ y ∷ []) ++ filter p ys =
          (rw passes at kept) ∙ sym (append_assoc xs (y ∷ []) (filter p ys)) in
          let rest = turns_lead t p q rs (xs ++ y ∷ []) ys ranges more_list there stays.1 in
          rw passes (rw (append_assoc xs (y ∷ []) ys) at rest)
      | inr fails ↦
          let parts = and_parts (list_all is_valid_range rs) (are_apart rs) ranges in
          let there : filter q rs ≡ xs ++ filter p ys = rw fails at kept in
          let near = around xs ys y list in
          let yet = filter (stays_yet q y) rs in
          let free = subst (λ l. list_all (is_clear_of y) l ≡ true) (sym there)
          (all_clear y xs (filter p ys) near.before
          (all-filter (is_before y) p ys near.behind)) in
          let yet_ranges = and_from (list_all is_valid_range yet) (are_apart yet)
          (all-filter is_valid_range (stays_yet q y) rs parts.0)
          (apart_filter (stays_yet q y) rs parts.1) in
          let next_ranges = ranges_with yet y yet_ranges near.valid
          (none_found (overlaps y) yet (free_yet q y rs free)) in
          let next_kept : filter q (with_range yet y) ≡ (xs ++ y ∷ []) ++ filter p ys =
          kept_in_turn p q rs xs ys y near parts.0 parts.1 stays.0 there
          ∙ sym (append_assoc xs (y ∷ []) (filter p ys)) in
          let rest = turns_lead t p q (with_range yet y) (xs ++ y ∷ []) ys next_ranges more_list
          next_kept stays.1 in
          let gone : filter (λ r. not (q r)) (with_range yet y)
          ≡ filter (is_before y) (filter (λ r. not (q r)) rs) =
          gone_with q yet y stays.0 ∙ gone_of_stay_yet q (is_before y) rs in
          rw fails (turn_leads t q rs y
          (in_turn (filter (is_before y) (filter (λ r. not (q r)) rs)) (filter (λ r. not (p r)) ys))
          (with_ranges t (xs ++ y ∷ ys)) ranges near.valid free
          (rw (gone, append_assoc xs (y ∷ []) ys) at rest))
    ]

pub changes_lead : (t : Tables) (list : List Range) → are_ranges t.ranges ≡ true →
    are_ranges list ≡ true → Leads t (changes_to list t) (record t { ranges = list })
changes_lead t list book_ranges list_ranges =
    let parts = and_parts (list_all is_valid_range list) (are_apart list) list_ranges in
    turns_lead t (is_among t.ranges) (is_among list) t.ranges [] list book_ranges list_ranges
    (kept_both t.ranges list book_ranges list_ranges)
    (all_there (is_among list) list (λ r there. there_among list r parts.0 parts.1 there))
