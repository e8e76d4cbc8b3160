-- The changes, one range of the new list after another.
use Rattle.std.proofs.Common.{◌≡◌, ℕ, ◌+◌, ◌<◌, suc, Bool, true, false, List, [], ◌∷◌, ◌++◌, map}
use Rattle.std.proofs.Common.{length, drop, get_or, refl, sym, ap, ap₂, ◌∙◌, append_assoc, drop-cons, arith}
use Rattle.std.specs.Prelude.{not}
use Rattle.std.specs.List.{filter, list_all}
use Rattle.std.proofs.lemmas.Bool.{and_from, and_parts}
use Rattle.card_no.specs.declared.range.Range.{Range}
use Rattle.card_no.specs.Ranges.{are_apart, are_ranges, is_before, is_valid_range}
use Rattle.card_no.proofs.ElementsThatPass.{all-filter}
use Rattle.acq_core.specs.declared.event.Event.{Event}
use Rattle.acq_core.specs.declared.event.Event.TheVariants.{AddRange}
use Rattle.acq_range_changes.specs.Changes.{drop_of, in_turn, is_among, others}
use Rattle.acq_range_changes.proofs.Apart.{apart_filter}
use Rattle.acq_range_changes.proofs.Filters.{filter_both}

pub ranges_filter : (q : Range → Bool) (xs : List Range) → are_ranges xs ≡ true →
    are_ranges (filter q xs) ≡ true
ranges_filter q xs ranges =
    let parts = and_parts (list_all is_valid_range xs) (are_apart xs) ranges in
    and_from (list_all is_valid_range (filter q xs)) (are_apart (filter q xs))
    (all-filter is_valid_range q xs parts.0) (apart_filter q xs parts.1)

-- the one that comes next, and those behind it
next_first : (xs : List Range) (k : ℕ) (r : Range) → k < length xs → r ≡ get_or xs k r →
    drop k xs ≡ r ∷ drop (k + 1) xs
next_first xs k r lt is =
    let next : suc k ≡ k + 1 = omega arith in
    drop-cons xs k r lt ∙ ap₂ (λ (x : Range) (j : ℕ). x ∷ drop j xs) (sym is) next

-- a range that is among the old ones needs no event
pub passed_over : (old new : List Range) (k : ℕ) (r : Range) → k < length new →
    r ≡ get_or new k r → is_among old r ≡ true →
    others old (drop k new) ≡ others old (drop (k + 1) new)
passed_over old new k r lt is there =
    ap (λ l. others old l) (next_first new k r lt is) ∙ rw there refl

-- another comes next
comes_next : (old new : List Range) (k : ℕ) (r : Range) → k < length new →
    r ≡ get_or new k r → is_among old r ≡ false →
    others old (drop k new) ≡ r ∷ others old (drop (k + 1) new)
comes_next old new k r lt is new_one =
    ap (λ l. others old l) (next_first new k r lt is) ∙ rw new_one refl

-- what is put when a range comes
pub turn_taken : (old new left near behind : List Range) (k : ℕ) (r : Range)
    (all before put after : List Event) → k < length new → r ≡ get_or new k r →
    is_among old r ≡ false →
    all ≡ before ++ in_turn (others new left) (others old (drop k new)) →
    near ≡ filter (λ s. not (is_before r s)) left → behind ≡ filter (is_before r) left →
    put ≡ before ++ map drop_of (others new near) → after ≡ put ++ AddRange r ∷ [] →
    all ≡ after ++ in_turn (others new behind) (others old (drop (k + 1) new))
turn_taken old new left near behind k r all before put after lt is new_one so_far is_near is_behind
    is_put is_after =
    let gone = others new left in
    let come = others old (drop (k + 1) new) in
    let room = filter (λ s. not (is_before r s)) gone in
    let later = in_turn (filter (is_before r) gone) come in
    let dropped : others new near ≡ room =
    ap (λ l. others new l) is_near
    ∙ filter_both (λ s. not (is_among new s)) (λ s. not (is_before r s)) left in
    let stayed : others new behind ≡ filter (is_before r) gone =
    ap (λ l. others new l) is_behind
    ∙ filter_both (λ s. not (is_among new s)) (is_before r) left in
    let done : after ≡ (before ++ map drop_of room) ++ AddRange r ∷ [] =
    is_after ∙ ap (λ events. events ++ AddRange r ∷ []) is_put
    ∙ ap (λ rows. (before ++ map drop_of rows) ++ AddRange r ∷ []) dropped in
    so_far ∙ ap (λ rows. before ++ in_turn gone rows) (comes_next old new k r lt is new_one)
    ∙ sym (append_assoc before (map drop_of room) (AddRange r ∷ later))
    ∙ sym (append_assoc (before ++ map drop_of room) (AddRange r ∷ []) later)
    ∙ ap₂ (λ (events : List Event) (rows : List Range). events ++ in_turn rows come) (sym done)
    (sym stayed)
