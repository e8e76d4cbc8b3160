-- A merchant's postings of a day have numbers that rise as they come.
use Rattle.std.proofs.Common.{◌≡◌, ◌==◌, ◌&&◌, ◌+◌, ◌<◌, ◌≤◌, ℕ, Bool, true, false, cond, List, []}
use Rattle.std.proofs.Common.{◌∷◌, ◌++◌, Option, None, Some, refl, sym, ap, ap₂, subst, ◌∙◌, arith}
use Rattle.std.specs.List.{AllByRecursion}
use Rattle.std.specs.Str.{bytes_eq}
use Rattle.std.proofs.lemmas.Bool.{and_parts}
use Rattle.std.proofs.lemmas.Bool.Decides.{nat_tests}
use Rattle.std.proofs.lemmas.Slice.Eq.{bytes_eq-Decides}
use Rattle.acq_core.specs.declared.change.Change.{Change}
use Rattle.acq_core.specs.declared.change.Change.TheVariants as change
use Rattle.acq_core.specs.declared.posting.Posting.{Posting}
use Rattle.acq_core.specs.Changes.{change_for}
use Rattle.acq_core.specs.Pasts.{HasPast}
use Rattle.acq_core.specs.Tables.{Tables, new_tables, known_in, after, after_any, count}
use Rattle.acq_core.specs.Tables.{postings_before, with_next_posting}
use Rattle.acq_core.proofs.Counts.{count-push}
use Rattle.acq_soundness.proofs.Runs.{kept}

abbrev pub Numbered : Type 0
Numbered = ℕ × Posting

-- of the same merchant and day
abbrev pub is_beside : Posting → Numbered → Bool
is_beside p row = bytes_eq row.1.merchant p.merchant && (row.1.day == p.day)

-- each number is at most how many of its merchant and day there are
abbrev pub AreCounted : List Numbered → List Numbered → Type 0
AreCounted whole rows = AllByRecursion (λ row. row.0 ≤ count (is_beside row.1) whole) rows

-- a later one of the same merchant and day has a greater number
abbrev pub IsBelow : Numbered → Numbered → Type 0
IsBelow x y = is_beside x.1 y ≡ true → x.0 < y.0

abbrev pub AreRising : List Numbered → Type 0
AreRising [] = Unit {0}
AreRising (x ∷ xs) = AllByRecursion (IsBelow x) xs × AreRising xs

-- ---- one more

counted_more : (whole rows : List Numbered) (y : Numbered) → AreCounted whole rows →
    AreCounted (whole ++ y ∷ []) rows
counted_more whole [] y all = tt
counted_more whole (x ∷ xs) y all = (
  grows (is_beside x.1 y) (count (is_beside x.1) whole) x.0 all.0 _
      (count-push (is_beside x.1) whole y),
  counted_more whole xs y all.1,
)
  where
    grows : (b : Bool) (n k : ℕ) → k ≤ n → (m : ℕ) → m ≡ cond b (1 + n) n → k ≤ m
    grows true n k le m is = omega (arith, le, is)
    grows false n k le m is = omega (arith, le, is)

all-push : {X : Type 0} (P : X → Type 0) (xs : List X) (y : X) → AllByRecursion P xs → P y →
    AllByRecursion P (xs ++ y ∷ [])
all-push P [] y all p = (p, tt)
all-push P (x ∷ xs) y all p = (all.0, all-push P xs y all.1 p)

rising-push : (xs : List Numbered) (y : Numbered) → AreRising xs →
    AllByRecursion (λ x. IsBelow x y) xs → AreRising (xs ++ y ∷ [])
rising-push [] y up below = (tt, tt)
rising-push (x ∷ xs) y up below =
    (all-push (IsBelow x) xs y up.0 below.0, rising-push xs y up.1 below.1)

bytes_same : (a b : List ℕ) → bytes_eq a b ≡ true → a ≡ b
bytes_same a b h = (bytes_eq-Decides a b).0 h

beside_itself : (n : ℕ) (p : Posting) → is_beside p (n, p) ≡ true
beside_itself n p =
    let same : (p.day == p.day) ≡ true = grind (arith, nat_tests) in
    rw ((bytes_eq-Decides p.merchant p.merchant).1 refl, same) refl

module _ (rows : List Numbered) (p : Posting) where
  abbrev new : Numbered
  new = (postings_before rows p + 1, p)

  below_new : (x : Numbered) → x.0 ≤ count (is_beside x.1) rows → IsBelow x new
  below_new x le beside =
      let parts = and_parts _ _ beside in
      let merchant : p.merchant ≡ x.1.merchant = bytes_same p.merchant x.1.merchant parts.0 in
      let day : p.day ≡ x.1.day = let h = parts.1 in grind (arith, nat_tests) in
      let same : count (is_beside x.1) rows ≡ postings_before rows p =
      ap₂ (λ (m : List ℕ) (d : ℕ). count (λ (row : Numbered). bytes_eq row.1.merchant m
      && (row.1.day == d)) rows) (sym merchant) (sym day) in
      omega (arith, le, same)

  all_below : (xs : List Numbered) → AreCounted rows xs → AllByRecursion (λ x. IsBelow x new) xs
  all_below [] all = tt
  all_below (x ∷ xs) all = (below_new x all.0, all_below xs all.1)

  new_counted : new.0 ≤ count (is_beside p) (rows ++ new ∷ [])
  new_counted =
      let more : count (is_beside p) (rows ++ new ∷ []) ≡ 1 + postings_before rows p =
      count-push (is_beside p) rows new
      ∙ ap (λ b. cond b (1 + postings_before rows p) (postings_before rows p))
      (beside_itself (postings_before rows p + 1) p) in
      omega (arith, more)

-- ---- every change keeps it

record AreInTurn (rows : List Numbered) : Type 0 where
  counted : AreCounted rows rows
  rising : AreRising rows

with_any : (rows : List Numbered) (o : Option Posting) → AreInTurn rows
    → AreInTurn (with_next_posting rows o)
with_any rows None h = h
with_any rows (Some p) h = record {
  counted = all-push (λ row. row.0 ≤ count (is_beside row.1) (rows ++ new rows p ∷ [])) rows
      (new rows p) (counted_more rows rows (new rows p) h.counted) (new_counted rows p);
  rising = rising-push rows (new rows p) h.rising (all_below rows p rows h.counted);
}

in_turn_after : (t : Tables) (c : Change) → AreInTurn t.postings → AreInTurn (after t c).postings
in_turn_after t (change.Answered key status reply hold_end posting) h =
    with_any t.postings posting h
in_turn_after t (change.Follow row original remains posting) h = with_any t.postings posting h
in_turn_after t c h = h

in_turn_after_any : (t : Tables) (o : Option Change) → AreInTurn t.postings
    → AreInTurn (after_any t o).postings
in_turn_after_any t None h = h
in_turn_after_any t (Some c) h = in_turn_after t c h

-- so tables with a past have it
in_turn_by_past : (t : Tables) → HasPast t → AreInTurn t.postings
in_turn_by_past t (opening, book) =
    subst (λ (s : Tables). AreInTurn s.postings) (sym book.after)
    (kept (λ (s : Tables). AreInTurn s.postings)
    (λ s a. in_turn_after_any s (change_for (known_in s a) a)) (new_tables opening)
    book.events (record { counted = tt; rising = tt }))

pub counted_by_past : (t : Tables) → HasPast t → AreCounted t.postings t.postings
counted_by_past t past = (in_turn_by_past t past).counted

pub rising_by_past : (t : Tables) → HasPast t → AreRising t.postings
rising_by_past t past = (in_turn_by_past t past).rising
