-- Rows that a step adds are new, and there is room for what it posts.
use Rattle.std.proofs.Common.{◌≡◌, ℕ, zero, suc, ◌+◌, ◌<◌, ◌≤◌, List, [], ◌∷◌, ◌++◌, Option, Some}
use Rattle.std.proofs.Common.{None, Bool, true}
use Rattle.std.proofs.Common.{false, cond, refl, sym, ap, ◌∙◌, subst, arith, leb, eqb}
use Rattle.std.specs.Prelude.{◌&&◌, IfSome, map, filter, find, is_some}
use Rattle.std.specs.List.{cons_option, list_any, range_with_len}
use Rattle.std.specs.Str.{bytes_eq}
use Rattle.std.proofs.lemmas.Bool.{and_parts, leb-true, le-leb}
use Rattle.day_totals.specs.declared.leg.Leg.{Leg}
use Rattle.day_totals.specs.Totals.{IsWithinLimits, totals_of, with_leg_amount}
use Rattle.day_totals.proofs.TotalsOfPostings.{totals_of-push}
use Rattle.acq_message.specs.declared.request_key.RequestKey.{RequestKey}
use Rattle.acq_message.specs.Elements.{same_key}
use Rattle.acq_message.specs.Numbers.{is_number}
use Rattle.acq_core.specs.declared.merchant.Merchant.{Merchant}
use Rattle.acq_core.specs.declared.posting.Posting.{Posting}
use Rattle.acq_core.specs.declared.request.Request.{Request}
use Rattle.acq_core.specs.Numbers.{is_used_count, is_admitted_count, greatest_limit}
use Rattle.acq_core.specs.Tables.{Opening, Tables, requests_of, postings_of, admitted_in, used_in}
use Rattle.acq_core.specs.Tables.{totals_on}
use Rattle.acq_core.specs.Tables.{postings_before, with_next_posting}
use Rattle.acq_book.specs.Fits.{IsNew, HasRoom}
use Rattle.acq_book.specs.Lookups.{request_at, referred_at, used_at}
use Rattle.acq_soundness.proofs.FoundRows.{is_number_is}
use Rattle.acq_soundness.proofs.FoundRows as found
use Rattle.acq_soundness.proofs.Keys.{bytes_eq_itself, eqb_itself, same_key_is}
use Rattle.acq_soundness.proofs.Lookups.{some_is, map-push, filter-push_in, clash}
use Rattle.acq_soundness.proofs.Members.{In, In-find, any_none}
use Rattle.acq_core.specs.Events.{IsOpening}
use Rattle.acq_soundness.specs.References.{AreRowsOf, references_in}
use Rattle.acq_soundness.proofs.CountsOfRows.{one_if, count-filter_push}

-- ---- what isn't there

-- none is found where none passes
find_absent : {X : Type 0} (p : X → Bool) (xs : List X) → ((x : X) → In x xs → p x ≡ true → ⊥) →
    find p xs ≡ None
find_absent {X} p xs none =
    let step : (o : Option X) → find p xs ≡ o → o ≡ None =
    elim [
      | None ↦ (λ e. refl)
      | Some x ↦ (λ e. let h = In-find p xs x e in absurd (none x h.0 h.1))
    ] in
    step (find p xs) refl

-- one passes where a member does
pub any_member : {X : Type 0} (p : X → Bool) (xs : List X) (x : X) → In x xs → p x ≡ true →
    list_any p xs ≡ true
any_member p xs x member passes =
    let step : (b : Bool) → list_any p xs ≡ b → b ≡ true =
    elim [ true ↦ (λ e. refl) | false ↦ (λ e. clash (p x) passes (any_none p xs e x member)) ] in
    step (list_any p xs) refl

-- a key that no request has
key_is_new : (t : Tables) (key : RequestKey) → found.IsNew t key → request_at t key ≡ None
key_is_new t key new =
    find_absent (λ (row : Request). same_key row.key key) t.requests
    (λ row member e. new row member (same_key_is row.key key e))

-- a number above all references
reference_is_new : (rows : List Request) (first count n : ℕ) →
    references_in rows ≡ range_with_len first count →
    first + count ≤ n → find (λ row. is_number n row.reference) rows ≡ None
reference_is_new [] first count n e above = refl
reference_is_new (x ∷ xs) first count n e above =
    step (λ a k f le. reference_is_new xs a k n f le) x.reference count e above
  where
    step : ((a k : ℕ) → references_in xs ≡ range_with_len a k → a + k ≤ n →
        find (λ row. is_number n row.reference) xs ≡ None) →
        (o : Option ℕ) (k : ℕ) → cons_option o (references_in xs) ≡ range_with_len first k →
        first + k ≤ n →
        cond (is_number n o) (Some x) (find (λ row. is_number n row.reference) xs) ≡ None
    step rest None k e le = rest first k e le
    step rest (Some v) zero e le = absurd cc
    step rest (Some v) (suc k) e le =
        let here : v ≡ first = cc in
        let later : references_in xs ≡ range_with_len (first + 1) k = cc in
        let none : (b : Bool) → is_number n (Some v) ≡ b →
        cond b (Some x) (find (λ row. is_number n row.reference) xs) ≡ None =
        elim [
          | true ↦ (λ f. absurd (let same = some_is v n (is_number_is n (Some v) f) in omega arith))
          | false ↦ (λ f. rest (first + 1) k later (omega arith))
        ] in
        none (is_number n (Some v)) refl

-- the reference that comes next
next_reference_is_new : (o : Option Merchant) (merchant : Merchant) (rows : List Request) →
    o ≡ Some merchant →
    AreRowsOf o rows →
    find (λ row. is_number (merchant.first_reference + admitted_in rows) row.reference) rows
    ≡ None
next_reference_is_new o merchant rows enrolled h =
    reference_is_new rows merchant.first_reference (admitted_in rows)
    (merchant.first_reference + admitted_in rows)
    (subst (λ x. AreRowsOf x rows) enrolled h) (omega arith)

-- ---- new rows

-- one without a reference, for which its day has room where it counts
pub unreferred_is_new : (t : Tables) (row : Request) → found.IsNew t row.key →
    row.reference ≡ None →
    (row.admitted ≡ true → is_used_count (1 + used_at t row.key.merchant row.day) ≡ true) →
    IsNew t row
unreferred_is_new t row new none room = record {
  key = key_is_new t row.key new;
  reference = subst (λ o. IfSome o (λ n. referred_at t row.key.merchant n ≡ None)) (sym none) tt;
  used = room;
  admitted = λ e. absurd (let h = ap is_some none in cc);
}

-- one with the reference that comes next
pub referred_is_new : (t : Tables) (row : Request) (merchant : Merchant) (o : Option Merchant) →
    o ≡ Some merchant →
    AreRowsOf o (requests_of row.key.merchant t.requests) → found.IsNew t row.key →
    row.reference
    ≡ Some (merchant.first_reference + admitted_in (requests_of row.key.merchant t.requests)) →
    is_used_count (1 + used_at t row.key.merchant row.day) ≡ true →
    is_admitted_count (admitted_in (requests_of row.key.merchant (t.requests ++ row ∷ []))) ≡ true →
    IsNew t row
referred_is_new t row merchant o enrolled rows new reference room few = record {
  key = key_is_new t row.key new;
  reference =
      subst (λ r. IfSome r (λ n. referred_at t row.key.merchant n ≡ None)) (sym reference)
      (next_reference_is_new o merchant (requests_of row.key.merchant t.requests) enrolled rows);
  used = λ e. room;
  admitted = λ e.
      let m = row.key.merchant in
      let before = admitted_in (requests_of m t.requests) in
      let now : admitted_in (requests_of m (t.requests ++ row ∷ [])) ≡ before + 1 =
      count-filter_push (λ x. bytes_eq x.key.merchant m) (λ x. is_some x.reference) t.requests row
      ∙ (λ i. before + one_if (bytes_eq_itself m i && is_some (reference i))) in
      let same : before + 1 ≡ 1 + before = omega arith in
      subst (λ n. is_admitted_count n ≡ true) (now ∙ same) few;
}

-- ---- room

-- a day that isn't full has room for one message more
pub has_room_for_one : (opening : Opening) (t : Tables) (m : List ℕ) (day : ℕ) → IsOpening opening →
    t.limit ≡ opening.limit → used_in (requests_of m t.requests) day < t.limit →
    is_used_count (1 + used_at t m day) ≡ true
has_room_for_one opening t m day opens limit room =
    let most = leb-true opening.limit greatest_limit
    (and_parts (leb 1 opening.limit) _ opens.limit).1 in
    le-leb (1 + used_in (requests_of m t.requests) day) greatest_limit (omega arith)

-- totals with one posting more
totals_with_next : (rows : List (ℕ × Posting)) (p : Posting) →
    totals_on (postings_of p.merchant (with_next_posting rows (Some p))) p.day
    ≡ with_leg_amount (totals_on (postings_of p.merchant rows) p.day) p.leg p.amount
totals_with_next rows p =
    let next : ℕ × Posting = (postings_before rows p + 1, p) in
    let mine = postings_of p.merchant rows in
    let shown : ℕ × Posting → Leg × ℕ = λ row. (row.1.leg, row.1.amount) in
    ap (λ xs. totals_on xs p.day)
    (filter-push_in (λ (row : ℕ × Posting). bytes_eq row.1.merchant p.merchant) rows next
    (bytes_eq_itself p.merchant))
    ∙ (ap (λ xs. totals_of (map shown xs))
    (filter-push_in (λ (row : ℕ × Posting). eqb row.1.day p.day) mine next (eqb_itself p.day))
    ∙ (ap totals_of
    (map-push shown (filter (λ (row : ℕ × Posting). eqb row.1.day p.day) mine) (next ∷ []))
    ∙ totals_of-push (map shown (filter (λ (row : ℕ × Posting). eqb row.1.day p.day) mine)) p.leg
    p.amount))

-- where the totals after a posting are within limits, there was room for it
pub has_room_for_posting : (t : Tables) (o : Option Posting) →
    ((m : List ℕ) (day : ℕ) →
    IsWithinLimits (totals_on (postings_of m (with_next_posting t.postings o)) day)) →
    HasRoom t o
has_room_for_posting t None within = tt
has_room_for_posting t (Some p) within =
    subst IsWithinLimits (totals_with_next t.postings p) (within p.merchant p.day)
