-- A search that goes on, and the rows at the places that it found.
use Rattle.std.proofs.Common.{◌≡◌, ◌∙◌, ◌⊎◌, ◌++◌, ◌∷◌, ◌+◌, ◌≤◌, ℕ, zero, suc, Bool, true, false}
use Rattle.std.proofs.Common.{List, [], cond, inl, inr, refl, sym, ap, ap₂, subst, true≢false}
use Rattle.std.proofs.Common.{append-nil, append_assoc, arith, length, take, drop}
use Rattle.std.specs.Prelude.{◌&&◌, filter, flat_map, nat_lt, None, Some, Option}
use Rattle.std.specs.List.{All}
use Rattle.std.specs.Str.{bytes_eq}
use Rattle.std.proofs.Math.Seq.{take-add}
use Rattle.std.proofs.lemmas.List.Concat.{flat_map-append}
use Rattle.std.proofs.lemmas.List.Elements.{All-nil}
use Rattle.acq_core.specs.declared.request.Request.{Request}
use Rattle.acq_core.specs.Pasts.{HasPast}
use Rattle.acq_core.specs.Tables.{Tables, requests_of}
use Rattle.acq_soundness.proofs.Members.{In}
use Rattle.acq_book.specs.Visits.{SawAll}
use Rattle.acq_inquiry.specs.declared.inquiry.Inquiry.{Inquiry}
use Rattle.acq_inquiry.specs.declared.looking.Looking.{Looking}
use Rattle.acq_inquiry.specs.declared.posted_day.PostedDay.{PostedDay}
use Rattle.acq_inquiry.specs.declared.rows_at.Copying.{Copying}
use Rattle.acq_inquiry.specs.declared.search.Search.{Search}
use Rattle.acq_inquiry.specs.declared.seeing.Seeing.{Seeing}
use Rattle.acq_reports.specs.Slices.{goes_on}
use Rattle.acq_inquiry.specs.Gathering.{Copies, LooksAt, Sees, place_if, references_if, row_if}
use Rattle.acq_inquiry.specs.Inquiries.{found_at, is_asked, is_found, references_of, related_by}
use Rattle.acq_inquiry.specs.InquiryTexts.{inquiry_text, many_line, request_text}
use Rattle.acq_inquiry.specs.InquiryTexts.{text_of_told}
use Rattle.acq_inquiry.specs.KeptPostings.{IsKept, KeepsDays, text_with, told_with}
use Rattle.acq_inquiry.specs.RequestLines.{request_lines}
use Rattle.acq_inquiry.specs.Searching.{Asks, IsSearched, IsWhole, SeesMore, given_from, row_at}
use Rattle.acq_inquiry.proofs.Among.{all_among}
use Rattle.acq_inquiry.proofs.Gathered.{each_alone, given_twice}
use Rattle.acq_inquiry.proofs.Kept.{AreAmong, lines_are}
use Rattle.acq_inquiry.proofs.Later.{given_anywhere}
use Rattle.acq_inquiry.proofs.Walked as walks

-- ---- rows behind others

lengths : {X : Type 0} (xs : List X) (n : ℕ) → n ≤ length xs → n + length (drop n xs) ≡ length xs
lengths xs zero within = omega arith
lengths [] (suc n) within = absurd (omega (arith, within))
lengths (x ∷ xs) (suc n) within = omega (arith, lengths xs n (omega (arith, within)))

taken : {X : Type 0} (xs : List X) (n : ℕ) → n ≤ length xs → length (take n xs) ≡ n
taken xs zero within = refl
taken [] (suc n) within = absurd (omega (arith, within))
taken (x ∷ xs) (suc n) within = ap suc (taken xs n (omega (arith, within)))

given_more : {X : Type 0} (gives : ℕ → Request → List X) (place : ℕ) (xs ys : List Request) →
    given_from gives place (xs ++ ys)
    ≡ given_from gives place xs ++ given_from gives (place + length xs) ys
given_more gives place [] ys = ap (λ n. given_from gives n ys) (still place)
  where
    still : (n : ℕ) → n ≡ n + 0
    still n = omega arith
given_more gives place (x ∷ xs) ys =
    ap (λ l. gives place x ++ l) (given_more gives (place + 1) xs ys)
    ∙ sym (append_assoc (gives place x) (given_from gives (place + 1) xs)
    (given_from gives (place + 1 + length xs) ys))
    ∙ ap (λ n. (gives place x ++ given_from gives (place + 1) xs) ++ given_from gives n ys)
    (later place (length xs))
  where
    later : (n k : ℕ) → n + 1 + k ≡ n + suc k
    later n k = omega arith

given_behind : {X : Type 0} (gives : ℕ → Request → List X) (rows : List Request) (n k : ℕ) →
    n ≤ length rows →
    given_from gives 0 (take (n + k) rows)
    ≡ given_from gives 0 (take n rows) ++ given_from gives n (take k (drop n rows))
given_behind gives rows n k within =
    ap (given_from gives 0) (take-add n k rows)
    ∙ given_more gives 0 (take n rows) (take k (drop n rows))
    ∙ ap (λ m. given_from gives 0 (take n rows) ++ given_from gives m (take k (drop n rows))) at
  where
    at : 0 + length (take n rows) ≡ n
    at = omega (arith, taken rows n within)

-- ---- references

-- what is kept by a search's references, by those of another that are the same
days_by : (t : Tables) (s new : Search) → Asks s.merchant s.inquiry new →
    new.references.items ≡ s.references.items →
    All (IsKept t s.merchant s.references.items) new.days.items →
    All (IsKept t new.merchant new.references.items) new.days.items
days_by t s new asks refers days =
    subst (λ r. All (IsKept t new.merchant r) new.days.items) (sym refers)
    (subst (λ m. All (IsKept t m s.references.items) new.days.items) (sym asks.0) days)

sees_one : (s : Search) (v : Seeing) (row : Request) (more : Bool) (w : Seeing) →
    v.search.now ≡ s → Sees v row more w →
    ((w.references.items ≡ v.references.items ++ references_if s.merchant s.inquiry row)
    × (w.seen ≡ v.seen + 1) × (w.end ≡ v.end)
    × (more ≡ goes_on w.end w.seen) × (w.search.now ≡ s))
    ⊎ ((w.is_short ≡ true) × (more ≡ false))
sees_one s v row more w kept (inr stops) = inr stops
sees_one s v row more w kept (inl (adds, next, ends, goes, same)) = inl (
  adds
      ∙ ap (λ (r : Search). v.references.items ++ references_if r.merchant r.inquiry row) kept,
  next,
  ends,
  goes,
  ap (λ r. r.now) same ∙ kept,
)

-- what was seen with more references is a search over the same tables
module _ (t : Tables) (s : Search) (v w : Seeing) (kept : v.search.now ≡ s)
    (none : v.references.items ≡ []) (from : v.seen ≡ s.seen) (is : IsSearched t s)
    (saw : SawAll Sees (drop s.seen t.requests) v w) (enough : w.is_short ≡ false) where
  abbrev given_row : Request → List ℕ
  given_row = references_if s.merchant s.inquiry

  abbrev rows_seen : List Request
  rows_seen = drop s.seen t.requests

  seeing : walks.HasWalked Sees (λ u. u.references.items) (λ u. u.seen) (λ u. u.end)
      (λ u. u.is_short) (λ u. u.search.now ≡ s) (λ place. given_row) (sees_one s) rows_seen v w
  seeing = walks.walked Sees (λ u. u.references.items) (λ u. u.seen) (λ u. u.end)
      (λ u. u.is_short) (λ u. u.search.now ≡ s) (λ place. given_row) (sees_one s) rows_seen v w
      kept saw enough

  seen_all : s.seen + length rows_seen ≡ length t.requests
  seen_all = lengths t.requests s.seen is.seen

  seen_at : w.seen ≡ s.seen + seeing.gone
  seen_at = seeing.at ∙ ap (λ n. n + seeing.gone) from

  references_seen : w.references.items ≡ flat_map given_row (take seeing.gone rows_seen)
  references_seen = seeing.gathered
      ∙ ap (λ xs. xs ++ given_from (λ place. given_row) v.seen (take seeing.gone rows_seen)) none
      ∙ given_anywhere given_row v.seen (take seeing.gone rows_seen)

  pub seen_whole : v.end ≡ None → w.seen ≡ length t.requests
  seen_whole whole = omega (arith, seen_at, seeing.whole whole, seen_all)

  module _ (new : Search) (sees : SeesMore s w.references.items w.seen new) where
    abbrev LooksOn : Type 0
    LooksOn =
        ((w.references.items ≡ []) × (new.places.items ≡ s.places.items)
        × (new.looked ≡ s.looked) × KeepsDays s.days.items new.days.items)
        ⊎ ((new.places.items ≡ []) × (new.looked ≡ 0) × (new.days.items ≡ []))

    looked_still : LooksOn → new.looked ≤ length t.requests
    looked_still (inl (empty, same, stays, keeps)) = omega (arith, stays, is.looked)
    looked_still (inr (emptied, begins, none)) = omega (arith, begins)

    days_still : LooksOn → All (IsKept t new.merchant new.references.items) new.days.items
    days_still (inl (empty, same, stays, keeps)) =
        days_by t s new sees.asks
        (sees.references ∙ ap (λ xs. s.references.items ++ xs) empty
        ∙ append-nil s.references.items)
        (keeps t s.merchant s.references.items is.days)
    days_still (inr (emptied, begins, none)) =
        subst (All (IsKept t new.merchant new.references.items)) (sym none)
        (All-nil (IsKept t new.merchant new.references.items))

    places_still : LooksOn → new.places.items
        ≡ given_from (place_if new.merchant new.inquiry new.references.items) 0
        (take new.looked t.requests)
    places_still (inl (empty, same, stays, keeps)) =
        same ∙ is.places
        ∙ ap (λ n. given_from (place_if s.merchant s.inquiry s.references.items) 0
        (take n t.requests)) (sym stays)
        ∙ ap (λ r. given_from (place_if s.merchant s.inquiry r) 0 (take new.looked t.requests))
        (sym (sees.references ∙ ap (λ xs. s.references.items ++ xs) empty
        ∙ append-nil s.references.items))
        ∙ ap₂ (λ m i. given_from (place_if m i new.references.items) 0
        (take new.looked t.requests)) (sym sees.asks.0) (sym sees.asks.1)
    places_still (inr (emptied, begins, none)) =
        emptied
        ∙ ap (λ n. given_from (place_if new.merchant new.inquiry new.references.items) 0
        (take n t.requests)) (sym begins)

    pub seen_on : IsSearched t new
    seen_on = record {
      seen = omega (arith, sees.seen, seen_at, seeing.within, seen_all);
      looked = looked_still sees.looks;
      references = sees.references
          ∙ ap₂ (λ a b. a ++ b) is.references references_seen
          ∙ sym (flat_map-append given_row (take s.seen t.requests) (take seeing.gone rows_seen))
          ∙ ap (flat_map given_row) (sym (take-add s.seen seeing.gone t.requests)
          ∙ ap (λ n. take n t.requests) (sym (sees.seen ∙ seen_at)))
          ∙ ap₂ (λ m i. flat_map (references_if m i) (take new.seen t.requests))
          (sym sees.asks.0) (sym sees.asks.1);
      places = places_still sees.looks;
      days = days_still sees.looks;
    }

-- ---- places

looks_one : (s : Search) (v : Looking) (row : Request) (more : Bool) (w : Looking) →
    v.search.now ≡ s → LooksAt v row more w →
    ((w.places.items
    ≡ v.places.items ++ place_if s.merchant s.inquiry s.references.items v.looked row)
    × (w.looked ≡ v.looked + 1) × (w.end ≡ v.end)
    × (more ≡ goes_on w.end w.looked) × (w.search.now ≡ s))
    ⊎ ((w.is_short ≡ true) × (more ≡ false))
looks_one s v row more w kept (inr stops) = inr stops
looks_one s v row more w kept (inl (adds, next, ends, goes, same)) = inl (
  adds
      ∙ ap (λ (r : Search). v.places.items
      ++ place_if r.merchant r.inquiry r.references.items v.looked row) kept,
  next,
  ends,
  goes,
  ap (λ r. r.now) same ∙ kept,
)

-- what was looked at is a search over the same tables
module _ (t : Tables) (s : Search) (v w : Looking) (kept : v.search.now ≡ s)
    (had : v.places.items ≡ s.places.items) (from : v.looked ≡ s.looked) (is : IsSearched t s)
    (saw : SawAll LooksAt (drop s.looked t.requests) v w) (enough : w.is_short ≡ false) where
  abbrev given_place : ℕ → Request → List ℕ
  given_place = place_if s.merchant s.inquiry s.references.items

  abbrev rows_looked : List Request
  rows_looked = drop s.looked t.requests

  looking : walks.HasWalked LooksAt (λ u. u.places.items) (λ u. u.looked) (λ u. u.end)
      (λ u. u.is_short) (λ u. u.search.now ≡ s) given_place (looks_one s) rows_looked v w
  looking = walks.walked LooksAt (λ u. u.places.items) (λ u. u.looked) (λ u. u.end)
      (λ u. u.is_short) (λ u. u.search.now ≡ s) given_place (looks_one s) rows_looked v w
      kept saw enough

  looked_all : s.looked + length rows_looked ≡ length t.requests
  looked_all = lengths t.requests s.looked is.looked

  looked_at : w.looked ≡ s.looked + looking.gone
  looked_at = looking.at ∙ ap (λ n. n + looking.gone) from

  pub looked_whole : v.end ≡ None → w.looked ≡ length t.requests
  looked_whole whole = omega (arith, looked_at, looking.whole whole, looked_all)

  module _ (new : Search) (asks : Asks s.merchant s.inquiry new)
      (refers : new.references.items ≡ s.references.items) (stays : new.seen ≡ s.seen)
      (places : new.places.items ≡ w.places.items) (looked : new.looked ≡ w.looked)
      (keeps : KeepsDays s.days.items new.days.items) where
    pub looked_on : IsSearched t new
    looked_on = record {
      seen = omega (arith, stays, is.seen);
      looked = omega (arith, looked, looked_at, looking.within, looked_all);
      references = refers ∙ is.references
          ∙ ap (λ n. flat_map (references_if s.merchant s.inquiry) (take n t.requests)) (sym stays)
          ∙ ap₂ (λ m i. flat_map (references_if m i) (take new.seen t.requests))
          (sym asks.0) (sym asks.1);
      places = places ∙ looking.gathered
          ∙ ap₂ (λ a n. a ++ given_from given_place n (take looking.gone rows_looked))
          (had ∙ is.places) from
          ∙ sym (given_behind given_place t.requests s.looked looking.gone is.looked)
          ∙ ap (λ n. given_from given_place 0 (take n t.requests)) (sym (looked ∙ looked_at))
          ∙ ap (λ r. given_from (place_if s.merchant s.inquiry r) 0
          (take new.looked t.requests)) (sym refers)
          ∙ ap₂ (λ m i. given_from (place_if m i new.references.items) 0
          (take new.looked t.requests)) (sym asks.0) (sym asks.1);
      days = days_by t s new asks refers (keeps t s.merchant s.references.items is.days);
    }

-- ---- postings

-- what is kept for a search, by what is said of all that it keeps
pub kept_for : (t : Tables) (s : Search) (m references : List ℕ) (days new : List PostedDay) →
    m ≡ s.merchant → references ≡ s.references.items → days ≡ s.days.items →
    (All (IsKept t m references) days → All (IsKept t m references) new) →
    All (IsKept t s.merchant s.references.items) s.days.items →
    All (IsKept t s.merchant s.references.items) new
kept_for t s m references days new same refers are goes all =
    subst (λ n. All (IsKept t n s.references.items) new) same
    (subst (λ r. All (IsKept t m r) new) refers
    (goes (subst (λ n. All (IsKept t n references) days) (sym same)
    (subst (λ r. All (IsKept t s.merchant r) days) (sym refers)
    (subst (All (IsKept t s.merchant s.references.items)) (sym are) all)))))

-- what has all but other postings that are kept is a search over the same tables
pub posted_on : (t : Tables) (s new : Search) → IsSearched t s → Asks s.merchant s.inquiry new →
    new.references.items ≡ s.references.items → new.seen ≡ s.seen →
    new.places.items ≡ s.places.items → new.looked ≡ s.looked →
    All (IsKept t s.merchant s.references.items) new.days.items → IsSearched t new
posted_on t s new is asks refers seen places looked days = record {
  seen = omega (arith, seen, is.seen);
  looked = omega (arith, looked, is.looked);
  references = refers ∙ is.references
      ∙ ap (λ n. flat_map (references_if s.merchant s.inquiry) (take n t.requests)) (sym seen)
      ∙ ap₂ (λ m i. flat_map (references_if m i) (take new.seen t.requests))
      (sym asks.0) (sym asks.1);
  places = places ∙ is.places
      ∙ ap₂ (λ r n. given_from (place_if s.merchant s.inquiry r) 0 (take n t.requests))
      (sym refers) (sym looked)
      ∙ ap₂ (λ m i. given_from (place_if m i new.references.items) 0
      (take new.looked t.requests)) (sym asks.0) (sym asks.1);
  days = days_by t s new asks refers days;
}

-- ---- the rows at their places

-- a walk copies its first row
pub copied_one : (rows : List Request) (v w : Copying) → SawAll Copies rows v w →
    w.is_short ≡ false → w.rows.items ≡ v.rows.items ++ take 1 rows
copied_one [] v w same enough =
    ap (λ (u : Copying). u.rows.items) (sym same) ∙ sym (append-nil v.rows.items)
copied_one (row ∷ rows) v w (inl (u, seen, rest)) enough = absurd (true≢false seen.1)
copied_one (row ∷ rows) v w (inr (inl adds, stops)) enough = adds
copied_one (row ∷ rows) v w (inr (inr short, stops)) enough =
    absurd (true≢false (sym short ∙ enough))

none_first : {X : Type 0} (x : X) (xs : List X) → ◌≡◌ {A = List X} [] (x ∷ xs) → ⊥
none_first x xs is = cc

next_behind : {X : Type 0} (place : ℕ) (all : List X) (x : X) (xs : List X) →
    drop place all ≡ x ∷ xs → drop (place + 1) all ≡ xs
next_behind zero all x xs is = ap (drop 1) is
next_behind (suc place) [] x xs is = absurd (none_first x xs is)
next_behind (suc place) (y ∷ all) x xs is =
    subst (λ n. drop n (y ∷ all) ≡ xs) (next place) (next_behind place all x xs is)
  where
    next : (n : ℕ) → suc (n + 1) ≡ suc n + 1
    next n = omega arith

module _ (merchant : List ℕ) (inquiry : Inquiry) (references : List ℕ) (t : Tables) where
  abbrev places : ℕ → List Request → List ℕ
  places = given_from (place_if merchant inquiry references)

  rows_found : (place : ℕ) (rows : List Request) → drop place t.requests ≡ rows →
      flat_map (row_at t) (places place rows)
      ≡ flat_map (row_if merchant inquiry references) rows
  rows_found place [] is = refl
  rows_found place (row ∷ rows) is =
      flat_map-append (row_at t) (place_if merchant inquiry references place row)
      (places (place + 1) rows)
      ∙ ap₂ (λ a b. a ++ b)
      (one (bytes_eq row.key.merchant merchant && is_found inquiry references row))
      (rows_found (place + 1) rows (next_behind place t.requests row rows is))
    where
      one : (b : Bool) → flat_map (row_at t) (cond b (place ∷ []) []) ≡ cond b (row ∷ []) []
      one true = append-nil (row_at t place) ∙ ap (take 1) is
      one false = refl

take_whole : {X : Type 0} (n : ℕ) (xs : List X) → n ≡ length xs → take n xs ≡ xs
take_whole zero [] is = refl
take_whole (suc n) [] is = absurd (omega (arith, is))
take_whole zero (x ∷ xs) is = absurd (omega (arith, is))
take_whole (suc n) (x ∷ xs) is = ap (λ l. x ∷ l) (take_whole n xs (omega (arith, is)))

-- the references of all requests that are asked for
pub related_whole : (t : Tables) (m : List ℕ) (inquiry : Inquiry) →
    flat_map (references_if m inquiry) t.requests ≡ related_by inquiry (requests_of m t.requests)
related_whole t m inquiry =
    given_twice (λ row. bytes_eq row.key.merchant m) (is_asked inquiry) references_of t.requests

-- the requests that are found by these
pub rows_among : (t : Tables) (m : List ℕ) (inquiry : Inquiry) (references : List ℕ) →
    references ≡ related_by inquiry (requests_of m t.requests) →
    flat_map (row_if m inquiry references) t.requests ≡ found_at t m inquiry
rows_among t m inquiry references are =
    given_twice (λ row. bytes_eq row.key.merchant m) (is_found inquiry references)
    (λ row. row ∷ []) t.requests
    ∙ each_alone (filter (is_found inquiry references) (requests_of m t.requests))
    ∙ ap (λ r. filter (is_found inquiry r) (requests_of m t.requests)) are

-- a search that has gone over all rows has them
references_whole : (t : Tables) (s : Search) → IsWhole t s →
    s.references.items ≡ related_by s.inquiry (requests_of s.merchant t.requests)
references_whole t s is =
    is.searched.references
    ∙ ap (flat_map (references_if s.merchant s.inquiry)) (take_whole s.seen t.requests is.seen)
    ∙ related_whole t s.merchant s.inquiry

places_are : (t : Tables) (s : Search) → IsWhole t s →
    s.places.items
    ≡ given_from (place_if s.merchant s.inquiry s.references.items) 0 t.requests
places_are t s is =
    is.searched.places
    ∙ ap (given_from (place_if s.merchant s.inquiry s.references.items) 0)
    (take_whole s.looked t.requests is.looked)

rows_are : (t : Tables) (s : Search) → IsWhole t s →
    flat_map (row_if s.merchant s.inquiry s.references.items) t.requests
    ≡ found_at t s.merchant s.inquiry
rows_are t s is =
    rows_among t s.merchant s.inquiry s.references.items (references_whole t s is)

-- the rows at its places are those that are found
pub whole_found : (t : Tables) (s : Search) → IsWhole t s →
    flat_map (row_at t) s.places.items ≡ found_at t s.merchant s.inquiry
whole_found t s is =
    ap (flat_map (row_at t)) (places_are t s is)
    ∙ rows_found s.merchant s.inquiry s.references.items t 0 t.requests refl
    ∙ rows_are t s is

-- and it has as many places
pub as_many : (merchant : List ℕ) (inquiry : Inquiry) (references : List ℕ) (place : ℕ)
    (rows : List Request) →
    length (given_from (place_if merchant inquiry references) place rows)
    ≡ length (flat_map (row_if merchant inquiry references) rows)
as_many merchant inquiry references place [] = refl
as_many merchant inquiry references place (row ∷ rows) =
    one (bytes_eq row.key.merchant merchant && is_found inquiry references row)
    (as_many merchant inquiry references (place + 1) rows)
  where
    more : List ℕ
    more = given_from (place_if merchant inquiry references) (place + 1) rows

    found : List Request
    found = flat_map (row_if merchant inquiry references) rows

    one : (b : Bool) → length more ≡ length found →
        length (cond b (place ∷ []) [] ++ more) ≡ length (cond b (row ∷ []) [] ++ found)
    one true same = ap suc same
    one false same = same

pub whole_many : (t : Tables) (s : Search) → IsWhole t s →
    length s.places.items ≡ length (found_at t s.merchant s.inquiry)
whole_many t s is =
    ap length (places_are t s is)
    ∙ as_many s.merchant s.inquiry s.references.items 0 t.requests
    ∙ ap length (rows_are t s is)

-- ---- their text

request_text_is : (t : Tables) → HasPast t → (s : Search) → IsWhole t s → (row : Request) →
    In row (found_at t s.merchant s.inquiry) → text_with s.days.items t row ≡ request_text t row
unfolding request_text
request_text_is t past s is row member =
    let among = all_among t past s.merchant s.inquiry row member in
    ap (λ xs. request_lines row ++ xs)
    (lines_are t past s.references.items s.days.items row
    (subst (λ m. All (IsKept t m s.references.items) s.days.items) (sym among.0)
    is.searched.days)
    (subst (λ r. AreAmong r row) (sym (references_whole t s is)) among.1))

texts_are : (f g : Request → List ℕ) (rows : List Request) →
    ((row : Request) → In row rows → f row ≡ g row) → flat_map f rows ≡ flat_map g rows
texts_are f g [] same = refl
texts_are f g (row ∷ rows) same =
    ap₂ (λ a b. a ++ b) (same row (inl refl)) (texts_are f g rows (λ one at. same one (inr at)))

told_alike : (days : List PostedDay) (t : Tables) (rows : List Request) →
    ((row : Request) → In row rows → text_with days t row ≡ request_text t row) →
    told_with days t rows ≡ text_of_told t rows
told_alike days t [] same = refl
told_alike days t (row ∷ rows) same =
    texts_are (text_with days t) (request_text t) (row ∷ rows) same

-- the text with what a search keeps is that of the tables
pub told_is : (t : Tables) → HasPast t → (s : Search) → IsWhole t s →
    told_with s.days.items t (flat_map (row_at t) s.places.items)
    ≡ text_of_told t (found_at t s.merchant s.inquiry)
told_is t past s is =
    ap (told_with s.days.items t) (whole_found t s is)
    ∙ told_alike s.days.items t (found_at t s.merchant s.inquiry) (request_text_is t past s is)

-- that there are more than so many, or what became of them
module _ (t : Tables) (m : List ℕ) (inquiry : Inquiry) (most : ℕ) where
  abbrev all_found : List Request
  all_found = found_at t m inquiry

  pub many_is : nat_lt most (length all_found) ≡ true →
      many_line most ≡ inquiry_text t m inquiry (Some most)
  many_is more =
      sym (ap (λ b. cond b (many_line most) (text_of_told t all_found)) more)

  pub few_is : nat_lt most (length all_found) ≡ false →
      text_of_told t all_found ≡ inquiry_text t m inquiry (Some most)
  few_is few =
      sym (ap (λ b. cond b (many_line most) (text_of_told t all_found)) few)
