-- On each day no more messages of a merchant count than the limit is, and no more of them are
-- pending or posted.
use Rattle.std.proofs.Common.{◌≡◌, ℕ, ◌+◌, ◌<◌, ◌≤◌, List, [], ◌∷◌, ◌++◌, Option, Some, None, Bool}
use Rattle.std.proofs.Common.{true, false, refl, ap, ◌∙◌, subst, arith, eqb}
use Rattle.std.specs.Prelude.{IfSome, ◌&&◌}
use Rattle.std.specs.Str.{bytes_eq}
use Rattle.std.proofs.Math.Bool.{and-false}
use Rattle.acq_message.specs.declared.request_key.RequestKey.{RequestKey}
use Rattle.acq_core.specs.declared.posting.Posting.{Posting}
use Rattle.acq_core.specs.declared.request.Request.{Request}
use Rattle.acq_core.specs.Tables.{count, is_pending, requests_of, postings_of, used_in}
use Rattle.acq_core.specs.Tables.{with_changed, with_next_posting, postings_before}
use Rattle.acq_soundness.proofs.Members.{In, In-filter}
use Rattle.acq_soundness.proofs.Keys.{bytes_eq_is, eqb_is}
use Rattle.acq_soundness.proofs.RowsWithChanges.{Edits, requests_of-changed}
use Rattle.acq_soundness.proofs.CountsOfRows.{one_if, count-filter_push, used_in-changed, pending_in}
use Rattle.acq_soundness.proofs.CountsOfRows.{pending_in-changed, pending_in-answered}

-- how many postings of a day a merchant has
abbrev pub posted_on : List ℕ → List (ℕ × Posting) → ℕ → ℕ
posted_on m ps day = count (λ row. eqb row.1.day day) (postings_of m ps)

-- how many of a merchant's messages count on a day, and how many of them wait for an answer
abbrev pub used_on : List ℕ → List Request → ℕ → ℕ
used_on m rows day = used_in (requests_of m rows) day

abbrev pub pending_on : List ℕ → List Request → ℕ → ℕ
pending_on m rows day = pending_in (requests_of m rows) day

-- no more than the limit count, and each posting and each pending request is one of them
pub record AreCountsWithin (limit : ℕ) (rows : List Request) (ps : List (ℕ × Posting)) : Type 0
  where
    pub used : (m : List ℕ) (day : ℕ) → used_on m rows day ≤ limit
    pub posted : (m : List ℕ) (day : ℕ) →
        posted_on m ps day + pending_on m rows day ≤ used_on m rows day

-- ---- a row more

-- one of a merchant and day
abbrev pub one_at : List ℕ → ℕ → List ℕ → ℕ → ℕ
one_at merchant on m day = one_if (bytes_eq merchant m && eqb on day)

used_on-push : (m : List ℕ) (rows : List Request) (row : Request) (day : ℕ) →
    used_on m (rows ++ row ∷ []) day
    ≡ used_on m rows day + one_if (bytes_eq row.key.merchant m && (row.admitted && eqb row.day day))
used_on-push m rows row day =
    count-filter_push (λ x. bytes_eq x.key.merchant m) (λ x. x.admitted && eqb x.day day) rows row

pending_on-push : (m : List ℕ) (rows : List Request) (row : Request) (day : ℕ) →
    pending_on m (rows ++ row ∷ []) day ≡ pending_on m rows day + one_if
    (bytes_eq row.key.merchant m && (is_pending row.status && eqb row.day day))
pending_on-push m rows row day =
    count-filter_push (λ x. bytes_eq x.key.merchant m) (λ x. is_pending x.status && eqb x.day day)
    rows row

-- one that doesn't count, and doesn't wait
pub within_uncounted : (limit : ℕ) (rows : List Request) (ps : List (ℕ × Posting)) (row : Request) →
    row.admitted ≡ false → is_pending row.status ≡ false → AreCountsWithin limit rows ps →
    AreCountsWithin limit (rows ++ row ∷ []) ps
within_uncounted limit rows ps row uncounted ended c = record {
  used = λ m day.
      let before = c.used m day in
      let now = used_on-push m rows row day in
      let none = nothing m day row.admitted uncounted in
      omega arith;
  posted = λ m day.
      let before = c.posted m day in
      let now = used_on-push m rows row day in
      let waits = pending_on-push m rows row day in
      let none = nothing m day row.admitted uncounted in
      let ends = nothing m day (is_pending row.status) ended in
      omega arith;
}
  where
    nothing : (m : List ℕ) (day : ℕ) (b : Bool) → b ≡ false →
        one_if (bytes_eq row.key.merchant m && (b && eqb row.day day)) ≡ 0
    nothing m day b e =
        ap (λ v. one_if (bytes_eq row.key.merchant m && (v && eqb row.day day))) e
        ∙ ap one_if (and-false (bytes_eq row.key.merchant m))

-- the day of a merchant has room for one more
room_at : (limit : ℕ) (rows : List Request) (merchant : List ℕ) (on : ℕ) →
    ((m : List ℕ) (day : ℕ) → used_on m rows day ≤ limit) → used_on merchant rows on < limit →
    (m : List ℕ) (day : ℕ) → used_on m rows day + one_at merchant on m day ≤ limit
room_at limit rows merchant on used room m day = step (bytes_eq merchant m) (eqb on day) refl refl
  where
    step : (a b : Bool) → bytes_eq merchant m ≡ a → eqb on day ≡ b →
        used_on m rows day + one_if (a && b) ≤ limit
    step true true e f =
        let P : List ℕ → ℕ → Type 0 = λ x d. used_on x rows d + 1 ≤ limit in
        let here : used_on merchant rows on + 1 ≤ limit = omega arith in
        subst (λ x. P x day) (bytes_eq_is merchant m e)
        (subst (λ d. P merchant d) (eqb_is on day f) here)
    step true false e f = let before = used m day in omega arith
    step false b e f = let before = used m day in omega arith

-- one that counts, and either waits or posts at most once, on its own day
pub record IsCountedRow (rows later : List Request) (ps more : List (ℕ × Posting))
    (row : Request) : Type 0 where
  pub counts : row.admitted ≡ true
  pub same : (m : List ℕ) (day : ℕ) → used_on m later day ≡ used_on m rows day
  pub fewer : (m : List ℕ) (day : ℕ) → pending_on m later day ≤ pending_on m rows day
  pub once : (m : List ℕ) (day : ℕ) → posted_on m more day + one_if
      (bytes_eq row.key.merchant m && (is_pending row.status && eqb row.day day))
      ≤ posted_on m ps day + one_at row.key.merchant row.day m day

pub within_counted : (limit : ℕ) (rows later : List Request) (ps more : List (ℕ × Posting))
    (row : Request) →
    IsCountedRow rows later ps more row → used_on row.key.merchant rows row.day < limit →
    AreCountsWithin limit rows ps → AreCountsWithin limit (later ++ row ∷ []) more
within_counted limit rows later ps more row r room c = record {
  used = λ m day.
      let fits = room_at limit rows row.key.merchant row.day c.used room m day in
      let now = used_on-push m later row day in
      let one = counted m day in
      let same = r.same m day in
      omega arith;
  posted = λ m day.
      let before = c.posted m day in
      let now = used_on-push m later row day in
      let waits = pending_on-push m later row day in
      let one = counted m day in
      let same = r.same m day in
      let fewer = r.fewer m day in
      let once = r.once m day in
      omega arith;
}
  where
    counted : (m : List ℕ) (day : ℕ) →
        one_if (bytes_eq row.key.merchant m && (row.admitted && eqb row.day day))
        ≡ one_at row.key.merchant row.day m day
    counted m day = ap (λ v. one_if (bytes_eq row.key.merchant m && (v && eqb row.day day)))
        r.counts

-- ---- postings

-- a posting of a merchant and day
pub record IsOfDay (m : List ℕ) (on : ℕ) (p : Posting) : Type 0 where
  pub merchant : p.merchant ≡ m
  pub day : p.day ≡ on

-- at most one more
pub posted_on-next : (ps : List (ℕ × Posting)) (o : Option Posting) (merchant : List ℕ) (on : ℕ) →
    IfSome o (IsOfDay merchant on) → (m : List ℕ) (day : ℕ) →
    posted_on m (with_next_posting ps o) day ≤ posted_on m ps day + one_at merchant on m day
posted_on-next ps None merchant on of m day = omega arith
posted_on-next ps (Some p) merchant on of m day =
    let more : posted_on m (with_next_posting ps (Some p)) day
    ≡ posted_on m ps day + one_if (bytes_eq p.merchant m && eqb p.day day) =
    count-filter_push (λ x. bytes_eq x.1.merchant m) (λ x. eqb x.1.day day) ps
    (postings_before ps p + 1, p) in
    let same : one_if (bytes_eq p.merchant m && eqb p.day day) ≡ one_at merchant on m day =
    λ i. one_if (bytes_eq (of.merchant i) m && eqb (of.day i) day) in
    omega arith

-- beside a row that doesn't wait
pub posted_on-ended : (ps : List (ℕ × Posting)) (o : Option Posting) (merchant : List ℕ) (on : ℕ) →
    IfSome o (IsOfDay merchant on) → (m : List ℕ) (day : ℕ) →
    posted_on m (with_next_posting ps o) day + one_if (bytes_eq merchant m && false)
    ≤ posted_on m ps day + one_at merchant on m day
posted_on-ended ps o merchant on of m day =
    let once = posted_on-next ps o merchant on of m day in
    let none = ap one_if (and-false (bytes_eq merchant m)) in
    omega arith

-- ---- rows that were changed

module _ (key : RequestKey) (changed : Request → Request) (edits : Edits changed)
    (ends : (x : Request) → is_pending (changed x).status ≡ false) (rows : List Request) where
  pub used_on-changed : (m : List ℕ) (day : ℕ) →
      used_on m (with_changed key changed rows) day ≡ used_on m rows day
  used_on-changed m day =
      ap (λ xs. used_in xs day) (requests_of-changed m key changed edits rows)
      ∙ used_in-changed key changed edits (requests_of m rows) day

  pub pending_on-changed : (m : List ℕ) (day : ℕ) →
      pending_on m (with_changed key changed rows) day ≤ pending_on m rows day
  pending_on-changed m day =
      let same = ap (λ xs. pending_in xs day) (requests_of-changed m key changed edits rows) in
      let fewer = pending_in-changed key changed ends day (requests_of m rows) in
      omega arith

  -- the request that was answered no longer waits
  pending_on-answered : (row : Request) → In row rows → row.key ≡ key →
      is_pending row.status ≡ true → (m : List ℕ) (day : ℕ) →
      pending_on m (with_changed key changed rows) day + one_at row.key.merchant row.day m day
      ≤ pending_on m rows day
  pending_on-answered row member same pending m day = step (bytes_eq row.key.merchant m)
      (eqb row.day day) refl refl
    where
      step : (a b : Bool) → bytes_eq row.key.merchant m ≡ a → eqb row.day day ≡ b →
          pending_on m (with_changed key changed rows) day + one_if (a && b) ≤ pending_on m rows day
      step true true e f =
          let like = ap (λ xs. pending_in xs day) (requests_of-changed m key changed edits rows) in
          let fewer =
          pending_in-answered key changed ends day (requests_of m rows) row
          (In-filter (λ x. bytes_eq x.key.merchant m) row rows member e) same pending
          (eqb_is row.day day f) in
          omega arith
      step true false e f = let fewer = pending_on-changed m day in omega arith
      step false b e f = let fewer = pending_on-changed m day in omega arith

  -- so what it posts takes its place
  pub within_answered : (limit : ℕ) (ps : List (ℕ × Posting)) (row : Request) (o : Option Posting) →
      In row rows →
      row.key ≡ key → is_pending row.status ≡ true → IfSome o (IsOfDay row.key.merchant row.day) →
      AreCountsWithin limit rows ps →
      AreCountsWithin limit (with_changed key changed rows) (with_next_posting ps o)
  within_answered limit ps row o member same pending of c = record {
    used = λ m day. let before = c.used m day in let like = used_on-changed m day in omega arith;
    posted = λ m day.
        let before = c.posted m day in
        let like = used_on-changed m day in
        let fewer = pending_on-answered row member same pending m day in
        let once = posted_on-next ps o row.key.merchant row.day of m day in
        omega arith;
  }
