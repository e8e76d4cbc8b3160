-- The rows of tables with a past are those of a book.
use Rattle.std.proofs.Common.{◌≡◌, ◌==◌, ◌&&◌, ◌+◌, ◌≤◌, ◌^◌, inl, inr, ℕ, Bool, true, false}
use Rattle.std.proofs.Common.{List, [], ◌∷◌, ◌++◌, cond, length, Option, None, Some, IfSome}
use Rattle.std.proofs.Common.{refl, sym, subst, arith}
use Rattle.std.specs.List.{AllByRecursion}
use Rattle.std.specs.Str.{bytes_eq}
use Rattle.std.proofs.lemmas.Bool.{and_parts}
use Rattle.std.proofs.lemmas.Bool.Decides.{nat_tests}
use Rattle.std.proofs.lemmas.List.Elements.{All-contains}
use Rattle.card_no.specs.Track2.{may_be_number}
use Rattle.acq_core.specs.declared.change.Change.{Change}
use Rattle.acq_core.specs.declared.change.Change.TheVariants as change
use Rattle.acq_core.specs.declared.posting.Posting.{Posting}
use Rattle.acq_core.specs.declared.reconciliation.Reconciliation.{Reconciliation}
use Rattle.acq_core.specs.declared.request.Request.{Request}
use Rattle.acq_core.specs.Changes.{change_for}
use Rattle.acq_core.specs.Pasts.{HasPast}
use Rattle.acq_core.specs.Tables.{Tables, new_tables, known_in, after, after_any, count}
use Rattle.acq_core.specs.Tables.{postings_before, with_next_posting, reconciliations_before}
use Rattle.acq_core.specs.Tables.{with_next_reconciliation, with_changed, answered_row}
use Rattle.acq_core.specs.Tables.{followed_row}
use Rattle.acq_book.specs.Fits.{Fits, HasItsRequest}
use Rattle.acq_soundness.specs.CardData.{KeepsNoSensitiveData, may_be_acquirer}
use Rattle.acq_soundness.specs.Rows.{FitsPosting, FitsRequest, greatest_hold_end}
use Rattle.acq_soundness.proofs.BooksAreSound.{books_are_sound}
use Rattle.acq_soundness.proofs.Members.{In, In-push, In-find, In-last, In-map, from_In}
use Rattle.acq_soundness.proofs.Runs.{kept}
use Rattle.acq_sql_changes.specs.Refused.{HasBookRows, Takes}
use Rattle.acq_sql_writes.specs.Refused.{HasShortTexts, IsShortText}
use Rattle.acq_sql_writes.specs.Written.{IsShortEnd}
use Rattle.acq_sql.specs.Applied.{HasShortEnd}
use Rattle.acq_sql_writes.proofs.ReplyLengths.{spelling_few}
use Rattle.acq_sql_rows.proofs.SameKeys.{bytes_itself, number_itself}

-- ---- lists

each_of : {X : Type 0} (P : X → Type 0) (xs : List X) → ((x : X) → In x xs → P x)
    → AllByRecursion P xs
each_of P [] so = tt
each_of P (x ∷ xs) so = (so x (inl refl), each_of P xs (λ y h. so y (inr h)))

count_grows : {X : Type 0} (p : X → Bool) (xs : List X) (y : X)
    → count p xs ≤ count p (xs ++ y ∷ [])
count_grows p [] y = omega arith
count_grows p (x ∷ xs) y =
    let later = count_grows p xs y in
    elim (p x)
    as (λ b. cond b (1 + count p xs) (count p xs)
    ≤ cond b (1 + count p (xs ++ y ∷ [])) (count p (xs ++ y ∷ [])))
    [ true ↦ omega (arith, later) | false ↦ later ]

count_last : {X : Type 0} (p : X → Bool) (xs : List X) (y : X) → p y ≡ true
    → count p xs + 1 ≡ count p (xs ++ y ∷ [])
count_last p [] y passes = rw passes refl
count_last p (x ∷ xs) y passes =
    let later = count_last p xs y passes in
    elim (p x)
    as (λ b. cond b (1 + count p xs) (count p xs) + 1
    ≡ cond b (1 + count p (xs ++ y ∷ [])) (count p (xs ++ y ∷ [])))
    [ true ↦ omega (arith, later) | false ↦ later ]

-- ---- numbers

-- no posting has a higher number than there are
abbrev ArePostingNumbers : List (ℕ × Posting) → Type 0
ArePostingNumbers rows = (x : ℕ × Posting) → In x rows → x.0 ≤ postings_before rows x.1

abbrev AreReconciliationNumbers : List (ℕ × Reconciliation) → Type 0
AreReconciliationNumbers rows =
    (x : ℕ × Reconciliation) → In x rows → x.0 ≤ reconciliations_before rows x.1

itself : (merchant : List ℕ) (day : ℕ) → (bytes_eq merchant merchant && (day == day)) ≡ true
itself merchant day = rw (bytes_itself merchant, number_itself day) refl

next_posting : (rows : List (ℕ × Posting)) (o : Option Posting) → ArePostingNumbers rows
    → ArePostingNumbers (with_next_posting rows o)
next_posting rows None few x h = few x h
next_posting rows (Some p) few x h =
    let new : ℕ × Posting = (postings_before rows p + 1, p) in
    let own = λ (x : ℕ × Posting) (row : ℕ × Posting).
    bytes_eq row.1.merchant x.1.merchant && (row.1.day == x.1.day) in
    elim (In-push x rows new h) [
      | inl old ↦
          let before = few x old in
          let more = count_grows (own x) rows new in omega (arith, before, more)
      | inr is ↦
          subst (λ (y : ℕ × Posting). y.0 ≤ postings_before (rows ++ new ∷ []) y.1) is
          (let last = count_last (own new) rows new (itself p.merchant p.day) in
          omega (arith, last))
    ]

next_reconciliation : (rows : List (ℕ × Reconciliation)) (r : Reconciliation)
    → AreReconciliationNumbers rows → AreReconciliationNumbers (with_next_reconciliation rows r)
next_reconciliation rows r few x h =
    let new : ℕ × Reconciliation = (reconciliations_before rows r + 1, r) in
    let own = λ (x : ℕ × Reconciliation) (row : ℕ × Reconciliation).
    bytes_eq row.1.merchant x.1.merchant && (row.1.day == x.1.day) in
    elim (In-push x rows new h) [
      | inl old ↦
          let before = few x old in
          let more = count_grows (own x) rows new in omega (arith, before, more)
      | inr is ↦
          subst (λ (y : ℕ × Reconciliation). y.0 ≤ reconciliations_before (rows ++ new ∷ []) y.1) is
          (let last = count_last (own new) rows new (itself r.merchant r.day) in
          omega (arith, last))
    ]

record HasNumbers (t : Tables) : Type 0 where
  postings : ArePostingNumbers t.postings
  reconciliations : AreReconciliationNumbers t.reconciliations

numbers_after : (t : Tables) (c : Change) → HasNumbers t → HasNumbers (after t c)
numbers_after t (change.Answered key status reply hold_end posting) h =
    record {
      postings = next_posting t.postings posting h.postings;
      reconciliations = h.reconciliations;
    }
numbers_after t (change.Follow row original remains posting) h =
    record {
      postings = next_posting t.postings posting h.postings;
      reconciliations = h.reconciliations;
    }
numbers_after t (change.Reconciled row r) h =
    record {
      postings = h.postings;
      reconciliations = next_reconciliation t.reconciliations r h.reconciliations;
    }
numbers_after t c h =
    record { postings = h.postings; reconciliations = h.reconciliations }

numbers_after_any : (t : Tables) (o : Option Change) → HasNumbers t → HasNumbers (after_any t o)
numbers_after_any t None h = h
numbers_after_any t (Some c) h = numbers_after t c h

numbers_by_past : (t : Tables) → HasPast t → HasNumbers t
numbers_by_past t (opening, book) =
    subst HasNumbers (sym book.after)
    (kept HasNumbers (λ s a. numbers_after_any s (change_for (known_in s a) a))
    (new_tables opening) book.events
    (record { postings = λ x h. absurd h; reconciliations = λ x h. absurd h }))

-- ---- texts

card_few : (text : List ℕ) → may_be_number text ≡ true → length text ≤ 10 ^ 6
card_few text valid = grind (arith, nat_tests, valid)

acquirer_few : (text : List ℕ) → may_be_acquirer text ≡ true → length text ≤ 10 ^ 6
acquirer_few text valid = grind (arith, nat_tests, valid)

few_where : (P : List ℕ → Type 0) (o : Option (List ℕ)) → ((text : List ℕ) → P text
    → IsShortText text) → IfSome o P → IfSome o IsShortText
few_where P None weaker h = tt
few_where P (Some text) weaker h = weaker text h

short_texts : (row : Request) → KeepsNoSensitiveData row → HasShortTexts row
short_texts row keeps =
    record {
      essence =
          subst IsShortText (sym keeps.essence.spelled)
          (spelling_few keeps.essence.message keeps.essence.is_message);
      card = few_where (λ text. may_be_number text ≡ true) row.card card_few keeps.card;
      acquirer =
          few_where (λ text. may_be_acquirer text ≡ true) row.acquirer acquirer_few keeps.acquirer;
    }

-- ---- all

pub book_rows : (t : Tables) → HasPast t → HasBookRows t
book_rows t (opening, book) =
    let sound = books_are_sound opening t book in
    let numbers = numbers_by_past t (opening, book) in
    record {
      ranges = (and_parts _ _ sound.ranges).0;
      texts = each_of HasShortTexts t.requests (λ row h. short_texts row
          (All-contains KeepsNoSensitiveData t.requests row sound.card_data
          (from_In row t.requests h)));
      keys = sound.keys.requests;
      cards = each_of (λ row. IsShortText row.1.card) t.postings (λ row h.
          let fits = All-contains (FitsPosting t.limit) t.postings row sound.rows.postings
          (from_In row t.postings h) in card_few row.1.card fits.card);
      postings = each_of (λ row. row.0 ≤ postings_before t.postings row.1) t.postings
          numbers.postings;
      reconciliations =
          each_of (λ row. row.0 ≤ reconciliations_before t.reconciliations row.1)
          t.reconciliations numbers.reconciliations;
    }

-- ---- the end of a hold that a change writes

short_end : (end : Option ℕ) → IfSome end (λ n. n ≤ greatest_hold_end) → IsShortEnd end
short_end None fits = tt
short_end (Some n) fits = omega arith

-- each request of tables with a past fits its columns
fitting : (t : Tables) → HasPast t → (row : Request) → In row t.requests → FitsRequest row
fitting t (opening, book) row there =
    All-contains FitsRequest t.requests row (books_are_sound opening t book).rows.requests
    (from_In row t.requests there)

-- where the request that a change answers is there, and the tables after it have a past, a column
-- can keep the end of the hold that it writes
pub past_ends : (t : Tables) (c : Change) → HasPast (after t c) → HasItsRequest t c → HasShortEnd c
past_ends t (change.AddRequest row) past there =
    short_end row.hold_end
    (fitting (after t (change.AddRequest row)) past row (In-last row t.requests)).hold_end
past_ends t (change.Answered key status reply hold_end posting) past there =
    let found = In-find _ t.requests there.0 there.1 in
    let now = change.Answered key status reply hold_end posting in
    let fits = fitting (after t now) past _ (In-map _ there.0 t.requests found.0) in
    let own = answered_row status reply hold_end there.0 in
    short_end hold_end (subst (λ b. FitsRequest (cond b own there.0)) found.1 fits).hold_end
past_ends t (change.Follow row original remains posting) past there =
    short_end row.hold_end
    (fitting (after t (change.Follow row original remains posting)) past row
    (In-last row (with_changed original (followed_row remains) t.requests))).hold_end
past_ends t (change.Reconciled row reconciliation) past there =
    short_end row.hold_end
    (fitting (after t (change.Reconciled row reconciliation)) past row
    (In-last row t.requests)).hold_end
past_ends t (change.AddMerchant merchant) past there = tt
past_ends t (change.AddTerminal terminal) past there = tt
past_ends t (change.AddRange range) past there = tt
past_ends t (change.DropRange low high) past there = tt
past_ends t (change.SetDay day) past there = tt

-- a change that fits tables with a past, and leads to such, takes
pub past_takes : (t : Tables) (c : Change) → Fits t c → HasPast t → HasPast (after t c) → Takes c t
past_takes t c fits past later =
    record { fits = fits; before = book_rows t past; later = book_rows (after t c) later }
