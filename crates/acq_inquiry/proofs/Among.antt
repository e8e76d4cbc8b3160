-- A request that is found has its references among those of the requests that are asked for.
use Rattle.std.proofs.Common.{◌≡◌, ◌∙◌, ◌⊎◌, ◌++◌, ◌∷◌, ◌==◌, ℕ, Bool, true, false, List, []}
use Rattle.std.proofs.Common.{Option, Some, None, cond, inl, inr, refl, sym, ap, subst, arith}
use Rattle.std.proofs.Common.{filter, true≢false}
use Rattle.std.specs.Prelude.{◌||◌, IfSome, flat_map}
use Rattle.std.specs.List.{AllByRecursion, list_any}
use Rattle.std.specs.Str.{bytes_eq}
use Rattle.std.proofs.lemmas.Bool.Decides.{nat_tests}
use Rattle.acq_message.specs.declared.request_key.RequestKey.{RequestKey}
use Rattle.acq_message.specs.Elements.{remaining_in, same_key}
use Rattle.acq_message.specs.Reply.{answered_reply}
use Rattle.acq_core.specs.declared.arrival.Arrival.{Arrival}
use Rattle.acq_core.specs.declared.request.Request.{Request}
use Rattle.acq_core.specs.Changes.{admitted_row, answered_hold_end, answered_status, change_of}
use Rattle.acq_core.specs.Changes.{completion_row, reconciliation_row, refused_row}
use Rattle.acq_core.specs.Changes.{remains_of, remains_of_hold, reversal_row}
use Rattle.acq_core.specs.Pasts.{HasPast}
use Rattle.acq_core.specs.Tables.{Tables, after_any, answered_row, followed_row, known_in}
use Rattle.acq_core.specs.Tables.{new_tables, prior_of, requests_of, step_tables, with_changed}
use Rattle.acq_soundness.proofs.Keys.{bytes_eq_is}
use Rattle.acq_soundness.proofs.Members.{In, In-filtered}
use Rattle.acq_soundness.proofs.Runs.{kept}
use Rattle.acq_soundness.proofs.StepCases.{by_step, next_reference}
use Rattle.acq_inquiry.specs.declared.inquiry.Inquiry.{Inquiry}
use Rattle.acq_inquiry.specs.Inquiries.{found_at, is_asked, is_found, is_one_of, reference_if}
use Rattle.acq_inquiry.specs.Inquiries.{references_of, related_by}
use Rattle.acq_inquiry.proofs.Kept.{AreAmong}

-- ---- no request both has a reference and follows one

abbrev IsSingle : Request → Type 0
IsSingle row = (row.reference ≡ None) ⊎ (row.follows ≡ None)

abbrev AreSingle : List Request → Type 0
AreSingle rows = AllByRecursion IsSingle rows

single_push : (rows : List Request) (row : Request) → AreSingle rows → IsSingle row →
    AreSingle (rows ++ row ∷ [])
single_push [] row all one = (one, tt)
single_push (x ∷ rows) row all one = (all.0, single_push rows row all.1 one)

-- what becomes of a row whose references stay
module _ (key : RequestKey) (changed : Request → Request)
    (reference : (x : Request) → (changed x).reference ≡ x.reference)
    (follows : (x : Request) → (changed x).follows ≡ x.follows) where
  single_one : (x : Request) → (b : Bool) → IsSingle x → IsSingle (cond b (changed x) x)
  single_one x true (inl none) = inl (reference x ∙ none)
  single_one x true (inr none) = inr (follows x ∙ none)
  single_one x false single = single

  single_changed : (xs : List Request) → AreSingle xs → AreSingle (with_changed key changed xs)
  single_changed [] all = tt
  single_changed (x ∷ xs) all =
      (single_one x (same_key x.key key) all.0, single_changed xs all.1)

after_step : (t : Tables) (a : Arrival) → AreSingle t.requests →
    AreSingle (step_tables t a).requests
after_step t a all =
    let rows = t.requests in
    let today = (known_in t a).today in
    by_step t a (λ d. AreSingle (after_any t (change_of (known_in t a) d)).requests)
    (record {
      reported = λ o is. all;
      malformed = λ r came. all;
      replied = λ r came given is. all;
      repeated = λ row member. all;
      refused = λ r merchant g given is.
          single_push rows (refused_row today r given) all (inl refl);
      admitted = λ r merchant g range is.
          single_push rows (admitted_row today r range (next_reference t r merchant)) all
          (inr refl);
      completed = λ r merchant g hold is.
          let changed = followed_row (remains_of_hold (prior_of hold)) in
          single_push (with_changed hold.key changed rows) (completion_row today r (prior_of hold))
          (single_changed hold.key changed (λ x. refl) (λ x. refl) rows all) (inl refl);
      reversed = λ r merchant g original is.
          let changed = followed_row (remains_of (prior_of original) (remaining_in r.message)) in
          single_push (with_changed original.key changed rows)
          (reversal_row today r (prior_of original))
          (single_changed original.key changed (λ x. refl) (λ x. refl) rows all) (inl refl);
      reconciled = λ r merchant g day is.
          single_push rows (reconciliation_row (known_in t a) r day) all (inl refl);
      answered = λ moment v row is.
          single_changed row.key
          (answered_row (answered_status v) (answered_reply row.reply v)
          (answered_hold_end row.key.service moment v row.hold_days))
          (λ x. refl) (λ x. refl) rows all;
      cut_over = λ came before. all;
      range_added = λ range came valid free. all;
      range_dropped = λ low high came. all;
      enrolled = λ merchant came new. all;
      terminal_added = λ terminal came new. all;
    })

single_by_past : (t : Tables) → HasPast t → AreSingle t.requests
single_by_past t (opening, book) =
    subst (λ (s : Tables). AreSingle s.requests) (sym book.after)
    (kept (λ (s : Tables). AreSingle s.requests) after_step (new_tables opening) book.events tt)

single_in : (row : Request) (rows : List Request) → In row rows → AreSingle rows → IsSingle row
single_in row (x ∷ rows) (inl is) all = subst IsSingle is all.0
single_in row (x ∷ rows) (inr member) all = single_in row rows member all.1
single_in row [] member all = absurd member

-- ---- one that is asked for

abbrev Has : List ℕ → ℕ → Type 0
Has references n = list_any (λ other. other == n) references ≡ true

has_itself : (n : ℕ) → (n == n) ≡ true
has_itself n = grind (arith, nat_tests)

has_first : (n : ℕ) (xs ys : List ℕ) → Has xs n → Has (xs ++ ys) n
has_first n [] ys has = absurd (true≢false (sym has))
has_first n (x ∷ xs) ys has = go (has_first n xs ys) (x == n) has
  where
    go : (Has xs n → Has (xs ++ ys) n) → (b : Bool) →
        (b || list_any (λ other. other == n) xs) ≡ true →
        (b || list_any (λ other. other == n) (xs ++ ys)) ≡ true
    go rest true h = refl
    go rest false h = rest h

has_second : (n : ℕ) (xs ys : List ℕ) → Has ys n → Has (xs ++ ys) n
has_second n [] ys has = has
has_second n (x ∷ xs) ys has = go (has_second n xs ys has) (x == n)
  where
    go : Has (xs ++ ys) n → (b : Bool) →
        (b || list_any (λ other. other == n) (xs ++ ys)) ≡ true
    go rest true = refl
    go rest false = rest

has_of : (n : ℕ) (o : Option ℕ) → o ≡ Some n → Has (reference_if o) n
has_of n o is =
    subst (λ p. Has (reference_if p) n) (sym is) (ap (λ b. b || false) (has_itself n))

module _ (inquiry : Inquiry) (n : ℕ) (row : Request) (asked : is_asked inquiry row ≡ true)
    (has : Has (references_of row) n) where
  related : (rows : List Request) → In row rows → Has (related_by inquiry rows) n
  related [] member = absurd member
  related (x ∷ rows) member = go (related rows) (is_asked inquiry x) refl member
    where
      rest : List ℕ
      rest = related_by inquiry rows

      asked_rows : List Request
      asked_rows = filter (is_asked inquiry) rows

      go : (In row rows → Has rest n) → (b : Bool) → is_asked inquiry x ≡ b →
          In row (x ∷ rows) →
          Has (flat_map references_of (cond b (x ∷ asked_rows) asked_rows)) n
      go later true is (inl same) =
          has_first n (references_of x) rest
          (subst (λ (r : Request). Has (references_of r) n) (sym same) has)
      go later true is (inr other) = has_second n (references_of x) rest (later other)
      go later false is (inl same) =
          absurd (true≢false (sym (ap (is_asked inquiry) same ∙ asked) ∙ is))
      go later false is (inr other) = later other

if_some : (references : List ℕ) (o : Option ℕ) → ((n : ℕ) → o ≡ Some n → Has references n) →
    IfSome o (λ n. Has references n)
if_some references None has = tt
if_some references (Some n) has = has n refl

-- ---- one that is found

by_one : (references : List ℕ) (own followed : Option ℕ) → (own ≡ None) ⊎ (followed ≡ None) →
    (is_one_of references own || is_one_of references followed) ≡ true →
    IfSome own (λ n. Has references n) × IfSome followed (λ n. Has references n)
by_one references None None single is = absurd (true≢false (sym is))
by_one references (Some n) None single is =
    (only (list_any (λ other. other == n) references) is, tt)
  where
    only : (b : Bool) → (b || false) ≡ true → b ≡ true
    only true h = refl
    only false h = h
by_one references None (Some n) single is = (tt, is)
by_one references (Some n) (Some m) (inl none) is = absurd (cc)
by_one references (Some n) (Some m) (inr none) is = absurd (cc)

found_among : (inquiry : Inquiry) (rows : List Request) (row : Request) → In row rows →
    is_found inquiry (related_by inquiry rows) row ≡ true → IsSingle row →
    AreAmong (related_by inquiry rows) row
found_among inquiry rows row member found single = go (is_asked inquiry row) refl found
  where
    references : List ℕ
    references = related_by inquiry rows

    go : (b : Bool) → is_asked inquiry row ≡ b →
        ((b || is_one_of references row.reference) || is_one_of references row.follows) ≡ true →
        AreAmong references row
    go true asked is = (
      if_some references row.reference (λ n own.
          related inquiry n row asked
          (has_first n (reference_if row.reference) (reference_if row.follows)
          (has_of n row.reference own)) rows member),
      if_some references row.follows (λ n followed.
          related inquiry n row asked
          (has_second n (reference_if row.reference) (reference_if row.follows)
          (has_of n row.follows followed)) rows member),
    )
    go false asked is = by_one references row.reference row.follows single is

-- those that an inquiry finds are the merchant's, and their references are among these
pub all_among : (t : Tables) → HasPast t → (merchant : List ℕ) (inquiry : Inquiry) (row : Request) →
    In row (found_at t merchant inquiry) →
    (row.key.merchant ≡ merchant)
    × AreAmong (related_by inquiry (requests_of merchant t.requests)) row
all_among t past merchant inquiry row member =
    let rows = requests_of merchant t.requests in
    let found = In-filtered (is_found inquiry (related_by inquiry rows)) row rows member in
    let own = In-filtered (λ one. bytes_eq one.key.merchant merchant) row t.requests found.0 in (
      bytes_eq_is row.key.merchant merchant own.1,
      found_among inquiry rows row found.0 found.1
          (single_in row t.requests own.0 (single_by_past t past)),
    )
