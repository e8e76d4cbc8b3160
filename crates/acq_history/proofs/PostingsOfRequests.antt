-- Postings and the requests that they are of: what one more posting keeps.
use Rattle.std.proofs.Common.{◌≡◌, ℕ, ◌+◌, ◌<◌, ◌≤◌, List, [], ◌∷◌, ◌++◌, Option, Some, None, Bool}
use Rattle.std.proofs.Common.{true, false, cond, ◌⊎◌, inl, inr, refl, sym, ap, ◌∙◌, subst, arith}
use Rattle.std.specs.Prelude.{◌&&◌, ◌==◌, not}
use Rattle.std.specs.Str.{bytes_eq}
use Rattle.acq_message.specs.declared.service.Service.{Service}
use Rattle.acq_message.specs.declared.service.Service.TheVariants.{Financial, Completion}
use Rattle.acq_core.specs.declared.request.Request.{Request}
use Rattle.acq_core.specs.declared.status.Status.{Status}
use Rattle.acq_core.specs.declared.status.Status.TheVariants.{Approved, Reversed}
use Rattle.acq_core.specs.declared.posting.Posting.{Posting}
use Rattle.acq_message.specs.Elements.{or_empty}
use Rattle.acq_core.specs.Changes.{reversal_leg}
use Rattle.acq_core.specs.Tables.{count, with_next_posting}
use Rattle.acq_history.specs.Conservation.{is_reversal_leg, is_posting, IsEarlier, IsOriginalOf}
use Rattle.acq_soundness.proofs.Members.{In, In-first, In-last, In-push}
use Rattle.acq_soundness.proofs.Keys.{bytes_eq_is, bytes_eq_itself, eqb_is, eqb_itself}
use Rattle.std.proofs.lemmas.Bool.{and_parts}

-- ---- what a request has posted

-- it posted, if it has a leg
abbrev pub is_posted : Status → Bool
is_posted Approved = true
is_posted Reversed = true
is_posted status = false

-- and its reversal posted as well
abbrev pub is_reversed : Status → Bool
is_reversed Reversed = true
is_reversed status = false

-- the reference under which it posted
abbrev pub posted_by : Service → Request → Option ℕ
posted_by Financial row = cond (is_posted row.status) row.reference None
posted_by Completion row = row.follows
posted_by service row = None

-- by its own service
abbrev pub posted : Request → Option ℕ
posted row = posted_by row.key.service row

-- the reference under which its reversal posted
abbrev pub reversed_under : Request → Option ℕ
reversed_under row = cond (is_reversed row.status) (posted row) None

-- the posting that a request made under a reference
pub record IsPostingOf (p : Posting) (row : Request) (n : ℕ) : Type 0 where
  pub merchant : p.merchant ≡ row.key.merchant
  pub reference : p.reference ≡ n
  pub leg : p.leg ≡ row.leg
  pub amount : p.amount ≡ row.amount
  pub card : p.card ≡ or_empty row.card
  pub day : p.day ≡ row.day

-- either of the two
abbrev pub under_by : Bool → Request → Option ℕ
under_by false row = posted row
under_by true row = reversed_under row

-- a merchant's request that has posted under this reference, or whose reversal has
pub record HasPosted (reversal : Bool) (rows : List Request) (m : List ℕ) (n : ℕ) : Type 0 where
  pub row : Request
  pub member : In row rows
  pub merchant : row.key.merchant ≡ m
  pub under : under_by reversal row ≡ Some n

-- the posting of a request stands
pub record HasPosting (ps : List (ℕ × Posting)) (row : Request) (n : ℕ) : Type 0 where
  pub posting : ℕ × Posting
  pub member : In posting ps
  pub of : IsPostingOf posting.1 row n

-- the original of a reversal's posting stands
pub record HasOriginal (ps : List (ℕ × Posting)) (b : ℕ × Posting) : Type 0 where
  pub original : ℕ × Posting
  pub member : In original ps
  pub of : IsOriginalOf original b

-- the postings of a merchant and day
abbrev pub is_beside : Posting → ℕ × Posting → Bool
is_beside p row = bytes_eq row.1.merchant p.merchant && (row.1.day == p.day)

-- postings and the rows that they are of: each has its row, each row that posted its posting, no
-- two are alike
pub record PostingsMatchRows (rows : List Request) (ps : List (ℕ × Posting)) : Type 0 where
  pub made : (x : ℕ × Posting) → In x ps →
      HasPosted (is_reversal_leg x.1.leg) rows x.1.merchant x.1.reference
  pub there : (row : Request) (n : ℕ) → In row rows → posted row ≡ Some n → HasPosting ps row n
  pub at_most_one : (m : List ℕ) (n : ℕ) (reversal : Bool) → count (is_posting m n reversal) ps ≤ 1
  pub matched : (x : ℕ × Posting) → In x ps → is_reversal_leg x.1.leg ≡ true → HasOriginal ps x
  pub numbers : (x : ℕ × Posting) → In x ps → x.0 ≤ count (is_beside x.1) ps

-- ---- what becomes of the rows

-- what had posted or reversed stays so
pub record Grows (rows later : List Request) : Type 0 where
  pub stays : (reversal : Bool) (m : List ℕ) (n : ℕ) → HasPosted reversal rows m n →
      HasPosted reversal later m n

-- what has posted had posted before
abbrev pub FromBefore : List Request → List (ℕ × Posting) → List Request → Type 0
FromBefore rows ps later = (row : Request) (n : ℕ) → In row later → posted row ≡ Some n →
    HasPosting ps row n

-- rows that change and post nothing
pub unposted : {rows later : List Request} {ps : List (ℕ × Posting)} → PostingsMatchRows rows ps →
    Grows rows later → FromBefore rows ps later → PostingsMatchRows later ps
unposted b g from = record {
  made = λ x i. g.stays _ _ _ (b.made x i);
  there = from;
  at_most_one = b.at_most_one;
  matched = b.matched;
  numbers = b.numbers;
}

-- ---- one more posting

-- a count with one more
count-push_sum : {X : Type 0} (p : X → Bool) (xs : List X) (y : X) →
    count p (xs ++ y ∷ []) ≡ count p xs + cond (p y) 1 0
count-push_sum p [] y =
    elim (p y) as (λ b. cond b (1 + 0) 0 ≡ 0 + cond b 1 0) [ true ↦ refl | false ↦ refl ]
count-push_sum p (x ∷ xs) y =
    let rest = count-push_sum p xs y in
    elim (p x) as (λ b. cond b (1 + count p (xs ++ y ∷ [])) (count p (xs ++ y ∷ []))
    ≡ cond b (1 + count p xs) (count p xs) + cond (p y) 1 0) [
      | true ↦ omega arith
      | false ↦ rest
    ]

count-push_in : {X : Type 0} (p : X → Bool) (xs : List X) (y : X) → p y ≡ true →
    count p (xs ++ y ∷ []) ≡ count p xs + 1
count-push_in p xs y e = count-push_sum p xs y ∙ ap (λ b. count p xs + cond b 1 0) e

count-none : {X : Type 0} (p : X → Bool) (xs : List X) → ((x : X) → In x xs → p x ≡ true → ⊥) →
    count p xs ≡ 0
count-none p [] h = refl
count-none {X} p (x ∷ xs) h = step (count-none p xs (λ y i e. h y (inr i) e)) (p x) refl
  where
    step : count p xs ≡ 0 → (b : Bool) → p x ≡ b → cond b (1 + count p xs) (count p xs) ≡ 0
    step rest true e = absurd (h x (inl refl) e)
    step rest false e = rest

-- one more, where there was none
one_at_most : {X : Type 0} (p : X → Bool) (xs : List X) (y : X) → count p xs ≤ 1 →
    (p y ≡ true → (x : X) → In x xs → p x ≡ true → ⊥) → count p (xs ++ y ∷ []) ≤ 1
one_at_most {X} p xs y most none = step (p y) refl (count-push_sum p xs y)
  where
    step : (b : Bool) → p y ≡ b → count p (xs ++ y ∷ []) ≡ count p xs + cond b 1 0 →
        count p (xs ++ y ∷ []) ≤ 1
    step true e c = let zeros = count-none p xs (none e) in omega arith
    step false e c = omega arith

count-grows : {X : Type 0} (p : X → Bool) (xs : List X) (y : X) →
    count p xs ≤ count p (xs ++ y ∷ [])
count-grows p xs y = let e = count-push_sum p xs y in omega arith

-- what a test for postings says
pub record SaysPosting (m : List ℕ) (n : ℕ) (reversal : Bool) (x : ℕ × Posting) : Type 0 where
  pub merchant : x.1.merchant ≡ m
  pub reference : x.1.reference ≡ n
  pub leg : is_reversal_leg x.1.leg ≡ reversal

pub says_posting : (m : List ℕ) (n : ℕ) (reversal : Bool) (x : ℕ × Posting) →
    is_posting m n reversal x ≡ true → SaysPosting m n reversal x
says_posting m n reversal x h =
    let parts = and_parts (bytes_eq x.1.merchant m && (x.1.reference == n)) _ h in
    let front = and_parts (bytes_eq x.1.merchant m) (x.1.reference == n) parts.0 in
    record {
      merchant = bytes_eq_is x.1.merchant m front.0;
      reference = eqb_is x.1.reference n front.1;
      leg = reversal_is reversal (is_reversal_leg x.1.leg) parts.1;
    }
  where
    reversal_is : (a b : Bool) → cond a b (not b) ≡ true → b ≡ a
    reversal_is true b e = e
    reversal_is false true e = absurd (cc)
    reversal_is false false e = refl

-- postings of one merchant and day stand beside the same
beside_same : (a b : Posting) → a.merchant ≡ b.merchant → a.day ≡ b.day →
    (ps : List (ℕ × Posting)) → count (is_beside a) ps ≡ count (is_beside b) ps
beside_same a b e f ps = λ i. count (λ row. bytes_eq row.1.merchant (e i) && (row.1.day == f i)) ps

beside_itself : (n : ℕ) (p : Posting) → is_beside p (n, p) ≡ true
beside_itself n p =
    ap (λ b. b && (p.day == p.day)) (bytes_eq_itself p.merchant) ∙ eqb_itself p.day

-- what a reversal's posting reverses
pub record Reverses (ps : List (ℕ × Posting)) (p : Posting) : Type 0 where
  pub original : ℕ × Posting
  pub member : In original ps
  pub merchant : original.1.merchant ≡ p.merchant
  pub reference : original.1.reference ≡ p.reference
  pub leg : reversal_leg original.1.leg ≡ p.leg
  pub amount : p.amount ≤ original.1.amount
  pub card : original.1.card ≡ p.card
  pub day : original.1.day ≤ p.day

-- the grounds of a posting: it is the first under its reference, of originals or of reversals, and
-- what a reversal reverses stands
pub record IsFirst (rows later : List Request) (ps : List (ℕ × Posting)) (p : Posting) : Type 0
  where
    pub reversal : Bool
    pub leg : is_reversal_leg p.leg ≡ reversal
    pub first : HasPosted reversal rows p.merchant p.reference → ⊥
    pub made : HasPosted reversal later p.merchant p.reference
    pub reverses : reversal ≡ true → Reverses ps p

-- the number that a posting gets
abbrev pub numbered_posting : List (ℕ × Posting) → Posting → ℕ × Posting
numbered_posting ps p = (count (is_beside p) ps + 1, p)

-- numbers of the merchant and day stay below their count
numbers_push : (rows : List Request) (ps : List (ℕ × Posting)) (p : Posting) →
    PostingsMatchRows rows ps → (x : ℕ × Posting) → In x (with_next_posting ps (Some p)) →
    x.0 ≤ count (is_beside x.1) (with_next_posting ps (Some p))
numbers_push rows ps p b x i = elim (In-push x ps (numbered_posting ps p) i) [
  | inl old ↦
      let low = b.numbers x old in let grows =
      count-grows (is_beside x.1) ps (numbered_posting ps p) in omega arith
  | inr e ↦ subst (λ y. y.0 ≤ count (is_beside y.1) (with_next_posting ps (Some p))) e newest
]
  where
    newest : count (is_beside p) ps + 1 ≤ count (is_beside p) (ps ++ numbered_posting ps p ∷ [])
    newest =
        let pushed =
        count-push_in (is_beside p) ps (numbered_posting ps p)
        (beside_itself (count (is_beside p) ps + 1) p) in
        omega arith

HasOriginal-push : (ps : List (ℕ × Posting)) (x y : ℕ × Posting) → HasOriginal ps x →
    HasOriginal (ps ++ y ∷ []) x
HasOriginal-push ps x y h =
    record { original = h.original; member = In-first h.original ps _ h.member; of = h.of }

HasPosting-push : (ps : List (ℕ × Posting)) (row : Request) (n : ℕ) (y : ℕ × Posting) →
    HasPosting ps row n → HasPosting (ps ++ y ∷ []) row n
HasPosting-push ps row n y h =
    record { posting = h.posting; member = In-first h.posting ps _ h.member; of = h.of }

-- what has posted had posted before, or has just posted this
abbrev pub FromBeforeOr : List (ℕ × Posting) → Posting → List Request → Type 0
FromBeforeOr ps p later =
    (row : Request) (n : ℕ) → In row later → posted row ≡ Some n →
    HasPosting ps row n ⊎ IsPostingOf p row n

-- each row that posted has its posting, also the newest
there_push : (ps : List (ℕ × Posting)) (p : Posting) (later : List Request) →
    FromBeforeOr ps p later → (row : Request) (n : ℕ) → In row later → posted row ≡ Some n →
    HasPosting (with_next_posting ps (Some p)) row n
there_push ps p later from row n i e = elim (from row n i e) [
  | inl old ↦ HasPosting-push ps row n _ old
  | inr new ↦ record {
    posting = numbered_posting ps p;
    member = In-last (numbered_posting ps p) ps;
    of = new;
  }
]

-- one more posting
pub posted_next : {rows later : List Request} {ps : List (ℕ × Posting)} {p : Posting} →
    PostingsMatchRows rows ps →
    Grows rows later → FromBeforeOr ps p later → IsFirst rows later ps p →
    PostingsMatchRows later (with_next_posting ps (Some p))
posted_next {rows} {later} {ps} {p} b g from f = record {
  made = λ x i. elim (In-push x ps y i) [
    | inl old ↦ g.stays _ _ _ (b.made x old)
    | inr e ↦
        subst (λ z. HasPosted (is_reversal_leg z.1.leg) later z.1.merchant z.1.reference) e
        (subst (λ r. HasPosted r later p.merchant p.reference) (sym f.leg) f.made)
  ];
  there = there_push ps p later from;
  at_most_one =
      λ m n reversal.
      one_at_most (is_posting m n reversal) ps y (b.at_most_one m n reversal)
      (λ q x i h. none m n reversal (says_posting m n reversal y q) x i
      (says_posting m n reversal x h));
  matched = λ x i l. elim (In-push x ps y i) [
    | inl old ↦ HasOriginal-push ps x y (b.matched x old l)
    | inr e ↦
        subst (HasOriginal (with_next_posting ps (Some p))) e
        (reversing (f.reverses (sym f.leg ∙ (ap (λ z. is_reversal_leg z.1.leg) e ∙ l))))
  ];
  numbers = numbers_push rows ps p b;
}
  where
    y : ℕ × Posting
    y = numbered_posting ps p

    none : (m : List ℕ) (n : ℕ) (reversal : Bool) →
        SaysPosting m n reversal (numbered_posting ps p) →
        (x : ℕ × Posting) → In x ps → SaysPosting m n reversal x → ⊥
    none m n reversal new x i s =
        let old = b.made x i in
        f.first (record {
          row = old.row;
          member = old.member;
          merchant = old.merchant ∙ (s.merchant ∙ sym new.merchant);
          under =
              sym (ap (λ r. under_by r old.row) (s.leg ∙ (sym new.leg ∙ f.leg)))
              ∙ (old.under ∙ ap (λ k. Some k) (s.reference ∙ sym new.reference));
        })

    before_or_on : (a c : ℕ) → a ≤ c → (a < c) ⊎ (a ≡ c)
    before_or_on a c h = grind arith

    earlier : (r : Reverses ps p) → IsEarlier r.original (numbered_posting ps p)
    earlier r = elim (before_or_on r.original.1.day p.day r.day) [
      | inl less ↦ inl less
      | inr same ↦
          let low = b.numbers r.original r.member in
          let counted = beside_same r.original.1 p r.merchant same ps in
          inr (same, omega arith)
    ]

    reversing : Reverses ps p → HasOriginal (with_next_posting ps (Some p)) (numbered_posting ps p)
    reversing r = record {
      original = r.original;
      member = In-first r.original ps _ r.member;
      of =
          record {
            earlier = earlier r;
            merchant = r.merchant;
            reference = r.reference;
            leg = r.leg;
            amount = r.amount;
            card = r.card;
          };
    }
