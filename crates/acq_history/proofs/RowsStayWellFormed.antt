-- What stays true of the rows of requests.
use Rattle.std.proofs.Common.{◌≡◌, ℕ, ◌+◌, ◌<◌, ◌≤◌, List, [], ◌∷◌, ◌++◌, Some, Bool, true, false}
use Rattle.std.proofs.Common.{cond, ◌⊎◌, inl, inr, refl, sym, ap, ◌∙◌, subst, arith}
use Rattle.std.specs.Prelude.{is_some, map}
use Rattle.std.specs.Option.{option_or}
use Rattle.std.specs.Str.{bytes_eq}
use Rattle.std.proofs.lemmas.List.Folds.{find-append}
use Rattle.acq_message.specs.declared.service.Service.TheVariants.{Authorization, Completion}
use Rattle.acq_core.specs.declared.request.Request.{Request}
use Rattle.acq_core.specs.declared.merchant.Merchant.{Merchant}
use Rattle.acq_core.specs.declared.status.Status.TheVariants.{Completed}
use Rattle.acq_message.specs.Elements.{same_key}
use Rattle.acq_core.specs.Tables.{requests_of, admitted_in, with_changed}
use Rattle.acq_soundness.specs.Requests.{is_admissible, is_reversal}
use Rattle.acq_history.specs.Conservation.{is_reversal_leg}
use Rattle.acq_soundness.proofs.Members.{In, In-first, In-push, In-map, In-mapped}
use Rattle.acq_soundness.proofs.Keys.{bytes_eq_itself, same_key_is, same_key_itself}
use Rattle.acq_soundness.proofs.Lookups.{some_is, count-view, count-same}
use Rattle.acq_soundness.proofs.RowsWithChanges.{changing, changing_kept, Edits, IsChange}
use Rattle.acq_soundness.proofs.RowsWithChanges.{requests_of-changed, Other, Made, changed_is}
use Rattle.acq_soundness.proofs.Runs.{kept}
use Rattle.acq_soundness.proofs.FoundRows.{merchant_among}

-- how many of a merchant's requests were admitted
abbrev pub admitted_by : List ℕ → List Request → ℕ
admitted_by m rows = admitted_in (requests_of m rows)

-- a reference is one of those that its merchant has given
pub record IsGiven (merchants : List Merchant) (rows : List Request) (m : List ℕ)
    (n : ℕ) : Type 0 where
  pub merchant : Merchant
  pub enrolled : merchant_among merchants m ≡ Some merchant
  pub below : n < merchant.first_reference + admitted_by m rows

-- the completed hold with a reference
pub record IsHeld (rows : List Request) (m : List ℕ) (n : ℕ) : Type 0 where
  pub hold : Request
  pub member : In hold rows
  pub merchant : hold.key.merchant ≡ m
  pub service : hold.key.service ≡ Authorization
  pub reference : hold.reference ≡ Some n
  pub completed : hold.status ≡ Completed

-- a completion of the hold with a reference
pub record IsCompleting (row : Request) (m : List ℕ) (n : ℕ) : Type 0 where
  pub merchant : row.key.merchant ≡ m
  pub service : row.key.service ≡ Completion
  pub follows : row.follows ≡ Some n

-- what holds of the rows: keys and references are unique, and what they name is there
pub record IsWellFormed (day : ℕ) (merchants : List Merchant) (rows : List Request) : Type 0 where
  pub keys : (a b : Request) → In a rows → In b rows → a.key ≡ b.key → a ≡ b
  pub references : (a b : Request) (n : ℕ) → In a rows → In b rows →
      a.key.merchant ≡ b.key.merchant → a.reference ≡ Some n → b.reference ≡ Some n → a ≡ b
  pub given : (a : Request) (n : ℕ) → In a rows → a.reference ≡ Some n →
      IsGiven merchants rows a.key.merchant n
  pub admissible : (a : Request) (n : ℕ) → In a rows → a.reference ≡ Some n →
      is_admissible a.key.service ≡ true
  pub held : (a : Request) (n : ℕ) → In a rows → IsCompleting a a.key.merchant n →
      IsHeld rows a.key.merchant n
  pub one_completion : (a b : Request) (n : ℕ) → In a rows → In b rows →
      IsCompleting a a.key.merchant n → IsCompleting b a.key.merchant n → a ≡ b
  pub legs : (a : Request) → In a rows → is_reversal a.key.service ≡ false →
      is_reversal_leg a.leg ≡ false
  pub days : (a : Request) → In a rows → a.day ≤ day

-- ---- a day later, a merchant more

-- on a later day
pub well_formed_later : {day later : ℕ} {merchants : List Merchant} {rows : List Request} →
    day ≤ later → IsWellFormed day merchants rows → IsWellFormed later merchants rows
well_formed_later le k = record {
  keys = k.keys;
  references = k.references;
  given = k.given;
  admissible = k.admissible;
  held = k.held;
  one_completion = k.one_completion;
  legs = k.legs;
  days = λ a i. let on = k.days a i in omega arith;
}

-- with one merchant more
pub well_formed_with_merchant : {day : ℕ} {merchants : List Merchant} (merchant : Merchant)
    {rows : List Request} →
    IsWellFormed day merchants rows → IsWellFormed day (merchants ++ merchant ∷ []) rows
well_formed_with_merchant {merchants = merchants} merchant {rows} k = record {
  keys = k.keys;
  references = k.references;
  given = λ a n i e. more a.key.merchant n (k.given a n i e);
  admissible = k.admissible;
  held = k.held;
  one_completion = k.one_completion;
  legs = k.legs;
  days = k.days;
}
  where
    more : (m : List ℕ) (n : ℕ) → IsGiven merchants rows m n →
        IsGiven (merchants ++ merchant ∷ []) rows m n
    more m n g = record {
      merchant = g.merchant;
      enrolled =
          find-append (λ row. bytes_eq row.id m) merchants (merchant ∷ [])
          ∙ ap (λ o. option_or o (merchant_among (merchant ∷ []) m)) g.enrolled;
      below = g.below;
    }

-- ---- a row more

-- the admitted are counted apart
admitted_by-push : (m : List ℕ) (rows : List Request) (row : Request) →
    admitted_by m (rows ++ row ∷ []) ≡ admitted_by m rows + admitted_by m (row ∷ [])
admitted_by-push m [] row =
    elim (bytes_eq row.key.merchant m) as (λ b. admitted_in (cond b (row ∷ []) [])
    ≡ 0 + admitted_in (cond b (row ∷ []) [])) [ true ↦ omega arith | false ↦ refl ]
admitted_by-push m (x ∷ xs) row =
    let rest = admitted_by-push m xs row in
    elim (bytes_eq x.key.merchant m) as (λ b.
    admitted_in (cond b (x ∷ requests_of m (xs ++ row ∷ [])) (requests_of m (xs ++ row ∷ [])))
    ≡ admitted_in (cond b (x ∷ requests_of m xs) (requests_of m xs)) + admitted_by m (row ∷ [])) [
      | true ↦
          elim (is_some x.reference) as (λ b.
          cond b (1 + admitted_by m (xs ++ row ∷ [])) (admitted_by m (xs ++ row ∷ []))
          ≡ cond b (1 + admitted_by m xs) (admitted_by m xs) + admitted_by m (row ∷ [])) [
            | true ↦ omega arith
            | false ↦ rest
          ]
      | false ↦ rest
    ]

admitted_one : (row : Request) (n : ℕ) → row.reference ≡ Some n →
    admitted_by row.key.merchant (row ∷ []) ≡ 1
admitted_one row n e =
    ap (λ b. admitted_in (cond b (row ∷ []) [])) (bytes_eq_itself row.key.merchant)
    ∙ ap (λ o. cond (is_some o) (1 + 0) 0) e

-- a given reference stays given
IsGiven-push : (merchants : List Merchant) (rows : List Request) (row : Request) (m : List ℕ)
    (n : ℕ) → IsGiven merchants rows m n → IsGiven merchants (rows ++ row ∷ []) m n
IsGiven-push merchants rows row m n g = record {
  merchant = g.merchant;
  enrolled = g.enrolled;
  below = let below = g.below in let more = admitted_by-push m rows row in omega arith;
}

-- a completed hold stays
IsHeld-push : (rows : List Request) (row : Request) (m : List ℕ) (n : ℕ) → IsHeld rows m n →
    IsHeld (rows ++ row ∷ []) m n
IsHeld-push rows row m n h = record {
  hold = h.hold;
  member = In-first h.hold rows _ h.member;
  merchant = h.merchant;
  service = h.service;
  reference = h.reference;
  completed = h.completed;
}

-- the reference that a merchant gives next
pub record IsNext (merchants : List Merchant) (rows : List Request) (m : List ℕ)
    (n : ℕ) : Type 0 where
  pub merchant : Merchant
  pub enrolled : merchant_among merchants m ≡ Some merchant
  pub next : n ≡ merchant.first_reference + admitted_by m rows

-- a row that may be added
pub record IsFit (day : ℕ) (merchants : List Merchant) (rows : List Request)
    (row : Request) : Type 0 where
  pub new : (a : Request) → In a rows → a.key ≡ row.key → ⊥
  pub next : (n : ℕ) → row.reference ≡ Some n → IsNext merchants rows row.key.merchant n
  pub admissible : (n : ℕ) → row.reference ≡ Some n → is_admissible row.key.service ≡ true
  pub held : (n : ℕ) → IsCompleting row row.key.merchant n → IsHeld rows row.key.merchant n
  pub only : (a : Request) (n : ℕ) → In a rows → IsCompleting row row.key.merchant n →
      IsCompleting a row.key.merchant n → ⊥
  pub leg : is_reversal row.key.service ≡ false → is_reversal_leg row.leg ≡ false
  pub dated : row.day ≤ day

-- no request has the reference that comes next
not_next : (merchants : List Merchant) (rows : List Request) (m : List ℕ) (n : ℕ) →
    IsGiven merchants rows m n → IsNext merchants rows m n → ⊥
not_next merchants rows m n g x =
    let same : g.merchant ≡ x.merchant = some_is _ _ (sym g.enrolled ∙ x.enrolled) in
    let firsts : g.merchant.first_reference ≡ x.merchant.first_reference =
    ap (λ y. y.first_reference) same in
    let below = g.below in
    let next = x.next in
    omega arith

-- where none of the rows is like the one more, and no two of them alike are two, so it is with it
one_of_more : (rows : List Request) (row : Request) (alike : Request → Request → Type 0) →
    ((a b : Request) → In a rows → In b rows → alike a b → a ≡ b) →
    ((a : Request) → In a rows → alike a row → ⊥) → ((a : Request) → In a rows → alike row a → ⊥) →
    (a b : Request) → In a (rows ++ row ∷ []) → In b (rows ++ row ∷ []) → alike a b → a ≡ b
one_of_more rows row alike old before after a b i j e = elim (In-push a rows row i) [
  | inl x ↦ elim (In-push b rows row j) [
    | inl y ↦ old a b x y e
    | inr y ↦ absurd (before a x (subst (alike a) (sym y) e))
  ]
  | inr x ↦ elim (In-push b rows row j) [
    | inl y ↦ absurd (after b y (subst (λ z. alike z b) (sym x) e))
    | inr y ↦ sym x ∙ y
  ]
]

-- with a row more that fits
pub well_formed_with_row : {day : ℕ} {merchants : List Merchant} {rows : List Request}
    {row : Request} → IsWellFormed day merchants rows → IsFit day merchants rows row →
    IsWellFormed day merchants (rows ++ row ∷ [])
well_formed_with_row {day} {merchants} {rows} {row} k f = record {
  keys = one_of_more rows row (λ a b. a.key ≡ b.key) k.keys f.new (λ a i e. f.new a i (sym e));
  references = λ a b n i j m e g.
      one_of_more rows row
      (λ x y. (x.key.merchant ≡ y.key.merchant) × (x.reference ≡ Some n) × (y.reference ≡ Some n))
      (λ x y p q s. k.references x y n p q s.0 s.1 s.2) (λ x p s. fresh x n p s.1 s.0 s.2)
      (λ x p s. fresh x n p s.2 (sym s.0) s.1) a b i j (m, e, g);
  given = λ a n i e. elim (In-push a rows row i) [
    | inl old ↦ IsGiven-push merchants rows row a.key.merchant n (k.given a n old e)
    | inr new ↦
        subst (λ x. IsGiven merchants (rows ++ row ∷ []) x.key.merchant n) new
        (just_given n (ap (λ x. x.reference) new ∙ e))
  ];
  admissible = λ a n i e. elim (In-push a rows row i) [
    | inl old ↦ k.admissible a n old e
    | inr new ↦ subst (λ x. is_admissible x.key.service ≡ true) new
        (f.admissible n (ap (λ x. x.reference) new ∙ e))
  ];
  held = λ a n i c. elim (In-push a rows row i) [
    | inl old ↦ IsHeld-push rows row a.key.merchant n (k.held a n old c)
    | inr new ↦
        subst (λ x. IsHeld (rows ++ row ∷ []) x.key.merchant n) new
        (IsHeld-push rows row row.key.merchant n
        (f.held n (subst (λ x. IsCompleting x x.key.merchant n) (sym new) c)))
  ];
  one_completion = λ a b n i j c d.
      one_of_more rows row
      (λ x y. IsCompleting x x.key.merchant n × IsCompleting y x.key.merchant n)
      (λ x y p q s. k.one_completion x y n p q s.0 s.1)
      (λ x p s. f.only x n p
      (record { merchant = refl; service = s.1.service; follows = s.1.follows })
      (record { merchant = sym s.1.merchant; service = s.0.service; follows = s.0.follows }))
      (λ x p s. f.only x n p s.0 s.1) a b i j (c, d);
  legs = λ a i s. elim (In-push a rows row i) [
    | inl old ↦ k.legs a old s
    | inr new ↦ subst (λ x. is_reversal_leg x.leg ≡ false) new
        (f.leg (ap (λ x. is_reversal x.key.service) new ∙ s))
  ];
  days = λ a i. elim (In-push a rows row i) [
    | inl old ↦ k.days a old
    | inr new ↦ subst (λ x. x.day ≤ day) new f.dated
  ];
}
  where
    fresh : (a : Request) (n : ℕ) → In a rows → a.reference ≡ Some n →
        a.key.merchant ≡ row.key.merchant → row.reference ≡ Some n → ⊥
    fresh a n i e m g =
        not_next merchants rows row.key.merchant n
        (subst (λ x. IsGiven merchants rows x n) m (k.given a n i e))
        (f.next n g)

    just_given : (n : ℕ) → row.reference ≡ Some n →
        IsGiven merchants (rows ++ row ∷ []) row.key.merchant n
    just_given n e =
        let x = f.next n e in
        let next = x.next in
        let one = admitted_one row n e in
        let more = admitted_by-push row.key.merchant rows row in
        record { merchant = x.merchant; enrolled = x.enrolled; below = omega arith }

-- ---- a row changed

-- rows in which one was changed so
pub record IsReplaced (rows later : List Request) (p q : Request) : Type 0 where
  pub before : (x : Request) → In x later → (In x rows × (x.key ≡ p.key → ⊥)) ⊎ (q ≡ x)
  pub after : (x : Request) → In x rows → In x later ⊎ (p ≡ x)
  pub changed : In q later

-- the rows in which the one with its key was changed
pub replaced : {day : ℕ} {merchants : List Merchant} (rows : List Request) (p : Request)
    (changed : Request → Request) → In p rows → Edits changed → IsWellFormed day merchants rows →
    IsReplaced rows (with_changed p.key changed rows) p (changed p)
replaced rows p changed member edits kept = record {
  before = λ x i. elim (changed_is p.key changed rows x i) [
    | Other old other ↦ inl (old, other)
    | Made y old e made ↦ inr (ap changed (kept.keys p y member old (sym e)) ∙ made)
  ];
  after = λ x i. step x i (same_key x.key p.key) refl;
  changed =
      subst (λ x. In x (map u rows)) (ap (λ b. cond b (changed p) p) (same_key_itself p.key))
      (In-map u p rows member);
}
  where
    u : Request → Request
    u = changing p.key changed

    step : (x : Request) → In x rows → (b : Bool) → same_key x.key p.key ≡ b →
        In x (with_changed p.key changed rows) ⊎ (p ≡ x)
    step x i true e = inr (kept.keys p x member i (sym (same_key_is x.key p.key e)))
    step x i false e =
        inl (subst (λ y. In y (map u rows)) (ap (λ b. cond b (changed x) x) e) (In-map u x rows i))

-- the row that one of the later rows was made of
record IsMadeOf (rows : List Request) (u : Request → Request) (x : Request) : Type 0 where
  row : Request
  member : In row rows
  made : u row ≡ x
  change : IsChange row x

-- a completion was one before
completed_before : {rows : List Request} {u : Request → Request} {x : Request}
    (o : IsMadeOf rows u x) (m : List ℕ) (n : ℕ) → IsCompleting x m n → IsCompleting o.row m n
completed_before o m n c = record {
  merchant = sym (ap (λ k. k.merchant) o.change.key) ∙ c.merchant;
  service = sym (ap (λ k. k.service) o.change.key) ∙ c.service;
  follows = sym o.change.follows ∙ c.follows;
}

-- with a row changed that is no completed hold
pub well_formed_changed : {day : ℕ} {merchants : List Merchant} {rows : List Request} (p : Request)
    (changed : Request → Request) →
    In p rows → Edits changed → (p.status ≡ Completed → ⊥) → IsWellFormed day merchants rows →
    IsWellFormed day merchants (with_changed p.key changed rows)
well_formed_changed {day} {merchants} {rows} p changed member edits incomplete k = record {
  keys = λ a b i j e.
      let x = of a i in
      let y = of b j in
      one a b x y (k.keys x.row y.row x.member y.member (sym x.change.key ∙ (e ∙ y.change.key)));
  references = λ a b n i j m e g.
      let x = of a i in
      let y = of b j in
      one a b x y
      (k.references x.row y.row n x.member y.member
      (sym (ap (λ z. z.merchant) x.change.key) ∙ (m ∙ ap (λ z. z.merchant) y.change.key))
      (sym x.change.reference ∙ e) (sym y.change.reference ∙ g));
  given = λ a n i e.
      let x = of a i in
      let g = k.given x.row n x.member (sym x.change.reference ∙ e) in
      subst (λ z. IsGiven merchants (with_changed p.key changed rows) z.merchant n)
      (sym x.change.key)
      (record {
        merchant = g.merchant;
        enrolled = g.enrolled;
        below = let below = g.below in let same = admitted x.row.key.merchant in omega arith;
      });
  admissible = λ a n i e.
      let x = of a i in
      subst (λ z. is_admissible z.service ≡ true) (sym x.change.key)
      (k.admissible x.row n x.member (sym x.change.reference ∙ e));
  held = λ a n i c.
      let x = of a i in
      let same : a.key.merchant ≡ x.row.key.merchant = ap (λ z. z.merchant) x.change.key in
      let h = k.held x.row n x.member
      (completed_before x x.row.key.merchant n
      (record { merchant = same; service = c.service; follows = c.follows })) in
      record {
        hold = h.hold;
        member = stays h.hold h.member h.completed;
        merchant = h.merchant ∙ sym same;
        service = h.service;
        reference = h.reference;
        completed = h.completed;
      };
  one_completion = λ a b n i j c d.
      let x = of a i in
      let y = of b j in
      let same : a.key.merchant ≡ x.row.key.merchant = ap (λ z. z.merchant) x.change.key in
      one a b x y
      (k.one_completion x.row y.row n x.member y.member
      (completed_before x x.row.key.merchant n
      (record { merchant = same; service = c.service; follows = c.follows }))
      (completed_before y x.row.key.merchant n
      (record { merchant = d.merchant ∙ same; service = d.service; follows = d.follows })));
  legs = λ a i s.
      let x = of a i in
      ap is_reversal_leg x.change.leg
      ∙ k.legs x.row x.member (ap (λ z. is_reversal z.service) (sym x.change.key) ∙ s);
  days = λ a i.
      let x = of a i in subst (λ d. d ≤ day) (sym x.change.day) (k.days x.row x.member);
}
  where
    u : Request → Request
    u = changing p.key changed

    of : (x : Request) → In x (with_changed p.key changed rows) →
        IsMadeOf rows (changing p.key changed) x
    of x i =
        let o = In-mapped u x rows i in
        record {
          row = o.0;
          member = o.1;
          made = o.2;
          change = subst (IsChange o.0) o.2 (changing_kept p.key changed edits o.0);
        }

    one : (a b : Request) (x : IsMadeOf rows (changing p.key changed) a)
        (y : IsMadeOf rows (changing p.key changed) b) → x.row ≡ y.row → a ≡ b
    one a b x y e = sym x.made ∙ (ap u e ∙ y.made)

    admitted : (m : List ℕ) → admitted_by m (with_changed p.key changed rows) ≡ admitted_by m rows
    admitted m =
        ap admitted_in (requests_of-changed m p.key changed edits rows)
        ∙ (count-view u (λ x. is_some x.reference) (requests_of m rows)
        ∙ count-same (λ x. is_some (u x).reference) (λ x. is_some x.reference)
        (λ x. ap is_some (changing_kept p.key changed edits x).reference) (requests_of m rows))

    -- a completed hold is not the row that is changed
    stays : (x : Request) → In x rows → x.status ≡ Completed →
        In x (with_changed p.key changed rows)
    stays x i done = elim ((replaced rows p changed member edits k).after x i) [
      | inl there ↦ there
      | inr same ↦ absurd (incomplete (ap (λ z. z.status) same ∙ done))
    ]
