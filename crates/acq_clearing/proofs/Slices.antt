-- A slice and what follows its bookmark are what followed the bookmark before.
use Rattle.std.proofs.Common.{◌≡◌, ◌==◌, ◌&&◌, ◌⊎◌, ◌∙◌, ◌∷◌, ◌++◌, ◌<◌, ℕ, Bool, true, false, cond}
use Rattle.std.proofs.Common.{List, [], Ordering, Less, Equal, Greater, inl, inr, filter, length}
use Rattle.std.proofs.Common.{refl, sym, ap, ap₂, subst, true≢false, append-nil, append_assoc, arith}
use Rattle.std.specs.Prelude.{flat_map, nat_lt, not, ◌||◌, Result, Ok, Err, IfOk}
use Rattle.std.specs.Cmp.{IsTotalOrder, nat_cmp_total, on_total, then_total}
use Rattle.std.specs.Cmp.Lexicographic.{lists_total, slice_cmp}
use Rattle.std.specs.List.{AllByRecursion}
use Rattle.std.specs.Ordering.{is_eq, is_lt, nat_cmp, ordering_reverse, ordering_then}
use Rattle.std.specs.Str.{bytes_eq}
use Rattle.std.proofs.lemmas.Bool.{and_from, and_parts}
use Rattle.std.proofs.lemmas.Bool.Decides.{nat_tests}
use Rattle.std.proofs.lemmas.List.Concat.{flat_map-append}
use Rattle.std.proofs.lemmas.Map.Text.{is_eq-slice_cmp}
use Rattle.std.proofs.lemmas.Slice.Eq.{bytes_eq-Decides}
use Rattle.acq_core.specs.Pasts.{HasPast}
use Rattle.acq_core.specs.Tables.{Tables}
use Rattle.acq_book.specs.Lookups.{is_posting_before, postings_at, postings_above_at}
use Rattle.acq_book.specs.Lookups.{postings_behind_at}
use Rattle.acq_book.specs.Order.{in_order}
use Rattle.acq_book.specs.Visits.{SawAll}
use Rattle.acq_clearing.specs.ClearingFile.{posting_line}
use Rattle.acq_clearing.specs.Gathering.{Cuts, Gathers, wants_more}
use Rattle.acq_clearing.specs.Slices.{file_from, header_at, is_behind, rows_from}
use Rattle.acq_clearing.specs.declared.bookmark.Bookmark.{Bookmark}
use Rattle.acq_clearing.specs.declared.bookmark.Bookmark.TheVariants.{Beginning, Behind, End}
use Rattle.acq_clearing.specs.declared.slice.Records.{Records}
use Rattle.acq_clearing.specs.declared.slice.Slice.{Slice}
use Rattle.acq_book.specs.declared.book_fault.BookFault.{BookFault}
use Rattle.acq_clearing.proofs.Numbers.{AreRising, IsBelow, Numbered, rising_by_past}
use Rattle.acq_clearing.proofs.Rows as rows

-- ---- the order of merchants and numbers

abbrev Key : Type 0
Key = List ℕ × ℕ

abbrev key_of : Numbered → Key
key_of row = (row.1.merchant, row.0)

abbrev by_key : Key → Key → Ordering
by_key a b = ordering_then (slice_cmp nat_cmp a.0 b.0) (nat_cmp a.1 b.1)

key_order : IsTotalOrder by_key
key_order =
    then_total (on_total (λ (k : Key). k.0) (lists_total nat_cmp_total))
    (on_total (λ (k : Key). k.1) nat_cmp_total)

less_is : (o : Ordering) → is_lt o ≡ true → o ≡ Less
less_is Less h = refl
less_is Equal h = absurd (true≢false (sym h))
less_is Greater h = absurd (true≢false (sym h))

key_chain : (a b c : Key) → is_lt (by_key a b) ≡ true → is_lt (by_key b c) ≡ true →
    is_lt (by_key a c) ≡ true
key_chain a b c h k =
    ap is_lt (key_order.trans a b c (less_is (by_key a b) h) (less_is (by_key b c) k))

key_never : (a : Key) → is_lt (by_key a a) ≡ false
key_never a = go (by_key a a) (key_order.antisymm a a)
  where
    go : (o : Ordering) → o ≡ ordering_reverse o → is_lt o ≡ false
    go Less e = let bad : Less ≡ Greater = e in cc
    go Equal e = refl
    go Greater e = refl

never : (a : Numbered) → is_posting_before a a ≡ false
never a = key_never (key_of a)

chain : (a b c : Numbered) → is_posting_before a b ≡ true → is_posting_before b c ≡ true →
    is_posting_before a c ≡ true
chain a b c h k = key_chain (key_of a) (key_of b) (key_of c) h k

-- ---- a day's postings stand apart, so they ascend

bytes_same : (a b : List ℕ) → bytes_eq a b ≡ true → a ≡ b
bytes_same a b h = (bytes_eq-Decides a b).0 h

bytes_itself : (a : List ℕ) → bytes_eq a a ≡ true
bytes_itself a = (bytes_eq-Decides a a).1 refl

names_same : (a b : List ℕ) → slice_cmp nat_cmp a b ≡ Equal → a ≡ b
names_same a b e = bytes_same a b (sym (is_eq-slice_cmp a b) ∙ ap is_eq e)

abbrev IsApart : Numbered → Numbered → Type 0
IsApart = rows.IsApart is_posting_before never chain

module _ (day : ℕ) where
  abbrev on_day : Numbered → Bool
  on_day row = row.1.day == day

  apart : (x y : Numbered) → on_day x ≡ true → on_day y ≡ true → IsBelow x y → IsApart x y
  apart x y here there below =
      go (slice_cmp nat_cmp x.1.merchant y.1.merchant) refl
    where
      go : (o : Ordering) → slice_cmp nat_cmp x.1.merchant y.1.merchant ≡ o → IsApart x y
      go Less e = inl (ap (λ o. is_lt (ordering_then o (nat_cmp x.0 y.0))) e)
      go Greater e =
          inr (ap (λ o. is_lt (ordering_then o (nat_cmp y.0 x.0)))
          ((lists_total nat_cmp_total).antisymm y.1.merchant x.1.merchant
          ∙ ap ordering_reverse e))
      go Equal e =
          let same : bytes_eq y.1.merchant x.1.merchant ≡ true =
          ap (λ m. bytes_eq y.1.merchant m) (names_same x.1.merchant y.1.merchant e)
          ∙ bytes_itself y.1.merchant in
          let days : (y.1.day == x.1.day) ≡ true = grind (arith, nat_tests, here, there) in
          let low : x.0 < y.0 =
          below (and_from (bytes_eq y.1.merchant x.1.merchant) (y.1.day == x.1.day) same days) in
          let less : is_lt (nat_cmp x.0 y.0) ≡ true = grind (arith, nat_tests, low) in
          inl (ap (λ o. is_lt (ordering_then o (nat_cmp x.0 y.0))) e ∙ less)

  apart_from : (x : Numbered) → on_day x ≡ true → (ys : List Numbered) →
      AllByRecursion (IsBelow x) ys → AllByRecursion (IsApart x) (filter on_day ys)
  apart_from x here [] below = tt
  apart_from x here (y ∷ ys) below = go (apart_from x here ys below.1) (on_day y) refl
    where
      go : AllByRecursion (IsApart x) (filter on_day ys) → (b : Bool) → on_day y ≡ b →
          AllByRecursion (IsApart x) (cond b (y ∷ filter on_day ys) (filter on_day ys))
      go rest true there = (apart x y here there below.0, rest)
      go rest false there = rest

  all_apart : (xs : List Numbered) → AreRising xs →
      rows.AreApart is_posting_before never chain (filter on_day xs)
  all_apart [] up = tt
  all_apart (x ∷ xs) up = go (all_apart xs up.1) (on_day x) refl
    where
      go : rows.AreApart is_posting_before never chain (filter on_day xs) → (b : Bool) →
          on_day x ≡ b → rows.AreApart is_posting_before never chain
          (cond b (x ∷ filter on_day xs) (filter on_day xs))
      go rest true here = (apart_from x here xs up.0, rest)
      go rest false here = rest

  module _ (t : Tables) (past : HasPast t) where
    apart_on : rows.AreApart is_posting_before never chain (filter on_day t.postings)
    apart_on = all_apart t.postings (rising_by_past t past)

    ascending : rows.Ascend is_posting_before never chain (postings_at t day)
    ascending = rows.ascend_in_order is_posting_before never chain (filter on_day t.postings)
        apart_on

    passing : (q : Numbered → Bool) →
        in_order is_posting_before (filter q (filter on_day t.postings))
        ≡ filter q (postings_at t day)
    passing q = sym (rows.filter-in_order is_posting_before never chain q
        (filter on_day t.postings) apart_on)

    -- ---- the two walks behind a posting are one

    module _ (m : List ℕ) (n : ℕ) where
      abbrev is_above : Numbered → Bool
      is_above row = bytes_eq row.1.merchant m && nat_lt n row.0

      abbrev is_after : Numbered → Bool
      is_after row = is_lt (slice_cmp nat_cmp m row.1.merchant)

      above_first : (a b c : Bool) → ((a && b) && c) ≡ (b && (a && c))
      above_first true true c = refl
      above_first true false c = refl
      above_first false true c = refl
      above_first false false c = refl

      filter_both : (p q : Numbered → Bool) (xs : List Numbered) →
          filter q (filter p xs) ≡ filter (λ x. p x && q x) xs
      filter_both p q [] = refl
      filter_both p q (x ∷ xs) =
          elim (p x) as (λ b. filter q (cond b (x ∷ filter p xs) (filter p xs))
          ≡ cond (b && q x) (x ∷ filter (λ y. p y && q y) xs) (filter (λ y. p y && q y) xs)) [
            | true ↦ ap (λ l. cond (q x) (x ∷ l) l) (filter_both p q xs)
            | false ↦ filter_both p q xs
          ]

      above_is : postings_above_at t m day n ≡ filter is_above (postings_at t day)
      above_is =
          ap (in_order is_posting_before)
          ((λ i. filter (λ (row : Numbered). above_first (bytes_eq row.1.merchant m)
          (row.1.day == day) (nat_lt n row.0) i) t.postings)
          ∙ sym (filter_both on_day is_above t.postings))
          ∙ passing is_above

      behind_is : postings_behind_at t m day ≡ filter is_after (postings_at t day)
      behind_is =
          ap (in_order is_posting_before) (sym (filter_both on_day is_after t.postings))
          ∙ passing is_after

      same_name : (row : Numbered) →
          bytes_eq row.1.merchant m ≡ is_eq (slice_cmp nat_cmp m row.1.merchant)
      same_name row = go (bytes_eq row.1.merchant m) (bytes_eq m row.1.merchant) refl refl
          ∙ sym (is_eq-slice_cmp m row.1.merchant)
        where
          go : (b c : Bool) → bytes_eq row.1.merchant m ≡ b → bytes_eq m row.1.merchant ≡ c →
              bytes_eq row.1.merchant m ≡ bytes_eq m row.1.merchant
          go true true h k = h ∙ sym k
          go false false h k = h ∙ sym k
          go true false h k =
              let same = bytes_same row.1.merchant m h in
              absurd (true≢false (sym (bytes_itself m)
              ∙ ap (λ r. bytes_eq m r) (sym same) ∙ k))
          go false true h k =
              let same = bytes_same m row.1.merchant k in
              absurd (true≢false (sym (bytes_itself row.1.merchant)
              ∙ ap (λ r. bytes_eq row.1.merchant r) (sym same) ∙ h))

      in_parts : (row : Numbered) → is_behind m n row ≡ (is_above row || is_after row)
      in_parts row =
          go (slice_cmp nat_cmp m row.1.merchant)
          ∙ ap (λ b. (b && nat_lt n row.0) || is_after row) (sym (same_name row))
        where
          less : is_lt (nat_cmp n row.0) ≡ nat_lt n row.0
          less = grind (arith, nat_tests)

          or_false : (b : Bool) → b ≡ (b || false)
          or_false true = refl
          or_false false = refl

          go : (o : Ordering) → is_lt (ordering_then o (nat_cmp n row.0))
              ≡ ((is_eq o && nat_lt n row.0) || is_lt o)
          go Less = refl
          go Equal = less ∙ or_false (nat_lt n row.0)
          go Greater = refl

      never_both : (row : Numbered) → is_after row ≡ true → is_above row ≡ false
      never_both row h =
          ap (λ b. b && nat_lt n row.0)
          (same_name row ∙ ap is_eq (less_is (slice_cmp nat_cmp m row.1.merchant) h))

      later_names : (x y : Numbered) → is_posting_before x y ≡ true → is_after x ≡ true →
          is_after y ≡ true
      later_names x y before h = go (slice_cmp nat_cmp x.1.merchant y.1.merchant) refl
        where
          go : (o : Ordering) → slice_cmp nat_cmp x.1.merchant y.1.merchant ≡ o →
              is_after y ≡ true
          go Less e =
              ap is_lt ((lists_total nat_cmp_total).trans m x.1.merchant y.1.merchant
              (less_is (slice_cmp nat_cmp m x.1.merchant) h) e)
          go Equal e =
              subst (λ r. is_lt (slice_cmp nat_cmp m r) ≡ true)
              (names_same x.1.merchant y.1.merchant e) h
          go Greater e =
              absurd (true≢false (sym before
              ∙ ap (λ o. is_lt (ordering_then o (nat_cmp x.0 y.0))) e))

      pub both_walks : postings_above_at t m day n ++ postings_behind_at t m day
          ≡ rows_from t day (Behind m n)
      both_walks =
          ap₂ (λ a b. a ++ b) above_is behind_is
          ∙ rows.in_two is_posting_before never chain (is_behind m n) is_above is_after in_parts
          never_both later_names (postings_at t day) ascending

    -- ---- what stands behind a posting

    pub rest_of : (from : Bookmark) (front : List Numbered) (x : Numbered) (back : List Numbered)
        → rows_from t day from ≡ front ++ x ∷ back →
        rows_from t day (Behind x.1.merchant x.0) ≡ back
    rest_of Beginning front x back is =
        rows.rest_behind is_posting_before never chain (λ row. true) (λ a b h k. refl)
        (postings_at t day) ascending front x back (all_pass (postings_at t day) ∙ is)
      where
        all_pass : (xs : List Numbered) → filter (λ row. true) xs ≡ xs
        all_pass [] = refl
        all_pass (y ∷ ys) = ap (λ l. y ∷ l) (all_pass ys)
    rest_of (Behind m n) front x back is =
        rows.rest_behind is_posting_before never chain (is_behind m n)
        (λ a b h k. key_chain (m, n) (key_of a) (key_of b) k h)
        (postings_at t day) ascending front x back is
    rest_of End front x back is = absurd (empty front is)
      where
        empty : (front : List Numbered) → ◌≡◌ {A = List Numbered} [] (front ++ x ∷ back) → ⊥
        empty [] e = cc
        empty (y ∷ ys) e = cc

-- ---- a walk

abbrev pub records : List Numbered → List ℕ
records xs = flat_map posting_line xs

-- it has all of them and wants more
pub record HasAllOf (xs : List Numbered) (v w : Records) : Type 0 where
  pub text : w.text.items ≡ v.text.items ++ records xs
  pub more : wants_more w ≡ true

-- it has those up to one, and wants no more
pub record HasUpTo (xs : List Numbered) (v w : Records) : Type 0 where
  pub front : List Numbered
  pub last : Numbered
  pub back : List Numbered
  pub parts : xs ≡ front ++ last ∷ back
  pub text : w.text.items ≡ v.text.items ++ (records front ++ posting_line last)
  pub at : w.last ≡ Behind last.1.merchant last.0
  pub more : wants_more w ≡ false

pub walked : (xs : List Numbered) (v w : Records) → SawAll Gathers xs v w →
    w.is_short ≡ false → wants_more v ≡ true → HasAllOf xs v w ⊎ HasUpTo xs v w
walked [] v w saw whole more = inl (record {
  text = ap (λ (r : Records). r.text.items) (sym saw) ∙ sym (append-nil v.text.items);
  more = subst (λ (r : Records). wants_more r ≡ true) saw more;
})
walked (x ∷ xs) v w (inl (u, inr (short, stops), later)) whole more = absurd (true≢false stops)
walked (x ∷ xs) v w (inl (u, inl (text, at, same, wants), later)) whole more =
    elim (walked xs u w later whole (sym wants)) [
      | inl all ↦ inl (record {
        text = all.text ∙ ap (λ l. l ++ records xs) text
            ∙ append_assoc v.text.items (posting_line x) (records xs);
        more = all.more;
      })
      | inr up ↦ inr (record {
        front = x ∷ up.front;
        last = up.last;
        back = up.back;
        parts = ap (λ l. x ∷ l) up.parts;
        text = up.text ∙ ap (λ l. l ++ (records up.front ++ posting_line up.last)) text
            ∙ append_assoc v.text.items (posting_line x) (records up.front ++ posting_line up.last)
            ∙ ap (λ l. v.text.items ++ l)
            (sym (append_assoc (posting_line x) (records up.front) (posting_line up.last)));
        at = up.at;
        more = up.more;
      })
    ]
walked (x ∷ xs) v w (inr (inr (short, stops))) whole more = absurd (true≢false (sym short ∙ whole))
walked (x ∷ xs) v w (inr (inl (text, at, same, wants))) whole more = inr (record {
  front = [];
  last = x;
  back = xs;
  parts = refl;
  text = text;
  at = at;
  more = sym wants;
})

-- ---- a slice

-- what was gathered is all from a bookmark on, and more is wanted; or with what follows the last
-- record it is all, and no more is wanted
pub record HasRest (t : Tables) (day : ℕ) (from : Bookmark) (w : Records) : Type 0 where
  pub text : w.text.items ≡ file_from t day from
  pub more : wants_more w ≡ true

pub record HasPart (t : Tables) (day : ℕ) (from : Bookmark) (w : Records) : Type 0 where
  pub text : w.text.items ++ file_from t day w.last ≡ file_from t day from
  pub more : wants_more w ≡ false

abbrev pub Gathered : Tables → ℕ → Bookmark → Records → Type 0
Gathered t day from w = HasRest t day from w ⊎ HasPart t day from w

records-append : (xs ys : List Numbered) → records (xs ++ ys) ≡ records xs ++ records ys
records-append xs ys = flat_map-append posting_line xs ys

module _ (t : Tables) (past : HasPast t) (day : ℕ) (from : Bookmark) where
  all_gathered : (pre xs : List Numbered) (v w : Records) →
      rows_from t day from ≡ pre ++ xs → v.text.items ≡ header_at from ++ records pre →
      HasAllOf xs v w → Gathered t day from w
  all_gathered pre xs v w is had all = inl (record {
    text = all.text ∙ ap (λ l. l ++ records xs) had
        ∙ append_assoc (header_at from) (records pre) (records xs)
        ∙ ap (λ l. header_at from ++ l) (sym (records-append pre xs) ∙ ap records (sym is));
    more = all.more;
  })

  part_gathered : (pre xs extra : List Numbered) (v w : Records) →
      rows_from t day from ≡ pre ++ (xs ++ extra) →
      v.text.items ≡ header_at from ++ records pre →
      HasUpTo xs v w → Gathered t day from w
  part_gathered pre xs extra v w is had up =
      let rest = up.back ++ extra in
      let rows_are : rows_from t day from ≡ (pre ++ up.front) ++ up.last ∷ rest =
      is ∙ ap (λ l. pre ++ (l ++ extra)) up.parts
      ∙ ap (λ l. pre ++ l) (append_assoc up.front (up.last ∷ up.back) extra)
      ∙ sym (append_assoc pre up.front (up.last ∷ rest)) in
      let follows : file_from t day w.last ≡ records rest =
      ap (file_from t day) up.at
      ∙ ap records (rest_of day t past from (pre ++ up.front) up.last rest rows_are) in
      let one = posting_line up.last in
      let head = header_at from in
      inr (record {
        text = ap₂ (λ (a b : List ℕ). a ++ b)
            (up.text ∙ ap (λ l. l ++ (records up.front ++ one)) had) follows
            ∙ append_assoc (head ++ records pre) (records up.front ++ one) (records rest)
            ∙ ap (λ l. (head ++ records pre) ++ l)
            (append_assoc (records up.front) one (records rest))
            ∙ append_assoc head (records pre) (records up.front ++ (one ++ records rest))
            ∙ ap (λ l. head ++ l)
            (sym (append_assoc (records pre) (records up.front) (one ++ records rest))
            ∙ ap (λ l. l ++ (one ++ records rest)) (sym (records-append pre up.front))
            ∙ sym (records-append (pre ++ up.front) (up.last ∷ rest))
            ∙ ap records (sym rows_are));
        more = up.more;
      })

  -- the slice that is cut of it
  pub cut_is : (w : Records) (r : Result Slice BookFault) → Cuts w r →
      (w.is_short ≡ false → Gathered t day from w) →
      IfOk r (λ slice. slice.text.items ++ file_from t day slice.next ≡ file_from t day from)
  cut_is w (Err f) cuts is = tt
  cut_is w (Ok slice) (whole, text, next) is = go next (is whole)
    where
      go : ((wants_more w ≡ true) × (slice.next ≡ End))
          ⊎ ((wants_more w ≡ false) × (slice.next ≡ w.last)) → Gathered t day from w →
          slice.text.items ++ file_from t day slice.next ≡ file_from t day from
      go (inl (more, end)) (inl all) =
          ap₂ (λ (a b : List ℕ). a ++ b) (text ∙ all.text) (ap (file_from t day) end)
          ∙ append-nil (file_from t day from)
      go (inl (more, end)) (inr part) = absurd (true≢false (sym more ∙ part.more))
      go (inr (full, last)) (inl all) = absurd (true≢false (sym all.more ∙ full))
      go (inr (full, last)) (inr part) =
          ap₂ (λ (a b : List ℕ). a ++ b) text (ap (file_from t day) last) ∙ part.text

  -- of one walk
  pub walked_on : (pre xs extra : List Numbered) (v w : Records) →
      rows_from t day from ≡ pre ++ (xs ++ extra) →
      v.text.items ≡ header_at from ++ records pre →
      wants_more v ≡ true → SawAll Gathers xs v w → w.is_short ≡ false →
      (wants_more w ≡ true → extra ≡ []) → Gathered t day from w
  walked_on pre xs extra v w is had more saw whole last =
      elim (walked xs v w saw whole more) [
        | inl all ↦ all_gathered pre xs v w
            (is ∙ ap (λ l. pre ++ (xs ++ l)) (last all.more)
            ∙ ap (λ l. pre ++ l) (append-nil xs)) had all
        | inr up ↦ part_gathered pre xs extra v w is had up
      ]

  -- none is left
  pub none_gathered : (v : Records) → rows_from t day from ≡ [] →
      v.text.items ≡ header_at from → wants_more v ≡ true → Gathered t day from v
  none_gathered v none had more = inl (record {
    text = had ∙ sym (append-nil (header_at from))
        ∙ ap (λ l. header_at from ++ records l) (sym none);
    more = more;
  })

-- ---- a slice at its beginning, and one that goes on

pub fresh : (from : Bookmark) (v : Records) → v.text.items ≡ header_at from →
    v.is_short ≡ false → wants_more v ≡ true
fresh Beginning v none whole = λ i. not (whole i) && nat_lt (length (none i)) 5120
fresh (Behind m n) v none whole = λ i. not (whole i) && nat_lt (length (none i)) 5120
fresh End v none whole = λ i. not (whole i) && nat_lt (length (none i)) 5120

pub had_none : (from : Bookmark) (v : Records) → v.text.items ≡ header_at from →
    v.text.items ≡ header_at from ++ records []
had_none from v none = none ∙ sym (append-nil (header_at from))

pub not_short : (v : Records) → wants_more v ≡ true → v.is_short ≡ false
not_short v more = go v.is_short refl (and_parts (not v.is_short) _ more).0
  where
    go : (b : Bool) → v.is_short ≡ b → not b ≡ true → v.is_short ≡ false
    go false is h = is
    go true is h = absurd (true≢false (sym h))

-- all of the rows were had, since more is wanted
pub had_all : (xs : List Numbered) (v w : Records) → SawAll Gathers xs v w →
    wants_more v ≡ true → wants_more w ≡ true → w.text.items ≡ v.text.items ++ records xs
had_all xs v w saw more still =
    elim (walked xs v w saw (not_short w still) more) [
      | inl all ↦ all.text
      | inr up ↦ absurd (true≢false (sym still ∙ up.more))
    ]
