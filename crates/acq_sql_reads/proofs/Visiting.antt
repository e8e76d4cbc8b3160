-- What a visitor has seen, as rows come and when all have come.
use Rattle.std.proofs.Common.{◌≡◌, ◌++◌, Bool, inl, inr, true, false, List, [], ◌∷◌, length, map}
use Rattle.std.proofs.Common.{take, refl, sym, ap}
use Rattle.std.proofs.Common.{ap₂, subst, true≢false, IsErr, Result, Ok, Err, is_ok}
use Rattle.sqlite_value.specs.Order.{Row}
use Rattle.sqlite_rules.specs.Lists.{Has}
use Rattle.acq_book.specs.Visits.{Saw, SawAll, SawRows, SawSome}
use Rattle.acq_sql_reads.specs.Shown.{AreRead, SawLast}

-- one more row was read
pub read_more : {T : Type 0} (shows : Row → T → Type 0) (rows : List Row) (xs : List T) (row : Row)
    (x : T)
    → AreRead shows rows xs → shows row x → AreRead shows (rows ++ row ∷ []) (xs ++ x ∷ [])
read_more shows [] [] row x are is = (is, tt)
read_more shows (r ∷ rows) (y ∷ xs) row x are is = (are.0, read_more shows rows xs row x are.1 is)
read_more shows [] (y ∷ xs) row x are is = absurd are
read_more shows (r ∷ rows) [] row x are is = absurd are

module _ {T V : Type 0} (sees : V → T → Bool → V → Type 0) where
  -- one more was seen
  pub saw_more : (xs : List T) (x : T) (v u w : V) → Saw sees xs v u → sees u x true w →
      Saw sees (xs ++ x ∷ []) v w
  saw_more [] x v u w saw sees_x = (w, subst (λ a. sees a x true w) (sym saw) sees_x, refl)
  saw_more (y ∷ xs) x v u w saw sees_x = (saw.0, saw.1, saw_more xs x saw.0 u w saw.2 sees_x)

  pub saw_all : (xs : List T) (v w : V) → Saw sees xs v w → SawAll sees xs v w
  saw_all [] v w saw = saw
  saw_all (x ∷ xs) v w saw = inl (saw.0, saw.1, saw_all xs saw.0 w saw.2)

  pub saw_last : (xs : List T) (x : T) (rest : List T) (v w : V) → SawLast sees xs x v w
      → SawAll sees ((xs ++ x ∷ []) ++ rest) v w
  saw_last [] x rest v w (u, saw, last) = inr (subst (λ a. sees a x false w) (sym saw) last)
  saw_last (y ∷ xs) x rest v w (u, saw, last) =
      inl (saw.0, saw.1, saw_last xs x rest saw.0 w (u, saw.2, last))

  pub saw_some : (xs rest : List T) (v w : V) → Saw sees xs v w → SawSome sees (xs ++ rest) v w
  saw_some xs rest v w saw = (length xs, subst (λ l. Saw sees l v w) (sym (first xs)) saw)
    where
      first : (l : List T) → take (length l) (l ++ rest) ≡ l
      first [] = refl
      first (x ∷ l) = ap (λ k. x ∷ k) (first l)

-- what was seen before an error
pub seen_in_vain : {T V X E : Type 0} (sees : V → T → Bool → V → Type 0) (v w : V)
    (r : Result X E) → IsErr r → SawRows sees v w false → SawRows sees v w (is_ok r)
seen_in_vain sees v w (Ok x) is saw = absurd (true≢false (sym is))
seen_in_vain sees v w (Err e) is saw = saw

-- rows that begin the rows of a list were read as elements that begin it
module _ {T : Type 0} (shows : Row → T → Type 0) (cells : T → Row) where
  -- a row of the list's is read as its own element alone
  abbrev pub AreOwn : List T → Type 0
  AreOwn ys = (y x : T) → Has ys y → shows (cells y) x → x ≡ y

  pub read_front : (ys : List T) (rows tail : List Row) (xs : List T) → AreOwn ys →
      rows ++ tail ≡ map cells ys
      → AreRead shows rows xs → (rest : List T) × (ys ≡ xs ++ rest)
  read_front ys [] tail [] own are read = (ys, refl)
  read_front ys [] tail (x ∷ xs) own are read = absurd read
  read_front ys (row ∷ rows) tail [] own are read = absurd read
  read_front [] (row ∷ rows) tail (x ∷ xs) own are read = absurd (cc)
  read_front (y ∷ ys) (row ∷ rows) tail (x ∷ xs) own are read =
      let first : row ≡ cells y = cc in
      let later : rows ++ tail ≡ map cells ys = cc in
      let same : x ≡ y = own y x (inl refl) (subst (λ r. shows r x) first read.0) in
      let rest = read_front ys rows tail xs (λ z w h is. own z w (inr h) is) later read.1 in
      (rest.0, ap₂ (λ a l. a ∷ l) (sym same) rest.1)

  pub read_whole : (ys : List T) (rows : List Row) (xs : List T) → AreOwn ys → rows ≡ map cells ys
      → AreRead shows rows xs → xs ≡ ys
  read_whole [] [] [] own are read = refl
  read_whole (y ∷ ys) (row ∷ rows) (x ∷ xs) own are read =
      let first : row ≡ cells y = cc in
      let later : rows ≡ map cells ys = cc in
      ap₂ (λ a l. a ∷ l) (own y x (inl refl) (subst (λ r. shows r x) first read.0))
      (read_whole ys rows xs (λ z w h is. own z w (inr h) is) later read.1)
  read_whole [] (row ∷ rows) xs own are read = absurd (cc)
  read_whole (y ∷ ys) [] xs own are read = absurd (cc)
  read_whole ys [] (x ∷ xs) own are read = absurd read
  read_whole ys (row ∷ rows) [] own are read = absurd read
