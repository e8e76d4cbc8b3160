-- From the columns that were read to what the row is.
use Rattle.std.proofs.Common.{◌≡◌, ℕ, List, [], ◌∷◌, length, slice_get, Option, None, Some}
use Rattle.std.proofs.Common.{option_map, find, Bool}
use Rattle.std.proofs.Common.{true, false, cond, ◌||◌, inl, inr, refl, sym, ap, ap₂, map, ◌++◌, ◌∙◌}
use Rattle.std.proofs.Common.{arith}
use Rattle.std.specs.List.{list_any}
use Rattle.std.specs.Option.{option_to_list}
use Rattle.sqlite_value.specs.Order.{Row, column}
use Rattle.sqlite_value.specs.declared.value.Value.{Value}
use Rattle.row_lemmas.specs.Values.{number}
use Rattle.day_totals.specs.Totals.{DayTotals, counts_of, amounts_of}
use Rattle.acq_sql_rows.specs.Rows.{tally_row}
use Rattle.acq_sql_rows.specs.Tallies.{Tally, Running, no_tally, or_no_tally}
use Rattle.acq_sql_reads.specs.Looked.{is_any, ShowsTally, totals_row}

pub two_columns : (row : Row) → length row ≡ 2 → row ≡ column row 0 ∷ column row 1 ∷ []
two_columns (a ∷ b ∷ []) len = refl
two_columns row len = absurd (omega arith)

pub three_columns : (row : Row) → length row ≡ 3 →
    row ≡ column row 0 ∷ column row 1 ∷ column row 2 ∷ []
three_columns (a ∷ b ∷ c ∷ []) len = refl
three_columns row len = absurd (omega arith)

module _ {X : Type 0} (row_of : X → Row) (width : ℕ) (wide : (x : X) → length (row_of x) ≡ width)
    (own : (x y : X) → row_of x ≡ row_of y → x ≡ y) (o : Option X) (rows : List Row)
    (found : rows ≡ option_to_list (option_map row_of o)) where
  -- no row stands for none
  pub none_read : None ≡ slice_get rows 0 → None ≡ o
  none_read is = go o found
    where
      go : (o : Option X) → rows ≡ option_to_list (option_map row_of o) → None ≡ o
      go None are = refl
      go (Some y) are = absurd (let e = is ∙ ap (λ l. slice_get l 0) are in cc)

  -- the row that was found is the element's
  pub one_read : (row : Row) (x : X) → Some row ≡ slice_get rows 0 →
      (length row ≡ width → row ≡ row_of x) → Some x ≡ o
  one_read row x some read = go o found
    where
      go : (o : Option X) → rows ≡ option_to_list (option_map row_of o) → Some x ≡ o
      go None are = absurd (let e = some ∙ ap (λ l. slice_get l 0) are in cc)
      go (Some y) are =
          let first : row ≡ row_of y = let e : Some row ≡ Some (row_of y) =
          some ∙ ap (λ l. slice_get l 0) are in cc in
          ap Some (own x y (sym (read (ap length first ∙ wide y)) ∙ first))

-- one row or none, as one element passes or none
pub any_found : {X : Type 0} (row_of : X → Row) (p : X → Bool) (xs : List X)
    → is_any (option_to_list (option_map row_of (find p xs))) ≡ list_any p xs
any_found row_of p [] = refl
any_found row_of p (x ∷ xs) =
    let rest = any_found row_of p xs in
    elim (p x)
    as (λ b. is_any (option_to_list (option_map row_of (cond b (Some x) (find p xs))))
    ≡ (b || list_any p xs))
    [ true ↦ refl | false ↦ rest ]

-- the row of two numbers
pub pair_read : (a b : ℕ) (rows : List Row) (row : Row) (x : ℕ × ℕ) →
    rows ≡ (number a ∷ number b ∷ []) ∷ []
    → Some row ≡ slice_get rows 0 → (length row ≡ 2 → row ≡ number x.0 ∷ number x.1 ∷ []) →
    x ≡ (a, b)
pair_read a b rows row x are some read =
    let first : row ≡ number a ∷ number b ∷ [] =
    let e : Some row ≡ Some (number a ∷ number b ∷ []) = some ∙ ap (λ l. slice_get l 0) are in cc in
    let same = sym (read (ap length first)) ∙ first in
    let e0 : x.0 ≡ a = cc in
    let e1 : x.1 ≡ b = cc in
    λ i. (e0 i, e1 i)

-- ---- the running totals of a day

pub nine_columns : (row : Row) → length row ≡ 9
    → row ≡ column row 0 ∷ column row 1 ∷ column row 2 ∷ column row 3 ∷ column row 4 ∷ column row 5
    ∷ column row 6
    ∷ column row 7 ∷ column row 8 ∷ []
nine_columns (a ∷ b ∷ c ∷ d ∷ e ∷ f ∷ g ∷ h ∷ i ∷ []) len = refl
nine_columns row len = absurd (omega arith)

-- the row of a day, or none where nothing came
pub tally_shown : (o : Option Running) (rows : List Row) (tally : Tally)
    → rows ≡ option_to_list (option_map (λ (r : Running). tally_row r.tally) o) →
    or_no_tally o ≡ tally
    → ShowsTally tally rows
tally_shown None rows tally are is = inl (are, sym is)
tally_shown (Some r) rows tally are is = inr (are ∙ ap (λ t. tally_row t ∷ []) is)

pub first_row : (tally : Tally) (rows : List Row) (row : Row) → ShowsTally tally rows →
    Some row ≡ slice_get rows 0
    → row ≡ tally_row tally
first_row tally rows row (inl none) some =
    absurd (let e = some ∙ ap (λ l. slice_get l 0) none.0 in cc)
first_row tally rows row (inr one) some =
    let e : Some row ≡ Some (tally_row tally) = some ∙ ap (λ l. slice_get l 0) one in cc

pub none_tally : (tally : Tally) (rows : List Row) → ShowsTally tally rows →
    None ≡ slice_get rows 0 → tally ≡ no_tally
none_tally tally rows (inl none) is = none.1
none_tally tally rows (inr one) is = absurd (let e = is ∙ ap (λ l. slice_get l 0) one in cc)

pub used_read : (tally : Tally) (rows : List Row) (row : Row) (n : ℕ) → ShowsTally tally rows
    → Some row ≡ slice_get rows 0 → column row 0 ≡ number n → n ≡ tally.used
used_read tally rows row n shown some read =
    let e : number n ≡ number tally.used = sym read ∙ ap (λ r. column r 0)
    (first_row tally rows row shown some) in cc

same_totals : (used : Value) (a b : DayTotals) (n : ℕ) →
    used ∷ totals_row a ≡ number n ∷ totals_row b → a ≡ b
same_totals used a b n h =
    let e1 : a.credits.count ≡ b.credits.count = cc in
    let e2 : a.credit_reversals.count ≡ b.credit_reversals.count = cc in
    let e3 : a.debits.count ≡ b.debits.count = cc in
    let e4 : a.debit_reversals.count ≡ b.debit_reversals.count = cc in
    let e5 : a.credits.amount ≡ b.credits.amount = cc in
    let e6 : a.credit_reversals.amount ≡ b.credit_reversals.amount = cc in
    let e7 : a.debits.amount ≡ b.debits.amount = cc in
    let e8 : a.debit_reversals.amount ≡ b.debit_reversals.amount = cc in
    λ i. record {
      credits = record { count = e1 i; amount = e5 i };
      credit_reversals = record { count = e2 i; amount = e6 i };
      debits = record { count = e3 i; amount = e7 i };
      debit_reversals = record { count = e4 i; amount = e8 i };
    }

pub totals_read : (tally : Tally) (rows : List Row) (row : Row) (x : DayTotals) →
    ShowsTally tally rows
    → Some row ≡ slice_get rows 0 → (length row ≡ 9 → row ≡ column row 0 ∷ totals_row x) →
    x ≡ tally.totals
totals_read tally rows row x shown some read =
    let first = first_row tally rows row shown some in
    same_totals (column row 0) x tally.totals tally.used (sym (read (ap length first)) ∙ first)

-- four counts and four amounts are the totals
pub totals_are : (row : Row) (x : DayTotals) (a b c d e f g h : ℕ) → length row ≡ 9
    → column row 1 ≡ number a → column row 2 ≡ number b → column row 3 ≡ number c →
    column row 4 ≡ number d
    → column row 5 ≡ number e → column row 6 ≡ number f → column row 7 ≡ number g →
    column row 8 ≡ number h
    → counts_of x ≡ a ∷ b ∷ c ∷ d ∷ [] → amounts_of x ≡ e ∷ f ∷ g ∷ h ∷ [] →
    row ≡ column row 0 ∷ totals_row x
totals_are row x a b c d e f g h len e1 e2 e3 e4 e5 e6 e7 e8 counts amounts =
    let cells = ap₂ (λ k l. column row 0 ∷ (map number k ++ map number l)) (sym counts)
    (sym amounts) in
    nine_columns row len ∙ rw (e1, e2, e3, e4, e5, e6, e7, e8) cells
