-- No posting has a number above the greatest that a column can keep.
use Rattle.std.proofs.Common.{◌≡◌, ◌≤◌, ◌-◌, ◌^◌, ◌&&◌, ◌==◌, ℕ, inl, inr, min, nat_le, nat_lt}
use Rattle.std.proofs.Common.{Bool, cond, List, [], ◌∷◌, filter, refl, ap, ap₂, arith}
use Rattle.std.specs.Str.{bytes_eq}
use Rattle.std.proofs.lemmas.Bool.{and_parts, leb-true}
use Rattle.std.proofs.lemmas.Bool.Decides.{nat_tests}
use Rattle.sqlite_rules.specs.Lists.{Has}
use Rattle.acq_core.specs.declared.posting.Posting.{Posting}
use Rattle.acq_core.specs.Numbers.{greatest_limit}
use Rattle.acq_core.specs.Pasts.{HasPast}
use Rattle.acq_core.specs.Tables.{Tables}
use Rattle.acq_book.specs.Order.{in_order}
use Rattle.acq_book.specs.Lookups.{is_posting_before, postings_above_at}
use Rattle.acq_soundness.specs.Rows.{FitsPosting}
use Rattle.acq_sql_reads.proofs.Failing.{limit_fits, rows_fit}
use Rattle.acq_sql_reads.proofs.FittingMembers.{fits_each}

-- the greatest number that a column can keep
abbrev pub greatest_number : ℕ
greatest_number = 2 ^ 63 - 1

number_low : (t : Tables) → HasPast t → (x : ℕ × Posting) → Has t.postings x
    → x.0 ≤ greatest_number
number_low t past x here =
    let fits = fits_each (FitsPosting t.limit) t.postings x (rows_fit t past).postings here in
    let top : t.limit ≤ greatest_limit = leb-true t.limit greatest_limit
    (and_parts (nat_le 1 t.limit) (nat_le t.limit greatest_limit) (limit_fits t past)).1 in
    omega (arith, top, fits.number)

same_above : (n k : ℕ) → k ≤ greatest_number → nat_lt (min n greatest_number) k ≡ nat_lt n k
same_above n k low = grind (arith, nat_tests, low)

filter_same : {X : Type 0} (p q : X → Bool) (xs : List X) → ((x : X) → Has xs x → p x ≡ q x)
    → filter p xs ≡ filter q xs
filter_same p q [] same = refl
filter_same p q (x ∷ xs) same =
    ap₂ (λ b l. cond b (x ∷ l) l) (same x (inl refl))
    (filter_same p q xs (λ y h. same y (inr h)))

-- so those above a number are those above the greatest, if it is above that
pub above_greatest : (t : Tables) → HasPast t → (m : List ℕ) (day n : ℕ)
    → postings_above_at t m day (min n greatest_number) ≡ postings_above_at t m day n
above_greatest t past m day n =
    ap (in_order is_posting_before)
    (filter_same _ _ t.postings (λ x here.
    ap (λ b. bytes_eq x.1.merchant m && (x.1.day == day) && b)
    (same_above n x.0 (number_low t past x here))))
