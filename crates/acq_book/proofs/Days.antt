-- A merchant's day in totals, when a posting comes.
use Rattle.std.proofs.Common.{◌≡◌, ℕ, List, [], ◌∷◌, ◌++◌, Bool, true, false, cond, refl}
use Rattle.std.proofs.Common.{ap, ◌∙◌, eqb, map}
use Rattle.std.specs.Prelude.{◌&&◌, filter}
use Rattle.std.specs.Str.{bytes_eq}
use Rattle.std.proofs.lemmas.List.{append-nil}
use Rattle.std.proofs.lemmas.List.Elements.{filter-append}
use Rattle.day_totals.specs.declared.leg.Leg.{Leg}
use Rattle.day_totals.specs.Totals.{totals_of, with_leg_amount}
use Rattle.day_totals.proofs.TotalsOfPostings.{totals_of-push}
use Rattle.acq_core.specs.Tables.{postings_of, totals_on}
use Rattle.acq_core.specs.declared.posting.Posting.{Posting}

pub totals-push : (rows : List (ℕ × Posting)) (y : ℕ × Posting) (m : List ℕ) (d : ℕ)
    → totals_on (postings_of m (rows ++ y ∷ [])) d
    ≡ cond (bytes_eq y.1.merchant m && eqb y.1.day d)
    (with_leg_amount (totals_on (postings_of m rows) d) y.1.leg y.1.amount)
    (totals_on (postings_of m rows) d)
totals-push rows y m d =
    ap (λ l. totals_on l d) (filter-append (λ row. bytes_eq row.1.merchant m) rows (y ∷ []))
    ∙ at (bytes_eq y.1.merchant m) (eqb y.1.day d) refl
  where
    map-push : (xs : List (ℕ × Posting)) (x : ℕ × Posting) →
        map {B = Leg × ℕ} (λ row. (row.1.leg, row.1.amount)) (xs ++ x ∷ [])
        ≡ map {B = Leg × ℕ} (λ row. (row.1.leg, row.1.amount)) xs ++ (x.1.leg, x.1.amount) ∷ []
    map-push [] x = refl
    map-push (z ∷ zs) x = ap (λ l. (z.1.leg, z.1.amount) ∷ l) (map-push zs x)

    at : (b c : Bool) → eqb y.1.day d ≡ c →
        totals_on (postings_of m rows ++ cond b (y ∷ []) []) d
        ≡ cond (b && c) (with_leg_amount (totals_on (postings_of m rows) d) y.1.leg y.1.amount)
        (totals_on (postings_of m rows) d)
    at false c e = ap (λ l. totals_on l d) (append-nil (postings_of m rows))
    at true true e =
        ap (λ l. totals_of (map {B = Leg × ℕ} (λ row. (row.1.leg, row.1.amount)) l))
        (filter-append (λ row. eqb row.1.day d) (postings_of m rows) (y ∷ [])
        ∙ ap (λ c. filter (λ row. eqb row.1.day d) (postings_of m rows) ++ cond c (y ∷ []) []) e)
        ∙ (ap totals_of (map-push (filter (λ row. eqb row.1.day d) (postings_of m rows)) y)
        ∙ totals_of-push (map {B = Leg × ℕ} (λ row. (row.1.leg, row.1.amount))
        (filter (λ row. eqb row.1.day d) (postings_of m rows))) y.1.leg y.1.amount)
    at true false e =
        ap (λ l. totals_of (map {B = Leg × ℕ} (λ row. (row.1.leg, row.1.amount)) l))
        (filter-append (λ row. eqb row.1.day d) (postings_of m rows) (y ∷ [])
        ∙ (ap (λ c. filter (λ row. eqb row.1.day d) (postings_of m rows) ++ cond c (y ∷ []) []) e
        ∙ append-nil (filter (λ row. eqb row.1.day d) (postings_of m rows))))
