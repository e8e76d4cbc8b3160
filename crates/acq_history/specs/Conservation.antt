-- Nothing is posted twice, and nothing is reversed twice.
use Rattle.std.specs.Prelude.{◌≡◌, ℕ, ◌<◌, ◌≤◌, ◌==◌, Bool, true, false, not, ◌&&◌, ◌⊎◌, List}
use Rattle.std.specs.Prelude.{if◌then◌else◌, Contains, filter, sum_by}
use Rattle.std.specs.Str.{bytes_eq}
use Rattle.day_totals.specs.declared.leg.Leg.{Leg}
use Rattle.day_totals.specs.declared.leg.Leg.TheVariants.{Credit, CreditReversal, Debit}
use Rattle.day_totals.specs.declared.leg.Leg.TheVariants.{DebitReversal}
use Rattle.acq_core.specs.declared.event.Event.{Event}
use Rattle.acq_core.specs.declared.posting.Posting.{Posting}
use Rattle.acq_core.specs.Changes.{reversal_leg}
use Rattle.acq_core.specs.Tables.{Opening, count}
use Rattle.acq_history.specs.PartyHistory.{book_after}

-- the legs that reverse others
abbrev pub is_reversal_leg : Leg → Bool
is_reversal_leg Credit = false
is_reversal_leg Debit = false
is_reversal_leg CreditReversal = true
is_reversal_leg DebitReversal = true

-- a posting of a merchant under a reference, of an original or of a reversal
abbrev pub is_posting : List ℕ → ℕ → Bool → ℕ × Posting → Bool
is_posting m reference reversal row =
    bytes_eq row.1.merchant m && (row.1.reference == reference)
    && (if reversal then is_reversal_leg row.1.leg else not (is_reversal_leg row.1.leg))

-- on the same day with a smaller number, or on an earlier day
abbrev pub IsEarlier : ℕ × Posting → ℕ × Posting → Type 0
IsEarlier a b = (a.1.day < b.1.day) ⊎ ((a.1.day ≡ b.1.day) × (a.0 < b.0))

-- a posting that a reversal reverses: earlier, of the same merchant, reference and card, of the
-- matching leg, and of an amount that isn't less
pub record IsOriginalOf (a b : ℕ × Posting) : Type 0 where
  pub earlier : IsEarlier a b
  pub merchant : a.1.merchant ≡ b.1.merchant
  pub reference : a.1.reference ≡ b.1.reference
  pub leg : reversal_leg a.1.leg ≡ b.1.leg
  pub amount : b.1.amount ≤ a.1.amount
  pub card : a.1.card ≡ b.1.card

-- For each merchant and reference there is at most one posting of an original and at most one of a
-- reversal, and where a reversal stands, so does its original.
pub record IsConserved (rows : List (ℕ × Posting)) : Type 0 where
  pub at_most_one : (m : List ℕ) (reference : ℕ) (reversal : Bool) →
      count (is_posting m reference reversal) rows ≤ 1
  pub matched : (row : ℕ × Posting) → Contains rows row → is_reversal_leg row.1.leg ≡ true →
      (original : ℕ × Posting) × Contains rows original × IsOriginalOf original row

-- Nothing is posted twice and nothing reversed twice, whatever comes.
abbrev pub Conserves : Type 0
Conserves = (opening : Opening) (es : List Event) → IsConserved (book_after opening es).postings

-- what a merchant's postings under a reference amount to: those of originals, or those of reversals
abbrev pub amount_posted : List ℕ → ℕ → Bool → List (ℕ × Posting) → ℕ
amount_posted m reference reversal rows =
    sum_by (λ row. row.1.amount) (filter (is_posting m reference reversal) rows)

-- For each merchant and reference the reversals never amount to more than the originals, whatever
-- comes.
abbrev pub NeverExceeds : Type 0
NeverExceeds =
    (opening : Opening) (es : List Event) (m : List ℕ) (reference : ℕ) →
    let rows = (book_after opening es).postings in
    amount_posted m reference true rows ≤ amount_posted m reference false rows
