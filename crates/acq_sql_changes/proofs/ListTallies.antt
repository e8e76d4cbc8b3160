-- What a merchant's day comes to when a row comes, and that the running totals stay those of the
-- lists.
use Rattle.std.proofs.Common.{◌≡◌, ◌+◌, ◌&&◌, ◌==◌, ℕ, Bool, true, false, cond, List, [], ◌∷◌, ◌++◌}
use Rattle.std.proofs.Common.{if◌then◌else◌, refl, sym, ap, ap₂, ◌∙◌, arith}
use Rattle.std.specs.Str.{bytes_eq}
use Rattle.day_totals.specs.declared.leg.Leg.{Leg}
use Rattle.day_totals.specs.declared.leg.Leg.TheVariants.{Credit, CreditReversal, Debit}
use Rattle.day_totals.specs.declared.leg.Leg.TheVariants.{DebitReversal}
use Rattle.day_totals.specs.declared.leg_total.LegTotal.{LegTotal}
use Rattle.day_totals.specs.Totals.{DayTotals, zero_totals, with_leg_amount, with_amount}
use Rattle.acq_message.specs.declared.request_key.RequestKey.{RequestKey}
use Rattle.acq_message.specs.Elements.{same_key}
use Rattle.acq_core.specs.declared.request.Request.{Request}
use Rattle.acq_core.specs.declared.posting.Posting.{Posting}
use Rattle.acq_core.specs.Tables.{Tables, requests_of, postings_of, used_in, totals_on}
use Rattle.acq_core.specs.Tables.{with_changed}
use Rattle.acq_book.proofs.Days.{totals-push}
use Rattle.acq_book.proofs.Counting.{count-filter-push, count-filter-map}
use Rattle.acq_sql_rows.specs.Tallies.{Tally, Running, Tallies, no_tally, plus, leg_plus, tally_of}
use Rattle.acq_sql_rows.specs.Tallies.{raised}
use Rattle.acq_sql_rows.specs.Tallies.{request_tally, posting_tally}
use Rattle.acq_book.specs.Fits.{IsPostedBy}
use Rattle.acq_sql_writes.specs.Written.{with_request, with_posting, tally_from}
use Rattle.acq_sql_writes.proofs.RunningTotals.{is_key, tally_raised}

no_more : (n : ℕ) → n + 0 ≡ n
no_more n = omega arith

pub none_more : (a : LegTotal) → leg_plus a (record { count = 0; amount = 0 }) ≡ a
none_more a = λ i. record { count = no_more a.count i; amount = no_more a.amount i }

none_first : (n : ℕ) → 0 + n ≡ n
none_first n = omega arith

one_more : (a : LegTotal) (amount : ℕ)
    → leg_plus a (with_amount (record { count = 0; amount = 0 }) amount) ≡ with_amount a amount
one_more a amount = λ i. record { count = a.count + 1; amount = a.amount + none_first amount i }

-- ---- a posting

-- one posting more is its own totals more
pub totals_plus : (a : Tally) (leg : Leg) (amount : ℕ)
    → plus a (record no_tally { totals = with_leg_amount zero_totals leg amount })
    ≡ record a { totals = with_leg_amount a.totals leg amount }
totals_plus a Credit amount = λ i. record {
  used = no_more a.used i;
  totals =
      record {
        credits = one_more a.totals.credits amount i;
        credit_reversals = none_more a.totals.credit_reversals i;
        debits = none_more a.totals.debits i;
        debit_reversals = none_more a.totals.debit_reversals i;
      };
}
totals_plus a CreditReversal amount = λ i. record {
  used = no_more a.used i;
  totals =
      record {
        credits = none_more a.totals.credits i;
        credit_reversals = one_more a.totals.credit_reversals amount i;
        debits = none_more a.totals.debits i;
        debit_reversals = none_more a.totals.debit_reversals i;
      };
}
totals_plus a Debit amount = λ i. record {
  used = no_more a.used i;
  totals =
      record {
        credits = none_more a.totals.credits i;
        credit_reversals = none_more a.totals.credit_reversals i;
        debits = one_more a.totals.debits amount i;
        debit_reversals = none_more a.totals.debit_reversals i;
      };
}
totals_plus a DebitReversal amount = λ i. record {
  used = no_more a.used i;
  totals =
      record {
        credits = none_more a.totals.credits i;
        credit_reversals = none_more a.totals.credit_reversals i;
        debits = none_more a.totals.debits i;
        debit_reversals = one_more a.totals.debit_reversals amount i;
      };
}

module _ (t : Tables) (n : ℕ) (p : Posting) (m : List ℕ) (d : ℕ) where
  abbrev was : DayTotals
  was = totals_on (postings_of m t.postings) d

  posted : totals_on (postings_of m (t.postings ++ (n, p) ∷ [])) d
      ≡ cond (is_key p.merchant p.day m d) (with_leg_amount was p.leg p.amount) was
  posted = totals-push t.postings (n, p) m d

  -- what a posting makes of a day
  pub tally_posted : tally_of (with_posting n p t) m d
      ≡ cond (is_key p.merchant p.day m d) (plus (tally_of t m d) (posting_tally p))
      (tally_of t m d)
  tally_posted =
      (λ i. record (tally_of t m d) { totals = posted i }) ∙ split (is_key p.merchant p.day m d)
    where
      split : (b : Bool) →
          record (tally_of t m d) { totals = cond b (with_leg_amount was p.leg p.amount) was }
          ≡ cond b (plus (tally_of t m d) (posting_tally p)) (tally_of t m d)
      split true = sym (totals_plus (tally_of t m d) p.leg p.amount)
      split false = refl

-- ---- a request

used_plus : (a : Tally) (n : ℕ) →
    plus a (record no_tally { used = n }) ≡ record a { used = a.used + n }
used_plus a n = λ i. record {
  used = a.used + n;
  totals =
      record {
        credits = none_more a.totals.credits i;
        credit_reversals = none_more a.totals.credit_reversals i;
        debits = none_more a.totals.debits i;
        debit_reversals = none_more a.totals.debit_reversals i;
      };
}

module _ (t : Tables) (r : Request) (m : List ℕ) (d : ℕ) where
  abbrev used : ℕ
  used = used_in (requests_of m t.requests) d

  came : used_in (requests_of m (t.requests ++ r ∷ [])) d
      ≡ cond (bytes_eq r.key.merchant m && (r.admitted && (r.day == d))) (1 + used) used
  came =
      count-filter-push (λ row. row.admitted && (row.day == d)) (λ row. bytes_eq row.key.merchant m)
      t.requests r

  -- what a request makes of a day
  pub tally_requested : tally_of (with_request r t) m d
      ≡ cond (is_key r.key.merchant r.day m d) (plus (tally_of t m d) (request_tally r))
      (tally_of t m d)
  tally_requested =
      (λ i. record (tally_of t m d) { used = came i })
      ∙ split (bytes_eq r.key.merchant m) r.admitted (r.day == d)
    where
      turn : 1 + used ≡ used + 1
      turn = omega arith

      split : (a b c : Bool) →
          record (tally_of t m d) { used = cond (a && (b && c)) (1 + used) used }
          ≡ cond (a && c) (plus (tally_of t m d) (record no_tally { used = if b then 1 else 0 }))
          (tally_of t m d)
      split true true true =
          (λ i. record (tally_of t m d) { used = turn i }) ∙ sym (used_plus (tally_of t m d) 1)
      split true false true =
          (λ i. record (tally_of t m d) { used = sym (no_more used) i })
          ∙ sym (used_plus (tally_of t m d) 0)
      split true true false = refl
      split true false false = refl
      split false b c = refl

-- one that doesn't count makes nothing of it
pub tally_uncounted : (t : Tables) (r : Request) → r.admitted ≡ false → (m : List ℕ) (d : ℕ)
    → tally_of (with_request r t) m d ≡ tally_of t m d
tally_uncounted t r uncounted m d = tally_requested t r m d ∙ split (is_key r.key.merchant r.day m d)
  where
    none : plus (tally_of t m d) (request_tally r) ≡ tally_of t m d
    none =
        ap (λ b. plus (tally_of t m d) (record no_tally { used = if b then 1 else 0 })) uncounted
        ∙ used_plus (tally_of t m d) 0
        ∙ (λ i. record (tally_of t m d) { used = no_more (tally_of t m d).used i })

    split : (b : Bool) → cond b (plus (tally_of t m d) (request_tally r)) (tally_of t m d)
        ≡ tally_of t m d
    split true = none
    split false = refl

-- ---- a request and a posting

-- so many messages that count, and this posting
abbrev pub request_and_posting_tally : Request → Posting → Tally
request_and_posting_tally r p = tally_from (request_tally r).used (posting_tally p).totals

plus_request_and_posting : (a : Tally) (r : Request) (p : Posting)
    → plus (plus a (request_tally r)) (posting_tally p) ≡ plus a (request_and_posting_tally r p)
plus_request_and_posting a r p = λ i. record {
  used = no_more (a.used + (request_tally r).used) i;
  totals =
      record {
        credits = leg_plus (none_more a.totals.credits i) (posting_tally p).totals.credits;
        credit_reversals = leg_plus (none_more a.totals.credit_reversals i)
            (posting_tally p).totals.credit_reversals;
        debits = leg_plus (none_more a.totals.debits i) (posting_tally p).totals.debits;
        debit_reversals = leg_plus (none_more a.totals.debit_reversals i)
            (posting_tally p).totals.debit_reversals;
      };
}

-- what a request and a posting to its own merchant and day make of a day
module _ (t : Tables) (n : ℕ) (r : Request) (p : Posting) (own : IsPostedBy r p) (m : List ℕ)
    (d : ℕ) where
  abbrev is_own : Bool
  is_own = is_key r.key.merchant r.day m d

  pub tally_followed : tally_of (with_posting n p (with_request r t)) m d
      ≡ cond is_own (plus (tally_of t m d) (request_and_posting_tally r p)) (tally_of t m d)
  tally_followed =
      tally_posted (with_request r t) n p m d
      ∙ ap₂ (λ x y. with_its x y) (ap₂ (λ x y. is_key x y m d) own.merchant own.day)
      (tally_requested t r m d)
      ∙ split is_own
    where
      with_its : Bool → Tally → Tally
      with_its b x = cond b (plus x (posting_tally p)) x

      split : (b : Bool) →
          with_its b (cond b (plus (tally_of t m d) (request_tally r)) (tally_of t m d))
          ≡ cond b (plus (tally_of t m d) (request_and_posting_tally r p)) (tally_of t m d)
      split true = plus_request_and_posting (tally_of t m d) r p
      split false = refl

-- ---- the running totals stay those of the lists

-- the later tables come to so much more on the merchant's day, and to the same on the others
abbrev pub ComesToMore : Tables → Tables → List ℕ → ℕ → Tally → Type 0
ComesToMore t u merchant day more =
    (m : List ℕ) (d : ℕ) →
    tally_of u m d ≡ cond (is_key merchant day m d) (plus (tally_of t m d) more)
    (tally_of t m d)

pub more_tallied : (t u : Tables) (runs : List Running) (merchant : List ℕ) (day : ℕ) (more : Tally)
    → ComesToMore t u merchant day more → Tallies runs t → Tallies (raised merchant day more runs) u
more_tallied t u runs merchant day more come h m d =
    tally_raised merchant day more m d runs
    ∙ ap (λ x. cond (is_key merchant day m d) (plus x more) x) (h m d) ∙ sym (come m d)

-- a change of a request that leaves its key, its day and whether it counts
abbrev pub LeavesDay : (Request → Request) → Type 0
LeavesDay f =
    (row : Request) →
    ((f row).key ≡ row.key) × ((f row).admitted ≡ row.admitted) × ((f row).day ≡ row.day)

pub changed_tally : (t : Tables) (of : RequestKey) (f : Request → Request) → LeavesDay f →
    (m : List ℕ) (d : ℕ)
    → tally_of (record t { requests = with_changed of f t.requests }) m d ≡ tally_of t m d
changed_tally t of f same m d =
    λ i. record (tally_of t m d) {
      used = count-filter-map (λ row. row.admitted && (row.day == d))
          (λ row. bytes_eq row.key.merchant m)
          (λ row. if same_key row.key of then f row else row)
          (kept (λ row. row.admitted && (row.day == d))
          (λ row i. (same row).1 i && ((same row).2 i == d)))
          (kept (λ row. bytes_eq row.key.merchant m)
          (λ row i. bytes_eq ((same row).0 i).merchant m)) t.requests i;
    }
  where
    kept : (p : Request → Bool) → ((row : Request) → p (f row) ≡ p row) → (row : Request)
        → p (if same_key row.key of then f row else row) ≡ p row
    kept p stays row =
        elim (same_key row.key of) as (λ b. p (if b then f row else row) ≡ p row)
        [ true ↦ stays row | false ↦ refl ]

-- no day comes to anything else
abbrev pub LeavesTallies : (Tables → Tables) → Type 0
LeavesTallies changed = (t : Tables) (m : List ℕ) (d : ℕ) →
    tally_of (changed t) m d ≡ tally_of t m d

-- where a first change leaves the tallies
pub comes_after : (t s u : Tables) (merchant : List ℕ) (day : ℕ) (more : Tally)
    → ((m : List ℕ) (d : ℕ) → tally_of s m d ≡ tally_of t m d) → ComesToMore s u merchant day more
    → ComesToMore t u merchant day more
comes_after t s u merchant day more same come m d =
    come m d ∙ ap (λ a. cond (is_key merchant day m d) (plus a more) a) (same m d)
