-- A day that has room for a row stays within its columns.
use Rattle.std.proofs.Common.{◌≡◌, ◌+◌, ◌<◌, ◌^◌, ℕ, nat_le, Bool, true, false, cond, List}
use Rattle.std.proofs.Common.{if◌then◌else◌, refl, sym, ap, ap₂, subst, arith}
use Rattle.std.proofs.lemmas.Bool.{and_parts}
use Rattle.std.proofs.lemmas.Bool.Decides.{nat_tests}
use Rattle.day_totals.specs.declared.leg_total.LegTotal.{LegTotal}
use Rattle.day_totals.specs.Totals.{DayTotals, IsWithinLimits, with_leg_amount}
use Rattle.acq_message.specs.declared.request_key.RequestKey.{RequestKey}
use Rattle.acq_core.specs.Numbers.{is_used_count}
use Rattle.acq_core.specs.declared.posting.Posting.{Posting}
use Rattle.acq_core.specs.declared.request.Request.{Request}
use Rattle.acq_core.specs.Tables.{Tables, with_changed}
use Rattle.acq_book.specs.Lookups.{used_at, totals_at}
use Rattle.acq_sql_rows.specs.Tallies.{Tally, FitsTally, IsShortLeg, plus, leg_plus, tally_of}
use Rattle.acq_sql_rows.specs.Tallies.{request_tally}
use Rattle.acq_sql_rows.specs.Tallies.{posting_tally}
use Rattle.acq_sql_writes.specs.Written.{with_request, with_posting}
use Rattle.acq_sql_rows.proofs.SameKeys.{bytes_same, number_same}
use Rattle.acq_sql_writes.proofs.RunningTotals.{is_key}
use Rattle.acq_sql_changes.specs.Changed.{HasRoomFor}
use Rattle.acq_sql_changes.proofs.ListTallies.{LeavesDay, tally_requested, tally_posted}
use Rattle.acq_sql_changes.proofs.ListTallies.{totals_plus, none_more, changed_tally}

-- each day's columns can keep what it comes to
abbrev pub HasShortDays : Tables → Type 0
HasShortDays t = (m : List ℕ) (d : ℕ) → FitsTally (tally_of t m d)

used_low : (n : ℕ) → nat_le (1 + n) 999999 ≡ true → n + 1 < 2 ^ 63
used_low n h = grind (arith, nat_tests, h)

more_short : (a : LegTotal) → IsShortLeg a
    → IsShortLeg (leg_plus a (record { count = 0; amount = 0 }))
more_short a h = subst IsShortLeg (sym (none_more a)) h

-- with a request
pub request_fits : (t : Tables) (r : Request) (a : Tally) → FitsTally a
    → (r.admitted ≡ true → is_used_count (1 + a.used) ≡ true) → FitsTally (plus a (request_tally r))
request_fits t r a fits room =
    record {
      used = go r.admitted room;
      credits = more_short a.totals.credits fits.credits;
      credit_reversals = more_short a.totals.credit_reversals fits.credit_reversals;
      debits = more_short a.totals.debits fits.debits;
      debit_reversals = more_short a.totals.debit_reversals fits.debit_reversals;
    }
  where
    go : (b : Bool) → (b ≡ true → is_used_count (1 + a.used) ≡ true) →
        a.used + (if b then 1 else 0) < 2 ^ 63
    go true room = used_low a.used (room refl)
    go false room = omega (arith, fits.used)

pub request_short : (t : Tables) (r : Request) → HasShortDays t → HasRoomFor r t →
    HasShortDays (with_request r t)
request_short t r short room m d =
    subst FitsTally (sym (tally_requested t r m d)) (go (is_key r.key.merchant r.day m d) refl)
  where
    go : (b : Bool) → is_key r.key.merchant r.day m d ≡ b
        → FitsTally (cond b (plus (tally_of t m d) (request_tally r)) (tally_of t m d))
    go false is = short m d
    go true is =
        let parts = and_parts _ _ is in
        let same = ap₂ (λ x y. used_at t x y) (bytes_same r.key.merchant m parts.0)
        (number_same r.day d parts.1) in
        request_fits t r (tally_of t m d) (short m d)
        (λ counts. subst (λ n. is_used_count (1 + n) ≡ true) same (room counts))

-- ---- a posting

limits_short : (used : ℕ) (totals : DayTotals) → used < 2 ^ 63 → IsWithinLimits totals
    → FitsTally (record { used = used; totals = totals })
limits_short used totals low h =
    record {
      used = low;
      credits = (omega (arith, h.0), omega (arith, h.1));
      credit_reversals = (omega (arith, h.0), omega (arith, h.1));
      debits = (omega (arith, h.0), omega (arith, h.1));
      debit_reversals = (omega (arith, h.0), omega (arith, h.1));
    }

pub posting_fits : (p : Posting) (a : Tally) → FitsTally a →
    IsWithinLimits (with_leg_amount a.totals p.leg p.amount)
    → FitsTally (plus a (posting_tally p))
posting_fits p a fits room =
    subst FitsTally (sym (totals_plus a p.leg p.amount))
    (limits_short a.used (with_leg_amount a.totals p.leg p.amount) fits.used room)

pub posting_short : (t : Tables) (n : ℕ) (p : Posting) → HasShortDays t
    → IsWithinLimits (with_leg_amount (totals_at t p.merchant p.day) p.leg p.amount) →
    HasShortDays (with_posting n p t)
posting_short t n p short room m d =
    subst FitsTally (sym (tally_posted t n p m d)) (go (is_key p.merchant p.day m d) refl)
  where
    go : (b : Bool) → is_key p.merchant p.day m d ≡ b
        → FitsTally (cond b (plus (tally_of t m d) (posting_tally p)) (tally_of t m d))
    go false is = short m d
    go true is =
        let parts = and_parts _ _ is in
        let same = ap₂ (λ x y. totals_at t x y) (bytes_same p.merchant m parts.0)
        (number_same p.day d parts.1) in
        posting_fits p (tally_of t m d) (short m d)
        (subst (λ x. IsWithinLimits (with_leg_amount x p.leg p.amount)) same room)

-- ---- a change of a request that leaves its day

module _ (t : Tables) (of : RequestKey) (f : Request → Request) (same : LeavesDay f) where
  pub changed_short : HasShortDays t →
      HasShortDays (record t { requests = with_changed of f t.requests })
  changed_short short m d = subst FitsTally (sym (changed_tally t of f same m d)) (short m d)

  pub changed_room : (r : Request) → HasRoomFor r t
      → HasRoomFor r (record t { requests = with_changed of f t.requests })
  changed_room r room counts =
      subst (λ n. is_used_count (1 + n) ≡ true)
      (sym (ap (λ (a : Tally). a.used) (changed_tally t of f same r.key.merchant r.day)))
      (room counts)
