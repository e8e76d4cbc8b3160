-- Numbers stay within their bounds, whatever comes.
use Rattle.std.proofs.Common.{◌∙◌, ◌≡◌, ℕ, ◌+◌, ◌*◌, ◌<◌, ◌≤◌, List, [], ◌∷◌, length}
use Rattle.std.proofs.Common.{Option, Some, None, Bool, true, false}
use Rattle.std.proofs.Common.{cond, refl, sym, ap, subst, arith, eqb, leb}
use Rattle.std.specs.Prelude.{All, IfSome, map, filter, find, option_map}
use Rattle.std.specs.Str.{bytes_eq}
use Rattle.std.proofs.lemmas.Bool.{and_parts, leb-true, le-leb}
use Rattle.std.proofs.lemmas.List.Elements.{All-nil, All-push, All-map, All-filter, All-weaker}
use Rattle.std.proofs.lemmas.List.Elements.{All-contains}
use Rattle.std.proofs.lemmas.List.{length-map}
use Rattle.day_totals.specs.Day.{last_day}
use Rattle.day_totals.specs.declared.leg.Leg.{Leg}
use Rattle.day_totals.specs.Totals.{greatest_posting}
use Rattle.day_totals.proofs.WithinLimits.{FitsDay-within}
use Rattle.acq_message.specs.declared.service.Service.{Service}
use Rattle.acq_message.specs.declared.service.Service.TheVariants.{Financial, Completion}
use Rattle.acq_message.specs.declared.request_message.RequestMessage.{RequestMessage}
use Rattle.acq_message.specs.declared.verdict.Verdict.{Verdict}
use Rattle.acq_message.specs.declared.verdict.Verdict.TheVariants as verdict
use Rattle.acq_message.specs.Numbers.{is_accepted_amount, is_reference}
use Rattle.acq_message.specs.Elements.{text_at, amount_in, remaining_in}
use Rattle.acq_core.specs.declared.arrival.Arrival.{Arrival}
use Rattle.acq_core.specs.declared.merchant.Merchant.{Merchant}
use Rattle.acq_core.specs.declared.posting.Posting.{Posting}
use Rattle.acq_core.specs.declared.request.Request.{Request}
use Rattle.acq_core.specs.declared.reply_state.ReplyState.{ReplyState}
use Rattle.acq_core.specs.declared.reply_state.ReplyState.TheVariants.{Kept}
use Rattle.acq_core.specs.Numbers.{is_first_reference, greatest_limit}
use Rattle.acq_core.specs.Changes.{or_zero, change_of, approval_posting, answer_posting}
use Rattle.acq_core.specs.Changes.{completion_posting, posted_leg, reversing_posting}
use Rattle.acq_core.specs.Changes.{reversal_posting, answered_status}
use Rattle.acq_core.specs.Tables.{Opening, Tables, new_tables, count, is_pending, prior_of}
use Rattle.acq_core.specs.Tables.{reply_state_of, reference_by, leg_by, requests_of, postings_of}
use Rattle.acq_core.specs.Tables.{admitted_in, with_changed, with_next_posting, postings_before}
use Rattle.acq_core.specs.Tables.{known_in, after_any, step_tables, tables_after}
use Rattle.acq_soundness.specs.Requests.{is_reversal}
use Rattle.acq_soundness.proofs.Lookups.{map_some}
use Rattle.acq_soundness.proofs.Members.{In, In-find, from_In}
use Rattle.acq_core.specs.Events.{IsOpening}
use Rattle.acq_soundness.specs.Bounds.{IsBoundedRow, IsBoundedPosting, IsWithinLimit}
use Rattle.acq_soundness.specs.Bounds.{NumbersStayBounded}
use Rattle.acq_soundness.proofs.StepCases.{next_reference, by_step}
use Rattle.acq_soundness.proofs.Arrivals.{IsArrival, kept_by_events}
use Rattle.acq_soundness.proofs.RowsWithChanges.{All-with_only_changed, All-member, followed_kept}
use Rattle.acq_soundness.proofs.RowsWithChanges.{answered_kept, Edits}
use Rattle.acq_soundness.proofs.WhatRemains.{hold_ended, original_ended, remains_accepted}
use Rattle.acq_soundness.proofs.WhatRemains.{taken_accepted}
use Rattle.acq_soundness.specs.Keys.{HasUniqueKeys}
use Rattle.acq_soundness.proofs.KeysStayUnique.{AreUnique, only_row, unique_after_step}
use Rattle.acq_soundness.proofs.AdmittedCounts.{IsCounted, admitted_in-within}
use Rattle.acq_soundness.proofs.CountsStayWithin.{AreCountsWithin, IsOfDay, within_uncounted}
use Rattle.acq_soundness.proofs.CountsStayWithin.{within_counted, posted_on-ended, used_on-changed}
use Rattle.acq_soundness.proofs.CountsStayWithin.{pending_on-changed, within_answered}
use Rattle.acq_core.specs.declared.terminal.Terminal.{Terminal}
use Rattle.card_no.specs.declared.range.Range.{Range}
use Rattle.acq_core.specs.declared.reconciliation.Reconciliation.{Reconciliation}

-- ---- rows

-- a row within bounds: an admitted one counts, and what it may post is of an accepted amount
record IsSoundRow (today : ℕ) (row : Request) : Type 0 where
  bounded : IsBoundedRow today row
  counts : (n : ℕ) → row.reference ≡ Some n → row.admitted ≡ true
  amount : (n : ℕ) → row.reference ≡ Some n → is_accepted_amount row.amount ≡ true
  completion : row.key.service ≡ Completion → (n : ℕ) → row.follows ≡ Some n →
      is_accepted_amount row.amount ≡ true

-- on a later day
sound_later : (today later : ℕ) (row : Request) → today ≤ later → IsSoundRow today row →
    IsSoundRow later row
sound_later today later row le s = record {
  bounded =
      record {
        day = let on = s.bounded.day in omega arith;
        reference = s.bounded.reference;
        follows = s.bounded.follows;
      };
  counts = s.counts;
  amount = s.amount;
  completion = s.completion;
}

-- rows with one changed, whose amount stays an accepted one
sound_changed : (today : ℕ) (row : Request) (changed : Request → Request) → Edits changed →
    (is_accepted_amount row.amount ≡ true → is_accepted_amount (changed row).amount ≡ true) →
    (rows : List Request) → AreUnique rows → In row rows → All (IsSoundRow today) rows →
    All (IsSoundRow today) (with_changed row.key changed rows)
sound_changed today row changed edits accepted rows unique member h =
    let c = edits row in
    let s : IsSoundRow today row = All-member (IsSoundRow today) rows row h member in
    All-with_only_changed (IsSoundRow today) row changed rows
    (λ x i same. only_row rows unique x row i member same)
    (record {
      bounded = record {
        day = subst (λ d. d ≤ today) (sym c.day) s.bounded.day;
        reference = subst (λ o. IfSome o (λ n. is_reference n ≡ true)) (sym c.reference)
            s.bounded.reference;
        follows = subst (λ o. IfSome o (λ n. is_reference n ≡ true)) (sym c.follows)
            s.bounded.follows;
      };
      counts = λ n e. c.admitted ∙ s.counts n (sym c.reference ∙ e);
      amount = λ n e. accepted (s.amount n (sym c.reference ∙ e));
      completion =
          λ k n e. accepted (s.completion (sym (ap (λ z. z.service) c.key) ∙ k) n
          (sym c.follows ∙ e));
    })
    h

-- one without a reference, which follows nothing that posts
sound_plain : (today : ℕ) (row : Request) → row.day ≡ today → row.reference ≡ None →
    IfSome row.follows (λ n. is_reference n ≡ true) →
    (row.key.service ≡ Completion → (n : ℕ) → row.follows ≡ Some n →
    is_accepted_amount row.amount ≡ true) →
    IsSoundRow today row
sound_plain today row dated unreferred follows completion = record {
  bounded =
      record {
        day = omega arith;
        reference = subst (λ o. IfSome o (λ n. is_reference n ≡ true)) (sym unreferred) tt;
        follows = follows;
      };
  counts = λ n e. absurd cc;
  amount = λ n e. absurd cc;
  completion = completion;
}

-- the reference that a row is known by
reference_by-bounded : (today : ℕ) (s : Service) (row : Request) → IsBoundedRow today row →
    IfSome (reference_by s row) (λ n. is_reference n ≡ true)
reference_by-bounded today Completion row b = b.follows
reference_by-bounded today service row b = b.reference

or_zero-bounded : (o : Option ℕ) → IfSome o (λ n. is_reference n ≡ true) →
    is_reference (or_zero o) ≡ true
or_zero-bounded None h = refl
or_zero-bounded (Some n) h = h

-- what a row posts under is of an accepted amount
leg_by-amount : (today : ℕ) (s : Service) (row : Request) (leg : Leg) → IsSoundRow today row →
    row.key.service ≡ s → leg_by s row ≡ Some leg → is_accepted_amount row.amount ≡ true
leg_by-amount today Financial row leg sound is e =
    let found = map_some (λ reference. row.leg) row.reference leg e in sound.amount found.0 found.1
leg_by-amount today Completion row leg sound is e =
    let found = map_some (λ reference. row.leg) row.follows leg e in
    sound.completion is found.0 found.1
leg_by-amount today service row leg sound is e = absurd cc

-- ---- postings

-- a posting of a merchant to a day, within bounds
record IsMade (m : List ℕ) (on : ℕ) (p : Posting) : Type 0 where
  of : IsOfDay m on p
  amount : is_accepted_amount p.amount ≡ true
  reference : is_reference p.reference ≡ true

some_of : (m : List ℕ) (on : ℕ) (o : Option Posting) → IfSome o (IsMade m on) →
    IfSome o (IsOfDay m on)
some_of m on None h = tt
some_of m on (Some p) h = h.of

postings_with : (today on : ℕ) (m : List ℕ) (ps : List (ℕ × Posting)) (o : Option Posting) →
    on ≤ today → IfSome o (IsMade m on) → All (IsBoundedPosting today) ps →
    All (IsBoundedPosting today) (with_next_posting ps o)
postings_with today on m ps None le made h = h
postings_with today on m ps (Some p) le made h =
    All-push (IsBoundedPosting today) ps (postings_before ps p + 1, p) h
    (record {
      day = let at = made.of.day in omega arith;
      amount = made.amount;
      reference = made.reference;
    })

-- what an approval posts, to the day of its row
answer_made : (today : ℕ) (v : Verdict) (row : Request) → IsSoundRow today row →
    IfSome (answer_posting v (prior_of row)) (IsMade row.key.merchant row.day)
answer_made today (verdict.Approved id) row sound = step (leg_by row.key.service row) refl
  where
    step : (o : Option Leg) → leg_by row.key.service row ≡ o →
        IfSome (approval_posting (prior_of row) o) (IsMade row.key.merchant row.day)
    step None e = tt
    step (Some leg) e = record {
      of = record { merchant = refl; day = refl };
      amount = leg_by-amount today row.key.service row leg sound refl e;
      reference = or_zero-bounded (reference_by row.key.service row)
          (reference_by-bounded today row.key.service row sound.bounded);
    }
answer_made today other row sound = tt

posted_leg-some : (s : ReplyState) (o : Option Leg) (leg : Leg) → posted_leg s o ≡ Some leg →
    o ≡ Some leg
posted_leg-some (Kept reply) o leg e = e
posted_leg-some other o leg e = absurd cc

-- what a reversal posts, today
reversal_made : (today day : ℕ) (r : RequestMessage) (row : Request) → IsSoundRow day row →
    remaining_in r.message < row.amount →
    IfSome (reversal_posting today r (prior_of row)) (IsMade (text_at r.message 42) today)
reversal_made today day r row sound less =
    step (posted_leg (reply_state_of row.status row.reply) (leg_by row.key.service row)) refl
  where
    step : (o : Option Leg) →
        posted_leg (reply_state_of row.status row.reply) (leg_by row.key.service row) ≡ o →
        IfSome (option_map (reversing_posting today r (prior_of row)) o)
        (IsMade (text_at r.message 42) today)
    step None e = tt
    step (Some leg) e = record {
      of = record { merchant = refl; day = refl };
      amount =
          taken_accepted row.amount (remaining_in r.message) less
          (leg_by-amount day row.key.service row leg sound refl
          (posted_leg-some (reply_state_of row.status row.reply) (leg_by row.key.service row) leg
          e));
      reference = or_zero-bounded (reference_by row.key.service row)
          (reference_by-bounded day row.key.service row sound.bounded);
    }

-- what a completion posts, today
completion_made : (today day : ℕ) (r : RequestMessage) (hold : Request) → IsSoundRow day hold →
    is_accepted_amount (amount_in r.message) ≡ true →
    IsMade (text_at r.message 42) today (completion_posting today r (prior_of hold))
completion_made today day r hold sound amount = record {
  of = record { merchant = refl; day = refl };
  amount = amount;
  reference = or_zero-bounded (reference_by hold.key.service hold)
      (reference_by-bounded day hold.key.service hold sound.bounded);
}

-- ---- statuses

answered_status-ended : (v : Verdict) → is_pending (answered_status v) ≡ false
answered_status-ended (verdict.Approved id) = refl
answered_status-ended other = refl

-- ---- the tables

abbrev HasFirst : Merchant → Type 0
HasFirst merchant = is_first_reference merchant.first_reference ≡ true

record HasSoundNumbers (opening : Opening) (t : Tables) : Type 0 where
  limit : t.limit ≡ opening.limit
  day : t.day ≤ last_day
  firsts : All HasFirst t.merchants
  rows : All (IsSoundRow t.day) t.requests
  postings : All (IsBoundedPosting t.day) t.postings
  counts : AreCountsWithin t.limit t.requests t.postings

-- tables with other requests and postings
sound_with : {opening : Opening} {t : Tables} {rows : List Request} {ps : List (ℕ × Posting)}
    {rs : List (ℕ × Reconciliation)} {ranges : List Range} {terminals : List Terminal} →
    HasSoundNumbers opening t → All (IsSoundRow t.day) rows → All (IsBoundedPosting t.day) ps →
    AreCountsWithin t.limit rows ps →
    HasSoundNumbers opening (record t {
      ranges = ranges;
      terminals = terminals;
      requests = rows;
      postings = ps;
      reconciliations = rs;
    })
sound_with h rows postings counts = record {
  limit = h.limit;
  day = h.day;
  firsts = h.firsts;
  rows = rows;
  postings = postings;
  counts = counts;
}

module _ (opening : Opening) (begins : IsOpening opening) where
  -- no more were admitted than may be
  admitted_within : (t : Tables) → HasSoundNumbers opening t → (m : List ℕ) →
      admitted_in (requests_of m t.requests) ≤ (last_day + 1) * greatest_limit
  admitted_within t h m =
      let counted : All (IsCounted (last_day + 1)) (requests_of m t.requests) =
      All-filter (λ row. bytes_eq row.key.merchant m) (IsCounted (last_day + 1)) t.requests
      (All-weaker (IsSoundRow t.day) (IsCounted (last_day + 1))
      (λ row s. record {
        counts = s.counts;
        day = let on = s.bounded.day in let today = h.day in
            omega arith;
      })
      t.requests h.rows) in
      let all = admitted_in-within (requests_of m t.requests) t.limit (last_day + 1)
      (h.counts.used m) counted in
      let most = leb-true opening.limit greatest_limit
      (and_parts (leb 1 opening.limit) _ begins.limit).1 in
      let same = h.limit in
      omega arith

  -- so the next reference has twelve digits
  next_reference-bounded : (t : Tables) → HasSoundNumbers opening t →
      (r : RequestMessage) (merchant : Merchant) →
      find (λ row. bytes_eq row.id (text_at r.message 42)) t.merchants ≡ Some merchant →
      is_reference (next_reference t r merchant) ≡ true
  next_reference-bounded t h r merchant enrolled =
      let member = (In-find (λ row. bytes_eq row.id (text_at r.message 42)) t.merchants merchant
      enrolled).0 in
      let first : HasFirst merchant = All-contains HasFirst t.merchants merchant h.firsts
      (from_In merchant t.merchants member) in
      let low = leb-true merchant.first_reference 900000000000
      (and_parts (leb 1 merchant.first_reference) _ first).1 in
      let few = admitted_within t h (text_at r.message 42) in
      le-leb (next_reference t r merchant) 999999999999 (omega arith)

  step : (t : Tables) (a : Arrival) → IsArrival a → HasUniqueKeys t → HasSoundNumbers opening t →
      HasSoundNumbers opening (step_tables t a)
  step t a is keys h =
      by_step t a (λ d. HasSoundNumbers opening (after_any t (change_of (known_in t a) d)))
      (record {
        reported = λ o not. h;
        malformed = λ r came. h;
        replied = λ r came given hosts. h;
        repeated = λ row member. h;
        refused = λ r merchant g given hosts. sound_with h
            (All-push (IsSoundRow t.day) t.requests _ h.rows
            (sound_plain t.day _ refl refl tt (λ s n e. absurd cc))) h.postings
            (within_uncounted t.limit t.requests t.postings _ refl refl h.counts);
        admitted = λ r merchant g range c. sound_with h
            (All-push (IsSoundRow t.day) t.requests _ h.rows (record {
              bounded =
                  record {
                    day = omega arith;
                    reference = next_reference-bounded t h r merchant g.enrolled;
                    follows = tt;
                  };
              counts = λ n e. refl;
              amount = λ n e. c.amount;
              completion = λ s n e. absurd cc;
            })) h.postings
            (within_counted t.limit t.requests t.requests t.postings t.postings _
            (record {
              counts = refl;
              same = λ m day. refl;
              fewer = λ m day. omega arith;
              once = λ m day. omega arith;
            }) c.room h.counts);
        completed = λ r merchant g hold c.
            let sound : IsSoundRow t.day hold =
            All-member (IsSoundRow t.day) t.requests hold h.rows c.member in
            let made = completion_made t.day t.day r hold sound c.amount in sound_with h
            (All-push (IsSoundRow t.day) _ _
            (sound_changed t.day hold _ (followed_kept _) (λ accepted. accepted) t.requests
            keys.requests c.member h.rows)
            (sound_plain t.day _ refl refl
            (reference_by-bounded t.day hold.key.service hold sound.bounded)
            (λ s n e. c.amount)))
            (postings_with t.day t.day (text_at r.message 42) t.postings
            (Some (completion_posting t.day r (prior_of hold))) (omega arith) made h.postings)
            (within_counted t.limit t.requests _ t.postings _ _
            (record {
              counts = refl;
              same =
                  used_on-changed hold.key _ (followed_kept _)
                  (λ x. (hold_ended (prior_of hold)).pending) t.requests;
              fewer =
                  pending_on-changed hold.key _ (followed_kept _)
                  (λ x. (hold_ended (prior_of hold)).pending) t.requests;
              once = posted_on-ended t.postings
                  (Some (completion_posting t.day r (prior_of hold)))
                  (text_at r.message 42) t.day made.of;
            }) c.room h.counts);
        reversed = λ r merchant g row c.
            let sound : IsSoundRow t.day row =
            All-member (IsSoundRow t.day) t.requests row h.rows c.member in
            let ended = (original_ended (prior_of row) (remaining_in r.message)).pending in
            let made = reversal_made t.day t.day r row sound c.less in sound_with h
            (All-push (IsSoundRow t.day) _ _
            (sound_changed t.day row _ (followed_kept _)
            (remains_accepted (prior_of row) (remaining_in r.message) c.less) t.requests
            keys.requests c.member h.rows)
            (sound_plain t.day _ refl refl
            (reference_by-bounded t.day row.key.service row sound.bounded)
            (λ s n e. absurd (let no : is_reversal r.service ≡ false = ap is_reversal s in
            cc))))
            (postings_with t.day t.day (text_at r.message 42) t.postings
            (reversal_posting t.day r (prior_of row)) (omega arith) made h.postings)
            (within_counted t.limit t.requests _ t.postings _ _
            (record {
              counts = refl;
              same = used_on-changed row.key _ (followed_kept _) (λ x. ended) t.requests;
              fewer = pending_on-changed row.key _ (followed_kept _) (λ x. ended) t.requests;
              once =
                  posted_on-ended t.postings (reversal_posting t.day r (prior_of row))
                  (text_at r.message 42) t.day
                  (some_of (text_at r.message 42) t.day
                  (reversal_posting t.day r (prior_of row)) made);
            }) c.room h.counts);
        reconciled = λ r merchant g day c. sound_with h
            (All-push (IsSoundRow t.day) t.requests _ h.rows
            (sound_plain t.day _ refl refl tt (λ s n e. absurd cc))) h.postings
            (within_uncounted t.limit t.requests t.postings _ refl refl h.counts);
        answered = λ moment v row c.
            let sound : IsSoundRow t.day row =
            All-member (IsSoundRow t.day) t.requests row h.rows c.member in
            let made = answer_made t.day v row sound in sound_with h
            (sound_changed t.day row _ (answered_kept _ _ _) (λ accepted. accepted) t.requests
            keys.requests c.member h.rows)
            (postings_with t.day row.day row.key.merchant t.postings
            (answer_posting v (prior_of row))
            sound.bounded.day made h.postings)
            (within_answered row.key _ (answered_kept _ _ _)
            (λ x. answered_status-ended v) t.requests
            t.limit t.postings row (answer_posting v (prior_of row)) c.member refl
            (ap is_pending c.pending)
            (some_of row.key.merchant row.day (answer_posting v (prior_of row)) made)
            h.counts);
        cut_over = λ came before. record {
          limit = h.limit;
          day = omega arith;
          firsts = h.firsts;
          rows = All-weaker (IsSoundRow t.day) (IsSoundRow (t.day + 1))
              (λ row s. sound_later t.day (t.day + 1) row (omega arith) s)
              t.requests h.rows;
          postings = All-weaker (IsBoundedPosting t.day) (IsBoundedPosting (t.day + 1))
              (λ row p. record {
                day = let on = p.day in omega arith;
                amount = p.amount;
                reference = p.reference;
              })
              t.postings h.postings;
          counts = h.counts;
        };
        range_added = λ range came valid free. sound_with h h.rows h.postings h.counts;
        range_dropped = λ low high came. sound_with h h.rows h.postings h.counts;
        enrolled = λ merchant came new. record {
          limit = h.limit;
          day = h.day;
          firsts = All-push HasFirst t.merchants merchant h.firsts
              (subst IsArrival came is).first_reference;
          rows = h.rows;
          postings = h.postings;
          counts = h.counts;
        };
        terminal_added = λ terminal came new. sound_with h h.rows h.postings h.counts;
      })

  -- ---- what is said of a merchant

  length-filter_count : {X : Type 0} (p : X → Bool) (xs : List X) →
      length (filter p xs) ≡ count p xs
  length-filter_count p [] = refl
  length-filter_count p (x ∷ xs) =
      let rest = length-filter_count p xs in
      elim (p x) as
      (λ b. length (cond b (x ∷ filter p xs) (filter p xs)) ≡ cond b (1 + count p xs)
      (count p xs)) [
        | true ↦ omega arith
        | false ↦ rest
      ]

  -- a posting as totals see it
  abbrev shown : ℕ × Posting → Leg × ℕ
  shown row = (row.1.leg, row.1.amount)

  -- of an amount that totals hold
  abbrev Small : ℕ × Posting → Type 0
  Small row = row.1.amount ≤ greatest_posting

  within_limit : (t : Tables) → HasSoundNumbers opening t → (m : List ℕ) → IsWithinLimit t m
  within_limit t h m = record {
    admitted = le-leb _ _ (admitted_within t h m);
    used = h.counts.used m;
    posted = posted;
    totals = λ day.
        let rows = filter (λ (row : ℕ × Posting). eqb row.1.day day) (postings_of m t.postings) in
        FitsDay-within (map shown rows) (record {
          few =
              let few = posted day in
              let size = length-filter_count (λ (row : ℕ × Posting). eqb row.1.day day)
              (postings_of m t.postings) in
              let same : length (map shown rows) ≡ length rows = length-map rows shown in
              let most = leb-true opening.limit greatest_limit
              (and_parts (leb 1 opening.limit) _ begins.limit).1 in
              let limit = h.limit in
              omega arith;
          small =
              All-map (λ (p : Leg × ℕ). p.1 ≤ greatest_posting) shown rows
              (All-filter (λ (row : ℕ × Posting). eqb row.1.day day) Small
              (postings_of m t.postings)
              (All-filter (λ (row : ℕ × Posting). bytes_eq row.1.merchant m) Small t.postings
              (All-weaker (IsBoundedPosting t.day) Small
              (λ row p. leb-true row.1.amount 9999999999
              (and_parts (leb 1 row.1.amount) _ p.amount).1) t.postings
              h.postings)));
        });
  }
    where
      posted : (day : ℕ) →
          count (λ (row : ℕ × Posting). eqb row.1.day day) (postings_of m t.postings) ≤ t.limit
      posted day =
          let one = h.counts.posted m day in
          let all = h.counts.used m day in
          omega arith

pub numbers_stay_bounded : NumbersStayBounded
numbers_stay_bounded opening es begins are =
    let t = tables_after (new_tables opening) es in
    let sound : HasSoundNumbers opening (tables_after (new_tables opening) es) =
    (kept_by_events (λ u. HasUniqueKeys u × HasSoundNumbers opening u)
    (λ u a is both. (unique_after_step u a both.0, step opening begins u a is both.0 both.1))
    (new_tables opening) es are (
      record { requests = refl; merchants = refl; terminals = refl },
      record {
        limit = refl;
        day = begins.first_day;
        firsts = All-nil HasFirst;
        rows = All-nil (IsSoundRow opening.first_day);
        postings = All-nil (IsBoundedPosting opening.first_day);
        counts = record { used = λ m day. omega arith; posted = λ m day. omega arith };
      },
    )).1 in
    record {
      limit = sound.limit;
      day = sound.day;
      requests = All-weaker (IsSoundRow t.day) (IsBoundedRow t.day) (λ row s. s.bounded) t.requests
          sound.rows;
      postings = sound.postings;
      merchants = within_limit opening begins t sound;
    }
