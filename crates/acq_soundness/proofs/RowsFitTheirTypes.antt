-- Each column of each row is what its Rust type holds, whatever comes.
use Rattle.std.proofs.Common.{◌≡◌, ℕ, ◌+◌, ◌≤◌, List, [], ◌∷◌, ◌++◌, Option, Some, None, Bool, true}
use Rattle.std.proofs.Common.{false, cond, eqb, leb, inl, inr, refl, sym, ap, ◌∙◌, subst, arith}
use Rattle.std.specs.Prelude.{All, IfSome, filter, option_map, ◌&&◌}
use Rattle.std.specs.List.{list_all}
use Rattle.std.specs.Str.{bytes_eq}
use Rattle.std.proofs.lemmas.Bool.{and_parts, leb-true, le-leb}
use Rattle.std.proofs.lemmas.List.Elements.{All-nil, All-push}
use Rattle.card_no.specs.declared.range.Range.{Range}
use Rattle.card_no.specs.Ranges.{is_valid_range, are_apart, is_issuer}
use Rattle.card_no.specs.Prefix.{greatest_prefix}
use Rattle.card_no.specs.Track2.{may_be_number}
use Rattle.day_totals.specs.Day.{last_day}
use Rattle.day_totals.specs.declared.leg.Leg.{Leg}
use Rattle.acq_message.specs.declared.service.Service.{Service}
use Rattle.acq_message.specs.declared.service.Service.TheVariants.{Authorization, NetworkManagement}
use Rattle.acq_message.specs.declared.request_key.RequestKey.{RequestKey}
use Rattle.acq_message.specs.declared.request_message.RequestMessage.{RequestMessage}
use Rattle.acq_message.specs.declared.verdict.Verdict.{Verdict}
use Rattle.acq_message.specs.declared.verdict.Verdict.TheVariants as verdict
use Rattle.acq_message.specs.Moments.{is_moment}
use Rattle.acq_message.specs.Names.{is_merchant, is_terminal, is_trace}
use Rattle.acq_message.specs.Numbers.{is_amount, is_accepted_amount}
use Rattle.acq_message.specs.Elements.{or_empty, key_of, amount_in, remaining_in}
use Rattle.acq_core.specs.declared.event.Event.{Event}
use Rattle.acq_core.specs.declared.arrival.Arrival.{Arrival}
use Rattle.acq_core.specs.declared.posting.Posting.{Posting}
use Rattle.acq_core.specs.declared.request.Request.{Request}
use Rattle.acq_core.specs.declared.remains.Remains.{Remains}
use Rattle.acq_core.specs.Arrivals.{arrival_of}
use Rattle.acq_core.specs.Changes.{change_of, end_of_hold, answered_hold_end, approval_posting}
use Rattle.acq_core.specs.Changes.{answer_posting, posting_today, posted_leg, reversal_leg}
use Rattle.acq_core.specs.Changes.{reversal_posting, completion_posting, reversing_posting}
use Rattle.acq_core.specs.Tables.{Opening, Tables, new_tables, count, prior_of, reply_state_of}
use Rattle.acq_core.specs.Tables.{leg_by, postings_of, postings_before, with_changed}
use Rattle.acq_core.specs.Tables.{with_next_posting, known_in, after_any, step_tables, tables_after}
use Rattle.acq_core.specs.Tables.{followed_row}
use Rattle.acq_soundness.proofs.Members.{In}
use Rattle.acq_soundness.proofs.Keys.{bytes_eq_itself, eqb_itself}
use Rattle.acq_soundness.proofs.StepCases.{by_step}
use Rattle.acq_core.specs.Events.{AreEvents, IsOpening}
use Rattle.acq_soundness.specs.Ranges.{HasRangesApart}
use Rattle.acq_soundness.specs.CardData.{KeepsNoSensitiveData, HasNoSensitiveData}
use Rattle.acq_soundness.specs.Bounds.{IsBounded}
use Rattle.acq_soundness.specs.Rows.{AreHoldDays, greatest_hold_end, FitsMerchant, FitsTerminal}
use Rattle.acq_soundness.specs.Rows.{FitsKey, FitsReconciliation, RowsFitTheirTypes}
use Rattle.acq_core.specs.Pasts.{IsBook}
use Rattle.acq_soundness.proofs.Arrivals.{IsWhole, IsArrival, of_event}
use Rattle.acq_soundness.proofs.RowsWithChanges.{All-with_changed, All-member}
use Rattle.acq_soundness.proofs.WhatRemains.{remains_amount}
use Rattle.acq_soundness.proofs.CountsOfRows.{one_if, count-filter_push}
use Rattle.acq_soundness.proofs.ContentsFit.{key_of-fits, amount_in-fits}
use Rattle.acq_soundness.proofs.RangesStayApart.{ranges_stay_apart}
use Rattle.acq_soundness.proofs.RepliesAreMessages.{reconciled_day-within, replies_are_messages}
use Rattle.acq_soundness.proofs.SensitiveDataStaysOut.{IsNumber, sensitive_data_stays_out}
use Rattle.acq_soundness.proofs.NumbersStayBounded.{numbers_stay_bounded}
use Rattle.acq_soundness.proofs.BooksGoOn.{books_go_on, kept_in_books}

-- ---- requests

-- the columns of a request that the other laws leave out
record FitsColumns (row : Request) : Type 0 where
  key : FitsKey row.key
  amount : is_amount row.amount ≡ true
  hold_days : IfSome row.hold_days AreHoldDays
  hold_end : IfSome row.hold_end (λ n. n ≤ greatest_hold_end)

-- a row of a request, without a hold's end
columns_of : (r : RequestMessage) → IsWhole r → (r.service ≡ NetworkManagement → ⊥) →
    (row : Request) → row.key ≡ key_of r.service r.message → row.amount ≡ amount_in r.message →
    IfSome row.hold_days AreHoldDays → row.hold_end ≡ None → FitsColumns row
columns_of r whole recordable row key amount days endless = record {
  key = subst FitsKey (sym key) (key_of-fits r whole recordable);
  amount = ap is_amount amount ∙ amount_in-fits r.message whole.message;
  hold_days = days;
  hold_end = subst (λ o. IfSome o (λ n. n ≤ greatest_hold_end)) (sym endless) tt;
}

-- a range of a list of valid ones
hold_days-valid : (ranges : List Range) (range : Range) → list_all is_valid_range ranges ≡ true →
    In range ranges → AreHoldDays range.hold_days
hold_days-valid [] range valid member = absurd member
hold_days-valid (x ∷ xs) range valid (inl is) =
    let one = (and_parts (is_valid_range x) (list_all is_valid_range xs) valid).0 in
    let last = and_parts
    (leb x.low x.high && leb x.high greatest_prefix && is_issuer x.issuer && leb 1 x.hold_days)
    _ one in
    let least = and_parts (leb x.low x.high && leb x.high greatest_prefix && is_issuer x.issuer) _
    last.0 in
    subst (λ (y : Range). AreHoldDays y.hold_days) is
    (leb-true 1 x.hold_days least.1, leb-true x.hold_days 31 last.1)
hold_days-valid (x ∷ xs) range valid (inr member) =
    hold_days-valid xs range (and_parts (is_valid_range x) (list_all is_valid_range xs) valid).1
    member

-- when an approved hold ends
end_of_hold-within : (moment : ℕ) (o : Option ℕ) → is_moment moment ≡ true → IfSome o AreHoldDays →
    IfSome (option_map (end_of_hold moment) o) (λ n. n ≤ greatest_hold_end)
end_of_hold-within moment None is days = tt
end_of_hold-within moment (Some n) is days =
    let last = leb-true moment 4102444799 (and_parts (leb 946684800 moment) _ is).1 in
    let most = days.1 in
    omega arith

hold_end-within : (s : Service) (moment : ℕ) (v : Verdict) (o : Option ℕ) →
    is_moment moment ≡ true →
    IfSome o AreHoldDays → IfSome (answered_hold_end s moment v o) (λ n. n ≤ greatest_hold_end)
hold_end-within Authorization moment (verdict.Approved id) o is days =
    end_of_hold-within moment o is days
hold_end-within Authorization moment other o is days = tt
hold_end-within s moment v o is days = tt

-- ---- postings

record FitsNames (p : Posting) : Type 0 where
  merchant : is_merchant p.merchant ≡ true
  terminal : is_terminal p.terminal ≡ true
  trace : is_trace p.trace ≡ true
  card : may_be_number p.card ≡ true

record FitsPostingColumns (limit : ℕ) (row : ℕ × Posting) : Type 0 where
  number : row.0 ≤ limit
  names : FitsNames row.1

number_or_empty : (o : Option (List ℕ)) → IsNumber o → may_be_number (or_empty o) ≡ true
number_or_empty None is = refl
number_or_empty (Some text) is = is

count-both : {X : Type 0} (p q : X → Bool) (xs : List X) →
    count q (filter p xs) ≡ count (λ x. p x && q x) xs
count-both p q [] = refl
count-both p q (x ∷ xs) =
    let rest = count-both p q xs in
    elim (p x) as (λ b. count q (cond b (x ∷ filter p xs) (filter p xs))
    ≡ cond (b && q x) (1 + count (λ y. p y && q y) xs) (count (λ y. p y && q y) xs)) [
      | true ↦ ap (λ n. cond (q x) (1 + n) n) rest
      | false ↦ rest
    ]

-- how many of a merchant and day there are
abbrev pub posted_at : List (ℕ × Posting) → List ℕ → ℕ → ℕ
posted_at ps m day = count (λ row. eqb row.1.day day) (postings_of m ps)

-- a number is one of those that the limit allows
next_number-within : (limit : ℕ) (ps : List (ℕ × Posting)) (p : Posting) →
    posted_at (with_next_posting ps (Some p)) p.merchant p.day ≤ limit →
    postings_before ps p + 1 ≤ limit
next_number-within limit ps p within =
    let row : ℕ × Posting = (postings_before ps p + 1, p) in
    let more : posted_at (ps ++ row ∷ []) p.merchant p.day
    ≡ posted_at ps p.merchant p.day + one_if (bytes_eq p.merchant p.merchant && eqb p.day p.day) =
    count-filter_push (λ (x : ℕ × Posting). bytes_eq x.1.merchant p.merchant)
    (λ x. eqb x.1.day p.day) ps row in
    let both : posted_at ps p.merchant p.day ≡ postings_before ps p =
    count-both (λ (x : ℕ × Posting). bytes_eq x.1.merchant p.merchant) (λ x. eqb x.1.day p.day) ps
    in
    let one : one_if (bytes_eq p.merchant p.merchant && eqb p.day p.day) ≡ 1 =
    λ i. one_if (bytes_eq_itself p.merchant i && eqb_itself p.day i) in
    omega arith

postings_fit : (limit : ℕ) (ps : List (ℕ × Posting)) (o : Option Posting) → IfSome o FitsNames →
    ((m : List ℕ) (day : ℕ) → posted_at (with_next_posting ps o) m day ≤ limit) →
    All (FitsPostingColumns limit) ps → All (FitsPostingColumns limit) (with_next_posting ps o)
postings_fit limit ps None names within h = h
postings_fit limit ps (Some p) names within h =
    All-push (FitsPostingColumns limit) ps (postings_before ps p + 1, p) h
    (record { number = next_number-within limit ps p (within p.merchant p.day); names = names })

-- the names of a posting that an approval makes
approval-names : (row : Request) → FitsKey row.key → IsNumber row.card → (o : Option Leg) →
    IfSome (approval_posting (prior_of row) o) FitsNames
approval-names row key card None = tt
approval-names row key card (Some leg) = record {
  merchant = key.merchant;
  terminal = key.terminal;
  trace = key.trace;
  card = number_or_empty row.card card;
}

answer-names : (v : Verdict) (row : Request) → FitsKey row.key → IsNumber row.card →
    IfSome (answer_posting v (prior_of row)) FitsNames
answer-names (verdict.Approved id) row key card =
    approval-names row key card (leg_by row.key.service row)
answer-names other row key card = tt

-- those of one that a request makes of an earlier one
today-names : (today : ℕ) (r : RequestMessage) (leg : Leg) (amount : ℕ) (row : Request) →
    FitsKey (key_of r.service r.message) → IsNumber row.card →
    FitsNames (posting_today today r leg amount (prior_of row))
today-names today r leg amount row key card = record {
  merchant = key.merchant;
  terminal = key.terminal;
  trace = key.trace;
  card = number_or_empty row.card card;
}

reversal-names : (today : ℕ) (r : RequestMessage) (row : Request) →
    FitsKey (key_of r.service r.message) →
    IsNumber row.card → (o : Option Leg) →
    IfSome (option_map (reversing_posting today r (prior_of row)) o) FitsNames
reversal-names today r row key card None = tt
reversal-names today r row key card (Some leg) =
    today-names today r (reversal_leg leg) _ row key card

-- ---- steps

record HasFittingColumns (t : Tables) : Type 0 where
  merchants : All FitsMerchant t.merchants
  terminals : All FitsTerminal t.terminals
  requests : All FitsColumns t.requests
  postings : All (FitsPostingColumns t.limit) t.postings
  reconciliations : All FitsReconciliation t.reconciliations

-- rows with one that a completion or a reversal followed
fitting_followed : (key : RequestKey) (remains : Remains) (rows : List Request) →
    is_amount remains.amount ≡ true → All FitsColumns rows →
    All FitsColumns (with_changed key (followed_row remains) rows)
fitting_followed key remains rows amount h =
    All-with_changed FitsColumns key (followed_row remains) rows
    (λ x same c. record {
      key = c.key;
      amount = amount;
      hold_days = c.hold_days;
      hold_end = c.hold_end;
    }) h

-- tables with other requests and postings
fitting_with : {t : Tables} {day : ℕ} {ranges : List Range} {rows : List Request}
    {ps : List (ℕ × Posting)} →
    HasFittingColumns t → All FitsColumns rows → All (FitsPostingColumns t.limit) ps →
    HasFittingColumns (record t { day = day; ranges = ranges; requests = rows; postings = ps })
fitting_with h requests postings = record {
  merchants = h.merchants;
  terminals = h.terminals;
  requests = requests;
  postings = postings;
  reconciliations = h.reconciliations;
}

module _ (opening : Opening) (t : Tables) (ranges : HasRangesApart t) (cards : HasNoSensitiveData t)
    (day : t.day ≤ last_day) where
  card_of-row : (row : Request) → In row t.requests → IsNumber row.card
  card_of-row row member = (All-member KeepsNoSensitiveData t.requests row cards member).card

  -- where the next tables are bounded
  step : (a : Arrival) → IsArrival a → HasFittingColumns t → IsBounded opening (step_tables t a) →
      HasFittingColumns (step_tables t a)
  step a is h =
      by_step t a (λ d. IsBounded opening (after_any t (change_of (known_in t a) d)) →
      HasFittingColumns (after_any t (change_of (known_in t a) d)))
      (record {
        reported = λ o not b. h;
        malformed = λ r came b. h;
        replied = λ r came given hosts b. h;
        repeated = λ row member b. h;
        refused = λ r merchant g given hosts b. fitting_with h
            (All-push FitsColumns t.requests _ h.requests
            (columns_of r (subst IsArrival g.came is) g.recordable _ refl refl tt refl))
            h.postings;
        admitted = λ r merchant g range c b. fitting_with h
            (All-push FitsColumns t.requests _ h.requests
            (columns_of r (subst IsArrival g.came is) g.recordable _ refl refl
            (hold_days-valid t.ranges range
            (and_parts (list_all is_valid_range t.ranges) (are_apart t.ranges) ranges).0 c.held)
            refl)) h.postings;
        completed = λ r merchant g hold c b. fitting_with h
            (All-push FitsColumns _ _ (fitting_followed hold.key _ t.requests
            (All-member FitsColumns t.requests hold h.requests c.member).amount h.requests)
            (columns_of r (subst IsArrival g.came is) g.recordable _ refl refl tt refl))
            (postings_fit t.limit t.postings (Some (completion_posting t.day r (prior_of hold)))
            (today-names t.day r _ _ hold (key_of-fits r (subst IsArrival g.came is) g.recordable)
            (card_of-row hold c.member))
            (λ m on. (b.merchants m).posted on) h.postings);
        reversed = λ r merchant g row c b. fitting_with h
            (All-push FitsColumns _ _ (fitting_followed row.key _ t.requests
            (remains_amount (prior_of row) (remaining_in r.message) c.less
            (All-member FitsColumns t.requests row h.requests c.member).amount) h.requests)
            (columns_of r (subst IsArrival g.came is) g.recordable _ refl refl tt refl))
            (postings_fit t.limit t.postings (reversal_posting t.day r (prior_of row))
            (reversal-names t.day r row (key_of-fits r (subst IsArrival g.came is) g.recordable)
            (card_of-row row c.member)
            (posted_leg (reply_state_of row.status row.reply) (leg_by row.key.service row)))
            (λ m on. (b.merchants m).posted on) h.postings);
        reconciled = λ r merchant g on c b.
            let within = reconciled_day-within t.day _ on c.resolves in
            let today = day in record {
              merchants = h.merchants;
              terminals = h.terminals;
              requests =
                  All-push FitsColumns t.requests _ h.requests
                  (columns_of r (subst IsArrival g.came is) g.recordable _ refl refl tt refl);
              postings = h.postings;
              reconciliations =
                  All-push FitsReconciliation t.reconciliations _ h.reconciliations (record {
                    merchant = (key_of-fits r (subst IsArrival g.came is) g.recordable).merchant;
                    day = omega arith;
                  });
            };
        answered = λ moment v row c b.
            let columns : FitsColumns row =
            All-member FitsColumns t.requests row h.requests c.member in fitting_with h
            (All-with_changed FitsColumns row.key _ t.requests
            (λ x same was. record {
              key = was.key;
              amount = was.amount;
              hold_days = was.hold_days;
              hold_end =
                  hold_end-within row.key.service moment v row.hold_days
                  (subst IsArrival c.came is).0
                  columns.hold_days;
            }) h.requests)
            (postings_fit t.limit t.postings (answer_posting v (prior_of row))
            (answer-names v row columns.key (card_of-row row c.member))
            (λ m on. (b.merchants m).posted on) h.postings);
        cut_over = λ came before b. fitting_with h h.requests h.postings;
        range_added = λ range came valid free b. fitting_with h h.requests h.postings;
        range_dropped = λ low high came b. fitting_with h h.requests h.postings;
        enrolled = λ merchant came new b. record {
          merchants = All-push FitsMerchant t.merchants merchant h.merchants
              (subst IsArrival came is);
          terminals = h.terminals;
          requests = h.requests;
          postings = h.postings;
          reconciliations = h.reconciliations;
        };
        terminal_added = λ terminal came new b. record {
          merchants = h.merchants;
          terminals = All-push FitsTerminal t.terminals terminal h.terminals
              (subst IsArrival came is);
          requests = h.requests;
          postings = h.postings;
          reconciliations = h.reconciliations;
        };
      })

-- ---- books

module _ (opening : Opening) (t : Tables) (book : IsBook opening t) where
  pub ranges_of : HasRangesApart t
  ranges_of = subst HasRangesApart (sym book.after) (ranges_stay_apart opening book.events)

  pub cards_of : HasNoSensitiveData t
  cards_of =
      subst HasNoSensitiveData (sym book.after)
      (sensitive_data_stays_out opening book.events book.opens book.are_events).0

  pub numbers_of : IsBounded opening t
  numbers_of =
      subst (IsBounded opening) (sym book.after)
      (numbers_stay_bounded opening book.events book.opens book.are_events)

columns_fit : (opening : Opening) (es : List Event) → IsOpening opening → AreEvents es →
    HasFittingColumns (tables_after (new_tables opening) es)
columns_fit opening es opens are =
    kept_in_books opening HasFittingColumns opens
    (λ t e book is h.
    step opening t (ranges_of opening t book) (cards_of opening t book)
    (numbers_of opening t book).day
    (arrival_of e) (of_event e is) h
    (numbers_of opening (step_tables t (arrival_of e)) (books_go_on opening t e book is))) es are
    (record {
      merchants = All-nil FitsMerchant;
      terminals = All-nil FitsTerminal;
      requests = All-nil FitsColumns;
      postings = All-nil (FitsPostingColumns opening.limit);
      reconciliations = All-nil FitsReconciliation;
    })

-- an accepted amount is one
accepted-amount : (n : ℕ) → is_accepted_amount n ≡ true → is_amount n ≡ true
accepted-amount n h =
    let most = leb-true n 9999999999 (and_parts (leb 1 n) _ h).1 in
    le-leb n 999999999999 (omega arith)

pub rows_fit_their_types : RowsFitTheirTypes
rows_fit_their_types opening es opens are =
    let t = tables_after (new_tables opening) es in
    let columns = columns_fit opening es opens are in
    let bounds = numbers_stay_bounded opening es opens are in
    let cards = (sensitive_data_stays_out opening es opens are).0 in
    let replies = (replies_are_messages opening es opens are).0 in
    let today = bounds.day in
    record {
      merchants = columns.merchants;
      terminals = columns.terminals;
      requests = λ k d lt. record {
        key = (columns.requests k d lt).key;
        day = let on = (bounds.requests k d lt).day in omega arith;
        reference = (bounds.requests k d lt).reference;
        follows = (bounds.requests k d lt).follows;
        amount = (columns.requests k d lt).amount;
        card = (cards k d lt).card;
        acquirer = (cards k d lt).acquirer;
        hold_days = (columns.requests k d lt).hold_days;
        hold_end = (columns.requests k d lt).hold_end;
        reply = (replies k d lt).is_message;
      };
      postings = λ k d lt. record {
        number = (columns.postings k d lt).number;
        merchant = (columns.postings k d lt).names.merchant;
        day = let on = (bounds.postings k d lt).day in omega arith;
        amount = accepted-amount _ (bounds.postings k d lt).amount;
        reference = (bounds.postings k d lt).reference;
        card = (columns.postings k d lt).names.card;
        terminal = (columns.postings k d lt).names.terminal;
        trace = (columns.postings k d lt).names.trace;
      };
      reconciliations = columns.reconciliations;
    }
