-- Conservation, step by step: each decision leaves rows and postings in which nothing is posted or
-- reversed twice.
use Rattle.std.proofs.Common.{◌≡◌, ℕ, ◌≤◌, List, [], ◌∷◌, ◌++◌, Option, Some, None, true, false}
use Rattle.std.proofs.Common.{cond, inl, inr, refl, sym, ap, ◌∙◌, subst, arith}
use Rattle.std.specs.Prelude.{option_map}
use Rattle.std.specs.Str.{bytes_eq}
use Rattle.iso_codec.specs.Message.{IsoMessage}
use Rattle.card_no.specs.declared.range.Range.{Range}
use Rattle.day_totals.specs.declared.leg.Leg.{Leg}
use Rattle.day_totals.specs.declared.leg.Leg.TheVariants.{Credit, Debit}
use Rattle.acq_core.specs.declared.event.Event.{Event}
use Rattle.acq_message.specs.declared.service.Service.{Service}
use Rattle.acq_message.specs.declared.service.Service.TheVariants.{Authorization, Financial}
use Rattle.acq_message.specs.declared.service.Service.TheVariants.{Completion}
use Rattle.acq_core.specs.declared.request.Request.{Request}
use Rattle.acq_core.specs.declared.merchant.Merchant.{Merchant}
use Rattle.acq_core.specs.declared.status.Status.{Status}
use Rattle.acq_core.specs.declared.status.Status.TheVariants as status
use Rattle.acq_core.specs.declared.posting.Posting.{Posting}
use Rattle.acq_message.specs.declared.verdict.Verdict.{Verdict}
use Rattle.acq_message.specs.declared.verdict.Verdict.TheVariants as verdict
use Rattle.acq_message.specs.Elements.{transaction_in, key_of, or_empty, sale_leg, remaining_in}
use Rattle.acq_message.specs.declared.request_message.RequestMessage.{RequestMessage}
use Rattle.acq_core.specs.Changes.{change_of, admitted_leg, admitted_row, completion_row}
use Rattle.acq_core.specs.Changes.{reversal_row, completion_posting, reversing_posting}
use Rattle.acq_core.specs.Changes.{approval_posting, answer_posting, reversal_posting, reversal_leg}
use Rattle.acq_core.specs.Changes.{posted_leg, answered_status, or_zero, remains_of}
use Rattle.acq_core.specs.Changes.{remains_of_hold}
use Rattle.acq_core.specs.Tables.{Opening, Tables, new_tables, prior_of, reply_state_of}
use Rattle.acq_core.specs.Tables.{is_reversible, leg_by, reference_by, known_in, with_changed}
use Rattle.acq_core.specs.Tables.{with_next_posting, after_any, step_tables, tables_after}
use Rattle.acq_core.specs.Tables.{followed_row, answered_row}
use Rattle.acq_soundness.specs.Requests.{is_reversal}
use Rattle.acq_history.specs.Conservation.{is_reversal_leg, IsConserved}
use Rattle.acq_soundness.proofs.Members.{In, In-first, In-last, In-push, from_In, to_In}
use Rattle.acq_soundness.proofs.WhatRemains.{left_by, legged_not_lowered}
use Rattle.acq_soundness.proofs.FoundRows.{IsNew}
use Rattle.acq_history.proofs.PostingsOfRequests.{is_posted, is_reversed, posted_by, posted}
use Rattle.acq_history.proofs.PostingsOfRequests.{IsPostingOf, HasPosted, PostingsMatchRows, Grows}
use Rattle.acq_history.proofs.PostingsOfRequests.{FromBefore, FromBeforeOr, unposted, posted_next}
use Rattle.acq_history.proofs.RowsStayWellFormed.{IsWellFormed, IsFit, IsCompleting, IsReplaced}
use Rattle.acq_history.proofs.RowsStayWellFormed.{well_formed_later, well_formed_with_merchant}
use Rattle.acq_history.proofs.RowsStayWellFormed.{well_formed_with_row, well_formed_changed}
use Rattle.acq_history.proofs.RowsStayWellFormed.{replaced}
use Rattle.acq_history.proofs.PostingsOfChangedRows.{IsLegOf, IsStanding, reversed_as}
use Rattle.acq_history.proofs.PostingsOfChangedRows.{posted_same, posted_none, posted_reversing}
use Rattle.acq_history.proofs.PostingsOfChangedRows.{posted_unsold, leg_of, leg_by_admissible}
use Rattle.acq_history.proofs.PostingsOfChangedRows.{reversal_leg_is, reversible, posted_leg_is}
use Rattle.acq_history.proofs.PostingsOfChangedRows.{once_posted, none_posted, Grows-push}
use Rattle.acq_history.proofs.PostingsOfChangedRows.{Grows-both, from_push, pushed, Grows-replaced}
use Rattle.acq_history.proofs.PostingsOfChangedRows.{from_replaced, KeepsAmount, LeavesPosted}
use Rattle.acq_history.proofs.PostingsOfChangedRows.{leaves_posted, approved_standing}
use Rattle.acq_soundness.proofs.Lookups.{some_is}
use Rattle.acq_soundness.proofs.RowsWithChanges.{Edits, followed_kept, answered_kept}
use Rattle.acq_soundness.proofs.StepCases.{by_step, IsRecording, IsCompletion, IsReversal}
use Rattle.acq_soundness.proofs.StepCases.{next_reference, IsAdmission, IsAnswering}
use Rattle.acq_core.specs.declared.arrival.Arrival.{Arrival}
use Rattle.acq_soundness.proofs.Runs.{kept}
use Rattle.acq_history.proofs.Statuses.{open_row, is_some_open}

-- what holds of every book
record AreInOrder (day : ℕ) (merchants : List Merchant) (rows : List Request)
    (ps : List (ℕ × Posting)) : Type 0 where
  well_formed : IsWellFormed day merchants rows
  match_rows : PostingsMatchRows rows ps

-- the tables' rows and postings are in order
abbrev IsInOrder : Tables → Type 0
IsInOrder t = AreInOrder t.day t.merchants t.requests t.postings

-- ---- rows that complete nothing and have no reference

-- such a row may be added
fits_plain : (day : ℕ) (merchants : List Merchant) (rows : List Request) (row : Request) →
    ((a : Request) → In a rows → a.key ≡ row.key → ⊥) → row.reference ≡ None →
    ((n : ℕ) → IsCompleting row row.key.merchant n → ⊥) →
    (is_reversal row.key.service ≡ false → is_reversal_leg row.leg ≡ false) → row.day ≤ day →
    IsFit day merchants rows row
fits_plain day merchants rows row new unreferred uncompleting leg dated = record {
  new = new;
  next = λ n e. absurd (cc);
  admissible = λ n e. absurd (cc);
  held = λ n c. absurd (uncompleting n c);
  only = λ a n i c d. uncompleting n c;
  leg = leg;
  dated = dated;
}

-- what follows nothing completes nothing
not_completing : (row : Request) (m : List ℕ) (n : ℕ) → row.follows ≡ None → IsCompleting row m n →
    ⊥
not_completing row m n e c = let follows = c.follows in cc

-- a refusal or a reconciliation
sound_with_row : (t : Tables) (row : Request) →
    IsNew t row.key → row.reference ≡ None → row.follows ≡ None →
    is_posted row.status ≡ false → is_reversal_leg row.leg ≡ false → row.day ≤ t.day → IsInOrder t →
    AreInOrder t.day t.merchants (t.requests ++ row ∷ []) t.postings
sound_with_row t row new unreferred unfollowing unposting leg dated s = record {
  well_formed =
      well_formed_with_row s.well_formed
      (fits_plain t.day t.merchants t.requests row new unreferred
      (λ n c. not_completing row row.key.merchant n unfollowing c)
      (λ e. leg) dated);
  match_rows = pushed row (posted_none row.key.service row unposting unfollowing) s.match_rows;
}

-- ---- an admission

-- an admitted request has no leg of a reversal
admitted_leg_is : (s : Service) (m : IsoMessage) →
    is_reversal_leg (admitted_leg s (sale_leg m)) ≡ false
admitted_leg_is Financial m =
    elim (bytes_eq (transaction_in m) (50 ∷ 48 ∷ [])) as
    (λ b. is_reversal_leg (cond b Credit Debit) ≡ false) [
      | true ↦ refl
      | false ↦ refl
    ]
admitted_leg_is service m = refl

-- an admission keeps a book in order
sound_admitted : {a : Arrival} (t : Tables) (r : RequestMessage) (merchant : Merchant)
    (range : Range) → IsRecording t a r merchant → IsAdmission t r merchant range → IsInOrder t →
    AreInOrder t.day t.merchants
    (t.requests ++ admitted_row t.day r range (next_reference t r merchant) ∷ []) t.postings
sound_admitted t r merchant range g c s = record {
  well_formed = well_formed_with_row s.well_formed (record {
    new = g.new;
    next = λ n f. record {
      merchant = merchant;
      enrolled = g.enrolled;
      next = sym (some_is (next_reference t r merchant) n f);
    };
    admissible = λ n f. c.service;
    held = λ n d. absurd (not_completing row row.key.merchant n refl d);
    only = λ a n i d e. not_completing row row.key.merchant n refl d;
    leg = λ f. admitted_leg_is r.service r.message;
    dated = omega arith;
  });
  match_rows = pushed row (posted_none r.service row refl refl) s.match_rows;
}
  where
    row : Request
    row = admitted_row t.day r range (next_reference t r merchant)

-- ---- a row changed

-- the rows in which this one was changed
abbrev edited : Tables → Request → (Request → Request) → List Request
edited t row changed = with_changed row.key changed t.requests

-- they replace it, stay well-formed, and where it has posted what it had, so have they
record IsEdited (t : Tables) (row : Request) (changed : Request → Request) : Type 0 where
  replaced : IsReplaced t.requests (edited t row changed) row (changed row)
  well_formed : IsWellFormed t.day t.merchants (edited t row changed)
  grows : ((n : ℕ) → posted row ≡ Some n → posted (changed row) ≡ Some n) →
      Grows t.requests (edited t row changed)
  from : posted (changed row) ≡ posted row → KeepsAmount row (changed row) →
      FromBefore t.requests t.postings (edited t row changed)

-- what changes was neither completed nor reversed
edited_is : (t : Tables) (row : Request) (changed : Request → Request) → Edits changed →
    In row t.requests → IsStanding row.status → IsInOrder t → IsEdited t row changed
edited_is t row changed edits i can s =
    let r = replaced t.requests row changed i edits s.well_formed in
    record {
      replaced = r;
      well_formed = well_formed_changed row changed i edits can.not_completed s.well_formed;
      grows = λ same. Grows-replaced r (edits row) same can.not_reversed;
      from = λ same keeps. from_replaced s.match_rows i r (edits row) same keeps;
    }

-- ---- a completion

-- an authorization posts nothing
unposted_by : (x : Request) → x.key.service ≡ Authorization → posted x ≡ None
unposted_by x f = ap (λ k. posted_by k x) f

-- what becomes of a hold that is completed
abbrev done : Request → Request → Request
done hold = followed_row (remains_of_hold (prior_of hold))

-- a completion of an open hold keeps a book in order
sound_completed : {a : Arrival} (t : Tables) (r : RequestMessage) (merchant : Merchant)
    (hold : Request) → IsRecording t a r merchant → IsCompletion t r merchant hold → IsInOrder t →
    AreInOrder t.day t.merchants
    (edited t hold (done hold) ++ completion_row t.day r (prior_of hold) ∷ [])
    (with_next_posting t.postings (Some (completion_posting t.day r (prior_of hold))))
sound_completed t r merchant hold g c s = record {
  well_formed = well_formed_with_row e.well_formed (record {
    new = λ a j f. elim (e.replaced.before a j) [
      | inl old ↦ g.new a old.0 f
      | inr changed ↦ g.new hold c.member (ap (λ x. x.key) changed ∙ f)
    ];
    next = λ k f. absurd (cc);
    admissible = λ k f. absurd (cc);
    held = λ k d. record {
      hold = done hold hold;
      member = e.replaced.changed;
      merchant = c.own;
      service = is.0;
      reference = c.reference ∙ (sym under ∙ d.follows);
      completed = refl;
    };
    only = λ a k j d f. elim (e.replaced.before a j) [
      | inl old ↦
          let held =
          s.well_formed.held a k old.0
          (record { merchant = refl; service = f.service; follows = f.follows }) in
          let same =
          s.well_formed.references held.hold hold k held.member c.member
          (held.merchant ∙ (f.merchant ∙ sym c.own)) held.reference
          (c.reference ∙ (sym under ∙ d.follows)) in
          incomplete (ap (λ x. x.status) (sym same) ∙ held.completed)
      | inr changed ↦
          let other : Authorization ≡ Completion =
          sym is.0 ∙ (ap (λ x. x.key.service) changed ∙ f.service) in absurd (cc)
    ];
    leg = λ f. refl;
    dated = omega arith;
  });
  match_rows =
      posted_next s.match_rows
      (Grows-both (e.grows (λ k f. same_posted ∙ f))
      (Grows-push (edited t hold (done hold)) row)) from
      (record {
        reversal = false;
        leg = refl;
        reverses = λ yes. absurd (cc);
        first =
            λ h. none_posted hold c.number s.well_formed c.member c.reference
            (unposted_by hold is.0) incomplete
            (subst (λ k. HasPosted false t.requests hold.key.merchant k) number
            (subst (λ m. HasPosted false t.requests m posting.reference) (sym c.own) h));
        made =
            record {
              row = row;
              member = In-last row (edited t hold (done hold));
              merchant = refl;
              under = row_posted ∙ ap (λ k. Some k) (sym number);
            };
      });
}
  where
    row : Request
    row = completion_row t.day r (prior_of hold)

    posting : Posting
    posting = completion_posting t.day r (prior_of hold)

    is : (hold.key.service ≡ Authorization) × IsStanding hold.status
    is =
        let found = open_row hold.key.service hold
        (is_some_open r.moment (prior_of hold).hold_end c.opens) in
        (found.0, approved_standing hold.status found.1.is)

    e : IsEdited t hold (done hold)
    e = edited_is t hold (done hold) (followed_kept _) c.member is.1 s

    incomplete : hold.status ≡ status.Completed → ⊥
    incomplete = is.1.not_completed

    same_posted : posted (done hold hold) ≡ posted hold
    same_posted = unposted_by (done hold hold) is.0 ∙ sym (unposted_by hold is.0)

    under : reference_by hold.key.service hold ≡ Some c.number
    under = ap (λ k. reference_by k hold) is.0 ∙ c.reference

    number : or_zero (reference_by hold.key.service hold) ≡ c.number
    number = ap or_zero under

    row_posted : posted (completion_row t.day r (prior_of hold)) ≡ Some c.number
    row_posted = ap (λ k. posted_by k (completion_row t.day r (prior_of hold))) c.service ∙ under

    from : FromBeforeOr t.postings (completion_posting t.day r (prior_of hold))
        (edited t hold (done hold) ++ completion_row t.day r (prior_of hold) ∷ [])
    from x k j f = elim (In-push x (edited t hold (done hold)) row j) [
      | inl old ↦ inl (e.from same_posted (λ n under. refl) x k old f)
      | inr changed ↦
          let of : IsPostingOf posting row k =
          record {
            merchant = refl;
            reference = number ∙ some_is c.number k (sym row_posted ∙ (ap posted changed ∙ f));
            leg = refl;
            amount = refl;
            card = refl;
            day = refl;
          } in
          inr (subst (λ y. IsPostingOf posting y k) changed of)
    ]

-- ---- a reversal

-- what becomes of a request that is reversed
abbrev undone : RequestMessage → Request → Request → Request
undone r row = followed_row (remains_of (prior_of row) (remaining_in r.message))

-- no reversal is a completion
not_completion : (x : Service) → is_reversal x ≡ true → x ≡ Completion → ⊥
not_completion x f g = let no : is_reversal x ≡ false = ap is_reversal g in cc

-- so does a reversal of what can be reversed
sound_reversed : {a : Arrival} (t : Tables) (r : RequestMessage) (merchant : Merchant)
    (row : Request) → IsRecording t a r merchant → IsReversal t r row → IsInOrder t →
    AreInOrder t.day t.merchants
    (edited t row (undone r row) ++ reversal_row t.day r (prior_of row) ∷ [])
    (with_next_posting t.postings (reversal_posting t.day r (prior_of row)))
sound_reversed t r merchant row g c s = record {
  well_formed =
      well_formed_with_row e.well_formed
      (fits_plain t.day t.merchants (edited t row (undone r row)) after fresh refl
      (λ k d. not_completion r.service c.service d.service)
      (λ f. absurd (let yes = c.service in cc)) (omega arith));
  match_rows = step (posted_leg (reply_state_of row.status row.reply) (leg_by row.key.service row))
      refl;
}
  where
    after : Request
    after = reversal_row t.day r (prior_of row)

    can : IsStanding row.status
    can = reversible row.status c.reversible

    e : IsEdited t row (undone r row)
    e = edited_is t row (undone r row) (followed_kept _) c.member can s

    leaves : LeavesPosted row.key.service row (remains_of (prior_of row) (remaining_in r.message))
    leaves =
        leaves_posted row.key.service row (remaining_in r.message) c.reversible (prior_of row) refl
        refl

    fresh : (a : Request) → In a (edited t row (undone r row)) →
        a.key ≡ key_of r.service r.message → ⊥
    fresh a j f = elim (e.replaced.before a j) [
      | inl old ↦ g.new a old.0 f
      | inr changed ↦ g.new row c.member (ap (λ x. x.key) changed ∙ f)
    ]

    same_posted : posted (undone r row row) ≡ posted row
    same_posted = leaves.same

    grows : Grows t.requests
        (edited t row (undone r row) ++ reversal_row t.day r (prior_of row) ∷ [])
    grows =
        Grows-both (e.grows (λ k f. same_posted ∙ f))
        (Grows-push (edited t row (undone r row)) after)

    from : FromBefore t.requests t.postings
        (edited t row (undone r row) ++ reversal_row t.day r (prior_of row) ∷ [])
    from = from_push (edited t row (undone r row)) after t.postings
        (posted_reversing r.service after c.service) (e.from same_posted leaves.keeps)

    step : (o : Option Leg) →
        posted_leg (reply_state_of row.status row.reply) (leg_by row.key.service row) ≡ o →
        PostingsMatchRows
        (edited t row (undone r row) ++ reversal_row t.day r (prior_of row) ∷ [])
        (with_next_posting t.postings (option_map (reversing_posting t.day r (prior_of row)) o))
    step None f = unposted s.match_rows grows from
    step (Some leg) f =
        let was = posted_leg_is row.status row.reply (leg_by row.key.service row) leg
        c.reversible f in
        let of = leg_of row.key.service row leg was.under in
        let under : posted row ≡ Some of.number = of.under was.posted in
        let number : or_zero (reference_by row.key.service row) ≡ of.number =
        ap or_zero of.reference in
        let original = s.match_rows.there row of.number c.member under in
        let on = s.well_formed.days row c.member in
        let at = original.of.day in
        posted_next s.match_rows grows (λ x k j e. inl (from x k j e))
        (record {
          reversal = true;
          leg = reversal_leg_is leg
              (ap is_reversal_leg of.same ∙ s.well_formed.legs row c.member of.service);
          first = λ h.
              let reversed_under = reversed_as h.row _ h.under in
              let same =
              once_posted h.row row of.number s.well_formed h.member c.member
              (h.merchant ∙ sym c.own) (reversed_under.1 ∙ ap (λ k. Some k) number) under in
              let no : is_reversed h.row.status ≡ false = ap (λ x. is_reversed x.status) same
              ∙ can.not_reversed in
              cc;
          made = record {
            row = undone r row row;
            member = In-first (undone r row row) (edited t row (undone r row)) _ e.replaced.changed;
            merchant = c.own;
            under =
                ap (λ b. cond b (posted (undone r row row)) None)
                (ap (λ b. is_reversed (left_by b (prior_of row) (remaining_in r.message)).status)
                (legged_not_lowered row.key.service row leg (remaining_in r.message) was.under)
                ∙ was.reversed)
                ∙ (same_posted ∙ (under ∙ ap (λ k. Some k) (sym number)));
          };
          reverses = λ yes. record {
            original = original.posting;
            member = original.member;
            merchant = original.of.merchant ∙ c.own;
            reference = original.of.reference ∙ sym number;
            leg = ap reversal_leg (original.of.leg ∙ sym of.same);
            amount = let stands = original.of.amount in omega arith;
            card = original.of.card;
            day = omega arith;
          };
        })

-- ---- an answer

-- what an approval posts under a leg
abbrev sold : Request → Leg → Posting
sold row leg =
    record {
      merchant = row.key.merchant;
      day = row.day;
      leg = leg;
      amount = row.amount;
      reference = or_zero (reference_by row.key.service row);
      card = or_empty row.card;
      terminal = row.key.terminal;
      trace = row.key.trace;
    }

-- to a pending request, with what it gets as its reply and its end
module _ {a : Arrival} {moment : ℕ} {v : Verdict} (t : Tables) (row : Request)
    (c : IsAnswering t a moment v row) (s : IsInOrder t) (reply : IsoMessage)
    (until : Option ℕ) where
  -- the row after it
  abbrev after_answer : Status → Request → Request
  after_answer st = answered_row st reply until

  -- the rows, where the row gets this status, and a posting more
  abbrev AnsweredInOrder : Status → Option Posting → Type 0
  AnsweredInOrder st o =
      AreInOrder t.day t.merchants (edited t row (after_answer st)) (with_next_posting t.postings o)

  answered_is : (st : Status) → IsEdited t row (after_answer st)
  answered_is st =
      edited_is t row (after_answer st) (answered_kept st reply until) c.member
      (reversible row.status (ap is_reversible c.pending)) s

  -- one that posts nothing
  answered_unposted : (st : Status) → posted (after_answer st row) ≡ posted row →
      AnsweredInOrder st None
  answered_unposted st same =
      let e = answered_is st in
      record {
        well_formed = e.well_formed;
        match_rows = unposted s.match_rows (e.grows (λ k f. same ∙ f))
            (e.from same (λ n under. refl));
      }

  -- an approval of a sale or return
  answered_sold : (leg : Leg) → leg_by row.key.service row ≡ Some leg →
      AnsweredInOrder status.Approved (approval_posting (prior_of row) (Some leg))
  answered_sold leg legged = record {
    well_formed = e.well_formed;
    match_rows =
        posted_next s.match_rows (e.grows (λ k f. absurd (let none = unposted_yet in cc)))
        from (record {
          reversal = false;
          reverses = λ yes. absurd (cc);
          leg = ap is_reversal_leg of.same ∙ s.well_formed.legs row c.member of.service;
          first =
              λ h. none_posted row c.number s.well_formed c.member c.reference unposted_yet
              incomplete (subst (λ k. HasPosted false t.requests row.key.merchant k) number h);
          made = record {
            row = after_answer status.Approved row;
            member = e.replaced.changed;
            merchant = refl;
            under = now ∙ ap (λ k. Some k) (sym number);
          };
        });
  }
    where
      e : IsEdited t row (after_answer status.Approved)
      e = answered_is status.Approved

      incomplete : row.status ≡ status.Completed → ⊥
      incomplete f = let pending = c.pending in cc

      of : IsLegOf row.key.service row leg
      of = leg_of row.key.service row leg legged

      kind : row.key.service ≡ Financial
      kind = leg_by_admissible row.key.service row leg legged
          (s.well_formed.admissible row c.number c.member c.reference)

      unposted_yet : posted row ≡ None
      unposted_yet = ap (λ k. posted_by k row) kind
          ∙ ap (λ k. cond (is_posted k) row.reference None) c.pending

      now : posted (after_answer status.Approved row) ≡ Some c.number
      now = ap (λ k. posted_by k (after_answer status.Approved row)) kind ∙ c.reference

      number : or_zero (reference_by row.key.service row) ≡ c.number
      number = ap or_zero (ap (λ k. reference_by k row) kind ∙ c.reference)

      from : FromBeforeOr t.postings (sold row leg) (edited t row (after_answer status.Approved))
      from x k j f = elim (e.replaced.before x j) [
        | inl old ↦ inl (s.match_rows.there x k old.0 f)
        | inr changed ↦
            let mine : IsPostingOf (sold row leg) (after_answer status.Approved row) k =
            record {
              merchant = refl;
              reference = number ∙ some_is c.number k (sym now ∙ (ap posted changed ∙ f));
              leg = of.same;
              amount = refl;
              card = refl;
              day = refl;
            } in
            inr (subst (λ y. IsPostingOf (sold row leg) y k) changed mine)
      ]

  -- an approval
  answered_approved : (o : Option Leg) → leg_by row.key.service row ≡ o →
      AnsweredInOrder status.Approved (approval_posting (prior_of row) o)
  answered_approved None f =
      answered_unposted status.Approved
      (posted_unsold row.key.service (after_answer status.Approved row) row c.number f c.reference
      refl)
  answered_approved (Some leg) f = answered_sold leg f

  -- any answer
  answered : (given : Verdict) →
      AnsweredInOrder (answered_status given) (answer_posting given (prior_of row))
  answered (verdict.Approved id) = answered_approved (leg_by row.key.service row) refl
  answered other =
      answered_unposted status.Declined
      (posted_same row.key.service (after_answer status.Declined row) row
      (sym (ap is_posted c.pending)) refl refl)

-- ---- steps

-- each decision keeps a book in order
sound_step : (t : Tables) (a : Arrival) → IsInOrder t → IsInOrder (step_tables t a)
sound_step t a s =
    by_step t a (λ d. IsInOrder (after_any t (change_of (known_in t a) d)))
    (record {
      reported = λ o not. s;
      malformed = λ r came. s;
      replied = λ r came given hosts. s;
      repeated = λ row member. s;
      refused = λ r merchant g given hosts.
          sound_with_row t _ g.new refl refl refl refl (omega arith) s;
      admitted = λ r merchant g range c. sound_admitted t r merchant range g c s;
      completed = λ r merchant g hold c. sound_completed t r merchant hold g c s;
      reversed = λ r merchant g row c. sound_reversed t r merchant row g c s;
      reconciled = λ r merchant g day c.
          sound_with_row t _ g.new refl refl refl refl (omega arith) s;
      answered = λ moment v row c. answered t row c s _ _ v;
      cut_over = λ came before.
          record {
            well_formed = well_formed_later (omega arith) s.well_formed;
            match_rows = s.match_rows;
          };
      range_added = λ range came valid free.
          record { well_formed = s.well_formed; match_rows = s.match_rows };
      range_dropped = λ low high came.
          record { well_formed = s.well_formed; match_rows = s.match_rows };
      enrolled = λ merchant came new.
          record {
            well_formed = well_formed_with_merchant merchant s.well_formed;
            match_rows = s.match_rows;
          };
      terminal_added = λ terminal came new.
          record { well_formed = s.well_formed; match_rows = s.match_rows };
    })

-- a new book is in order
sound_new : (opening : Opening) → IsInOrder (new_tables opening)
sound_new opening = record {
  well_formed =
      record {
        keys = λ a b i j e. absurd i;
        references = λ a b n i j m e f. absurd i;
        given = λ a n i e. absurd i;
        admissible = λ a n i e. absurd i;
        held = λ a n i c. absurd i;
        one_completion = λ a b n i j c d. absurd i;
        legs = λ a i f. absurd i;
        days = λ a i. absurd i;
      };
  match_rows =
      record {
        made = λ x i. absurd i;
        there = λ row n i e. absurd i;
        at_most_one = λ m n reversal. omega arith;
        matched = λ x i l. absurd i;
        numbers = λ x i. absurd i;
      };
}

-- so its postings are conserved
pub conserved : (opening : Opening) (es : List Event) →
    IsConserved (tables_after (new_tables opening) es).postings
conserved opening es = record {
  at_most_one = sound.match_rows.at_most_one;
  matched =
      λ row i l. let found = sound.match_rows.matched row
      (to_In row (tables_after (new_tables opening) es).postings i) l in (
        found.original,
        from_In found.original (tables_after (new_tables opening) es).postings
            found.member,
        found.of,
      );
}
  where
    sound : IsInOrder (tables_after (new_tables opening) es)
    sound = kept IsInOrder sound_step (new_tables opening) es (sound_new opening)
