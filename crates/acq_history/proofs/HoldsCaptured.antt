-- What is captured of a hold is no more than is held.
use Rattle.std.proofs.Common.{◌≡◌, ◌≤◌, ℕ, List, [], Option, Some, None, Bool, true, false}
use Rattle.std.proofs.Common.{cond, refl, sym, ap, ◌∙◌, subst, arith}
use Rattle.std.specs.Prelude.{is_some, is_none, unwrap_or, ◌&&◌}
use Rattle.acq_message.specs.declared.service.Service.TheVariants.{Authorization, Completion}
use Rattle.acq_message.specs.declared.request_message.RequestMessage.{RequestMessage}
use Rattle.acq_message.specs.Elements.{amount_in}
use Rattle.acq_core.specs.declared.arrival.Arrival.TheVariants.{Requested}
use Rattle.acq_core.specs.Changes.{is_lowered}
use Rattle.acq_history.specs.Entries.{is_approved, is_completion}
use Rattle.acq_history.specs.History.{Found, referred, reversal_of, is_undone}
use Rattle.acq_history.specs.History.{lowered_to, amount_of, day_after}
use Rattle.acq_history.specs.PartyHistory.{own, history_of}
use Rattle.acq_history.specs.PostedRows.{PostsRow, PostsCompletion, completion_posting}
use Rattle.acq_history.specs.Captures as statement
use Rattle.acq_history.specs.Captures.{IsHeld, Captures}
use Rattle.acq_history.specs.Acceptance.{MayComplete}
use Rattle.acq_core.specs.declared.merchant.Merchant.{Merchant}
use Rattle.acq_core.specs.Tables.{Opening}
use Rattle.acq_history.specs.Entries.{Entry}
use Rattle.acq_soundness.proofs.Lookups.{none_some, some_is}
use Rattle.acq_history.proofs.RecordedInHistory.{key_in, referred_is}
use Rattle.acq_history.proofs.EntriesThatPost.{completions_post}
use Rattle.acq_history.proofs.ExactlyAccepted.{known, Results, unapproved, completes_by}
use Rattle.acq_history.proofs.AtMostOnce.{IsOpen, is_open, uncaptured, captured_once, reversed_once}
use Rattle.acq_history.proofs.AtMostOnce.{LowersAll, lowers_all}

-- the amount of a hold that stands is what an accepted reversal lets remain, if there is one
remains_is : (f : Found) → f.request.service ≡ Authorization → is_undone f ≡ false →
    (remains : ℕ) → reversal_of f ≡ Some remains → amount_of f ≡ remains
remains_is f is standing remains reversed =
    ap (λ o. unwrap_or o (amount_in f.request.message)) lowered
  where
    whole : (b : Bool) →
        (is_some (Some remains) && is_none (cond b (Some remains) None)) ≡ false →
        cond b (Some remains) None ≡ Some remains
    whole true e = refl
    whole false e = absurd (cc)

    lowered : lowered_to f.request.service (reversal_of f) ≡ Some remains
    lowered =
        (λ i. lowered_to (is i) (reversed i))
        ∙ whole (is_lowered Authorization remains)
        (sym (λ i. is_some (reversed i) && is_none (lowered_to (is i) (reversed i))) ∙ standing)

-- of a hold that stands no more is held than was authorized, and than remains
held : (h : List Entry) (n : ℕ) (f : Found) (amount moment : ℕ) → LowersAll h →
    referred n h ≡ Some f → IsOpen f moment → amount ≤ amount_of f → IsHeld f n amount moment
held h n f amount moment all found opened within =
    record {
      service = opened.service;
      authorized = authorized (reversal_of f) refl;
      remaining = remaining;
      uncaptured = uncaptured h n f found opened.uncompleted;
      approved = opened.approved;
      days = opened.days;
      at = opened.at;
      kept = opened.kept;
      in_time = opened.in_time;
    }
  where
    remaining : (remains : ℕ) → reversal_of f ≡ Some remains → amount ≤ remains
    remaining remains reversed =
        subst (λ x. amount ≤ x) (remains_is f opened.service opened.standing remains reversed) within

    authorized : (o : Option ℕ) → reversal_of f ≡ o → amount ≤ amount_in f.request.message
    authorized None none =
        subst (λ x. amount ≤ x)
        (ap (λ o. unwrap_or (lowered_to f.request.service o) (amount_in f.request.message)) none)
        within
    authorized (Some remains) reversed =
        let less = all (key_in f) f remains (referred_is n h f found).1 reversed in
        let more = remaining remains reversed in
        omega arith

-- what is posted is what may be captured
captures : (opening : Opening) (h : List Entry) (r : RequestMessage) {merchant : Merchant}
    (may : MayComplete opening h r merchant) (posts : PostsCompletion opening h (Requested r) r) →
    IsHeld may.hold may.reference (amount_in r.message) r.moment → Captures opening h r
captures opening h r may posts holds =
    let day = day_after opening.first_day h in
    let n : posts.reference ≡ may.reference =
    some_is posts.reference may.reference (sym posts.named ∙ may.named) in
    let f : posts.hold ≡ may.hold =
    some_is posts.hold may.hold (sym posts.found ∙ (ap (λ k. referred k h) n ∙ may.found)) in
    record {
      reference = may.reference;
      hold = may.hold;
      named = may.named;
      found = may.found;
      held = holds;
      posts =
          subst (λ x. PostsRow opening h (Requested r)
          (completion_posting day r may.reference x)) f
          (subst (λ k. PostsRow opening h (Requested r) (completion_posting day r k posts.hold)) n
          posts.posts);
    }

pub captures_within_hold : (m : List ℕ) → statement.CapturesWithinHold m
captures_within_hold m opening es r reply is approved =
    let h = history_of opening (Some m) es in
    let day = day_after opening.first_day h in
    let may = (completes_by opening h r is_approved is
    (unapproved (known opening h r Completion) r)
    (subst (Results opening h r is_approved) is (ap is_approved approved))).1 in
    let all = lowers_all opening [] (λ key f remains none. none_some f none) (own (Some m) es) in
    let posts = completions_post m opening es (Requested r) (record {
      request = r;
      reply = reply;
      came = refl;
      service = ap is_completion is;
      approved = approved;
    }) in
    captures opening h r may posts
    (held h may.reference may.hold (amount_in r.message) r.moment all may.found
    (is_open may.hold r.moment may.opens) may.within)

pub captures_once : (m : List ℕ) → statement.CapturesOnce m
captures_once m opening es n = captured_once opening (own (Some m) es) n

pub reverses_once : (m : List ℕ) → statement.ReversesOnce m
reverses_once m opening es key = reversed_once opening (own (Some m) es) key
