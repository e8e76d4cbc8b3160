-- What is posted is posted to a valid card: to that of a request whose issuer was asked.
use Rattle.std.proofs.Common.{◌≡◌, ℕ, List, Option, Some, None, true, false, refl, sym, ap, ◌∙◌}
use Rattle.std.proofs.Common.{subst}
use Rattle.std.specs.Prelude.{All, IfSome, option_map}
use Rattle.std.proofs.lemmas.List.Elements.{All-nil, All-push}
use Rattle.card_no.specs.CardNumbers.{is_valid_card}
use Rattle.day_totals.specs.declared.leg.Leg.{Leg}
use Rattle.acq_message.specs.declared.service.Service.{Service}
use Rattle.acq_message.specs.declared.service.Service.TheVariants.{Financial, Completion}
use Rattle.acq_message.specs.declared.request_message.RequestMessage.{RequestMessage}
use Rattle.acq_message.specs.declared.verdict.Verdict.{Verdict}
use Rattle.acq_message.specs.declared.verdict.Verdict.TheVariants as verdict
use Rattle.acq_message.specs.Elements.{or_empty}
use Rattle.acq_core.specs.declared.arrival.Arrival.{Arrival}
use Rattle.acq_core.specs.declared.posting.Posting.{Posting}
use Rattle.acq_core.specs.declared.reply_state.ReplyState.{ReplyState}
use Rattle.acq_core.specs.declared.reply_state.ReplyState.TheVariants.{Kept, Awaited, Late}
use Rattle.acq_core.specs.declared.request.Request.{Request}
use Rattle.acq_core.specs.Arrivals.{arrival_of}
use Rattle.acq_core.specs.Changes.{change_of, answer_posting, approval_posting, posted_leg}
use Rattle.acq_core.specs.Changes.{reversal_posting, reversing_posting}
use Rattle.acq_core.specs.Pasts.{HasPast}
use Rattle.acq_core.specs.Tables.{Tables, prior_of, leg_by, with_next_posting, known_in, after_any}
use Rattle.acq_core.specs.Tables.{step_tables}
use Rattle.acq_soundness.specs.Requests.{is_reversal}
use Rattle.acq_soundness.proofs.BooksGoOn.{kept_in_books}
use Rattle.acq_soundness.proofs.RowsWithChanges.{All-with_changed, All-member}
use Rattle.acq_soundness.proofs.StepCases.{by_step}

abbrev IsValid : Request → Type 0
IsValid row = is_valid_card (or_empty row.card) ≡ true

-- so it is of a request that has a reference of its own, and of a completion that follows one
record HasCard (row : Request) : Type 0 where
  own : IfSome row.reference (λ n. IsValid row)
  of_hold : row.key.service ≡ Completion → IfSome row.follows (λ n. IsValid row)

abbrev PostsToCard : ℕ × Posting → Type 0
PostsToCard p = is_valid_card p.1.card ≡ true

record HasCards (t : Tables) : Type 0 where
  requests : All HasCard t.requests
  postings : All PostsToCard t.postings

-- ---- what is posted

if_so : {X P : Type 0} (o : Option X) → P → IfSome o (λ x. P)
if_so None is = tt
if_so (Some x) is = is

if_mapped : {X Y : Type 0} (P : Type 0) (f : X → Y) (o : Option X) → IfSome o (λ x. P)
    → IfSome (option_map f o) (λ y. P)
if_mapped P f None is = tt
if_mapped P f (Some x) is = is

-- a request that is posted under a leg has a valid card
leg_valid : (row : Request) → HasCard row → IfSome (leg_by row.key.service row) (λ l. IsValid row)
leg_valid row has = go row.key.service refl
  where
    go : (s : Service) → row.key.service ≡ s → IfSome (leg_by s row) (λ l. IsValid row)
    go Financial is = if_mapped (IsValid row) (λ n. row.leg) row.reference has.own
    go Completion is = if_mapped (IsValid row) (λ n. row.leg) row.follows (has.of_hold is)
    go other is = tt

abbrev IfPosted : Option Posting → Type 0
IfPosted o = IfSome o (λ (p : Posting). is_valid_card p.card ≡ true)

approval_valid : (row : Request) (o : Option Leg) → IfSome o (λ l. IsValid row)
    → IfPosted (approval_posting (prior_of row) o)
approval_valid row None is = tt
approval_valid row (Some leg) is = is

answer_valid : (v : Verdict) (row : Request) → HasCard row
    → IfPosted (answer_posting v (prior_of row))
answer_valid (verdict.Approved id) row has =
    approval_valid row (leg_by row.key.service row) (leg_valid row has)
answer_valid other row has = tt

reversal_valid : (today : ℕ) (r : RequestMessage) (row : Request) → HasCard row
    → IfPosted (reversal_posting today r (prior_of row))
reversal_valid today r row has =
    go (prior_of row).reply_state (leg_by row.key.service row) (leg_valid row has)
  where
    go : (state : ReplyState) (o : Option Leg) → IfSome o (λ l. IsValid row)
        → IfPosted (option_map (reversing_posting today r (prior_of row)) (posted_leg state o))
    go (Kept reply) None is = tt
    go (Kept reply) (Some leg) is = is
    go (Awaited draft) o is = tt
    go Late o is = tt

with_posting : (ps : List (ℕ × Posting)) (o : Option Posting) → IfPosted o → All PostsToCard ps
    → All PostsToCard (with_next_posting ps o)
with_posting ps None is all = all
with_posting ps (Some p) is all = All-push PostsToCard ps _ all is

-- ---- steps

-- a request that is recorded without a reference, and follows none
without : (row : Request) → row.reference ≡ None → row.follows ≡ None → HasCard row
without row none nor =
    record {
      own = subst (λ o. IfSome o (λ n. IsValid row)) (sym none) tt;
      of_hold = λ is. subst (λ o. IfSome o (λ n. IsValid row)) (sym nor) tt;
    }

step : (t : Tables) (a : Arrival) → HasCards t → HasCards (step_tables t a)
step t a h =
    by_step t a (λ d. HasCards (after_any t (change_of (known_in t a) d)))
    (record {
      reported = λ o not. h;
      malformed = λ r came. h;
      replied = λ r came given hosts. h;
      repeated = λ row member. h;
      refused = λ r merchant g given hosts.
          record {
            requests = All-push HasCard t.requests _ h.requests (without _ refl refl);
            postings = h.postings;
          };
      admitted = λ r merchant g range c.
          record {
            requests = All-push HasCard t.requests _ h.requests
                (record { own = c.card; of_hold = λ is. tt });
            postings = h.postings;
          };
      completed = λ r merchant g hold c.
          let valid = subst (λ o. IfSome o (λ n. IsValid hold)) c.reference
          (All-member HasCard t.requests hold h.requests c.member).own in
          record {
            requests = All-push HasCard _ _
                (All-with_changed HasCard hold.key _ t.requests
                (λ x same was. record { own = was.own; of_hold = was.of_hold }) h.requests)
                (record { own = tt; of_hold = λ is. if_so (prior_of hold).reference valid });
            postings = with_posting t.postings (Some _) valid h.postings;
          };
      reversed = λ r merchant g row c.
          record {
            requests = All-push HasCard _ _
                (All-with_changed HasCard row.key _ t.requests
                (λ x same was. record { own = was.own; of_hold = was.of_hold }) h.requests)
                (record {
                  own = tt;
                  of_hold = λ is.
                      absurd (let no : false ≡ true = sym (ap is_reversal is) ∙ c.service in cc);
                });
            postings = with_posting t.postings (reversal_posting t.day r (prior_of row))
                (reversal_valid t.day r row
                (All-member HasCard t.requests row h.requests c.member)) h.postings;
          };
      reconciled = λ r merchant g on c.
          record {
            requests = All-push HasCard t.requests _ h.requests (without _ refl refl);
            postings = h.postings;
          };
      answered = λ moment v row c.
          record {
            requests = All-with_changed HasCard row.key _ t.requests
                (λ x same was. record { own = was.own; of_hold = was.of_hold }) h.requests;
            postings = with_posting t.postings (answer_posting v (prior_of row))
                (answer_valid v row (All-member HasCard t.requests row h.requests c.member))
                h.postings;
          };
      cut_over = λ came before. record { requests = h.requests; postings = h.postings };
      range_added = λ range came valid free.
          record { requests = h.requests; postings = h.postings };
      range_dropped = λ low high came. record { requests = h.requests; postings = h.postings };
      enrolled = λ merchant came new. record { requests = h.requests; postings = h.postings };
      terminal_added = λ terminal came new.
          record { requests = h.requests; postings = h.postings };
    })

-- ---- books

-- each posting of tables with a past is one to a valid card
pub cards_valid : (t : Tables) → HasPast t → All PostsToCard t.postings
cards_valid t (opening, book) =
    subst (λ u. All PostsToCard u.postings) (sym book.after)
    (kept_in_books opening HasCards book.opens (λ u e past is. step u (arrival_of e)) book.events
    book.are_events
    (record { requests = All-nil HasCard; postings = All-nil PostsToCard })).postings
