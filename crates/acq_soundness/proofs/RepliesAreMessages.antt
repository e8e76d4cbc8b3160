-- All replies are messages of the reply types, whatever comes.
use Rattle.std.proofs.Common.{◌≡◌, ℕ, ◌+◌, ◌-◌, ◌≤◌, List, [], ◌∷◌, ◌++◌, Option, Some, None, Bool}
use Rattle.std.proofs.Common.{true, false, refl, sym, ap, ◌∙◌, subst, arith}
use Rattle.std.specs.Prelude.{min}
use Rattle.std.specs.List.{list_all, range_with_len}
use Rattle.std.specs.Str.{bytes_eq}
use Rattle.std.proofs.lemmas.List.Elements.{All-nil, All-cons, All-head, All-tail, All-push}
use Rattle.iso_codec.specs.Message.{IsoMessage, IsMessage}
use Rattle.iso_codec.specs.Reading.{spelling}
use Rattle.iso_codec.proofs.WrittenIsRead.{all_append}
use Rattle.day_totals.specs.Day.{last_day, mmdd_of, days_back, recent_days, resolved}
use Rattle.day_totals.specs.Totals.{DayTotals}
use Rattle.acq_message.specs.declared.service.Service.{Service}
use Rattle.acq_message.specs.declared.request_message.RequestMessage.{RequestMessage}
use Rattle.acq_message.specs.declared.response_code.ResponseCode.{ResponseCode}
use Rattle.acq_message.specs.declared.response_code.ResponseCode.TheVariants as code
use Rattle.acq_message.specs.declared.verdict.Verdict.{Verdict}
use Rattle.acq_message.specs.Reply.{echo, reply_to, day_element, reference_element, code_element}
use Rattle.acq_message.specs.Reply.{totals_elements, verdict_elements, coded_reply, referring_reply}
use Rattle.acq_message.specs.Reply.{draft_reply, totals_reply, answered_reply}
use Rattle.acq_core.specs.declared.event.Event.{Event}
use Rattle.acq_core.specs.declared.arrival.Arrival.{Arrival}
use Rattle.acq_core.specs.declared.request.Request.{Request}
use Rattle.acq_core.specs.declared.output.Output.{Output}
use Rattle.acq_core.specs.declared.output.Output.TheVariants as output
use Rattle.acq_core.specs.Arrivals.{arrival_of, merchant_named}
use Rattle.acq_core.specs.Known.{reconciled_day}
use Rattle.acq_core.specs.Outcome.{Outcome, Replied, Repeated, Reported, balance_code, outcome}
use Rattle.acq_core.specs.Outcome.{outcome_of, output_of, is_in_balance}
use Rattle.acq_core.specs.Changes.{change_of}
use Rattle.acq_core.specs.Tables.{Opening, Tables, new_tables, known_in, after_any, step_output}
use Rattle.acq_core.specs.Tables.{step_tables, outputs, tables_after}
use Rattle.acq_soundness.proofs.Members.{In-find, In-mapped}
use Rattle.acq_core.specs.Events.{IsVerdict, IsEvent, AreEvents, IsOpening}
use Rattle.acq_soundness.specs.Replies.{IsReply, IsReplyText, HasReplies, GivesReplies, AreReplies}
use Rattle.acq_soundness.specs.Replies.{RepliesAreMessages}
use Rattle.acq_soundness.proofs.StepCases.{is_reply, by_step}
use Rattle.acq_soundness.proofs.Arrivals.{IsArrival, of_event, kept_by_events}
use Rattle.acq_soundness.proofs.RowsWithChanges.{All-with_changed, All-member}
use Rattle.acq_soundness.proofs.ReplyBodies.{may_have, body_with_all, body_of_echo, reply_of_body}
use Rattle.acq_soundness.proofs.ReplyBodies.{body_of_reply, day_element-may, reference_element-may}
use Rattle.acq_soundness.proofs.ReplyBodies.{IsCode, IsCode-hosts, code_element-may}
use Rattle.acq_soundness.proofs.ReplyBodies.{verdict_elements-may, totals_elements-may}
use Rattle.acq_soundness.proofs.ReplyTexts.{text_of_reply}

-- ---- each reply

module _ (day : ℕ) (r : RequestMessage) (dated : day ≤ last_day) (whole : IsMessage r.message) where
  -- what is echoed, and these elements
  reply_with : (added : List (ℕ × List ℕ)) → list_all may_have added ≡ true →
      IsReply r.service (reply_to r added)
  reply_with added may =
      reply_of_body r.service (reply_to r added) refl
      (body_with_all added (echo r.service r.message) (body_of_echo r.service r.message whole) may)

  pub coded_reply-is : (given : ResponseCode) → IsCode given →
      IsReply r.service (coded_reply day r given)
  coded_reply-is given is =
      reply_with (day_element r.service day ++ code_element given)
      (all_append may_have (day_element r.service day) (code_element given)
      (day_element-may r.service day dated)
      (code_element-may given is))

  pub draft_reply-is : (reference : ℕ) → IsReply r.service (draft_reply day r reference)
  draft_reply-is reference =
      reply_with (day_element r.service day ++ reference_element (Some reference))
      (all_append may_have (day_element r.service day) (reference_element (Some reference))
      (day_element-may r.service day dated) (reference_element-may (Some reference)))

  pub referring_reply-is : (reference : Option ℕ) (given : ResponseCode) → IsCode given →
      IsReply r.service (referring_reply day r reference given)
  referring_reply-is reference given is =
      reply_with (day_element r.service day ++ reference_element reference ++ code_element given)
      (all_append may_have (day_element r.service day ++ reference_element reference)
      (code_element given)
      (all_append may_have (day_element r.service day) (reference_element reference)
      (day_element-may r.service day dated) (reference_element-may reference))
      (code_element-may given is))

  pub totals_reply-is : (given : ResponseCode) (in_balance : Bool) (totals : DayTotals) →
      IsCode given → IsReply r.service (totals_reply day r given in_balance totals)
  totals_reply-is given in_balance totals is =
      reply_with (day_element r.service day ++ code_element given
      ++ totals_elements in_balance totals)
      (all_append may_have (day_element r.service day ++ code_element given)
      (totals_elements in_balance totals)
      (all_append may_have (day_element r.service day) (code_element given)
      (day_element-may r.service day dated) (code_element-may given is))
      (totals_elements-may in_balance totals))

answered_reply-is : (service : Service) (draft : IsoMessage) (v : Verdict) → IsVerdict v →
    IsReply service draft → IsReply service (answered_reply draft v)
answered_reply-is service draft v is r =
    reply_of_body service (answered_reply draft v) r.kind
    (body_with_all (verdict_elements v) draft.elements (body_of_reply service draft r)
    (verdict_elements-may v is))

-- ---- the day that a reconciliation is of

resolved-within : (mmdd : List ℕ) (today day : ℕ) → resolved mmdd today ≡ Some day → day ≤ today
unfolding resolved
resolved-within mmdd today day e =
    let found = In-find (λ d. bytes_eq (mmdd_of d) mmdd) (recent_days today) day e in
    let back = In-mapped (λ b. today - b) day (range_with_len 0 (min today days_back + 1)) found.0
    in
    let is : today - back.0 ≡ day = back.2 in
    omega arith

pub reconciled_day-within : (today : ℕ) (o : Option (List ℕ)) (day : ℕ) →
    reconciled_day today o ≡ Some day → day ≤ today
reconciled_day-within today None day e = let same : today ≡ day = cc in omega arith
reconciled_day-within today (Some mmdd) day e = resolved-within mmdd today day e

IsCode-balance : (b : Bool) → IsCode (balance_code b)
IsCode-balance true = tt
IsCode-balance false = tt

-- ---- steps

-- the day is one, and all kept replies are replies
record HasSoundReplies (t : Tables) : Type 0 where
  pub day : t.day ≤ last_day
  pub replies : HasReplies t

-- what goes out is such a reply, or none
abbrev pub IsSoundOutcome : Outcome → Type 0
IsSoundOutcome (Replied given reply) = (service : Service) × IsReply service reply
IsSoundOutcome (Repeated reply) = (service : Service) × IsReply service reply
IsSoundOutcome (Reported o) = is_reply o ≡ false
IsSoundOutcome other = Unit {0}

abbrev pub IsRowReply : Request → Type 0
IsRowReply row = IsReply row.key.service row.reply

step : (t : Tables) (a : Arrival) → IsArrival a → HasSoundReplies t →
    HasSoundReplies (step_tables t a) × IsSoundOutcome (outcome (known_in t a) a)
step t a is h =
    by_step t a
    (λ d. HasSoundReplies (after_any t (change_of (known_in t a) d)) × IsSoundOutcome
    (outcome_of (known_in t a) d))
    (record {
      reported = λ o not. (h, not);
      malformed = λ r came. (
        h,
        (
          r.service,
          coded_reply-is t.day r h.day (subst IsArrival came is) code.FormatError
              tt,
        ),
      );
      replied = λ r came given hosts. (
        h,
        (
          r.service,
          coded_reply-is t.day r h.day (subst IsArrival came is).message given
              (IsCode-hosts given hosts),
        ),
      );
      repeated = λ row member.
          (h, (row.key.service, All-member IsRowReply t.requests row h.replies member));
      refused = λ r merchant g given hosts.
          let reply = coded_reply-is t.day r h.day (subst IsArrival g.came is).message given
          (IsCode-hosts given hosts) in (
            record { day = h.day; replies = All-push IsRowReply t.requests _ h.replies reply },
            (r.service, reply),
          );
      admitted = λ r merchant g range c. (
        record {
          day = h.day;
          replies =
              All-push IsRowReply t.requests _ h.replies
              (draft_reply-is t.day r h.day (subst IsArrival g.came is).message _);
        },
        tt,
      );
      completed = λ r merchant g hold c.
          let reply = coded_reply-is t.day r h.day (subst IsArrival g.came is).message code.Approved
          tt in (
            record {
              day = h.day;
              replies =
                  All-push IsRowReply _ _
                  (All-with_changed IsRowReply hold.key _ t.requests (λ x same p. p) h.replies)
                  reply;
            },
            (r.service, reply),
          );
      reversed = λ r merchant g row c.
          let reply = referring_reply-is t.day r h.day (subst IsArrival g.came is).message _
          code.Approved tt in (
            record {
              day = h.day;
              replies =
                  All-push IsRowReply _ _
                  (All-with_changed IsRowReply row.key _ t.requests (λ x same p. p) h.replies)
                  reply;
            },
            (r.service, reply),
          );
      reconciled = λ r merchant g day c.
          let within = reconciled_day-within t.day _ day c.resolves in
          let today = h.day in
          let dated : day ≤ last_day = omega arith in
          let b = is_in_balance (known_in t a) r in
          let reply =
          totals_reply-is day r dated (subst IsArrival g.came is).message (balance_code b) b
          (known_in t a).totals
          (IsCode-balance b) in (
            record { day = h.day; replies = All-push IsRowReply t.requests _ h.replies reply },
            (r.service, reply),
          );
      answered = λ moment v row c.
          let reply =
          answered_reply-is row.key.service row.reply v (subst IsArrival c.came is).1
          (All-member IsRowReply t.requests row h.replies c.member) in (
            record {
              day = h.day;
              replies =
                  All-with_changed IsRowReply row.key _ t.requests
                  (λ x same p. subst (λ k. IsReply k.service (answered_reply row.reply v))
                  (sym same) reply) h.replies;
            },
            (row.key.service, reply),
          );
      cut_over = λ came before. (record { day = omega arith; replies = h.replies }, tt);
      range_added = λ range came valid free. (record { day = h.day; replies = h.replies }, tt);
      range_dropped = λ low high came. (record { day = h.day; replies = h.replies }, tt);
      enrolled = λ merchant came new. (record { day = h.day; replies = h.replies }, tt);
      terminal_added = λ terminal came new. (record { day = h.day; replies = h.replies }, tt);
    })

-- an output, if it is a reply, is such a text
abbrev pub IsReplyOutput : Output → Type 0
IsReplyOutput o = (party : Option (List ℕ)) (text : List ℕ) → o ≡ output.Reply party text →
    IsReplyText text

-- what goes out as a reply is the text of one
text_of_outcome : (merchant : Option (List ℕ)) (o : Outcome) (party : Option (List ℕ))
    (text : List ℕ) →
    IsSoundOutcome o → output_of merchant o ≡ output.Reply party text → IsReplyText text
text_of_outcome merchant (Replied given reply) party text is e =
    let same : spelling reply ≡ text = cc in subst IsReplyText same (text_of_reply is.0 reply is.1)
text_of_outcome merchant (Repeated reply) party text is e =
    let same : spelling reply ≡ text = cc in subst IsReplyText same (text_of_reply is.0 reply is.1)
text_of_outcome merchant (Reported o) party text is e =
    absurd (let no : true ≡ false = sym (ap is_reply e) ∙ is in cc)
text_of_outcome merchant other party text is e = absurd cc

module _ (opening : Opening) (begins : IsOpening opening) where
  replies_after : (es : List Event) → AreEvents es →
      HasSoundReplies (tables_after (new_tables opening) es)
  replies_after es are =
      kept_by_events HasSoundReplies (λ t a is h. (step t a is h).0) (new_tables opening) es are
      (record { day = begins.first_day; replies = All-nil IsRowReply })

  -- the next reply
  gives : (t : Tables) → HasSoundReplies t → GivesReplies t
  gives t h e party text is reply =
      text_of_outcome (merchant_named (arrival_of e)) _ party text
      (step t (arrival_of e) (of_event e is) h).1 reply

  -- all replies from a table on
  all_outputs : (t : Tables) (es : List Event) → AreEvents es → HasSoundReplies t →
      AreReplies (outputs t es)
  all_outputs t [] are h = All-nil IsReplyOutput
  all_outputs t (e ∷ es) are h =
      let is = All-head IsEvent e es are in
      All-cons IsReplyOutput (step_output t (arrival_of e))
      (outputs (step_tables t (arrival_of e)) es)
      (λ party text reply. gives t h e party text is reply)
      (all_outputs (step_tables t (arrival_of e)) es (All-tail IsEvent e es are)
      (step t (arrival_of e) (of_event e is) h).0)

  pub gives_replies : (es : List Event) → AreEvents es →
      GivesReplies (tables_after (new_tables opening) es)
  gives_replies es are = gives (tables_after (new_tables opening) es) (replies_after es are)

pub replies_are_messages : RepliesAreMessages
replies_are_messages opening es begins are = (
  (replies_after opening begins es are).replies,
  all_outputs opening begins (new_tables opening) es are
      (record { day = begins.first_day; replies = All-nil IsRowReply }),
)
