-- After a run what was told is what clears, only what may be was told, and no more was captured
-- than was held.
use Rattle.std.proofs.Common.{◌≡◌, ℕ, List, [], ◌∷◌, ◌++◌, length, map, Some, refl, sym, ap, subst}
use Rattle.std.proofs.Common.{◌∙◌, true}
use Rattle.std.specs.Prelude.{IsPermutation, Option, slice_get}
use Rattle.std.specs.List.{filter_map}
use Rattle.std.proofs.lemmas.List.{append_assoc}
use Rattle.std.proofs.lemmas.List.Elements.{All-append, All-cons, All-head, All-nil, All-tail}
use Rattle.std.proofs.lemmas.List.Sorted.{IsPermutation-map, IsPermutation-trans}
use Rattle.iso_codec.specs.Message.{IsoMessage}
use Rattle.iso_codec.specs.Reading.{spelling}
use Rattle.acq_message.specs.declared.request_message.RequestMessage.{RequestMessage}
use Rattle.acq_core.specs.declared.event.Event.{Event}
use Rattle.acq_core.specs.declared.output.Output.{Output}
use Rattle.acq_core.specs.declared.output.Output.TheVariants as output
use Rattle.acq_core.specs.declared.posting.Posting.{Posting}
use Rattle.acq_core.specs.declared.arrival.Arrival.TheVariants.{Requested}
use Rattle.acq_core.specs.Arrivals.{arrival_of, merchant_named}
use Rattle.acq_core.specs.Events.{IsEvent, AreEvents, IsOpening}
use Rattle.acq_core.specs.declared.query.Query.{Query}
use Rattle.acq_core.specs.Known.{Known}
use Rattle.acq_core.specs.declared.reply_state.ReplyState.{ReplyState}
use Rattle.acq_core.specs.declared.reply_state.ReplyState.TheVariants.{Kept, Awaited, Late}
use Rattle.acq_core.specs.Decision.{repeat_of}
use Rattle.acq_core.specs.Outcome.{Outcome, Replied, Asked, outcome, outcome_of, output_of}
use Rattle.acq_core.proofs.DecisionCases.{by_request}
use Rattle.acq_core.specs.Tables.{Opening, Tables, new_tables, outputs, tables_after, postings_of}
use Rattle.acq_soundness.proofs.Lookups.{some_is}
use Rattle.acq_soundness.proofs.Members.{In}
use Rattle.acq_soundness.proofs.Runs.{tables_after-append}
use Rattle.acq_clearing.specs.ClearingFile.{posting_fields}
use Rattle.acq_history.specs.PartyHistory.{is_of, entry_for, history_of, known_by, book_after}
use Rattle.acq_history.specs.Isolation.{all_recorded}
use Rattle.acq_history.specs.DaySums.{postings_on}
use Rattle.acq_history.specs.Told.{reply_now}
use Rattle.acq_history.specs.Cleared.{told_posting, told_postings}
use Rattle.acq_history.specs.ClearedRequests.{cleared, on_day}
use Rattle.acq_history.specs.Acceptance.{result_on}
use Rattle.acq_history.proofs.AdmittedRequests.{admitted_may_be, approved_holds_are_open}
use Rattle.acq_history.proofs.ExactlyAccepted.{admits_only, completes_only, reverses_only}
use Rattle.acq_history.proofs.HoldsCaptured.{captures_within_hold, captures_once, reverses_once}
use Rattle.acq_history.proofs.HoldsThatAreOpen.{open_holds_are_capturable}
use Rattle.acq_history.proofs.LegsThatClear.{clears_under_its_leg}
use Rattle.acq_history.proofs.NamedPostings.{replies_name_what_clears}
use Rattle.acq_history.proofs.RequestsThatClear.{clears_by_request}
use Rattle.acq_history.proofs.TablesAgreeWithHistory.{names_is}
use Rattle.acq_history.proofs.ToldOnEvents.{clears_as_told}
use Rattle.acq_headline.specs.ClearedAsTold.{ClearedAsTold, IsClearedAsTold, IsToldAt, record_of}
use Rattle.acq_headline.specs.ClearedAsTold.{records_at, unnumbered}
use Rattle.acq_headline.specs.OnlyWhatMay.{AcceptsWhatMay, AcceptsOnlyWhatMay}
use Rattle.acq_headline.specs.WithinHolds.{HeldWithin, CapturesWithinHolds}
use Rattle.acq_headline.proofs.MerchantsRecords.{in_the_file, unnumbered_in_the_file}
use Rattle.acq_headline.proofs.MerchantsRecords.{has_its_record}
use Rattle.acq_headline.proofs.ToldStays.{told_stays}
use Rattle.acq_headline.proofs.PartiesAlone.{said_alone}
use Rattle.acq_headline.proofs.RunsEnd.{HoldsOfRuns}

-- a reply that is made now is what is said
reply_is_said : (m : List ℕ) (o : Outcome) (reply : IsoMessage) → reply_now o ≡ Some reply →
    output_of (Some m) o ≡ output.Reply (Some m) (spelling reply)
reply_is_said m (Replied code r) reply is =
    ap (λ x. output.Reply (Some m) (spelling x)) (some_is r reply is)
reply_is_said m other reply is = absurd (cc)

-- an issuer is asked only where the outcome asks
abbrev AsksOnly : Option (List ℕ) → Outcome → Type 0
AsksOnly merchant o = (query : Query) → output_of merchant o ≡ output.Ask query → o ≡ Asked query

asks_only : (merchant : Option (List ℕ)) (k : Known) (r : RequestMessage) →
    AsksOnly merchant (outcome k (Requested r))
asks_only merchant k r =
    by_request k r (λ d. AsksOnly merchant (outcome_of k d))
    (record {
      managed = λ is query e. absurd (cc);
      unknown = λ query e. absurd (cc);
      duplicate = λ p is query e. absurd (cc);
      repeated = λ p is. kept p.reply_state;
      refused = λ merchant fresh given is query e. absurd (cc);
      admitted = λ merchant fresh service range in_range query e. cc;
      completed = λ merchant fresh service hold found opens query e. absurd (cc);
      reversed = λ merchant fresh service p found can query e. absurd (cc);
      reconciled = λ merchant fresh service day resolved query e. absurd (cc);
    })
  where
    kept : (s : ReplyState) → AsksOnly merchant (outcome_of k (repeat_of s))
    kept (Kept reply) query e = absurd (cc)
    kept (Awaited draft) query e = absurd (cc)
    kept Late query e = absurd (cc)

-- events up to one of them
up_to : (before later : List Event) (e : Event) → AreEvents (before ++ e ∷ later) →
    AreEvents (before ++ e ∷ [])
up_to [] later e are = All-cons IsEvent e [] (All-head IsEvent e later are) (All-nil IsEvent)
up_to (x ∷ before) later e are =
    All-cons IsEvent x (before ++ e ∷ []) (All-head IsEvent x (before ++ e ∷ later) are)
    (up_to before later e (All-tail IsEvent x (before ++ e ∷ later) are))

-- ---- from a past that is known

module _ (opening : Opening) (past further : List Event) (m : List ℕ) where
  abbrev said : List Output
  said = outputs (book_after opening past) further

  request_said : (before later : List Event) (e : Event) (r : RequestMessage) →
      further ≡ before ++ e ∷ later → arrival_of e ≡ Requested r →
      merchant_named (Requested r) ≡ Some m →
      slice_get said (length before)
      ≡ Some (output_of (Some m) (result_on m opening (past ++ before) r))
  request_said before later e r split came named =
      said_alone opening past further before later e m (Requested r) split came named

  -- the run's tables are those of the past and the further events
  abbrev now : Tables
  now = book_after opening (past ++ further)

  module _ (opens : IsOpening opening) (were : AreEvents past) (are : AreEvents further) where
    told_at : (before later : List Event) (e : Event) (p : Posting) →
        further ≡ before ++ e ∷ later → is_of (Some m) (arrival_of e) ≡ true →
        told_posting
        (entry_for opening (history_of opening (Some m) (past ++ before)) (arrival_of e))
        (history_of opening (Some m) (past ++ before)) ≡ Some p →
        IsToldAt said (length before) now m e p
    told_at before later e p split mine told =
        let a = arrival_of e in
        let o = (entry_for opening (history_of opening (Some m) (past ++ before)) a).outcome in
        let all : AreEvents ((past ++ before) ++ e ∷ []) =
        subst AreEvents (sym (append_assoc past before (e ∷ [])))
        (All-append IsEvent past (before ++ e ∷ []) were
        (up_to before later e (subst AreEvents split are))) in
        let w = replies_name_what_clears m opening (past ++ before) e p opens all mine told in
        let then : past ++ further ≡ (past ++ before) ++ e ∷ later =
        ap (λ es. past ++ es) split ∙ sym (append_assoc past before (e ∷ later)) in
        let stays = told_stays opening m (past ++ before) later e p mine told in
        let posted : postings_of m now.postings
        ≡ told_postings (history_of opening (Some m) ((past ++ before) ++ e ∷ later)) =
        clears_as_told m opening (past ++ further) (All-append IsEvent past further were are)
        ∙ ap (λ es. told_postings (history_of opening (Some m) es)) then in
        record {
          reply = w.0;
          is_said =
              said_alone opening past further before later e m a split refl
              (names_is (merchant_named a) m mine)
              ∙ ap (λ x. Some x) (reply_is_said m o w.0 w.1);
          names = w.2;
          clears = has_its_record m now (stays.0, p) (subst (In (stays.0, p)) (sym posted) stays.1);
        }

    cleared_as_told : ClearedAsTold opening past further said now m
    cleared_as_told =
        let es = past ++ further in
        let all : AreEvents es = All-append IsEvent past further were are in
        record {
          told = λ day.
              subst (λ rows. IsPermutation (map posting_fields (postings_on day rows))
              (records_at now day m))
              (clears_as_told m opening es all) (in_the_file m now day);
          requested = λ day.
              let mine = filter_map (λ f. on_day day (cleared f))
              (all_recorded (history_of opening (Some m) es)) in
              let rows = map (λ (row : ℕ × Posting). row.1)
              (postings_on day (postings_of m now.postings)) in
              IsPermutation-trans (map record_of mine) (map record_of rows)
              (map unnumbered (records_at now day m))
              (IsPermutation-map record_of mine rows (clears_by_request m opening es day all))
              (unnumbered_in_the_file m now day);
          under_legs = clears_under_its_leg;
          named = told_at;
        }

  accepts_what_may : AcceptsWhatMay opening past further said m
  accepts_what_may = record {
    requests = λ before later e r split came named. record {
      is_said = request_said before later e r split came named;
      asked = λ query asked.
          let h = history_of opening (Some m) (past ++ before) in
          admits_only m opening (past ++ before) r query
          (asks_only (Some m) (known_by opening h (Requested r)) r query
          (some_is (output_of (Some m) (result_on m opening (past ++ before) r))
          (output.Ask query)
          (sym (request_said before later e r split came named) ∙ asked)));
      completed = completes_only m opening (past ++ before) r;
      reversed = reverses_only m opening (past ++ before) r;
    };
    admitted = admitted_may_be m opening (past ++ further);
  }

  held_within : HeldWithin opening past further said now m
  held_within = record {
    captured = λ before later e r split came named completes. record {
      is_said = request_said before later e r split came named;
      captures = λ reply.
          captures_within_hold m opening (past ++ before) r reply completes;
    };
    captured_once = captures_once m opening (past ++ further);
    reversed_once = reverses_once m opening (past ++ further);
    capturable = open_holds_are_capturable m opening (past ++ further);
    open_until = approved_holds_are_open m opening (past ++ further);
  }

-- ---- whatever the past

-- what holds from the book that a past led to holds of the tables that are these
from_past : (Holds : List Output → Tables → Type 0) (opening : Opening) (t now : Tables)
    (past further : List Event) (said : List Output) → t ≡ book_after opening past →
    said ≡ outputs t further → now ≡ tables_after t further →
    Holds (outputs (book_after opening past) further) (book_after opening (past ++ further)) →
    Holds said now
from_past Holds opening t now past further said is says after holds =
    let then : now ≡ book_after opening (past ++ further) =
    after
    ∙ (ap (λ u. tables_after u further) is
    ∙ sym (tables_after-append (new_tables opening) past further)) in
    subst (Holds said) (sym then)
    (subst (λ os. Holds os (book_after opening (past ++ further)))
    (sym (says ∙ ap (λ u. outputs u further) is)) holds)

pub is_cleared_as_told : HoldsOfRuns IsClearedAsTold
is_cleared_as_told t now further said are says after opening past m =
    from_past (λ os u. ClearedAsTold opening past.events further os u m) opening t now past.events
    further said past.after says after
    (cleared_as_told opening past.events further m past.opens past.are_events are)

pub accepts_only_what_may : HoldsOfRuns (λ t further said now. AcceptsOnlyWhatMay t further said)
accepts_only_what_may t now further said are says after opening past m =
    from_past (λ os u. AcceptsWhatMay opening past.events further os m) opening t now past.events
    further said past.after says after (accepts_what_may opening past.events further m)

pub captures_within_holds : HoldsOfRuns CapturesWithinHolds
captures_within_holds t now further said are says after opening past m =
    from_past (λ os u. HeldWithin opening past.events further os u m) opening t now past.events
    further said past.after says after (held_within opening past.events further m)
