-- What a step of a book changes fits its tables.
use Rattle.std.proofs.Common.{◌≡◌, ℕ, ◌+◌, ◌<◌, List, Option, Some, None, Bool, true, false, cond}
use Rattle.std.proofs.Common.{refl, ap, ◌∙◌}
use Rattle.std.specs.Prelude.{IfSome, option_map, nat_lt}
use Rattle.card_no.specs.declared.range.Range.{Range}
use Rattle.card_no.specs.declared.range_fault.RangeFault.TheVariants.{BadRange, Overlap}
use Rattle.card_no.specs.declared.range_fault.RangeFault.TheVariants.{NoSuchRange}
use Rattle.card_no.specs.Ranges.{is_valid_range, has_ends, overlaps, between, overlapped_by}
use Rattle.day_totals.specs.Day.{last_day}
use Rattle.acq_message.specs.declared.request_message.RequestMessage.{RequestMessage}
use Rattle.acq_message.specs.Elements.{text_at}
use Rattle.acq_core.specs.declared.event.Event.{Event}
use Rattle.acq_core.specs.declared.merchant.Merchant.{Merchant}
use Rattle.acq_core.specs.declared.terminal.Terminal.{Terminal}
use Rattle.acq_core.specs.declared.reply_state.ReplyState.{ReplyState}
use Rattle.acq_core.specs.declared.reply_state.ReplyState.TheVariants.{Kept, Awaited, Late}
use Rattle.acq_core.specs.declared.arrival.Arrival.{Arrival}
use Rattle.acq_core.specs.declared.arrival.Arrival.TheVariants.{Undecoded, Unserved, Malformed}
use Rattle.acq_core.specs.declared.arrival.Arrival.TheVariants.{Requested, Answered}
use Rattle.acq_core.specs.declared.arrival.Arrival.TheVariants.{CutOver, RangeAdded, RangeDropped}
use Rattle.acq_core.specs.declared.arrival.Arrival.TheVariants.{Enrolled}
use Rattle.acq_core.specs.declared.arrival.Arrival.TheVariants.{TerminalAdded}
use Rattle.acq_core.specs.Arrivals.{arrival_of}
use Rattle.acq_core.specs.Changes.{answer_posting, completion_posting, reversal_posting, change_of}
use Rattle.acq_core.specs.Changes.{change_for}
use Rattle.acq_core.specs.Changes.{posted_leg, reversing_posting, reversal_row}
use Rattle.acq_core.specs.Decision.{Decision, Reports, DropsRange, CutsOver, repeat_of, decision}
use Rattle.acq_core.specs.Decision.{decision_of_new_range}
use Rattle.acq_core.specs.Decision.{decision_of_old_range, decision_of_enrolment}
use Rattle.acq_core.specs.Decision.{decision_of_terminal}
use Rattle.acq_core.specs.declared.output.Output.TheVariants as output
use Rattle.acq_core.specs.Known.{Prior, Known}
use Rattle.acq_core.specs.Numbers.{is_used_count}
use Rattle.acq_core.specs.Tables.{Opening, Tables, prior_of, requests_of, used_in, known_in}
use Rattle.acq_core.specs.Tables.{after_any, step_tables}
use Rattle.acq_core.proofs.DecisionCases.{by_request, by_answer}
use Rattle.acq_book.specs.Fits.{Fits, IsPostedBy}
use Rattle.acq_book.specs.Lookups.{used_at}
use Rattle.acq_soundness.proofs.Members.{In-find}
use Rattle.acq_soundness.proofs.StepCases.{by_step}
use Rattle.acq_core.specs.Pasts.{IsBook}
use Rattle.acq_soundness.specs.Books.{IsSound}
use Rattle.acq_core.specs.Events.{IsEvent, IsOpening}
use Rattle.acq_soundness.specs.References.{merchant_in}
use Rattle.acq_soundness.proofs.BooksAreSound.{books_are_sound}
use Rattle.acq_soundness.proofs.BooksGoOn.{books_go_on}
use Rattle.acq_host.proofs.NewRows.{any_member, unreferred_is_new, referred_is_new}
use Rattle.acq_host.proofs.NewRows.{has_room_for_one}
use Rattle.acq_host.proofs.NewRows.{has_room_for_posting}

-- what a reversal posts, if anything, is of its own merchant and day
reversal_posted_by : (today : ℕ) (r : RequestMessage) (p : Prior) →
    IfSome (reversal_posting today r p) (IsPostedBy (reversal_row today r p))
reversal_posted_by today r p =
    elim (posted_leg p.reply_state p.leg) as (λ o.
    IfSome (option_map (reversing_posting today r p) o)
    (IsPostedBy (reversal_row today r p))) [
      | None ↦ tt
      | Some leg ↦ record { merchant = refl; day = refl }
    ]

-- where the tables after it are sound, what a decision changes fits
abbrev FitsWhereSound : Opening → Tables → Known → Decision → Type 0
FitsWhereSound opening t k d =
    IsSound opening (after_any t (change_of k d)) → IfSome (change_of k d) (Fits t)

-- of a range that is dropped nothing is said yet
abbrev FitsBesideDrops : Opening → Tables → Known → Decision → Type 0
FitsBesideDrops opening t k (DropsRange low high) = Unit {0}
FitsBesideDrops opening t k d = FitsWhereSound opening t k d

module _ (opening : Opening) (t : Tables) (opens : IsOpening opening)
    (sound : IsSound opening t) where
  -- the room of a day that isn't full
  room : (m : List ℕ) (day : ℕ) → used_in (requests_of m t.requests) day < t.limit →
      is_used_count (1 + used_at t m day) ≡ true
  room m day = has_room_for_one opening t m day opens sound.numbers.limit

  fits_beside_drops : (a : Arrival) →
      FitsBesideDrops opening t (known_in t a) (decision (known_in t a) a)
  fits_beside_drops a =
      by_step t a (FitsBesideDrops opening t (known_in t a))
      (record {
        reported = λ o is later. tt;
        malformed = λ r came later. tt;
        replied = λ r came given is later. tt;
        repeated = λ row member later. tt;
        refused = λ r merchant g given is later. unreferred_is_new t _ g.new refl
            (λ e. absurd cc);
        admitted = λ r merchant g range c later.
            referred_is_new t _ merchant (merchant_in t (text_at r.message 42)) g.enrolled
            (sound.references (text_at r.message 42)) g.new refl
            (room (text_at r.message 42) t.day c.room)
            (later.numbers.merchants (text_at r.message 42)).admitted;
        completed = λ r merchant g hold c later. (
          unreferred_is_new t _ g.new refl (λ e. room (text_at r.message 42) t.day c.room),
          has_room_for_posting t (Some (completion_posting t.day r (prior_of hold)))
              (λ m day. (later.numbers.merchants m).totals day),
          record { merchant = refl; day = refl },
        );
        reversed = λ r merchant g row c later. (
          unreferred_is_new t _ g.new refl (λ e. room (text_at r.message 42) t.day c.room),
          has_room_for_posting t (reversal_posting t.day r (prior_of row))
              (λ m day. (later.numbers.merchants m).totals day),
          reversal_posted_by t.day r (prior_of row),
        );
        reconciled = λ r merchant g day c later. unreferred_is_new t _ g.new refl
            (λ e. absurd cc);
        answered = λ moment v row c later.
            has_room_for_posting t (answer_posting v (prior_of row))
            (λ m day. (later.numbers.merchants m).totals day);
        cut_over = λ came before later. tt;
        range_added = λ range came valid free later.
            ap (λ b. cond b (option_map Overlap (overlapped_by range t.ranges)) (Some BadRange))
            valid
            ∙ ap (option_map Overlap) free;
        range_dropped = λ low high came. tt;
        enrolled = λ merchant came new later. new;
        terminal_added = λ terminal came new later. new;
      })

  -- ---- ranges that are dropped

  -- what holds but for dropped ranges holds of a decision that drops none
  abbrev IsAll : Known → Decision → Type 0
  IsAll k d = FitsBesideDrops opening t k d → FitsWhereSound opening t k d

  all_of_repeat : (k : Known) (s : ReplyState) → IsAll k (repeat_of s)
  all_of_repeat k (Kept reply) h = h
  all_of_repeat k (Awaited draft) h = h
  all_of_repeat k Late h = h

  all_of_request : (k : Known) (r : RequestMessage) → IsAll k (decision k (Requested r))
  all_of_request k r =
      by_request k r (IsAll k)
      (record {
        managed = λ is h. h;
        unknown = λ h. h;
        duplicate = λ p is h. h;
        repeated = λ p is. all_of_repeat k p.reply_state;
        refused = λ merchant fresh given is h. h;
        admitted = λ merchant fresh service range in_range h. h;
        completed = λ merchant fresh service hold found opens h. h;
        reversed = λ merchant fresh service p found reversible h. h;
        reconciled = λ merchant fresh service day resolved h. h;
      })

  all_of_new_range : (k : Known) (range : Range) (o : Option Range) →
      IsAll k (decision_of_new_range range o)
  all_of_new_range k range None h = h
  all_of_new_range k range (Some other) h = h

  all_of_enrolment : (k : Known) (merchant : Merchant) (o : Option Merchant) →
      IsAll k (decision_of_enrolment merchant o)
  all_of_enrolment k merchant None h = h
  all_of_enrolment k merchant (Some other) h = h

  all_of_terminal : (k : Known) (terminal : Terminal) (there : Bool) (o : Option Merchant) →
      IsAll k (decision_of_terminal terminal there o)
  all_of_terminal k terminal there None h = h
  all_of_terminal k terminal true (Some merchant) h = h
  all_of_terminal k terminal false (Some merchant) h = h

  -- a range that is dropped is there
  drop_fits : (k : Known) (low high : ℕ) (o : Option Range) →
      overlapped_by (between low high) t.ranges ≡ o →
      FitsWhereSound opening t k (decision_of_old_range low high o)
  drop_fits k low high None is = λ later. tt
  drop_fits k low high (Some range) is =
      let step : (b : Bool) → has_ends low high range ≡ b →
      FitsWhereSound opening t k (cond b (DropsRange low high) (Reports output.NoSuchRange)) =
      elim [
        | true ↦ (λ e later.
            ap (λ b. cond b None (Some NoSuchRange))
            (any_member (has_ends low high) t.ranges range
            (In-find (overlaps (between low high)) t.ranges range is).0 e))
        | false ↦ (λ e later. tt)
      ] in
      step (has_ends low high range) refl

  -- what an arrival changes fits
  change_fits : (a : Arrival) → FitsWhereSound opening t (known_in t a) (decision (known_in t a) a)
  change_fits (Undecoded fault) = fits_beside_drops (Undecoded fault)
  change_fits (Unserved m) = fits_beside_drops (Unserved m)
  change_fits (Malformed r) = fits_beside_drops (Malformed r)
  change_fits (Requested r) = all_of_request (known_in t (Requested r)) r
      (fits_beside_drops (Requested r))
  change_fits (Answered moment merchant reference v) =
      let k = known_in t (Answered moment merchant reference v) in
      by_answer k moment v (IsAll k)
      (record { not_taken = λ o h. h; taken = λ p draft found waits h. h }) k.merchant
      (fits_beside_drops (Answered moment merchant reference v))
  change_fits CutOver =
      elim (nat_lt t.day last_day) as
      (λ b. IsAll (known_in t CutOver) (cond b CutsOver (Reports output.LastDay))) [
        | true ↦ (λ h. h)
        | false ↦ (λ h. h)
      ] (fits_beside_drops CutOver)
  change_fits (RangeAdded range) =
      let k = known_in t (RangeAdded range) in
      elim (is_valid_range range)
      as (λ b. IsAll k
      (cond b (decision_of_new_range range k.overlapped) (Reports output.BadRange))) [
        | true ↦ all_of_new_range k range k.overlapped
        | false ↦ (λ h. h)
      ] (fits_beside_drops (RangeAdded range))
  change_fits (RangeDropped low high) =
      drop_fits (known_in t (RangeDropped low high)) low high
      (overlapped_by (between low high) t.ranges) refl
  change_fits (Enrolled merchant) =
      let k = known_in t (Enrolled merchant) in
      all_of_enrolment k merchant k.merchant (fits_beside_drops (Enrolled merchant))
  change_fits (TerminalAdded terminal) =
      let k = known_in t (TerminalAdded terminal) in
      all_of_terminal k terminal k.has_terminal k.merchant
      (fits_beside_drops (TerminalAdded terminal))

-- what an event of a book changes fits
pub changes_fit : (opening : Opening) (t : Tables) (e : Event) → IsBook opening t → IsEvent e →
    IfSome (change_for (known_in t (arrival_of e)) (arrival_of e)) (Fits t)
changes_fit opening t e book is =
    change_fits opening t book.opens (books_are_sound opening t book) (arrival_of e)
    (books_are_sound opening (step_tables t (arrival_of e)) (books_go_on opening t e book is))
