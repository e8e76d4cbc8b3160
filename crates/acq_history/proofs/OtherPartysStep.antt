-- No event of another party touches what a merchant's look-ups see.
use Rattle.std.proofs.Common.{◌≡◌, ℕ, List, [], ◌∷◌, ◌++◌, Option, Some, None, Result, Ok, Err}
use Rattle.std.proofs.Common.{Bool, true, false, cond, refl, sym, ap, ◌∙◌, eqb}
use Rattle.std.specs.Prelude.{map, find, ◌&&◌, ◌||◌, not, is_some, if◌then◌else◌}
use Rattle.std.specs.Option.{option_or}
use Rattle.std.specs.List.{list_any, list_all}
use Rattle.std.specs.Str.{bytes_eq}
use Rattle.std.proofs.lemmas.List.Folds.{find-append}
use Rattle.iso_codec.specs.declared.decode_fault.DecodeFault.{DecodeFault}
use Rattle.iso_codec.specs.Message.{IsoMessage}
use Rattle.iso_codec.specs.Reading.{reading_of}
use Rattle.std.proofs.lemmas.Bool.{and_parts}
use Rattle.acq_message.specs.declared.service.Service.{Service}
use Rattle.acq_message.specs.declared.service.Service.TheVariants.{NetworkManagement}
use Rattle.acq_message.specs.declared.request_key.RequestKey.{RequestKey}
use Rattle.acq_core.specs.declared.merchant.Merchant.{Merchant}
use Rattle.acq_core.specs.declared.request.Request.{Request}
use Rattle.acq_core.specs.declared.event.Event.{Event}
use Rattle.acq_core.specs.declared.event.Event.TheVariants as event
use Rattle.acq_message.specs.Services.{needed, needed_card, service_of}
use Rattle.acq_message.specs.Elements.{has, or_empty, text_at, same_key}
use Rattle.acq_message.specs.Cards.{has_bad_track, has_two_cards}
use Rattle.acq_message.specs.FirstCheck.{has_one_of, unverifiable, is_malformed, has_bad_remainder}
use Rattle.acq_core.specs.declared.arrival.Arrival.{Arrival}
use Rattle.acq_message.specs.declared.request_message.RequestMessage.{RequestMessage}
use Rattle.acq_core.specs.Arrivals.{arrival_of, arrival_of_reading, arrival_of_message}
use Rattle.acq_core.specs.Arrivals.{merchant_named, is_shared}
use Rattle.acq_core.specs.declared.arrival.Arrival.TheVariants.{Malformed, Requested}
use Rattle.acq_core.specs.Changes.{change_of, completion_posting, reversal_posting, answer_posting}
use Rattle.acq_core.specs.Tables.{Opening, Tables, prior_of, requests_of, postings_of, with_changed}
use Rattle.acq_core.specs.Tables.{after_any, known_in, step_tables, used_in}
use Rattle.acq_history.specs.Entries.{Entry, request_of}
use Rattle.acq_history.specs.PartyHistory.{names}
use Rattle.acq_soundness.proofs.Lookups.{clash, or_split, not_false, map_same, any-push, filter-map}
use Rattle.acq_soundness.proofs.Lookups.{filter-push_out, none_some}
use Rattle.acq_soundness.proofs.Keys.{same_key_is, eqb_is}
use Rattle.acq_core.proofs.Counts.{or_none}
use Rattle.acq_soundness.proofs.RecordableRequests.{recordable_some}
use Rattle.acq_history.proofs.RequestsAfterNewEntry.{line}
use Rattle.acq_soundness.proofs.RowsWithChanges.{Edits, changing, changing_kept, followed_kept}
use Rattle.acq_soundness.proofs.RowsWithChanges.{answered_kept}
use Rattle.acq_history.proofs.TablesAgreeWithHistory.{Agrees, postings_of_other}
use Rattle.acq_history.proofs.TablesAgreeWithHistory.{answer_posting_is_of, reversal_posting_is_of}
use Rattle.acq_soundness.proofs.StepCases.{by_step, IsRecording}
use Rattle.acq_core.specs.declared.posting.Posting.{Posting}
use Rattle.acq_core.specs.declared.reconciliation.Reconciliation.{Reconciliation}

-- two tables that one merchant can't tell apart
pub record Alike (m : List ℕ) (t u : Tables) : Type 0 where
  pub limit : u.limit ≡ t.limit
  pub day : u.day ≡ t.day
  pub ranges : u.ranges ≡ t.ranges
  pub merchant : find (λ row. bytes_eq row.id m) u.merchants
      ≡ find (λ row. bytes_eq row.id m) t.merchants
  pub terminal : (id : List ℕ) →
      list_any (λ row. bytes_eq row.merchant m && bytes_eq row.id id) u.terminals
      ≡ list_any (λ row. bytes_eq row.merchant m && bytes_eq row.id id) t.terminals
  pub requests : requests_of m u.requests ≡ requests_of m t.requests
  pub posted : postings_of m u.postings ≡ postings_of m t.postings

-- what one merchant can't tell apart agrees with the same history
pub alike_agrees : {opening : Opening} {m : List ℕ} {t u : Tables} {h : List Entry} → Alike m t u →
    Agrees opening m t h → Agrees opening m u h
alike_agrees like g = record {
  common = record {
    bounded = like.limit ∙ g.common.bounded;
    day = like.day ∙ g.common.day;
    ranges = like.ranges ∙ g.common.ranges;
    merchant = like.merchant ∙ g.common.merchant;
    terminal = λ id. like.terminal id ∙ g.common.terminal id;
  };
  rows = record {
    lines = ap (map line) like.requests ∙ g.rows.lines;
    used = λ day. ap (λ rs. used_in rs day) like.requests ∙ g.rows.used day;
    genuine = g.rows.genuine;
  };
  posted = like.posted ∙ g.posted;
}

-- tables with other requests, postings and reconciliations, of which none is the merchant's
alike_rows : {t : Tables} {m : List ℕ} {rows : List Request} {ps : List (ℕ × Posting)}
    {rs : List (ℕ × Reconciliation)} →
    requests_of m rows ≡ requests_of m t.requests → postings_of m ps ≡ postings_of m t.postings →
    Alike m t (record t { requests = rows; postings = ps; reconciliations = rs })
alike_rows requests posted =
    record {
      limit = refl;
      day = refl;
      ranges = refl;
      merchant = refl;
      terminal = λ id. refl;
      requests = requests;
      posted = posted;
    }

alike_same : (m : List ℕ) (t : Tables) → Alike m t t
alike_same m t = alike_rows refl refl

-- an edit of another merchant's row
edit_out : (m : List ℕ) (key : RequestKey) (changed : Request → Request) → Edits changed →
    bytes_eq key.merchant m ≡ false → (rows : List Request) →
    requests_of m (with_changed key changed rows) ≡ requests_of m rows
edit_out m key changed edits other rows =
    filter-map (λ row. bytes_eq row.key.merchant m) (changing key changed) (λ a. a)
    (λ a. ap (λ k. bytes_eq k.merchant m) (changing_kept key changed edits a).key)
    (λ a mine.
    let step : (b : Bool) → same_key a.key key ≡ b → (if b then changed a else a) ≡ a =
    elim [
      | true ↦
          (λ e. clash (bytes_eq a.key.merchant m) mine
          (ap (λ k. bytes_eq k.merchant m) (same_key_is a.key key e) ∙ other))
      | false ↦ (λ e. refl)
    ] in
    step (same_key a.key key) refl)
    rows
    ∙ map_same (requests_of m rows)

-- a request that is recorded names its merchant
abbrev pub IsNaming : Arrival → Type 0
IsNaming a = (q : RequestMessage) → request_of a ≡ Some q → is_some (merchant_named a) ≡ true

-- a row more of another merchant
row_out : (m : List ℕ) (row : Request) → bytes_eq row.key.merchant m ≡ false →
    (rows : List Request) → requests_of m (rows ++ row ∷ []) ≡ requests_of m rows
row_out m row other rows = filter-push_out (λ a. bytes_eq a.key.merchant m) rows row other

-- a merchant is named, and is another
pub named_other : (m : List ℕ) (o : Option (List ℕ)) → is_some o ≡ true → names o m ≡ false →
    bytes_eq (or_empty o) m ≡ false
named_other m None there other = absurd (cc)
named_other m (Some n) there other = other

-- an event that is neither the merchant's nor shared
pub other_step : (m : List ℕ) (t : Tables) (a : Arrival) → IsNaming a →
    names (merchant_named a) m ≡ false → is_shared a ≡ false → Alike m t (step_tables t a)
other_step m t a naming other alone =
    by_step t a (λ d. Alike m t (after_any t (change_of (known_in t a) d)))
    (record {
      reported = λ o not. alike_same m t;
      malformed = λ r came. alike_same m t;
      replied = λ r came given hosts. alike_same m t;
      repeated = λ row member. alike_same m t;
      refused = λ r merchant g given hosts. alike_rows (row_out m _ (out r merchant g) _) refl;
      admitted = λ r merchant g range c. alike_rows (row_out m _ (out r merchant g) _) refl;
      completed = λ r merchant g hold c.
          let theirs = ap (λ x. bytes_eq x m) c.own ∙ out r merchant g in
          alike_rows
          (row_out m _ (out r merchant g) _ ∙ edit_out m hold.key _ (followed_kept _) theirs _)
          (postings_of_other m (text_at r.message 42) t.postings
          (Some (completion_posting t.day r (prior_of hold))) refl (out r merchant g));
      reversed = λ r merchant g row c.
          let theirs = ap (λ x. bytes_eq x m) c.own ∙ out r merchant g in
          alike_rows
          (row_out m _ (out r merchant g) _ ∙ edit_out m row.key _ (followed_kept _) theirs _)
          (postings_of_other m (text_at r.message 42) t.postings
          (reversal_posting t.day r (prior_of row)) (reversal_posting_is_of t.day r (prior_of row))
          (out r merchant g));
      reconciled = λ r merchant g day c. alike_rows (row_out m _ (out r merchant g) _) refl;
      answered = λ moment v row c.
          let theirs = ap (λ x. bytes_eq x m) c.own
          ∙ (ap (λ x. names (merchant_named x) m) (sym c.came) ∙ other) in
          alike_rows (edit_out m row.key _ (answered_kept _ _ _) theirs _)
          (postings_of_other m row.key.merchant t.postings (answer_posting v (prior_of row))
          (answer_posting_is_of v (prior_of row)) theirs);
      cut_over = λ came before. clash (is_shared a) (ap is_shared came) alone;
      range_added = λ range came valid free. clash (is_shared a) (ap is_shared came) alone;
      range_dropped = λ low high came. clash (is_shared a) (ap is_shared came) alone;
      enrolled = λ merchant came new. record {
        limit = refl;
        day = refl;
        ranges = refl;
        terminal = λ id. refl;
        requests = refl;
        posted = refl;
        merchant =
            find-append (λ row. bytes_eq row.id m) t.merchants (merchant ∷ [])
            ∙ (ap (λ b. option_or (find (λ row. bytes_eq row.id m) t.merchants)
            (cond b (Some merchant) None))
            (ap (λ x. names (merchant_named x) m) (sym came) ∙ other)
            ∙ or_none (find (λ row. bytes_eq row.id m) t.merchants));
      };
      terminal_added = λ terminal came new. record {
        limit = refl;
        day = refl;
        ranges = refl;
        merchant = refl;
        requests = refl;
        posted = refl;
        terminal = λ id.
            any-push (λ row. bytes_eq row.merchant m && bytes_eq row.id id) t.terminals terminal
            ∙ ap (λ b. (b && bytes_eq terminal.id id)
            || list_any (λ row. bytes_eq row.merchant m && bytes_eq row.id id) t.terminals)
            (ap (λ x. names (merchant_named x) m) (sym came) ∙ other);
      };
    })
  where
    out : (r : RequestMessage) (merchant : Merchant) → IsRecording t a r merchant →
        bytes_eq (text_at r.message 42) m ≡ false
    out r merchant g =
        ap (λ x. bytes_eq (or_empty (merchant_named x)) m) (sym g.came)
        ∙ named_other m (merchant_named a)
        (naming r (ap request_of g.came ∙ recordable_some r.service r g.recordable)) other

-- ---- events

-- what holds of all holds of one of them
all_at : (p : ℕ → Bool) (n : ℕ) (ns : List ℕ) → list_any (λ k. eqb k n) ns ≡ true →
    list_all p ns ≡ true → p n ≡ true
all_at p n [] there all = absurd (cc)
all_at p n (k ∷ ns) there all =
    let both = and_parts (p k) (list_all p ns) all in
    let step : (b : Bool) → eqb k n ≡ b → (b || list_any (λ k. eqb k n) ns) ≡ true → p n ≡ true =
    elim [
      | true ↦ (λ e later. ap p (sym (eqb_is k n e)) ∙ both.0)
      | false ↦
          (λ e later. all_at p n ns later both.1)
    ] in
    step (eqb k n) refl there

-- each request that is recorded needs element 42
needs_merchant : (moment : ℕ) (s : Service) (message : IsoMessage) (q : RequestMessage) →
    let r : RequestMessage = record { moment = moment; service = s; message = message } in
    request_of (Requested r) ≡ Some q → list_any (λ k. eqb k 42) (needed s) ≡ true
needs_merchant moment NetworkManagement message q came = none_some q came
needs_merchant moment service message q came = refl

-- what the first check passes has all that it needs
passed_has : (s : Service) (message : IsoMessage) → is_malformed s message ≡ false →
    list_all (has message) (needed s) ≡ true
passed_has s message passed =
    let all = not (list_all (has message) (needed s)) in
    let card = not (has_one_of message (needed_card s)) in
    let unknown = list_any (has message) unverifiable in
    let fifth =
    or_split (all || card || unknown || has_bad_track message || has_two_cards message)
    (has_bad_remainder s message) passed in
    let fourth = or_split (all || card || unknown || has_bad_track message)
    (has_two_cards message) fifth.0 in
    let third = or_split (all || card || unknown) (has_bad_track message) fourth.0 in
    let second = or_split (all || card) unknown third.0 in
    not_false (list_all (has message) (needed s)) (or_split all card second.0).0

naming_of_message : (moment : ℕ) (message : IsoMessage) (o : Option Service) (q : RequestMessage) →
    request_of (arrival_of_message moment message o) ≡ Some q →
    is_some (merchant_named (arrival_of_message moment message o)) ≡ true
naming_of_message moment message None q came = none_some q came
naming_of_message moment message (Some s) q came =
    let r : RequestMessage = record { moment = moment; service = s; message = message } in
    let step : (b : Bool) → is_malformed s message ≡ b →
    request_of (if b then Malformed r else Requested r) ≡ Some q →
    is_some (merchant_named (if b then Malformed r else Requested r)) ≡ true =
    elim [
      | true ↦ (λ e c. none_some q c)
      | false ↦
          (λ e c. all_at (has message) 42 (needed s) (needs_merchant moment s message q c)
          (passed_has s message e))
    ] in
    step (is_malformed s message) refl came

naming_of_reading : (moment : ℕ) (o : Result IsoMessage DecodeFault) (q : RequestMessage) →
    request_of (arrival_of_reading moment o) ≡ Some q →
    is_some (merchant_named (arrival_of_reading moment o)) ≡ true
naming_of_reading moment (Ok message) q came = naming_of_message moment message
    (service_of message.kind) q came
naming_of_reading moment (Err fault) q came = none_some q came

-- so an event that is recorded names its merchant
pub naming_of : (e : Event) (q : RequestMessage) → request_of (arrival_of e) ≡ Some q →
    is_some (merchant_named (arrival_of e)) ≡ true
naming_of (event.Frame moment text) q came = naming_of_reading moment (reading_of text) q came
naming_of (event.Cutover moment) q came = none_some q came
naming_of (event.AddRange range) q came = none_some q came
naming_of (event.DropRange low high) q came = none_some q came
naming_of other q came = refl
