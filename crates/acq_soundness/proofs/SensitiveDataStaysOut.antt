-- No row keeps a track, a PIN block or chip data, and no reply has them, whatever comes.
use Rattle.std.proofs.Common.{◌≡◌, ℕ, List, [], ◌∷◌, ◌++◌, Option, Some, None, Bool, true, false}
use Rattle.std.proofs.Common.{eqb, ltb, inl, inr, refl, ap, ◌∙◌, subst, arith, sym}
use Rattle.std.specs.Prelude.{All, IfSome, filter, option_map, not, codes, ◌||◌, if◌then◌else◌}
use Rattle.std.specs.Option.{option_or}
use Rattle.std.specs.List.{list_all, list_any}
use Rattle.std.proofs.lemmas.Bool.{and_parts, and_from, cases_Bool, ltb-true}
use Rattle.std.proofs.lemmas.List.Elements.{All-nil, All-push}
use Rattle.card_no.specs.Track2.{may_be_number, parts_of, if_number}
use Rattle.iso_codec.specs.Content.{has_class}
use Rattle.iso_codec.specs.Table.{format_of}
use Rattle.iso_codec.specs.Message.{IsoMessage, IsMessage, IsKind, numbers, Ascends, is_element}
use Rattle.iso_codec.specs.Message.{content_of, is_among}
use Rattle.acq_message.specs.declared.service.Service.{Service}
use Rattle.acq_message.specs.declared.service.Service.TheVariants.{Authorization, Reversal}
use Rattle.acq_message.specs.declared.service.Service.TheVariants.{ReversalAdvice}
use Rattle.acq_message.specs.Services.{digits_of}
use Rattle.acq_message.specs.Cards.{card_of, track_in, track_of}
use Rattle.acq_message.specs.Elements.{essential, essential_of_any, element_if, essence_of}
use Rattle.acq_core.specs.declared.arrival.Arrival.{Arrival}
use Rattle.acq_core.specs.declared.request.Request.{Request}
use Rattle.acq_core.specs.Changes.{change_of}
use Rattle.acq_core.specs.Tables.{Tables, new_tables, known_in, after_any, step_tables}
use Rattle.acq_core.specs.Tables.{tables_after, with_changed}
use Rattle.acq_soundness.proofs.Lookups.{or_true, filter_all}
use Rattle.acq_soundness.specs.Replies.{reply_elements, IsReplyText}
use Rattle.acq_soundness.specs.CardData.{sensitive_elements, IsEssence, may_be_acquirer}
use Rattle.acq_soundness.specs.CardData.{KeepsNoSensitiveData, SpellsNoSensitiveData}
use Rattle.acq_soundness.specs.CardData.{SensitiveDataStaysOut}
use Rattle.acq_soundness.proofs.StepCases.{by_step, IsRecording}
use Rattle.acq_soundness.proofs.Arrivals.{IsArrival, kept_by_events}
use Rattle.acq_soundness.proofs.RowsWithChanges.{All-with_changed, All-member, Edits, followed_kept}
use Rattle.acq_soundness.proofs.RowsWithChanges.{answered_kept}
use Rattle.acq_soundness.proofs.ContentsFit.{content-fits}
use Rattle.acq_soundness.proofs.ReplyBodies.{all_weaker, among_passes, kept_ascends}
use Rattle.acq_soundness.proofs.RepliesAreMessages.{IsRowReply, replies_are_messages}
use Rattle.acq_soundness.proofs.Runs.{kept}
use Rattle.acq_message.specs.declared.request_key.RequestKey.{RequestKey}
use Rattle.acq_core.specs.declared.merchant.Merchant.{Merchant}
use Rattle.acq_message.specs.declared.request_message.RequestMessage.{RequestMessage}

-- ---- elements

-- none of these numbers is of sensitive data
abbrev pub are_public : List ℕ → Bool
are_public ks = list_all (λ k. not (is_among sensitive_elements (k, []))) ks

-- so a message with these elements alone lacks sensitive data
lacks_by : (ks : List ℕ) (es : List (ℕ × List ℕ)) → are_public ks ≡ true →
    list_all (is_among ks) es ≡ true → not (list_any (is_among sensitive_elements) es) ≡ true
lacks_by ks [] h k = refl
lacks_by ks (e ∷ es) h k =
    let parts = and_parts (is_among ks e) (list_all (is_among ks) es) k in
    let one = among_passes (λ n. not (is_among sensitive_elements (n, []))) ks e h parts.0 in
    neither (is_among sensitive_elements e) (list_any (is_among sensitive_elements) es) one
    (lacks_by ks es h parts.1)
  where
    neither : (a b : Bool) → not a ≡ true → not b ≡ true → not (a || b) ≡ true
    neither true b f g = f
    neither false b f g = g

kept_elements : (p : ℕ × List ℕ → Bool) (es : List (ℕ × List ℕ)) → list_all is_element es ≡ true →
    list_all is_element (filter p es) ≡ true
kept_elements p [] h = refl
kept_elements p (e ∷ es) h =
    let parts = and_parts (is_element e) (list_all is_element es) h in
    elim (cases_Bool (p e)) [
      | inl kept ↦ rw kept (and_from (is_element e) (list_all is_element (filter p es)) parts.0
          (kept_elements p es parts.1))
      | inr dropped ↦ rw dropped (kept_elements p es parts.1)
    ]

-- ---- the card number and the acquirer

number_in_element : (text : List ℕ) → is_element (2, text) ≡ true → may_be_number text ≡ true
unfolding format_of has_class
number_in_element text h = h

element_of_number : (text : List ℕ) → may_be_number text ≡ true → is_element (2, text) ≡ true
unfolding format_of has_class
element_of_number text h = h

acquirer_in_element : (text : List ℕ) → is_element (32, text) ≡ true → may_be_acquirer text ≡ true
unfolding format_of has_class
acquirer_in_element text h = h

abbrev pub IsNumber : Option (List ℕ) → Type 0
IsNumber o = IfSome o (λ text. may_be_number text ≡ true)

number_in_parts : (o : Option (List ℕ × List ℕ)) →
    IsNumber (option_map (λ track. track.0) (if_number o))
number_in_parts None = tt
number_in_parts (Some p) =
    let step : (b : Bool) → may_be_number p.0 ≡ b →
    IsNumber (option_map (λ (track : List ℕ × List ℕ). track.0) (if b then Some p else None)) =
    elim [ true ↦ (λ e. e) | false ↦ (λ e. tt) ] in
    step (may_be_number p.0) refl

number_in_track : (o : Option (List ℕ)) → IsNumber (option_map (λ track. track.0) (track_in o))
number_in_track None = tt
number_in_track (Some content) = number_in_parts (parts_of content)

card_of-number : (m : IsoMessage) → IsMessage m → IsNumber (card_of m)
card_of-number m whole = step (content_of m.elements 2) refl
  where
    step : (o : Option (List ℕ)) → content_of m.elements 2 ≡ o →
        IsNumber (option_or o (option_map (λ track. track.0) (track_of m)))
    step (Some text) e = number_in_element text (content-fits m 2 text whole e)
    step None e = number_in_track (content_of m.elements 35)

acquirer-fits : (m : IsoMessage) → IsMessage m → (o : Option (List ℕ)) →
    content_of m.elements 32 ≡ o →
    IfSome o (λ text. may_be_acquirer text ≡ true)
acquirer-fits m whole None e = tt
acquirer-fits m whole (Some text) e = acquirer_in_element text (content-fits m 32 text whole e)

-- ---- the essence

-- the type of an essence
essence_kind : (service : Service) → IsKind (digits_of service ++ codes "0")
essence_kind Authorization = record { size = refl; digits = refl }
essence_kind service = record { size = refl; digits = refl }

-- elements that all stand above 2
above_two : (es : List (ℕ × List ℕ)) → Ascends 1 (numbers es) →
    list_all (is_among essential_of_any) es ≡ true → Ascends 2 (numbers es)
above_two [] up all = tt
above_two (e ∷ es) up all =
    let parts = and_parts (is_among essential_of_any e) (list_all (is_among essential_of_any) es)
    all in
    (ltb-true 2 e.0 (among_passes (λ n. ltb 2 n) essential_of_any e refl parts.0), up.1)

-- a card number in front of the essential elements
module _ (es : List (ℕ × List ℕ)) (each : list_all is_element es ≡ true)
    (up : Ascends 1 (numbers es))
    (among : list_all (is_among essential_of_any) es ≡ true) where
  essence_each : (o : Option (List ℕ)) → IsNumber o →
      list_all is_element (element_if 2 o ++ es) ≡ true
  essence_each None is = each
  essence_each (Some text) is = and_from (is_element (2, text)) (list_all is_element es)
      (element_of_number text is) each

  essence_ascends : (o : Option (List ℕ)) → Ascends 1 (numbers (element_if 2 o ++ es))
  essence_ascends None = up
  essence_ascends (Some text) = (omega arith, above_two es up among)

  essence_among : (o : Option (List ℕ)) →
      list_all (is_among (2 ∷ essential_of_any)) (element_if 2 o ++ es) ≡ true
  essence_among None =
      all_weaker (is_among essential_of_any) (is_among (2 ∷ essential_of_any))
      (λ e h. ap (λ b. eqb 2 e.0 || b) h ∙ or_true (eqb 2 e.0)) es among
  essence_among (Some text) =
      all_weaker (is_among essential_of_any) (is_among (2 ∷ essential_of_any))
      (λ e h. ap (λ b. eqb 2 e.0 || b) h ∙ or_true (eqb 2 e.0)) es among

-- the elements of each service are among those of any
essential_any : (service : Service) (e : ℕ × List ℕ) → is_among (essential service) e ≡ true →
    is_among essential_of_any e ≡ true
essential_any service e h =
    among_passes (λ n. is_among essential_of_any (n, [])) (essential service) e (all service) h
  where
    all : (s : Service) → list_all (λ n. is_among essential_of_any (n, [])) (essential s) ≡ true
    all Reversal = refl
    all ReversalAdvice = refl
    all other = refl

essence_of-is : (service : Service) (m : IsoMessage) → IsMessage m →
    IsEssence (essence_of service m)
essence_of-is service m whole =
    let kept = filter (is_among (essential service)) m.elements in
    let each = kept_elements (is_among (essential service)) m.elements whole.each in
    let up = kept_ascends (is_among (essential service)) 1 m.elements whole.ascends in
    let among =
    all_weaker (is_among (essential service)) (is_among essential_of_any) (essential_any service)
    kept (filter_all (is_among (essential service)) m.elements) in
    let all = essence_among kept each up among (card_of m) in
    record {
      message = record {
        kind = digits_of service ++ codes "0";
        elements = element_if 2 (card_of m) ++ filter (is_among (essential service)) m.elements;
      };
      is_message = record {
        kind_fits = essence_kind service;
        each = essence_each kept each up among (card_of m) (card_of-number m whole);
        ascends = essence_ascends kept each up among (card_of m);
      };
      spelled = refl;
      elements = all;
      lacks = lacks_by (2 ∷ essential_of_any)
          (element_if 2 (card_of m) ++ filter (is_among (essential service)) m.elements) refl all;
    }

-- ---- rows

-- what a row keeps of its request
record IsClean (row : Request) : Type 0 where
  essence : IsEssence row.essence
  card : IsNumber row.card
  acquirer : IfSome row.acquirer (λ text. may_be_acquirer text ≡ true)

abbrev AreClean : Tables → Type 0
AreClean t = All IsClean t.requests

-- a request's row, with its own card or that of its hold
clean_row : (r : RequestMessage) (row : Request) → IsMessage r.message →
    row.essence ≡ essence_of r.service r.message →
    row.acquirer ≡ content_of r.message.elements 32 → IsNumber row.card → IsClean row
clean_row r row whole essence acquirer card = record {
  essence = subst IsEssence (sym essence) (essence_of-is r.service r.message whole);
  card = card;
  acquirer = acquirer-fits r.message whole row.acquirer (sym acquirer);
}

-- a change keeps what a row keeps of its request
clean_changed : (key : RequestKey) (changed : Request → Request) → Edits changed →
    (rows : List Request) → All IsClean rows → All IsClean (with_changed key changed rows)
clean_changed key changed edits rows =
    All-with_changed IsClean key changed rows (λ x same p. record {
      essence = subst IsEssence (sym (edits x).essence) p.essence;
      card = subst IsNumber (sym (edits x).card) p.card;
      acquirer =
          subst (λ o. IfSome o (λ text. may_be_acquirer text ≡ true)) (sym (edits x).acquirer)
          p.acquirer;
    })

step : (t : Tables) (a : Arrival) → IsArrival a → AreClean t → AreClean (step_tables t a)
step t a is h =
    by_step t a (λ d. AreClean (after_any t (change_of (known_in t a) d)))
    (record {
      reported = λ o not. h;
      malformed = λ r came. h;
      replied = λ r came given hosts. h;
      repeated = λ row member. h;
      refused = λ r merchant g given hosts.
          All-push IsClean t.requests _ h (own r merchant g _ refl refl refl);
      admitted = λ r merchant g range c.
          All-push IsClean t.requests _ h (own r merchant g _ refl refl refl);
      completed = λ r merchant g hold c.
          All-push IsClean _ _ (clean_changed hold.key _ (followed_kept _) t.requests h)
          (clean_row r _ (whole r merchant g) refl refl
          (All-member IsClean t.requests hold h c.member).card);
      reversed = λ r merchant g row c.
          All-push IsClean _ _ (clean_changed row.key _ (followed_kept _) t.requests h)
          (own r merchant g _ refl refl refl);
      reconciled = λ r merchant g day c.
          All-push IsClean t.requests _ h (own r merchant g _ refl refl refl);
      answered = λ moment v row c. clean_changed row.key _ (answered_kept _ _ _) t.requests h;
      cut_over = λ came before. h;
      range_added = λ range came valid free. h;
      range_dropped = λ low high came. h;
      enrolled = λ merchant came new. h;
      terminal_added = λ terminal came new. h;
    })
  where
    whole : (r : RequestMessage) (merchant : Merchant) → IsRecording t a r merchant →
        IsMessage r.message
    whole r merchant g = (subst IsArrival g.came is).message

    own : (r : RequestMessage) (merchant : Merchant) → IsRecording t a r merchant →
        (row : Request) → row.essence ≡ essence_of r.service r.message →
        row.acquirer ≡ content_of r.message.elements 32 → row.card ≡ card_of r.message → IsClean row
    own r merchant g row essence acquirer card =
        clean_row r row (whole r merchant g) essence acquirer
        (subst IsNumber (sym card) (card_of-number r.message (whole r merchant g)))

-- with what replies have
with_reply : (row : Request) → IsClean row → IsRowReply row → KeepsNoSensitiveData row
with_reply row c r = record {
  essence = c.essence;
  card = c.card;
  acquirer = c.acquirer;
  reply = lacks_by reply_elements row.reply.elements refl r.elements;
}

-- a reply's text
text_without : (text : List ℕ) → IsReplyText text → SpellsNoSensitiveData text
text_without text r = record {
  message = r.reply;
  is_message = r.is_reply.is_message;
  spelled = r.spelled;
  lacks = lacks_by reply_elements r.reply.elements refl r.is_reply.elements;
}

pub sensitive_data_stays_out : SensitiveDataStaysOut
sensitive_data_stays_out opening es begins are =
    let clean : AreClean (tables_after (new_tables opening) es) =
    kept_by_events AreClean step (new_tables opening) es are (All-nil IsClean) in
    let replies = replies_are_messages opening es begins are in (
      λ k d lt. with_reply _ (clean k d lt) (replies.0 k d lt),
      λ k d lt party text is. text_without text (replies.1 k d lt party text is),
    )
