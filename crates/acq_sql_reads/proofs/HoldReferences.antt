-- An approved authorization has a reference.
use Rattle.std.proofs.Common.{◌≡◌, ◌||◌, Bool, true, false, true≢false, cond, not, inl, inr, List}
use Rattle.std.proofs.Common.{[], ◌∷◌, ◌++◌, map}
use Rattle.std.proofs.Common.{None, refl, sym, ap, subst, ◌∙◌}
use Rattle.std.specs.List.{list_any}
use Rattle.std.proofs.lemmas.Bool.{and_parts}
use Rattle.sqlite_rules.specs.Lists.{Has}
use Rattle.acq_message.specs.declared.request_key.RequestKey.{RequestKey}
use Rattle.acq_message.specs.declared.service.Service.{Service}
use Rattle.acq_message.specs.declared.service.Service.TheVariants.{Authorization, Completion}
use Rattle.acq_message.specs.Elements.{same_key, remaining_in}
use Rattle.acq_core.specs.declared.arrival.Arrival.{Arrival}
use Rattle.acq_core.specs.declared.request.Request.{Request}
use Rattle.acq_core.specs.Changes.{change_of}
use Rattle.acq_core.specs.Pasts.{HasPast}
use Rattle.acq_core.specs.Tables.{Tables, new_tables, is_approved, known_in, with_changed}
use Rattle.acq_core.specs.Tables.{after_any, step_tables, prior_of}
use Rattle.acq_book.specs.Lookups.{is_authorization}
use Rattle.acq_soundness.specs.Requests.{is_reversal}
use Rattle.acq_soundness.proofs.Keys.{same_key_from, same_key_is}
use Rattle.acq_soundness.proofs.Members.{In, In-push, In-mapped}
use Rattle.acq_soundness.proofs.StepCases.{by_step}
use Rattle.acq_soundness.proofs.WhatRemains.{original_approved, lowered_was_approved}
use Rattle.acq_soundness.specs.Keys.{are_distinct, HasUniqueKeys}
use Rattle.acq_soundness.proofs.KeysStayUnique.{unique_after_step}
use Rattle.acq_soundness.proofs.Runs.{kept}

-- if it is an approved authorization, it has a reference
abbrev IsReferred : Request → Type 0
IsReferred row =
    is_authorization row.key.service ≡ true → is_approved row.status ≡ true → row.reference ≡ None →
    ⊥

abbrev AreReferred : List Request → Type 0
AreReferred rows = (row : Request) → In row rows → IsReferred row

-- ---- one key is one request's

none_alike : (key : RequestKey) (rows : List Request) (b : Request) → In b rows → key ≡ b.key
    → list_any (same_key key) (map (λ row. row.key) rows) ≡ true
none_alike key (x ∷ rows) b (inl is) same =
    ap (λ c. c || list_any (same_key key) (map (λ row. row.key) rows))
    (same_key_from key x.key (same ∙ ap (λ (r : Request). r.key) (sym is)))
none_alike key (x ∷ rows) b (inr there) same =
    ap (λ c. same_key key x.key || c) (none_alike key rows b there same)
    ∙ either (same_key key x.key)
  where
    either : (c : Bool) → (c || true) ≡ true
    either true = refl
    either false = refl
none_alike key [] b here same = absurd here

one_request : (rows : List Request) (a b : Request) →
    are_distinct same_key (map (λ row. row.key) rows) ≡ true
    → In a rows → In b rows → a.key ≡ b.key → a ≡ b
one_request [] a b unique here there same = absurd here
one_request (x ∷ rows) a b unique (inl is) (inl are) same = sym is ∙ are
one_request (x ∷ rows) a b unique (inl is) (inr later) same =
    let alike = none_alike x.key rows b later (ap (λ (r : Request). r.key) is ∙ same) in
    absurd (true≢false (sym (and_parts _ _ unique).0 ∙ ap not alike))
one_request (x ∷ rows) a b unique (inr later) (inl are) same =
    let alike = none_alike x.key rows a later (ap (λ (r : Request). r.key) are ∙ sym same) in
    absurd (true≢false (sym (and_parts _ _ unique).0 ∙ ap not alike))
one_request (x ∷ rows) a b unique (inr here) (inr there) same =
    one_request rows a b (and_parts _ _ unique).1 here there same

-- ---- rows that come, and rows that change

with_row : (rows : List Request) (row : Request) → AreReferred rows → IsReferred row →
    AreReferred (rows ++ row ∷ [])
with_row rows row are is x member = elim (In-push x rows row member) [
  | inl old ↦ are x old
  | inr new ↦ subst IsReferred new is
]

with_changes : (rows : List Request) (key : RequestKey) (changed : Request → Request) →
    AreReferred rows
    → ((y : Request) → In y rows → y.key ≡ key → IsReferred (changed y)) →
    AreReferred (with_changed key changed rows)
with_changes rows key changed are keeps x member =
    let it = In-mapped (λ row. cond (same_key row.key key) (changed row) row) x rows member in
    subst IsReferred it.2 (go it.0 it.1 (same_key it.0.key key) refl)
  where
    go : (y : Request) → In y rows → (b : Bool) → same_key y.key key ≡ b →
        IsReferred (cond b (changed y) y)
    go y here true is = keeps y here (same_key_is y.key key is)
    go y here false is = are y here

reversal_not : (s : Service) → is_reversal s ≡ true → is_authorization s ≡ true → ⊥
reversal_not Authorization h k = true≢false (sym h)
reversal_not s h k = true≢false (sym k)

completion_not : (s : Service) → s ≡ Completion → is_authorization s ≡ true → ⊥
completion_not s is h = true≢false (sym h ∙ ap is_authorization is)

-- ---- steps

abbrev HasBoth : Tables → Type 0
HasBoth t = HasUniqueKeys t × AreReferred t.requests

referred_after_step : (t : Tables) (a : Arrival) → HasBoth t →
    AreReferred (step_tables t a).requests
referred_after_step t a (unique, h) =
    by_step t a (λ d. AreReferred (after_any t (change_of (known_in t a) d)).requests)
    (record {
      reported = λ o is. h;
      malformed = λ r came. h;
      replied = λ r came given is. h;
      repeated = λ row member. h;
      refused = λ r merchant g given is.
          with_row t.requests _ h (λ kind approved none. true≢false (sym approved));
      admitted = λ r merchant g range c.
          with_row t.requests _ h (λ kind approved none. absurd (cc));
      completed = λ r merchant g hold c.
          with_row _ _
          (with_changes t.requests hold.key _ h
          (λ y here is kind approved none. true≢false (sym approved)))
          (λ kind approved none. completion_not r.service c.service kind);
      reversed = λ r merchant g row c.
          with_row _ _
          (with_changes t.requests row.key _ h
          (λ y here is kind approved none.
          let remaining = remaining_in r.message in
          let lowered = sym (original_approved (prior_of row) remaining) ∙ approved in
          let was = lowered_was_approved row.status row.reply row.key.service remaining
          c.reversible c.answered lowered in
          let same = one_request t.requests y row unique.requests here c.member is in
          h y here kind (ap (λ (x : Request). is_approved x.status) same ∙ ap is_approved was)
          none))
          (λ kind approved none. reversal_not r.service c.service kind);
      reconciled = λ r merchant g day c.
          with_row t.requests _ h (λ kind approved none. true≢false (sym approved));
      answered = λ moment v row c.
          with_changes t.requests row.key _ h (λ y here is kind approved none.
          let same = one_request t.requests y row unique.requests here c.member is in
          absurd (let e = sym none ∙ ap (λ (r : Request). r.reference) same ∙ c.reference in cc));
      cut_over = λ came before. h;
      range_added = λ range came valid free. h;
      range_dropped = λ low high came. h;
      enrolled = λ merchant came new. h;
      terminal_added = λ terminal came new. h;
    })

-- so it is in tables with a past
pub holds_referred : (t : Tables) → HasPast t → AreReferred t.requests
holds_referred t (opening, book) =
    subst (λ (s : Tables). AreReferred s.requests) (sym book.after)
    (kept HasBoth (λ s a both. (unique_after_step s a both.0, referred_after_step s a both))
    (new_tables opening)
    book.events (
      record { requests = refl; merchants = refl; terminals = refl },
      λ row here. absurd here,
    )).1

pub in_from_has : (rows : List Request) (row : Request) → Has rows row → In row rows
in_from_has [] row here = absurd here
in_from_has (x ∷ rows) row (inl is) = inl (sym is)
in_from_has (x ∷ rows) row (inr there) = inr (in_from_has rows row there)
