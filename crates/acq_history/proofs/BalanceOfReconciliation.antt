-- A reconciliation is balanced by the totals of its day.
use Rattle.std.proofs.Common.{◌≡◌, ℕ, List, [], ◌∷◌, ◌++◌, Option, Some, None, Bool, true, false}
use Rattle.std.proofs.Common.{cond, ◌↔◌, refl, sym, ap, ◌∙◌, rules}
use Rattle.std.specs.Prelude.{map, option_map, codes}
use Rattle.std.specs.Str.{bytes_eq}
use Rattle.iso_codec.specs.Message.{content_of, with_content}
use Rattle.day_totals.specs.Totals.{DayTotals, Agrees, agrees_with, totals_of, net_of, net_text_of}
use Rattle.day_totals.specs.declared.claimed.Claimed.{Claimed}
use Rattle.acq_core.specs.declared.posting.Posting.{Posting}
use Rattle.acq_message.specs.declared.service.Service.TheVariants.{Reconciliation}
use Rattle.acq_message.specs.declared.request_message.RequestMessage.{RequestMessage}
use Rattle.acq_message.specs.declared.response_code.ResponseCode.TheVariants as code
use Rattle.acq_core.specs.declared.arrival.Arrival.TheVariants.{Requested}
use Rattle.acq_core.specs.Known.{Known, known_for, totals_if, wanted_for}
use Rattle.acq_core.specs.Decision.{Reconciles, Replies, decision_of_request}
use Rattle.acq_core.specs.Decision.{decision_of_merchant, decision_of_key, decision_by}
use Rattle.acq_core.specs.Decision.{reconciliation_of, decision}
use Rattle.acq_core.specs.Outcome.{outcome_of, Replied, balance_code}
use Rattle.acq_message.specs.Claims.{claimed_in}
use Rattle.acq_message.specs.Elements.{key_of}
use Rattle.acq_message.specs.Reply.{with_contents, echo, day_element, code_element}
use Rattle.acq_message.specs.Reply.{totals_elements, count_elements, amount_elements}
use Rattle.acq_core.specs.Tables.{Opening, totals_on, postings_of}
use Rattle.acq_history.specs.Entries.{Entry}
use Rattle.acq_history.specs.History.{enrolled, recorded, prior, postings, day_after, facts_of}
use Rattle.acq_history.specs.PartyHistory.{known_by}
use Rattle.acq_history.specs.Balance.{IsReconciliation, SaysBalance, IsBalanced, balance_reply}
use Rattle.acq_history.specs.DaySums.{postings_on}
use Rattle.acq_history.proofs.ReplyElements.{content_of-set, contents_kept, with_contents-append}
use Rattle.acq_soundness.proofs.Keys.{bytes_eq_itself}
use Rattle.acq_soundness.proofs.Lookups.{is_some_there, clash, some_is}
use Rattle.acq_soundness.proofs.Members.{filter-filter}

-- ---- what the reply says

-- the host's totals in a reply
abbrev later_elements : DayTotals → List (ℕ × List ℕ)
later_elements t = count_elements t ++ amount_elements t ++ (97, net_text_of (net_of t)) ∷ []

abbrev balance_text : Bool → List ℕ
balance_text in_balance = cond in_balance (codes "1") (codes "2")

abbrev balance_code_text : Bool → List ℕ
balance_code_text in_balance = cond in_balance (codes "00") (codes "95")

-- elements 66 and 39 of the reply
module _ (day : ℕ) (r : RequestMessage) (in_balance : Bool) (totals : DayTotals) where
  abbrev dated : List (ℕ × List ℕ)
  dated = with_contents (echo r.service r.message) (day_element r.service day)

  abbrev coded : List (ℕ × List ℕ)
  coded = with_contents dated (code_element (balance_code in_balance))

  in_turn : (balance_reply day r in_balance totals).elements
      ≡ with_contents coded (totals_elements in_balance totals)
  in_turn =
      let code = code_element (balance_code in_balance) in
      with_contents-append (echo r.service r.message) (day_element r.service day ++ code)
      (totals_elements in_balance totals)
      ∙ ap (λ es. with_contents es (totals_elements in_balance totals))
      (with_contents-append (echo r.service r.message) (day_element r.service day) code)

  said_66 : content_of (balance_reply day r in_balance totals).elements 66
      ≡ Some (balance_text in_balance)
  said_66 =
      ap (λ es. content_of es 66) in_turn
      ∙ (contents_kept 66 (with_content coded 66 (balance_text in_balance)) (later_elements totals)
      refl
      ∙ content_of-set coded 66 (balance_text in_balance))

  said_39 : content_of (balance_reply day r in_balance totals).elements 39
      ≡ Some (balance_code_text in_balance)
  said_39 =
      ap (λ es. content_of es 39) in_turn
      ∙ (contents_kept 39 coded (totals_elements in_balance totals) refl ∙ code_is in_balance)
    where
      code_is : (b : Bool) →
          content_of (with_contents dated (code_element (balance_code b))) 39
          ≡ Some (balance_code_text b)
      code_is true = content_of-set dated 39 (codes "00")
      code_is false = content_of-set dated 39 (codes "95")

-- one of two texts says whether something is so
says_exactly : (o : Option (List ℕ)) (met unmet : List ℕ) (b : Bool) (P : Type 0) →
    o ≡ Some (cond b met unmet) → bytes_eq met unmet ≡ false → (b ≡ true) ↔ P →
    ((o ≡ Some met) ↔ P) × ((o ≡ Some unmet) ↔ ¬ P)
says_exactly o met unmet b P is differ exactly = step b is exactly
  where
    two : met ≡ unmet → ⊥
    two e =
        clash (bytes_eq unmet unmet) (bytes_eq_itself unmet)
        (ap (λ t. bytes_eq t unmet) (sym e) ∙ differ)

    step : (b : Bool) → o ≡ Some (cond b met unmet) → (b ≡ true) ↔ P →
        ((o ≡ Some met) ↔ P) × ((o ≡ Some unmet) ↔ ¬ P)
    step true is exactly = (
      (λ e. exactly.0 refl, λ p. is),
      (λ e. absurd (two (some_is met unmet (sym is ∙ e))), λ n. absurd (n (exactly.0 refl))),
    )
    step false is exactly = (
      (λ e. absurd (two (some_is met unmet (sym e ∙ is))), λ p. absurd (let t = exactly.1 p in cc)),
      (λ e p. absurd (let t = exactly.1 p in cc), λ n. is),
    )

says_balance : (day : ℕ) (r : RequestMessage) (b : Bool) (totals : DayTotals) (P : Type 0) →
    (b ≡ true) ↔ P → SaysBalance (balance_reply day r b totals) P
says_balance day r b totals P exactly =
    let settled = says_exactly _ (codes "1") (codes "2") b P (said_66 day r b totals) refl
    exactly in
    let coded = says_exactly _ (codes "00") (codes "95") b P (said_39 day r b totals) refl
    exactly in
    record {
      in_balance = settled.0;
      out_of_balance = settled.1;
      approved = coded.0;
      refused = coded.1;
    }

-- the test of the code decides it
agreement : (claimed : Claimed) (t : DayTotals) → (agrees_with claimed t ≡ true) ↔ Agrees claimed t
agreement claimed t = search rules

-- ---- what is decided

module _ (opening : Opening) (h : List Entry) (r : RequestMessage) (day : ℕ)
    (is : IsReconciliation opening h r day) where
  -- what a reconciliation knows
  abbrev known : Known
  known =
      known_for (wanted_for (day_after opening.first_day h) Reconciliation r.message)
      (facts_of opening h)

  knows : known_by opening h (Requested r) ≡ known
  knows =
      ap (λ s. known_for (wanted_for (day_after opening.first_day h) s r.message)
      (facts_of opening h)) is.service

  fresh : option_map prior (recorded (key_of Reconciliation r.message) h) ≡ None
  fresh =
      ap (option_map prior)
      (ap (λ s. recorded (key_of s r.message) h) (sym is.service) ∙ is.new)

  reconciles : decision (known_by opening h (Requested r)) (Requested r) ≡ Reconciles r day
  reconciles =
      let merchant = is_some_there (enrolled h) is.merchant in
      (λ i. decision_of_request (is.service i) (knows i) r)
      ∙ (ap (decision_of_merchant known r) merchant.1
      ∙ (ap (λ b. cond b (decision_of_key r known.recorded
      (decision_by r.service known merchant.0 r)) (Replies r code.InvalidMerchant)) is.terminal
      ∙ ((λ i. decision_of_key r (fresh i) (decision_by (is.service i) known merchant.0 r))
      ∙ ap (reconciliation_of r) is.resolves)))

  same_totals : (known_by opening h (Requested r)).totals ≡ totals_on (postings h) day
  same_totals = ap (λ k. k.totals) knows ∙ ap (totals_if (totals_on (postings h))) is.resolves

  -- so a reconciliation is balanced by the postings of its day
  pub balanced : IsBalanced opening h r day
  balanced =
      let totals = totals_on (postings h) day in
      let exactly = agreement (claimed_in r.message) totals in
      record {
        in_balance = agrees_with (claimed_in r.message) totals;
        replied =
            ap (outcome_of (known_by opening h (Requested r))) reconciles
            ∙ ap (λ t. Replied (balance_code (agrees_with (claimed_in r.message) t))
            (balance_reply day r (agrees_with (claimed_in r.message) t) t)) same_totals;
        exactly = exactly;
        says = says_balance day r _ totals _ exactly;
      }

pub sums_are_totals : (rows : List (ℕ × Posting)) (m : List ℕ) (day : ℕ) →
    totals_of (map (λ row. (row.1.leg, row.1.amount)) (postings_of m (postings_on day rows)))
    ≡ totals_on (postings_of m rows) day
sums_are_totals rows m day = ap (λ l. totals_of (map (λ row. (row.1.leg, row.1.amount)) l))
    (filter-filter _ _ rows)
