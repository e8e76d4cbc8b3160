-- What is accepted has passed each check: from the decision back to what the checks test.
use Rattle.std.proofs.Common.{◌≡◌, ◌+◌, Option, Some, None, Bool, true, false}
use Rattle.std.proofs.Common.{cond, refl}
use Rattle.std.specs.Prelude.{not, nat_lt}
use Rattle.card_no.specs.declared.range.Range.{Range}
use Rattle.card_no.specs.CardNumbers.{is_valid_card}
use Rattle.acq_message.specs.declared.request_message.RequestMessage.{RequestMessage}
use Rattle.acq_message.specs.declared.response_code.ResponseCode.{ResponseCode}
use Rattle.acq_message.specs.declared.response_code.ResponseCode.TheVariants as code
use Rattle.acq_message.specs.Cards.{card_of, expiry_of}
use Rattle.acq_message.specs.Elements.{amount_in, or_empty, original_acquirer, remaining_in}
use Rattle.acq_message.specs.Numbers.{is_accepted_amount}
use Rattle.acq_message.specs.Reply.{coded_reply}
use Rattle.acq_core.specs.declared.merchant.Merchant.{Merchant}
use Rattle.acq_core.specs.Known.{Known, Prior}
use Rattle.acq_core.specs.Decision.{Decision, Refuses, Replies, Admits, Completes, Reverses}
use Rattle.acq_core.specs.Decision.{is_full, is_other_transaction, is_expired, is_open_at}
use Rattle.acq_core.specs.Decision.{open_hold}
use Rattle.acq_core.specs.Decision.{fits_acquirer, original_of, admission, admission_in}
use Rattle.acq_core.specs.Decision.{completion, completion_of, reversal_of, is_final_for}
use Rattle.acq_core.specs.Decision.{leaves_a_part, decision_by, decision_of_repeat}
use Rattle.acq_core.specs.Decision.{decision_of_key, decision_of_merchant}
use Rattle.acq_core.specs.Outcome.{Outcome, Replied, outcome_of}
use Rattle.acq_soundness.proofs.Lookups.{clash}

-- a check's own code: neither that of an approval, nor an issuer's
abbrev pub is_own : ResponseCode → Bool
is_own code.Approved = false
is_own (code.Declined text) = false
is_own given = true

-- outcomes of some kind, of which neither a refusal is, nor what a recorded key gets
pub record AreBehind (goes : Outcome → Bool) (k : Known) (r : RequestMessage) : Type 0 where
  pub refused : (given : ResponseCode) → is_own given ≡ true →
      goes (Replied given (coded_reply k.today r given)) ≡ false
  pub recorded : (p : Prior) → k.recorded ≡ Some p →
      goes (outcome_of k (decision_of_repeat r p)) ≡ false

module _ (goes : Outcome → Bool) (k : Known) (r : RequestMessage)
    (behind : AreBehind goes k r) where
  abbrev Goes : Decision → Type 0
  Goes d = goes (outcome_of k d) ≡ true

  -- a check that stops nothing lets by what is behind it
  lets_by : (b : Bool) (given : ResponseCode) (later : Decision) → is_own given ≡ true →
      Goes (cond b (Refuses r given) later) → (b ≡ false) × Goes later
  lets_by true given later own going =
      clash (goes (outcome_of k (Refuses r given))) going (behind.refused given own)
  lets_by false given later own going = (refl, going)

  stopped : {X : Type 0} (given : ResponseCode) → is_own given ≡ true → Goes (Refuses r given) → X
  stopped given own going =
      clash (goes (outcome_of k (Refuses r given))) going (behind.refused given own)

  -- ---- before the service's own checks

  pub record IsServed : Type 0 where
    pub merchant : Merchant
    pub enrolled : k.merchant ≡ Some merchant
    pub terminal : k.has_terminal ≡ true
    pub new : k.recorded ≡ None
    pub decided : Goes (decision_by r.service k merchant r)

  by_key : (merchant : Merchant) → k.merchant ≡ Some merchant → k.has_terminal ≡ true →
      (o : Option Prior) → k.recorded ≡ o →
      Goes (decision_of_key r o (decision_by r.service k merchant r)) → IsServed
  by_key merchant there terminal None is going =
      record {
        merchant = merchant;
        enrolled = there;
        terminal = terminal;
        new = is;
        decided = going;
      }
  by_key merchant there terminal (Some p) is going =
      clash (goes (outcome_of k (decision_of_repeat r p))) going (behind.recorded p is)

  by_terminal : (merchant : Merchant) → k.merchant ≡ Some merchant →
      (b : Bool) → k.has_terminal ≡ b →
      Goes (cond b (decision_of_key r k.recorded (decision_by r.service k merchant r))
      (Replies r code.InvalidMerchant)) →
      IsServed
  by_terminal merchant there true is going = by_key merchant there is k.recorded refl going
  by_terminal merchant there false is going = stopped code.InvalidMerchant refl going

  pub is_served : (o : Option Merchant) → k.merchant ≡ o → Goes (decision_of_merchant k r o) →
      IsServed
  is_served None is going = stopped code.InvalidMerchant refl going
  is_served (Some merchant) is going = by_terminal merchant is k.has_terminal refl going

  -- ---- an authorization, a sale or a return

  pub record IsPastAdmission (merchant : Merchant) : Type 0 where
    pub transaction : is_other_transaction merchant r ≡ false
    pub amount : not (is_accepted_amount (amount_in r.message)) ≡ false
    pub valid : not (is_valid_card (or_empty (card_of r.message))) ≡ false
    pub unexpired : is_expired k.today (expiry_of r.message) ≡ false
    pub range : Range
    pub found : k.range ≡ Some range
    pub room : is_full k ≡ false
    pub decided : Goes (Admits r range (merchant.first_reference + k.admitted))

  in_range : (merchant : Merchant) → (o : Option Range) → k.range ≡ o →
      Goes (admission_in k merchant r o) →
      (range : Range) × (k.range ≡ Some range) × (is_full k ≡ false)
      × Goes (Admits r range (merchant.first_reference + k.admitted))
  in_range merchant None is going = stopped code.NoSuchIssuer refl going
  in_range merchant (Some range) is going =
      let last = lets_by (is_full k) code.LimitExceeded
      (Admits r range (merchant.first_reference + k.admitted)) refl going in
      (range, is, last.0, last.1)

  pub past_admission : (merchant : Merchant) → Goes (admission k merchant r) →
      IsPastAdmission merchant
  past_admission merchant going =
      let within = admission_in k merchant r k.range in
      let unexpired : Decision =
      cond (is_expired k.today (expiry_of r.message)) (Refuses r code.ExpiredCard) within in
      let valid : Decision =
      cond (not (is_valid_card (or_empty (card_of r.message)))) (Refuses r code.InvalidCard)
      unexpired in
      let amount : Decision =
      cond (not (is_accepted_amount (amount_in r.message))) (Refuses r code.InvalidAmount) valid in
      let a = lets_by (is_other_transaction merchant r) code.InvalidTransaction amount refl going in
      let b = lets_by (not (is_accepted_amount (amount_in r.message))) code.InvalidAmount valid refl
      a.1 in
      let c = lets_by (not (is_valid_card (or_empty (card_of r.message)))) code.InvalidCard unexpired
      refl b.1 in
      let d = lets_by (is_expired k.today (expiry_of r.message)) code.ExpiredCard within refl c.1 in
      let last = in_range merchant k.range refl d.1 in
      record {
        transaction = a.0;
        amount = b.0;
        valid = c.0;
        unexpired = d.0;
        range = last.0;
        found = last.1;
        room = last.2;
        decided = last.3;
      }

  -- ---- a completion

  pub record IsPastCompletion (merchant : Merchant) : Type 0 where
    pub transaction : is_other_transaction merchant r ≡ false
    pub amount : not (is_accepted_amount (amount_in r.message)) ≡ false
    pub hold : Prior
    pub found : k.referred ≡ Some hold
    pub opens : is_open_at r.moment hold.hold_end ≡ true
    pub within : nat_lt hold.amount (amount_in r.message) ≡ false
    pub room : is_full k ≡ false

  of_hold : (merchant : Merchant) → is_other_transaction merchant r ≡ false →
      not (is_accepted_amount (amount_in r.message)) ≡ false →
      (o : Option Prior) → k.referred ≡ o → Goes (completion_of k r (open_hold r.moment o)) →
      IsPastCompletion merchant
  of_hold merchant transaction amount None is going = stopped code.RecordNotFound refl going
  of_hold merchant transaction amount (Some hold) is going =
      step (is_open_at r.moment hold.hold_end) refl going
    where
      step : (b : Bool) → is_open_at r.moment hold.hold_end ≡ b →
          Goes (completion_of k r (cond b (Some hold) None)) → IsPastCompletion merchant
      step false shut going = stopped code.RecordNotFound refl going
      step true opens going =
          let full : Decision =
          cond (is_full k) (Refuses r code.LimitExceeded) (Completes r hold) in
          let a = lets_by (nat_lt hold.amount (amount_in r.message)) code.InvalidAmount full refl
          going in
          let b = lets_by (is_full k) code.LimitExceeded (Completes r hold) refl a.1 in
          record {
            transaction = transaction;
            amount = amount;
            hold = hold;
            found = is;
            opens = opens;
            within = a.0;
            room = b.0;
          }

  pub past_completion : (merchant : Merchant) → Goes (completion k merchant r) →
      IsPastCompletion merchant
  past_completion merchant going =
      let held = completion_of k r (open_hold r.moment k.referred) in
      let amount : Decision =
      cond (not (is_accepted_amount (amount_in r.message))) (Refuses r code.InvalidAmount) held in
      let a = lets_by (is_other_transaction merchant r) code.InvalidTransaction amount refl going in
      let b = lets_by (not (is_accepted_amount (amount_in r.message))) code.InvalidAmount held refl
      a.1 in
      of_hold merchant a.0 b.0 k.referred refl b.1

  -- ---- a reversal

  pub record IsPastReversal : Type 0 where
    pub original : Prior
    pub found : k.original ≡ Some original
    pub acquirer : fits_acquirer (original_acquirer r.message) original.acquirer ≡ true
    pub going_on : is_final_for (remaining_in r.message) original ≡ false
    pub part : not (leaves_a_part (amount_in r.message) (remaining_in r.message) original) ≡ false
    pub room : is_full k ≡ false

  of_original : (o : Option Prior) → k.original ≡ o →
      Goes (reversal_of k r (original_of r.message o)) → IsPastReversal
  of_original None is going = stopped code.RecordNotFound refl going
  of_original (Some p) is going =
      step (fits_acquirer (original_acquirer r.message) p.acquirer) refl going
    where
      step : (b : Bool) → fits_acquirer (original_acquirer r.message) p.acquirer ≡ b →
          Goes (reversal_of k r (cond b (Some p) None)) → IsPastReversal
      step false other going = stopped code.RecordNotFound refl going
      step true fits going =
          let full : Decision = cond (is_full k) (Refuses r code.LimitExceeded) (Reverses r p) in
          let part : Bool =
          not (leaves_a_part (amount_in r.message) (remaining_in r.message) p) in
          let parted : Decision = cond part (Refuses r code.InvalidAmount) full in
          let a = lets_by (is_final_for (remaining_in r.message) p) code.NoActionTaken parted refl
          going in
          let b = lets_by part code.InvalidAmount full refl a.1 in
          let c = lets_by (is_full k) code.LimitExceeded (Reverses r p) refl b.1 in
          record {
            original = p;
            found = is;
            acquirer = fits;
            going_on = a.0;
            part = b.0;
            room = c.0;
          }

  pub past_reversal : Goes (reversal_of k r (original_of r.message k.original)) → IsPastReversal
  past_reversal going = of_original k.original refl going
