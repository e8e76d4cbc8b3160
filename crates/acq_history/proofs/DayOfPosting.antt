-- What a request posts is of the day on which it came.
use Rattle.std.proofs.Common.{◌≡◌, ℕ, List, Option, Some, None, Bool, true, false, cond, sym, ap}
use Rattle.std.proofs.Common.{◌∙◌}
use Rattle.std.specs.Prelude.{option_and_then}
use Rattle.acq_core.specs.declared.posting.Posting.{Posting}
use Rattle.acq_message.specs.declared.service.Service.{Service}
use Rattle.acq_message.specs.declared.service.Service.TheVariants.{Completion, Reversal}
use Rattle.acq_message.specs.declared.service.Service.TheVariants.{ReversalAdvice}
use Rattle.acq_message.specs.Elements.{reference_in, original_key}
use Rattle.acq_message.specs.declared.request_message.RequestMessage.{RequestMessage}
use Rattle.acq_core.specs.declared.arrival.Arrival.TheVariants.{Requested}
use Rattle.acq_core.specs.Known.{Prior}
use Rattle.acq_core.specs.Changes.{completion_posting, reversal_posting, posted_leg}
use Rattle.acq_core.specs.Changes.{reversing_posting}
use Rattle.acq_history.specs.Entries.{Entry, is_acceptance}
use Rattle.acq_history.specs.History.{Found, recorded, referred, prior, posting_by, posting_from}
use Rattle.acq_history.specs.History.{posting_of}
use Rattle.acq_soundness.proofs.Lookups.{map_some, then_some}

-- also where the original posted nothing: then neither does its reversal
pub reversal_posting_day : (today : ℕ) (r : RequestMessage) (p : Prior) (q : Posting) →
    reversal_posting today r p ≡ Some q → q.day ≡ today
reversal_posting_day today r p q e =
    let leg = map_some (reversing_posting today r p) (posted_leg p.reply_state p.leg) q e in
    sym (ap (λ x. x.day) leg.2)

-- the same of an original that is looked up
reversed_day : (e : Entry) (r : RequestMessage) (o : Option Found) (p : Posting) →
    option_and_then (λ f. reversal_posting e.day r (prior f)) o ≡ Some p → p.day ≡ e.day
reversed_day e r o p posts =
    let found = then_some (λ f. reversal_posting e.day r (prior f)) o p posts in
    reversal_posting_day e.day r (prior found.0) p found.2

posting_by_day : (s : Service) (e : Entry) (h : List Entry) (r : RequestMessage) (p : Posting) →
    posting_by s e h r ≡ Some p → p.day ≡ e.day
posting_by_day Completion e h r p posts =
    let found =
    map_some (λ hold. completion_posting e.day r (prior hold))
    (option_and_then (λ n. referred n h) (reference_in r.message)) p posts in
    sym (ap (λ x. x.day) found.2)
posting_by_day Reversal e h r p posts =
    reversed_day e r (option_and_then (λ key. recorded key h) (original_key r.message)) p posts
posting_by_day ReversalAdvice e h r p posts =
    reversed_day e r (option_and_then (λ key. recorded key h) (original_key r.message)) p posts
posting_by_day service e h r p posts = absurd (cc)

pub requests_post_today : (e : Entry) (h : List Entry) (r : RequestMessage) (p : Posting) →
    e.arrival ≡ Requested r → posting_of e h ≡ Some p → p.day ≡ e.day
requests_post_today e h r p came posts =
    step (is_acceptance e) (sym (ap (λ a. posting_from a e h) came) ∙ posts)
  where
    step : (b : Bool) → cond b (posting_by r.service e h r) None ≡ Some p → p.day ≡ e.day
    step true accepted = posting_by_day r.service e h r p accepted
    step false accepted = absurd (cc)
