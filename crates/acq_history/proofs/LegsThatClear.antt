-- What clears has the leg of what was asked for.
use Rattle.std.proofs.Common.{◌≡◌, ℕ, List, Some, true, cond, sym, ap, ◌∙◌}
use Rattle.std.specs.Prelude.{option_map, option_and_then, codes}
use Rattle.std.specs.Str.{bytes_eq}
use Rattle.day_totals.specs.declared.leg.Leg.TheVariants.{Credit, Debit}
use Rattle.acq_message.specs.declared.service.Service.{Service}
use Rattle.acq_message.specs.declared.service.Service.TheVariants.{Financial, Completion}
use Rattle.acq_message.specs.declared.service.Service.TheVariants.{Reversal, ReversalAdvice}
use Rattle.acq_message.specs.declared.request_key.RequestKey.{RequestKey}
use Rattle.acq_message.specs.Elements.{transaction_in, original_key, reference_in}
use Rattle.acq_core.specs.declared.posting.Posting.{Posting}
use Rattle.acq_core.specs.Changes.{reversal_leg}
use Rattle.acq_soundness.specs.Requests.{is_reversal}
use Rattle.acq_soundness.proofs.Lookups.{map_some, then_some, some_is}
use Rattle.acq_history.specs.History.{Found, is_text, referred, reference_of, kept_reply}
use Rattle.acq_history.specs.PostedRows.{sale_posting, completion_posting, reversing_posting}
use Rattle.acq_history.specs.PostedRows.{posted_about}
use Rattle.acq_history.specs.Told.{code_in}
use Rattle.acq_history.specs.Cleared.{reversal_moved}
use Rattle.acq_history.specs.ClearedRequests as statement
use Rattle.acq_history.specs.ClearedRequests.{moved_by, cleared, HasItsLeg}
use Rattle.acq_history.proofs.NamedPostings.{taken_if}

module _ (f : Found) (p : Posting) where
  sale : moved_by Financial f ≡ Some p → (transaction : List ℕ) →
      transaction_in f.request.message ≡ transaction →
      p.leg ≡ cond (bytes_eq transaction (codes "20")) Credit Debit
  sale moves transaction is =
      let n = map_some (λ n. sale_posting n f) (reference_of f) p moves in
      sym (ap (λ x. x.leg) n.2) ∙ ap (λ t. cond (bytes_eq t (codes "20")) Credit Debit) is

  completion : moved_by Completion f ≡ Some p → p.leg ≡ Debit
  completion moves =
      let n = then_some (λ n. option_map (completion_posting f.entry.day f.request n)
      (referred n f.before)) (reference_in f.request.message) p moves in
      let hold = map_some (completion_posting f.entry.day f.request n.0) (referred n.0 f.before) p n.2
      in
      sym (ap (λ x. x.leg) hold.2)

  taken_back : reversal_moved f.entry f.before f.request ≡ Some p → (key : RequestKey)
      (q : Posting) → original_key f.request.message ≡ Some key →
      posted_about key f.before ≡ Some q → p.leg ≡ reversal_leg q.leg
  taken_back moves key q named posted =
      sym (ap (λ x. x.leg)
      (some_is (reversing_posting f.entry.day f.request q) p
      (sym (ap (option_map (reversing_posting f.entry.day f.request))
      (ap (option_and_then (λ k. posted_about k f.before)) named ∙ posted))
      ∙ moves)))

  reversal : (s : Service) → is_reversal s ≡ true → moved_by s f ≡ Some p →
      (key : RequestKey) (q : Posting) → original_key f.request.message ≡ Some key →
      posted_about key f.before ≡ Some q → p.leg ≡ reversal_leg q.leg
  reversal Reversal fits moves = taken_back moves
  reversal ReversalAdvice fits moves = taken_back moves
  reversal s fits moves = absurd (cc)

pub clears_under_its_leg : statement.ClearsUnderItsLeg
clears_under_its_leg f p clears =
    let moves = (taken_if (is_text (codes "00") (code_in (kept_reply f)))
    (moved_by f.request.service f) p clears).1 in
    record {
      returned = λ is transaction.
          sale f p (ap (λ s. moved_by s f) (sym is) ∙ moves) (codes "20") transaction;
      sold = λ is transaction.
          sale f p (ap (λ s. moved_by s f) (sym is) ∙ moves) (codes "00") transaction;
      completed = λ is. completion f p (ap (λ s. moved_by s f) (sym is) ∙ moves);
      credit_reversed = λ key q fits named posted leg.
          reversal f p f.request.service fits moves key q named posted ∙ ap reversal_leg leg;
      debit_reversed = λ key q fits named posted leg.
          reversal f p f.request.service fits moves key q named posted ∙ ap reversal_leg leg;
    }
