-- After a run each party got what its own events alone give, and what was posted stays in order.
use Rattle.std.proofs.Common.{◌≡◌, ℕ, List, ◌∷◌, ◌++◌, length, Some, sym, ap, ◌∙◌, subst}
use Rattle.std.specs.Prelude.{map}
use Rattle.std.specs.List.{slice_get}
use Rattle.acq_core.specs.declared.event.Event.{Event}
use Rattle.acq_core.specs.declared.output.Output.{Output}
use Rattle.acq_core.specs.declared.arrival.Arrival.{Arrival}
use Rattle.acq_core.specs.declared.arrival.Arrival.TheVariants.{Requested}
use Rattle.acq_core.specs.Arrivals.{arrival_of, merchant_named}
use Rattle.acq_core.specs.Outcome.{outcome, output_of}
use Rattle.acq_core.specs.Tables.{Opening, Tables, new_tables, prior_of, requests_of, postings_of}
use Rattle.acq_core.specs.Tables.{outputs, step_output}
use Rattle.acq_core.specs.Tables.{tables_after}
use Rattle.acq_history.specs.PartyHistory.{known_by, history_of, book_after}
use Rattle.acq_history.specs.Isolation.{open_at}
use Rattle.acq_history.specs.Reconciliations.{reconciliations_of}
use Rattle.acq_history.proofs.ReconciliationsAlone.{reconciles_alone}
use Rattle.acq_history.proofs.IsolatedParties.{isolated}
use Rattle.acq_history.proofs.MerchantsRuns.{from_new, posts_alone, holds_alone}
use Rattle.acq_history.proofs.TablesAgreeWithHistory.{known_in_mine}
use Rattle.acq_history.specs.Conservation.{IsConserved}
use Rattle.acq_history.specs.DaySums.{postings_on}
use Rattle.acq_history.proofs.BalanceOfReconciliation.{balanced}
use Rattle.acq_history.proofs.ConservationStep.{conserved}
use Rattle.acq_history.proofs.FinalDays.{postings_of_closed_day}
use Rattle.acq_headline.specs.Headline.{AreBalanced, RanAlone, IsAlone, KeptItsPostings}
use Rattle.acq_core.specs.Pasts.{HasPast}
use Rattle.acq_soundness.proofs.Runs.{tables_after-append}
use Rattle.acq_host.proofs.Runs.{output_at}

-- ---- from a past that is known

module _ (opening : Opening) (past : List Event) where
  -- the book that the past led to
  abbrev book : Tables
  book = book_after opening past

  -- what comes of a merchant's own gets what the merchant's history gives
  pub said_alone : (further before later : List Event) (e : Event) (m : List ℕ) (a : Arrival) →
      further ≡ before ++ e ∷ later → arrival_of e ≡ a → merchant_named a ≡ Some m →
      slice_get (outputs book further) (length before)
      ≡ Some (output_of (Some m)
      (outcome (known_by opening (history_of opening (Some m) (past ++ before)) a) a))
  said_alone further before later e m a split came named =
      let t = book_after opening (past ++ before) in
      let h = history_of opening (Some m) (past ++ before) in
      let then : tables_after book before ≡ book_after opening (past ++ before) =
      sym (tables_after-append (new_tables opening) past before) in
      ap (λ es. slice_get (outputs book es) (length before)) split
      ∙ (output_at book before later e
      ∙ ap (λ o. Some o)
      ((λ i. step_output (then i) (came i))
      ∙ (λ i. output_of (named i)
      (outcome (known_in_mine (from_new opening m (past ++ before)) a named i) a))))

  gets_balance : (further : List Event) → AreBalanced opening past further (outputs book further)
  gets_balance further before later e m r day split came named is =
      let balance = balanced opening (history_of opening (Some m) (past ++ before)) r day is in
      record {
        balanced = balance;
        is_said =
            said_alone further before later e m (Requested r) split came named
            ∙ ap (λ o. Some (output_of (Some m) o)) balance.replied;
      }

  ran_alone : (further : List Event) →
      RanAlone opening past further (outputs book further) (tables_after book further)
  ran_alone further =
      let then : tables_after book further ≡ book_after opening (past ++ further) =
      sym (tables_after-append (new_tables opening) past further) in
      record {
        outputs = λ party. isolated party opening past further;
        posted = λ m. ap (λ t. postings_of m t.postings) then
            ∙ posts_alone m opening (past ++ further);
        holds = λ m moment.
            ap (λ t. open_at moment (map prior_of (requests_of m t.requests))) then
            ∙ holds_alone m opening moment (past ++ further);
        reconciled = λ m.
            ap (λ t. reconciliations_of m t.reconciliations) then
            ∙ reconciles_alone m opening (past ++ further);
        balanced = gets_balance further;
      }

  kept_its_postings : (further : List Event) → KeptItsPostings book (tables_after book further)
  kept_its_postings further =
      let then : book_after opening (past ++ further) ≡ tables_after book further =
      tables_after-append (new_tables opening) past further in
      record {
        conserved = subst (λ t. IsConserved t.postings) then (conserved opening (past ++ further));
        final = λ day closed none.
            ap (λ t. postings_on day t.postings) (sym then)
            ∙ postings_of_closed_day (new_tables opening) day past further closed none;
      }

-- ---- whatever the past

pub is_alone : (t now : Tables) (further : List Event) (said : List Output) →
    said ≡ outputs t further →
    now ≡ tables_after t further → IsAlone t further said now
is_alone t now further said says after opening past is =
    subst (RanAlone opening past further said) (sym (after ∙ ap (λ u. tables_after u further) is))
    (subst (λ os. RanAlone opening past further os (tables_after (book_after opening past) further))
    (sym (says ∙ ap (λ u. outputs u further) is)) (ran_alone opening past further))

pub keeps_postings : (t now : Tables) (further : List Event) → HasPast t →
    now ≡ tables_after t further →
    KeptItsPostings t now
keeps_postings t now further past after =
    let is = past.1.after in
    subst (KeptItsPostings t) (sym after)
    (subst (λ u. KeptItsPostings u (tables_after u further)) (sym is)
    (kept_its_postings past.0 past.1.events further))
