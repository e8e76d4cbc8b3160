-- The talk of a connection, one message more at a time.
use Rattle.std.proofs.Common.{◌≡◌, ℕ, List, [], ◌∷◌, ◌++◌, refl, sym, ap, subst, ◌∙◌, append_assoc}
use Rattle.std.proofs.Common.{append-nil}
use Rattle.acq_message.specs.declared.verdict.Verdict.{Verdict}
use Rattle.acq_core.specs.declared.event.Event.{Event}
use Rattle.acq_core.specs.declared.query.Query.{Query}
use Rattle.acq_core.specs.Arrivals.{arrival_of}
use Rattle.acq_core.specs.Tables.{Tables, step_output, step_tables, tables_after}
use Rattle.acq_soundness.proofs.Runs.{tables_after-append}
use Rattle.acq_front.specs.Talk.{Taking, talk, reply_in, replies, query_for, queries, Saying}
use Rattle.acq_front.specs.Talk.{AreSaid}
use Rattle.acq_front.specs.Turns.{Makes}

pub replies-append : (t : Tables) (es more : List Event) →
    replies t (es ++ more) ≡ replies t es ++ replies (tables_after t es) more
replies-append t [] more = refl
replies-append t (e ∷ es) more =
    ap (λ (l : List (List ℕ)). reply_in (step_output t (arrival_of e)) ++ l)
    (replies-append (step_tables t (arrival_of e)) es more)
    ∙ sym (append_assoc (reply_in (step_output t (arrival_of e)))
    (replies (step_tables t (arrival_of e)) es)
    (replies (tables_after (step_tables t (arrival_of e)) es) more))

pub queries-append : (t : Tables) (es more : List Event) →
    queries t (es ++ more) ≡ queries t es ++ queries (tables_after t es) more
queries-append t [] more = refl
queries-append t (e ∷ es) more =
    ap (λ (l : List Query). query_for e (step_output t (arrival_of e)) ++ l)
    (queries-append (step_tables t (arrival_of e)) es more)
    ∙ sym (append_assoc (query_for e (step_output t (arrival_of e)))
    (queries (step_tables t (arrival_of e)) es)
    (queries (tables_after (step_tables t (arrival_of e)) es) more))

module _ (may_say : Saying) where
  are_said-append : (qs more : List Query) (vs others : List Verdict) → AreSaid may_say qs vs →
      AreSaid may_say more others →
      AreSaid may_say (qs ++ more) (vs ++ others)
  are_said-append [] more [] others a b = b
  are_said-append [] more (v ∷ vs) others a b = absurd a
  are_said-append (q ∷ qs) more [] others a b = absurd a
  are_said-append (q ∷ qs) more (v ∷ vs) others a b = (a.0, are_said-append qs more vs others a.1 b)

  -- what was said to the queries of events, and of those that follow
  pub said_more : (t mid : Tables) (es more : List Event) (vs others : List Verdict) →
      mid ≡ tables_after t es →
      AreSaid may_say (queries t es) vs → AreSaid may_say (queries mid more) others →
      AreSaid may_say (queries t (es ++ more)) (vs ++ others)
  said_more t mid es more vs others at a b =
      subst (λ (qs : List Query). AreSaid may_say qs (vs ++ others))
      (sym (queries-append t es more))
      (are_said-append (queries t es) (queries (tables_after t es) more) vs others a
      (subst (λ (x : Tables). AreSaid may_say (queries x more) others) at b))

-- an issuer that might say more
pub said_weaker : (S R : Saying) → ((q : Query) (v : Verdict) → S q v → R q v) →
    (qs : List Query) (vs : List Verdict) →
    AreSaid S qs vs → AreSaid R qs vs
said_weaker S R f [] [] a = a
said_weaker S R f [] (v ∷ vs) a = a
said_weaker S R f (q ∷ qs) [] a = a
said_weaker S R f (q ∷ qs) (v ∷ vs) a = (f q v a.0, said_weaker S R f qs vs a.1)

-- The messages make these events, and the talk goes on behind them.
pub record GoesOn (t : Tables) (messages : List (List ℕ)) (moments : List ℕ)
    (verdicts : List Verdict)
    (events : List Event) : Type 0 where
  pub on : (more : List (List ℕ)) (later : List ℕ) (others : List Verdict) →
      talk t (messages ++ more) (moments ++ later) (verdicts ++ others)
      ≡ events ++ talk (tables_after t events) more later others

pub goes_on_none : (t : Tables) → GoesOn t [] [] [] []
goes_on_none t = record { on = λ more later others. refl }

-- what the talk is once a message has made its events
talk_first : (t : Tables) (message : List ℕ) (more : List (List ℕ)) (moments later : List ℕ)
    (verdicts others : List Verdict) (events : List Event) →
    Makes t message moments verdicts events →
    talk t (message ∷ more) (moments ++ later) (verdicts ++ others) ≡ events
    ++ talk (tables_after t events) more later others
talk_first t message more moments later verdicts others events makes =
    ap (λ (x : Taking). x.events ++ talk x.tables more x.moments x.verdicts) (makes later others)

pub goes_on_more : (t : Tables) (messages : List (List ℕ)) (message moments used : List ℕ)
    (verdicts said : List Verdict) (events made : List Event) →
    GoesOn t messages moments verdicts events →
    Makes (tables_after t events) message used said made →
    GoesOn t (messages ++ message ∷ []) (moments ++ used) (verdicts ++ said) (events ++ made)
goes_on_more t messages message moments used verdicts said events made goes makes = record {
  on = λ more later others.
      let a : (messages ++ message ∷ []) ++ more ≡ messages ++ (message ∷ more) =
      append_assoc messages (message ∷ []) more in
      let b : (moments ++ used) ++ later ≡ moments ++ (used ++ later) =
      append_assoc moments used later in
      let d : (verdicts ++ said) ++ others ≡ verdicts ++ (said ++ others) =
      append_assoc verdicts said others in
      let regrouped : talk t ((messages ++ message ∷ []) ++ more) ((moments ++ used) ++ later)
      ((verdicts ++ said) ++ others)
      ≡ talk t (messages ++ (message ∷ more)) (moments ++ (used ++ later))
      (verdicts ++ (said ++ others)) =
      (λ i. talk t (a i) (b i) (d i)) in
      let tail : talk (tables_after (tables_after t events) made) more later others
      ≡ talk (tables_after t (events ++ made)) more later others =
      ap (λ (x : Tables). talk x more later others) (sym (tables_after-append t events made)) in
      regrouped ∙ goes.on (message ∷ more) (used ++ later) (said ++ others)
      ∙ ap (λ (l : List Event). events ++ l)
      (talk_first (tables_after t events) message more used later said others made makes
      ∙ ap (λ (l : List Event). made ++ l) tail)
      ∙ sym (append_assoc events made (talk (tables_after t (events ++ made)) more later others));
}

-- the talk itself, and moments behind it that no event used
pub talk_is : (t : Tables) (messages : List (List ℕ)) (moments unused : List ℕ)
    (verdicts : List Verdict) (events : List Event) →
    GoesOn t messages moments verdicts events →
    talk t messages (moments ++ unused) verdicts ≡ events
talk_is t messages moments unused verdicts events goes =
    let a : messages ++ [] ≡ messages = append-nil messages in
    let d : verdicts ++ [] ≡ verdicts = append-nil verdicts in
    (λ i. talk t (sym a i) (moments ++ unused) (sym d i)) ∙ goes.on [] unused [] ∙ append-nil events

pub talk_ends : (t : Tables) (messages : List (List ℕ)) (moments : List ℕ) (verdicts : List Verdict)
    (events : List Event) →
    GoesOn t messages moments verdicts events → talk t messages moments verdicts ≡ events
talk_ends t messages moments verdicts events goes =
    ap (λ (l : List ℕ). talk t messages l verdicts) (sym (append-nil moments))
    ∙ talk_is t messages moments [] verdicts events goes
