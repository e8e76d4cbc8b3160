-- Which events a message makes, what is replied to them, and what is asked for them.
use Rattle.std.proofs.Common.{◌≡◌, ℕ, true, List, [], ◌∷◌, ◌++◌, refl, sym, ap, ◌∙◌, append-nil}
use Rattle.std.proofs.Common.{subst}
use Rattle.std.specs.List.{list_all}
use Rattle.std.proofs.lemmas.Bool.{and_from}
use Rattle.acq_link.specs.Frames.{frame, framed, Frames, fits_frame}
use Rattle.acq_message.specs.declared.verdict.Verdict.{Verdict}
use Rattle.acq_core.specs.declared.event.Event.{Event}
use Rattle.acq_core.specs.declared.event.Event.TheVariants.{Frame, Answer}
use Rattle.acq_core.specs.declared.query.Query.{Query}
use Rattle.acq_core.specs.declared.output.Output.{Output}
use Rattle.acq_core.specs.declared.output.Output.TheVariants.{Ask}
use Rattle.acq_core.specs.Arrivals.{arrival_of}
use Rattle.acq_core.specs.Tables.{Tables, step_output, step_tables, tables_after}
use Rattle.acq_front.specs.Talk.{Taking, taking_said, reply_in, replies, query_for, queries, Saying}
use Rattle.acq_front.specs.Talk.{AreSaid}
use Rattle.acq_front.specs.Stops.{Left, LeavesAll}
use Rattle.acq_front.specs.Turns.{Makes, TookMessage}

-- the host asks for nothing
abbrev pub AsksNothing : Output → Type 0
AsksNothing o = (query : Query) → o ≡ Ask query → ⊥

-- what is said to one event, whatever comes later
said_alone : (t : Tables) (e : Event) (o : Output) (later : List ℕ) (others : List Verdict) →
    AsksNothing o →
    (let made : Taking =
    record {
      events = e ∷ [];
      tables = tables_after t (e ∷ []);
      moments = later;
      verdicts =
          others;
    } in
    taking_said t e o later others ≡ made)
said_alone t e (Ask query) later others nothing = absurd (nothing query refl)
said_alone t e o later others nothing = refl

-- a message that nobody is asked about makes one event
pub makes_alone : (t : Tables) (moment : ℕ) (message : List ℕ) (o : Output) →
    step_output t (arrival_of (Frame moment message)) ≡ o → AsksNothing o →
    Makes t message (moment ∷ []) [] (Frame moment message ∷ [])
makes_alone t moment message o is nothing = λ later others.
    ap (λ (x : Output). taking_said t (Frame moment message) x later others) is
    ∙ said_alone t (Frame moment message) o later others nothing

-- a message whose issuer is asked makes two
pub makes_asking : (t : Tables) (moment next : ℕ) (message : List ℕ) (query : Query)
    (verdict : Verdict) →
    step_output t (arrival_of (Frame moment message)) ≡ Ask query →
    Makes t message (moment ∷ next ∷ []) (verdict ∷ [])
    (Frame moment message ∷ Answer next query.merchant query.reference verdict ∷ [])
makes_asking t moment next message query verdict is = λ later others.
    ap (λ (x : Output). taking_said t (Frame moment message) x (next ∷ later) (verdict ∷ others)) is

-- ---- replies

pub replies_one : (t : Tables) (e : Event) (o : Output) → step_output t (arrival_of e) ≡ o →
    replies t (e ∷ []) ≡ reply_in o
replies_one t e o is = append-nil (reply_in (step_output t (arrival_of e))) ∙ ap reply_in is

pub replies_two : (t : Tables) (e d : Event) (query : Query) (o : Output) →
    step_output t (arrival_of e) ≡ Ask query →
    step_output (step_tables t (arrival_of e)) (arrival_of d) ≡ o →
    replies t (e ∷ d ∷ []) ≡ reply_in o
replies_two t e d query o asks is =
    ap (λ (x : Output). reply_in x ++ replies (step_tables t (arrival_of e)) (d ∷ [])) asks
    ∙ replies_one (step_tables t (arrival_of e)) d o is

pub frames_none : {rs : List (List ℕ)} → rs ≡ [] → Frames [] rs
frames_none e = record { each = ap (list_all fits_frame) e; whole = ap framed (sym e) }

pub frames_one : (text : List ℕ) (rs : List (List ℕ)) → rs ≡ text ∷ [] → fits_frame text ≡ true →
    Frames (frame text) rs
frames_one text rs e fits = record {
  each = ap (list_all fits_frame) e ∙ and_from (fits_frame text) true fits refl;
  whole = sym (append-nil (frame text)) ∙ ap framed (sym e);
}

-- ---- queries

asks_nothing : (e : Event) (o : Output) → AsksNothing o → query_for e o ≡ []
asks_nothing (Frame moment message) (Ask query) nothing = absurd (nothing query refl)
asks_nothing e o nothing = refl

module _ (may_say : Saying) where
  -- nobody is asked, and nothing said
  pub said_nothing : (t : Tables) (e : Event) (o : Output) → step_output t (arrival_of e) ≡ o →
      AsksNothing o →
      AreSaid may_say (queries t (e ∷ [])) []
  said_nothing t e o is nothing =
      let none : queries t (e ∷ []) ≡ [] =
      append-nil (query_for e (step_output t (arrival_of e))) ∙ ap (query_for e) is
      ∙ asks_nothing e o nothing in
      let nothing_said : AreSaid may_say [] [] = tt in
      rw (none) nothing_said

  -- the issuer is asked, and says this
  pub said_one : (t : Tables) (moment : ℕ) (message : List ℕ) (query : Query) (verdict : Verdict) →
      step_output t (arrival_of (Frame moment message)) ≡ Ask query → may_say query verdict →
      AreSaid may_say (queries t (Frame moment message ∷ [])) (verdict ∷ [])
  said_one t moment message query verdict is said =
      let one : queries t (Frame moment message ∷ []) ≡ query ∷ [] =
      ap (λ (o : Output). query_for (Frame moment message) o ++ []) is in
      let this : AreSaid may_say (query ∷ []) (verdict ∷ []) = (said, tt) in
      rw (one) this

  pub said_two : (t : Tables) (moment next : ℕ) (message merchant : List ℕ) (reference : ℕ)
      (query : Query) (verdict : Verdict) →
      step_output t (arrival_of (Frame moment message)) ≡ Ask query → may_say query verdict →
      AreSaid may_say
      (queries t (Frame moment message ∷ Answer next merchant reference verdict ∷ []))
      (verdict ∷ [])
  said_two t moment next message merchant reference query verdict is said =
      said_one t moment message query verdict is said

  -- the message was taken, and nobody was asked
  pub took_alone : (t : Tables) (left : Left) (moment : ℕ) (message : List ℕ) (o : Output) →
      step_output t (arrival_of (Frame moment message)) ≡ o → AsksNothing o →
      left.tables ≡ step_tables t (arrival_of (Frame moment message)) →
      LeavesAll left t (Frame moment message ∷ []) →
      TookMessage may_say t left
      (record { message = message; moments = moment ∷ []; verdicts = [] })
      (Frame moment message ∷ [])
  took_alone t left moment message o is nothing tables stop = record {
    makes = makes_alone t moment message o is nothing;
    tables = tables;
    said = said_nothing t (Frame moment message) o is nothing;
    stop = stop;
  }

  -- the message and its issuer's answer were taken
  pub took_answer : (t mid : Tables) (left : Left) (moment next : ℕ) (message : List ℕ)
      (query : Query) (verdict : Verdict) →
      step_output t (arrival_of (Frame moment message)) ≡ Ask query →
      mid ≡ step_tables t (arrival_of (Frame moment message)) →
      left.tables
      ≡ step_tables mid (arrival_of (Answer next query.merchant query.reference verdict)) →
      LeavesAll left mid (Answer next query.merchant query.reference verdict ∷ []) →
      may_say query verdict →
      TookMessage may_say t left
      (record { message = message; moments = moment ∷ next ∷ []; verdicts = verdict ∷ [] })
      (Frame moment message ∷ Answer next query.merchant query.reference verdict ∷ [])
  took_answer t mid left moment next message query verdict is between tables stop said =
      let answer = Answer next query.merchant query.reference verdict in
      record {
        makes = makes_asking t moment next message query verdict is;
        tables = tables ∙ ap (λ (x : Tables). step_tables x (arrival_of answer)) between;
        said = said_two t moment next message query.merchant query.reference query verdict is said;
        stop = subst (λ (x : Tables). LeavesAll left x (answer ∷ [])) between stop;
      }
