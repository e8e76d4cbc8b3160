-- How one message was taken and answered.
use Rattle.std.proofs.Common.{◌≡◌, ◌==◌, ◌<◌, subst, ℕ, true, List, [], ◌∷◌, Result, Ok, Err}
use Rattle.std.proofs.Common.{refl, sym, ap, ◌∙◌, arith, inl, inr}
use Rattle.std.proofs.lemmas.Bool.{and_from, le-leb, lt-ltb}
use Rattle.std.proofs.lemmas.Bool.Decides.{nat_tests}
use Rattle.std.specs.Prelude.{length}
use Rattle.acq_link.specs.Frames.{fits_frame}
use Rattle.acq_message.specs.declared.verdict.Verdict.{Verdict}
use Rattle.iso_codec.specs.declared.decode_fault.DecodeFault.{DecodeFault}
use Rattle.acq_core.specs.declared.event.Event.{Event}
use Rattle.acq_core.specs.declared.event.Event.TheVariants.{Frame, Answer}
use Rattle.acq_core.specs.declared.query.Query.{Query}
use Rattle.acq_core.specs.declared.output.Output.{Output}
use Rattle.acq_core.specs.declared.output.Output.TheVariants.{Ask, Undecodable}
use Rattle.acq_core.specs.Arrivals.{arrival_of}
use Rattle.acq_core.specs.Tables.{Tables, step_output, step_tables}
use Rattle.acq_book.specs.Promise.{CountsFault, HasRisen}
use Rattle.acq_book.specs.declared.book_fault.BookFault as book
use Rattle.acq_host.specs.Runs.{IsWellSaid}
use Rattle.acq_front.specs.declared.front_fault.FrontFault as fault
use Rattle.acq_front.specs.Faults.{of_book, CountsStore, IfStore, TellsStore}
use Rattle.acq_front.specs.Stops.{Left, LeavesAll, LeavesSome}
use Rattle.acq_front.specs.Talk.{Saying}
use Rattle.acq_front.specs.Turns.{Incoming, TookNone, TookAllButAnswer}
use Rattle.acq_front.specs.Turns.{Answered, Refused, Said, Takes, Turns, ReplyFits}
use Rattle.acq_front.proofs.Reading.{undecodable_is, reads}
use Rattle.acq_front.proofs.MessagesTaken.{AsksNothing, makes_asking, replies_one, replies_two}
use Rattle.acq_front.proofs.MessagesTaken.{frames_none, said_one, took_alone}
use Rattle.acq_front.proofs.MessagesTaken.{took_answer}

-- the text of a reply fits a frame
pub reply_fits : (o : Output) → IsWellSaid o → ReplyFits o
reply_fits o well party text is =
    let reply = well party text is in
    and_from _ _ (lt-ltb 0 (length text) (omega (arith, reply.not_empty)))
    (le-leb (length text) 4096 reply.fits)

-- a text of no bytes fits none, and neither does a longer one than the longest
pub empty_unfit : (text : List ℕ) → (length text == 0) ≡ true → fits_frame text ≡ true → ⊥
empty_unfit text empty fit = grind (arith, nat_tests)

pub long_unfit : (text : List ℕ) → 4096 < length text → fits_frame text ≡ true → ⊥
long_unfit text long fit = grind (arith, nat_tests)

-- a fault that is handed on tells the same of the store, and of a longer time in which nothing more
-- failed
pub tells_on : (X Y : Type 0) (f : fault.FrontFault) (P Q : Type 0) {a b : ℕ} (c : ℕ) → b ≡ a →
    (P → Q) → TellsStore {X = X} (Err f) b c P → TellsStore {X = Y} (Err f) a c Q
tells_on X Y fault.TheVariants.Store P Q c same so (inl risen) =
    inl (subst (λ (n : ℕ). HasRisen n c) same risen)
tells_on X Y fault.TheVariants.Store P Q c same so (inr p) = inr (so p)
tells_on X Y fault.TheVariants.Memory P Q c same so told = told ∙ same
tells_on X Y fault.TheVariants.BadLength P Q c same so told = told ∙ same
tells_on X Y fault.TheVariants.Ended P Q c same so told = told ∙ same
tells_on X Y (fault.TheVariants.Undecodable x) P Q c same so told = told ∙ same
tells_on X Y fault.TheVariants.Read P Q c same so told = told ∙ same
tells_on X Y (fault.TheVariants.Write n) P Q c same so told = told ∙ same

-- a fault that counts is one that is told
pub tells_counted : (X Y : Type 0) (f : fault.FrontFault) (P : Type 0) (a b : ℕ) →
    CountsStore {X = X} (Err f) a b → TellsStore {X = Y} (Err f) a b P
tells_counted X Y fault.TheVariants.Store P a b counts = inl counts
tells_counted X Y fault.TheVariants.Memory P a b counts = counts
tells_counted X Y fault.TheVariants.BadLength P a b counts = counts
tells_counted X Y fault.TheVariants.Ended P a b counts = counts
tells_counted X Y (fault.TheVariants.Undecodable x) P a b counts = counts
tells_counted X Y fault.TheVariants.Read P a b counts = counts
tells_counted X Y (fault.TheVariants.Write n) P a b counts = counts

-- what tells the store's fault only so, while no call of it failed
pub tells_unfit : {X : Type 0} (r : Result X fault.FrontFault) (P Q : Type 0) {a b : ℕ} → b ≡ a →
    (P → Q) → IfStore r P → TellsStore r a b Q
tells_unfit (Ok x) P Q same so p = same
tells_unfit (Err fault.TheVariants.Store) P Q same so p = inr (so p)
tells_unfit (Err fault.TheVariants.Memory) P Q same so p = same
tells_unfit (Err fault.TheVariants.BadLength) P Q same so p = same
tells_unfit (Err fault.TheVariants.Ended) P Q same so p = same
tells_unfit (Err (fault.TheVariants.Undecodable x)) P Q same so p = same
tells_unfit (Err fault.TheVariants.Read) P Q same so p = same
tells_unfit (Err (fault.TheVariants.Write n)) P Q same so p = same

-- a fault of the book, after calls that left the count as it was
pub counts_book : (X : Type 0) (e : book.BookFault) {a b : ℕ} (c : ℕ) → b ≡ a →
    CountsFault {T = Unit {0}} (Err e) b c → CountsStore {X = X} (Err (of_book e)) a c
counts_book X book.TheVariants.Memory c same counts = counts ∙ same
counts_book X book.TheVariants.Store c same counts = subst (λ (n : ℕ). HasRisen n c) same counts

-- the book refused
pub book_stops : (may_say : Saying) (e : book.BookFault) (old : Tables) (left : Left)
    (m : Incoming) →
    Refused may_say old left m [] →
    Takes may_say old left m (Err (of_book e))
book_stops may_say book.TheVariants.Memory old left m refused = refused
book_stops may_say book.TheVariants.Store old left m refused = refused

-- where a message was not taken, or didn't read, nothing goes out
pub take_stops : (may_say : Saying) (old : Tables) (left : Left) (m : Incoming)
    (f : fault.FrontFault) → Takes may_say old left m (Err f) →
    Turns may_say old left m [] (Err f)
take_stops may_say old left m fault.TheVariants.Memory h = h
take_stops may_say old left m fault.TheVariants.Store h = h
take_stops may_say old left m fault.TheVariants.BadLength h = absurd h
take_stops may_say old left m fault.TheVariants.Ended h = absurd h
take_stops may_say old left m (fault.TheVariants.Undecodable u) h = h
take_stops may_say old left m fault.TheVariants.Read h = absurd h
take_stops may_say old left m (fault.TheVariants.Write n) h = absurd h

-- ---- by what the host said

module _ (may_say : Saying) (t : Tables) (moment : ℕ) (text message : List ℕ)
    (same : text ≡ message) where
  -- a message that nobody is asked about
  abbrev alone : List ℕ → Incoming
  alone x = record { message = x; moments = moment ∷ []; verdicts = [] }

  -- it was not taken
  pub message_refused : (left : Left) → (left.is_open → left.tables ≡ t) →
      LeavesSome left t [] (Frame moment text ∷ []) →
      Refused may_say t left (alone message) []
  message_refused left kept stop =
      let none : TookNone t left (alone text) = record {
        moment = moment;
        given = refl;
        unasked = refl;
        tables = kept;
        stop = stop;
      } in
      let refused : Refused may_say t left (alone text) [] = (refl, inl none) in
      subst (λ (x : List ℕ). Refused may_say t left (alone x) []) same refused

  -- it doesn't read
  pub unread : (left : Left) (f : DecodeFault) →
      step_output t (arrival_of (Frame moment text)) ≡ Undecodable f →
      left.tables ≡ step_tables t (arrival_of (Frame moment text)) →
      LeavesAll left t (Frame moment text ∷ []) →
      Takes may_say t left (alone message) (Err (fault.TheVariants.Undecodable f))
  unread left f is tables stop =
      let answered : Answered may_say t left (alone text) [] = record {
        events = Frame moment text ∷ [];
        took = took_alone may_say t left moment text (Undecodable f) is (λ query e. cc) tables stop;
        written = frames_none (replies_one t (Frame moment text) (Undecodable f) is);
      } in
      let turned : Takes may_say t left (alone text) (Err (fault.TheVariants.Undecodable f)) =
      (answered, undecodable_is t moment text f is) in
      subst (λ (x : List ℕ). Takes may_say t left (alone x)
      (Err (fault.TheVariants.Undecodable f))) same turned

  -- nobody is asked
  pub plain_said : (left : Left) (o : Output) →
      step_output t (arrival_of (Frame moment text)) ≡ o →
      left.tables ≡ step_tables t (arrival_of (Frame moment text)) →
      LeavesAll left t (Frame moment text ∷ []) →
      AsksNothing o → ((f : DecodeFault) → o ≡ Undecodable f → ⊥) → ReplyFits o →
      Said may_say t left (alone message) o
  plain_said left o is tables stop nothing read fits =
      let said : Said may_say t left (alone text) o = record {
        events = Frame moment text ∷ [];
        took = took_alone may_say t left moment text o is nothing tables stop;
        reads = reads t moment text o is read;
        replied = replies_one t (Frame moment text) o is;
        fits = fits;
      } in
      subst (λ (x : List ℕ). Said may_say t left (alone x) o) same said

  module _ (next : ℕ) (query : Query) (verdict : Verdict)
      (is : step_output t (arrival_of (Frame moment text)) ≡ Ask query)
      (mid : Tables) (between : mid ≡ step_tables t (arrival_of (Frame moment text)))
      (said : may_say query verdict) where
    abbrev answer : Event
    answer = Answer next query.merchant query.reference verdict

    -- a message whose issuer is asked
    abbrev asking : List ℕ → Incoming
    asking x = record { message = x; moments = moment ∷ next ∷ []; verdicts = verdict ∷ [] }

    -- the issuer was asked, and its answer was not taken
    pub answer_refused : (left : Left) → (left.is_open → left.tables ≡ mid) →
        LeavesSome left mid [] (answer ∷ []) →
        Refused may_say t left (asking message) []
    answer_refused left kept stop =
        let most : TookAllButAnswer may_say t left (asking text) = record {
          came = Frame moment text;
          answer = answer;
          is_answer = tt;
          reads = reads t moment text (Ask query) is (λ f e. cc);
          makes = makes_asking t moment next text query verdict is;
          tables = λ still. kept still ∙ between;
          said = said_one may_say t moment text query verdict is said;
          silent = replies_one t (Frame moment text) (Ask query) is;
          stop = subst (λ (x : Tables). LeavesSome left x [] (answer ∷ [])) between stop;
        } in
        let refused : Refused may_say t left (asking text) [] = (refl, inr most) in
        subst (λ (x : List ℕ). Refused may_say t left (asking x) []) same refused

    -- its answer was taken
    pub answer_said : (left : Left) (o : Output) →
        o ≡ step_output mid (arrival_of answer) →
        left.tables ≡ step_tables mid (arrival_of answer) →
        LeavesAll left mid (answer ∷ []) →
        ReplyFits o → Said may_say t left (asking message) o
    answer_said left o out tables stop fits =
        let said_last : step_output (step_tables t (arrival_of (Frame moment text)))
        (arrival_of answer) ≡ o =
        ap (λ (x : Tables). step_output x (arrival_of answer)) (sym between) ∙ sym out in
        let both : Said may_say t left (asking text) o = record {
          events = Frame moment text ∷ answer ∷ [];
          took = took_answer may_say t mid left moment next text query verdict is between tables
              stop said;
          reads = reads t moment text (Ask query) is (λ f e. cc);
          replied = replies_two t (Frame moment text) answer query o is said_last;
          fits = fits;
        } in
        subst (λ (x : List ℕ). Said may_say t left (asking x) o) same both
