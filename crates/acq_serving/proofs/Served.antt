-- A connection so far, and how it goes on and ends.
use Rattle.std.proofs.Common.{◌≡◌, ℕ, true, false, List, [], ◌∷◌, ◌++◌, take, Result, Ok, Err}
use Rattle.std.proofs.Common.{refl, sym, ap, subst, ◌∙◌, append_assoc, append-nil, inl, inr}
use Rattle.std.specs.List.{list_all}
use Rattle.std.proofs.lemmas.List.Folds.{list_all-append}
use Rattle.acq_link.specs.Frames.{frame, framed, fits_frame, Frames, FramesThen, has_frame}
use Rattle.acq_link.specs.Frames.{has_bad_length, is_partial}
use Rattle.acq_link.specs.FramesAt.{BeginsWithFrame, MayBecomeFrame}
use Rattle.acq_link.specs.declared.deframe_fault.DeframeFault as deframe
use Rattle.acq_link.proofs.FramesInOrder.{frames_append, taken_more}
use Rattle.acq_link.proofs.FramesReadOnce.{partial_is}
use Rattle.acq_message.specs.declared.verdict.Verdict.{Verdict}
use Rattle.acq_core.specs.declared.event.Event.{Event}
use Rattle.acq_core.specs.declared.event.Event.TheVariants.{Frame}
use Rattle.acq_core.specs.declared.query.Query.{Query}
use Rattle.acq_core.specs.Tables.{Tables, tables_after}
use Rattle.acq_soundness.proofs.Runs.{tables_after-append}
use Rattle.acq_front.specs.declared.front_fault.FrontFault as fault
use Rattle.acq_front.specs.Faults.{of_stream}
use Rattle.acq_front.specs.Talk.{talk, replies, queries, Saying, AreSaid}
use Rattle.acq_front.specs.Stops.{Left, LeavesAll}
use Rattle.acq_front.specs.Turns.{is_read, Makes, Incoming, TookMessage, TookNone, TookAllButAnswer}
use Rattle.acq_front.specs.Turns.{Answered, Refused, CutShort, Turns}
use Rattle.acq_serving.specs.Serving.{Connection, AllAnswered, CutsLast, LeavesOff, Serves, AllRead}
use Rattle.acq_front.proofs.StopsLeave.{all_behind, some_behind, some_next}
use Rattle.acq_serving.proofs.TalkGoesOn.{GoesOn, goes_on_none, goes_on_more, talk_is, talk_ends}
use Rattle.acq_serving.proofs.TalkGoesOn.{replies-append, said_more, said_weaker}

-- the host took these messages' events
pub record TookAll (may_say : Saying) (old : Tables) (now : Left) (c : Connection)
    (events : List Event) : Type 0 where
  pub came : FramesThen c.input c.messages c.rest
  pub goes : GoesOn old c.messages c.moments c.verdicts events
  pub tables : now.tables ≡ tables_after old events
  pub said : AreSaid may_say (queries old events) c.verdicts
  pub stop : LeavesAll now old events

-- and their replies' frames went out; these bytes are held
pub record Going (may_say : Saying) (old : Tables) (now : Left) (c : Connection)
    (held : List ℕ) : Type 0 where
  pub events : List Event
  pub took : TookAll may_say old now c events
  pub written : Frames c.output (replies old events)
  pub rest : c.rest ≡ held
  pub read : AllRead c.messages

abbrev pub nothing_yet : Connection
nothing_yet =
    record { input = []; output = []; moments = []; verdicts = []; messages = []; rest = [] }

all_read : (messages : List (List ℕ)) (message : List ℕ) → AllRead messages →
    is_read message ≡ true → AllRead (messages ++ message ∷ [])
all_read messages message all reads =
    list_all-append is_read messages (message ∷ []) ∙ rw (all, reads) refl

frames_and_no_more : (out now : List ℕ) (rs : List (List ℕ)) → now ≡ [] → Frames out rs →
    Frames (out ++ now) rs
frames_and_no_more out now rs none frames =
    subst (λ (l : List ℕ). Frames l rs)
    (sym (append-nil out) ∙ ap (λ (l : List ℕ). out ++ l) (sym none)) frames

written_more : (old mid : Tables) (events made : List Event) (output out : List ℕ) →
    mid ≡ tables_after old events →
    Frames output (replies old events) → Frames out (replies mid made) →
    Frames (output ++ out) (replies old (events ++ made))
written_more old mid events made output out at so more =
    let later : Frames out (replies (tables_after old events) made) =
    subst (λ (t : Tables). Frames out (replies t made)) at more in
    subst (λ (rs : List (List ℕ)). Frames (output ++ out) rs) (sym (replies-append old events made))
    (frames_append so later)

-- a message more was taken, and these bytes went out
abbrev pub with_message : Connection → Incoming → List ℕ → List ℕ → Connection
with_message c m out left = record {
  input = c.input;
  output = c.output ++ out;
  moments = c.moments ++ m.moments;
  verdicts = c.verdicts ++ m.verdicts;
  messages = c.messages ++ m.message ∷ [];
  rest = left;
}

-- a piece more was read
abbrev pub with_piece : Connection → List ℕ → Connection
with_piece c piece = record c { input = c.input ++ piece; rest = c.rest ++ piece }

-- bytes went out, and the clock was read, but no message was taken
abbrev pub with_nothing_taken : Connection → List ℕ → List ℕ → List Verdict → Connection
with_nothing_taken c out moments verdicts = record c {
  output = c.output ++ out;
  moments = c.moments ++ moments;
  verdicts = c.verdicts ++ verdicts;
}

module _ (S : Saying) where
  pub going_none : (now : Left) → LeavesAll now now.tables [] →
      Going S now.tables now nothing_yet []
  going_none now stop = record {
    events = [];
    took = record {
      came = record { each = refl; whole = refl };
      goes = goes_on_none now.tables;
      tables = refl;
      said = tt;
      stop = stop;
    };
    written = record { each = refl; whole = refl };
    rest = refl;
    read = refl;
  }

  pub going_held : {old : Tables} {now : Left} {c : Connection} {held other : List ℕ} →
      Going S old now c held → other ≡ held → Going S old now c other
  going_held {old = old} {now = now} {c = c} so e = subst (λ (l : List ℕ). Going S old now c l)
      (sym e) so

  pub going_read : {old : Tables} {now : Left} {c : Connection} {held : List ℕ} (piece : List ℕ) →
      Going S old now c held → Going S old now (with_piece c piece) (held ++ piece)
  going_read {c = c} piece so = record {
    events = so.events;
    took = record {
      came = record {
        each = so.took.came.each;
        whole = ap (λ (l : List ℕ). l ++ piece) so.took.came.whole
            ∙ append_assoc (framed c.messages) c.rest piece;
      };
      goes = so.took.goes;
      tables = so.took.tables;
      said = so.took.said;
      stop = so.took.stop;
    };
    written = so.written;
    rest = ap (λ (l : List ℕ). l ++ piece) so.rest;
    read = so.read;
  }

  frames_then_more : (c : Connection) (held message left : List ℕ) →
      FramesThen c.input c.messages c.rest → c.rest ≡ held →
      BeginsWithFrame held message left → FramesThen c.input (c.messages ++ message ∷ []) left
  frames_then_more c held message left so is begins =
      taken_more c.input c.rest message left c.messages so (is ∙ begins.whole) begins.fits

  -- the next message's events were taken too
  took_more : (old : Tables) (mid now : Left) (c : Connection) (held : List ℕ) (made : List Event)
      (m : Incoming) (out left : List ℕ) →
      (so : Going S old mid c held) → BeginsWithFrame held m.message left →
      TookMessage S mid.tables now m made →
      TookAll S old now (with_message c m out left) (so.events ++ made)
  took_more old mid now c held made m out left so begins took = record {
    came = frames_then_more c held m.message left so.took.came so.rest begins;
    goes = goes_on_more old c.messages m.message c.moments m.moments c.verdicts m.verdicts so.events
        made so.took.goes
        (subst (λ (t : Tables). Makes t m.message m.moments m.verdicts made) so.took.tables
        took.makes);
    tables = took.tables ∙ ap (λ (t : Tables). tables_after t made) so.took.tables
        ∙ sym (tables_after-append old so.events made);
    said = said_more S old mid.tables so.events made c.verdicts m.verdicts so.took.tables
        so.took.said took.said;
    stop = all_behind now old mid.tables so.events so.took.tables made took.stop;
  }

  pub going_more : {old : Tables} {mid now : Left} {c : Connection} {held : List ℕ}
      (m : Incoming) (out left : List ℕ) →
      Going S old mid c held → BeginsWithFrame held m.message left → is_read m.message ≡ true →
      Answered S mid.tables now m out →
      Going S old now (with_message c m out left) left
  going_more {old = old} {mid = mid} {now = now} {c = c} {held = held} m out left so begins reads
      answered = record {
        events = so.events ++ answered.events;
        took = took_more old mid now c held answered.events m out left so begins answered.took;
        written = written_more old mid.tables so.events answered.events c.output out so.took.tables
            so.written answered.written;
        rest = refl;
        read = all_read c.messages m.message so.read reads;
      }

  -- ---- ends

  all_answered : {old : Tables} {now : Left} {c : Connection} (events : List Event) →
      TookAll S old now c events → Frames c.output (replies old events) → AllAnswered S old now c
  all_answered {old = old} {now = now} {c = c} events took written =
      let talked = talk_ends old c.messages c.moments c.verdicts events took.goes in
      let led = took.tables ∙ ap (tables_after old) (sym talked) in
      record {
        came = took.came;
        tables = led;
        said = subst (λ (es : List Event). AreSaid S (queries old es) c.verdicts)
            (sym talked) took.said;
        written = subst (λ (es : List Event). Frames c.output (replies old es))
            (sym talked) written;
        stop = subst (LeavesAll now old) (sym talked) took.stop;
      }

  answers_all : {old : Tables} {now : Left} {c : Connection} {held : List ℕ} →
      Going S old now c held → AllAnswered S old now c
  answers_all so = all_answered so.events so.took so.written

  -- no message could be taken out of the stream
  pub stream_stops : (e : deframe.DeframeFault) {old : Tables} {now : Left} {c : Connection}
      {held : List ℕ} → Going S old now c held →
      (e ≡ deframe.TheVariants.BadLength → has_bad_length held ≡ true) →
      Serves S old now c (Err (of_stream e))
  stream_stops deframe.TheVariants.BadLength so bad =
      (answers_all so, so.read, ap has_bad_length so.rest ∙ bad refl)
  stream_stops deframe.TheVariants.Memory {old = old} {now = now} {c = c} so bad =
      record {
        came = so.took.came;
        read = so.read;
        events = so.events;
        missing = [];
        at_most_one = inl refl;
        all = talk_ends old c.messages c.moments c.verdicts so.events so.took.goes
            ∙ sym (append-nil so.events);
        tables = λ still. so.took.tables;
        said = so.took.said;
        written = so.written;
        in_hand = [];
        which = inl refl;
        stop = record {
          tables = λ t l. inl (so.took.stop.tables t l);
          stored = so.took.stop.stored;
        };
      }

  no_frame : (held : List ℕ) → MayBecomeFrame held → has_frame held ≡ false
  no_frame held (inl none) = ap has_frame none
  no_frame held (inr part) = (partial_is held part).0

  -- a read failed
  pub read_stops : {old : Tables} {now : Left} {c : Connection} {held : List ℕ} →
      Going S old now c held → MayBecomeFrame held →
      Serves S old now c (Err fault.TheVariants.Read)
  read_stops {held = held} so may =
      (answers_all so, so.read, ap has_frame so.rest ∙ no_frame held may)

  -- no connection was had
  pub none_served : (now : Left) → LeavesAll now now.tables [] →
      Serves S now.tables now nothing_yet (Err fault.TheVariants.Read)
  none_served now stop = read_stops (going_none now stop) (inl refl)

  -- the input ended
  pub ends_well : {old : Tables} {now : Left} {c : Connection} {held : List ℕ} →
      Going S old now c held → held ≡ [] →
      Serves S old now c (Ok tt)
  ends_well so none = (answers_all so, so.read, so.rest ∙ none)

  is_begun : (held : List ℕ) → MayBecomeFrame held → (held ≡ [] → ⊥) → is_partial held ≡ true
  is_begun held (inl none) some = absurd (some none)
  is_begun held (inr part) some = part

  pub ends_inside : {old : Tables} {now : Left} {c : Connection} {held : List ℕ} →
      Going S old now c held → MayBecomeFrame held →
      (held ≡ [] → ⊥) → Serves S old now c (Err fault.TheVariants.Ended)
  ends_inside {held = held} so may some =
      (answers_all so, so.read, ap is_partial so.rest ∙ is_begun held may some)

  -- ---- one message stops it

  -- what it leaves of the connection
  pub record Extends (c d : Connection) (out moments : List ℕ) (verdicts : List Verdict) : Type 0
    where
      pub input : d.input ≡ c.input
      pub output : d.output ≡ c.output ++ out
      pub moments_are : d.moments ≡ c.moments ++ moments
      pub verdicts_are : d.verdicts ≡ c.verdicts ++ verdicts

  module _ (old : Tables) (mid now : Left) (c : Connection)
      (held left : List ℕ) (m : Incoming) (out : List ℕ) (so : Going S old mid c held)
      (begins : BeginsWithFrame held m.message left) where
    abbrev with_it : Connection
    with_it = with_message c m out left

    -- nothing of it was taken
    refused_whole : out ≡ [] → TookNone mid.tables now m →
        LeavesOff S old now (with_nothing_taken c out m.moments m.verdicts)
    refused_whole none untaken =
        let same : c.verdicts ++ m.verdicts ≡ c.verdicts =
        ap (λ (l : List Verdict). c.verdicts ++ l) untaken.unasked ∙ append-nil c.verdicts in
        let came = Frame untaken.moment m.message in
        record {
          came = so.took.came;
          read = so.read;
          events = so.events;
          missing = [];
          at_most_one = inl refl;
          all = ap (λ (l : List Verdict). talk old c.messages (c.moments ++ m.moments) l) same
              ∙ talk_is old c.messages c.moments m.moments c.verdicts so.events so.took.goes
              ∙ sym (append-nil so.events);
          tables = λ still. untaken.tables still ∙ so.took.tables;
          said = subst (AreSaid S (queries old so.events)) (sym same) so.took.said;
          written = frames_and_no_more c.output out (replies old so.events) none so.written;
          in_hand = came ∷ [];
          which = inr (
            refl,
            (
              came,
              record {
                message = m.message;
                behind = left;
                begins = subst (λ (l : List ℕ). BeginsWithFrame l m.message left) (sym so.rest)
                    begins;
                earlier = c.moments;
                moment = untaken.moment;
                given = ap (λ (l : List ℕ). c.moments ++ l) untaken.given;
                is = refl;
              },
              refl,
            ),
          );
          stop = some_next now old mid.tables so.events so.took.tables (came ∷ []) untaken.stop;
        }

    -- its answer wasn't taken
    refused_answer : out ≡ [] → TookAllButAnswer S mid.tables now m →
        LeavesOff S old now with_it
    refused_answer none most =
        let first = most.came ∷ [] in
        let led : now.is_open → now.tables ≡ tables_after old (so.events ++ first) =
        λ still. most.tables still ∙ ap (λ (t : Tables). tables_after t first) so.took.tables
        ∙ sym (tables_after-append old so.events first) in
        let goes = goes_on_more old c.messages m.message c.moments m.moments c.verdicts m.verdicts
        so.events (most.came ∷ most.answer ∷ []) so.took.goes
        (subst (λ (t : Tables). Makes t m.message m.moments m.verdicts
        (most.came ∷ most.answer ∷ [])) so.took.tables most.makes) in
        record {
          came = frames_then_more c held m.message left so.took.came so.rest begins;
          read = all_read c.messages m.message so.read most.reads;
          events = so.events ++ first;
          missing = most.answer ∷ [];
          at_most_one = inr (most.answer, most.is_answer, refl);
          all = talk_ends old with_it.messages with_it.moments with_it.verdicts
              (so.events ++ most.came ∷ most.answer ∷ []) goes
              ∙ sym (append_assoc so.events first (most.answer ∷ []));
          tables = led;
          said = said_more S old mid.tables so.events first c.verdicts m.verdicts so.took.tables
              so.took.said most.said;
          written = written_more old mid.tables so.events first c.output out so.took.tables
              so.written
              (record {
                each = ap (list_all fits_frame) most.silent;
                whole =
                    none ∙ ap framed (sym most.silent);
              });
          in_hand = most.answer ∷ [];
          which = inl refl;
          stop = some_behind now old mid.tables so.events so.took.tables first (most.answer ∷ [])
              most.stop;
        }

    -- its reply's frame went out in part
    cuts_last : (n : ℕ) → CutShort S mid.tables now m out n →
        CutsLast S old now with_it n
    cuts_last n cut =
        let took = took_more old mid now c held cut.events m out left so begins cut.took in
        let talked = talk_ends old with_it.messages with_it.moments with_it.verdicts
        (so.events ++ cut.events) took.goes in
        let led = took.tables ∙ ap (tables_after old) (sym talked) in
        record {
          came = took.came;
          read = all_read c.messages m.message so.read cut.reads;
          tables = led;
          said = subst (λ (es : List Event). AreSaid S (queries old es) with_it.verdicts)
              (sym talked) took.said;
          earlier = replies old so.events;
          last = cut.reply;
          replied = ap (replies old) talked ∙ replies-append old so.events cut.events
              ∙ ap (λ (t : Tables). replies old so.events ++ replies t cut.events)
              (sym so.took.tables)
              ∙ ap (λ (l : List (List ℕ)). replies old so.events ++ l) cut.replied;
          short = cut.short;
          written = ap (λ (l : List ℕ). c.output ++ l) cut.written
              ∙ ap (λ (l : List ℕ). l ++ take n (frame cut.reply)) so.written.whole;
          stop = subst (LeavesAll now old) (sym talked) took.stop;
        }

    -- what is left where a message stops a connection
    abbrev Stopped : fault.FrontFault → Type 0
    Stopped f = (d : Connection) × Extends c d out m.moments m.verdicts
        × Serves S old now d (Err f)

    extends_with : Extends c with_it out m.moments m.verdicts
    extends_with = record { input = refl; output = refl; moments_are = refl; verdicts_are = refl }

    refused : Refused S mid.tables now m out →
        (d : Connection) × Extends c d out m.moments m.verdicts × LeavesOff S old now d
    refused (none, inl untaken) = (
      with_nothing_taken c out m.moments m.verdicts,
      record { input = refl; output = refl; moments_are = refl; verdicts_are = refl },
      refused_whole none untaken,
    )
    refused (none, inr most) = (with_it, extends_with, refused_answer none most)

    pub stopped : (f : fault.FrontFault) → Turns S mid.tables now m out (Err f) → Stopped f
    stopped fault.TheVariants.Memory stops = refused stops
    stopped fault.TheVariants.Store stops = refused stops
    stopped (fault.TheVariants.Undecodable f) (answered, unread) = (
      with_it,
      extends_with,
      (
        all_answered (so.events ++ answered.events)
            (took_more old mid now c held answered.events m out left so begins answered.took)
            (written_more old mid.tables so.events answered.events c.output out so.took.tables
            so.written answered.written),
        record {
          before = c.messages;
          last = m.message;
          are = refl;
          read = so.read;
          unread = unread;
        },
      ),
    )
    stopped (fault.TheVariants.Write n) cut = (with_it, extends_with, cuts_last n cut)
    stopped fault.TheVariants.BadLength never = absurd never
    stopped fault.TheVariants.Ended never = absurd never
    stopped fault.TheVariants.Read never = absurd never

-- ---- an issuer that might say more

module _ (S R : Saying) (f : (q : Query) (v : Verdict) → S q v → R q v) (old : Tables)
    (now : Left) (m : Incoming) (out : List ℕ) where
  took_weaker : (events : List Event) → TookMessage S old now m events →
      TookMessage R old now m events
  took_weaker events took = record {
    makes = took.makes;
    tables = took.tables;
    said = said_weaker S R f (queries old events) m.verdicts took.said;
    stop = took.stop;
  }

  answered_weaker : Answered S old now m out → Answered R old now m out
  answered_weaker a =
      record { events = a.events; took = took_weaker a.events a.took; written = a.written }

  refused_weaker : Refused S old now m out → Refused R old now m out
  refused_weaker (none, inl untaken) = (none, inl untaken)
  refused_weaker (none, inr most) = (
    none,
    inr (record {
      came = most.came;
      answer = most.answer;
      is_answer = most.is_answer;
      reads = most.reads;
      makes = most.makes;
      tables = most.tables;
      said = said_weaker S R f (queries old (most.came ∷ [])) m.verdicts most.said;
      silent = most.silent;
      stop = most.stop;
    }),
  )

  pub turns_weaker : (r : Result (Unit {0}) fault.FrontFault) →
      Turns S old now m out r → Turns R old now m out r
  turns_weaker (Ok u) (answered, reads) = (answered_weaker answered, reads)
  turns_weaker (Err fault.TheVariants.Memory) stops = refused_weaker stops
  turns_weaker (Err fault.TheVariants.Store) stops = refused_weaker stops
  turns_weaker (Err (fault.TheVariants.Undecodable g)) (answered, unread) =
      (answered_weaker answered, unread)
  turns_weaker (Err (fault.TheVariants.Write n)) cut = record {
    events = cut.events;
    reply = cut.reply;
    took = took_weaker cut.events cut.took;
    reads = cut.reads;
    replied = cut.replied;
    short = cut.short;
    written = cut.written;
  }
  turns_weaker (Err fault.TheVariants.BadLength) never = never
  turns_weaker (Err fault.TheVariants.Ended) never = never
  turns_weaker (Err fault.TheVariants.Read) never = never
