-- What is taken within a group, one turn after another.
use Rattle.std.proofs.Common.{◌≡◌, ◌&&◌, inl, inr, ℕ, Bool, true, false, true≢false}
use Rattle.std.proofs.Common.{List, [], ◌∷◌, ◌++◌, refl, sym, ap, subst, ◌∙◌, arith}
use Rattle.std.specs.Prelude.{IfErr, IfOk, Result, Ok, Err, is_ok}
use Rattle.std.proofs.lemmas.List.{map-append}
use Rattle.std.proofs.lemmas.List.Elements.{All-cons, All-nil}
use Rattle.acq_link.specs.Frames.{fit_frames}
use Rattle.acq_message.specs.declared.verdict.Verdict.{Verdict}
use Rattle.acq_core.specs.declared.event.Event.{Event}
use Rattle.acq_core.specs.declared.event.Event.TheVariants.{Answer, Frame}
use Rattle.acq_core.specs.declared.output.Output.{Output}
use Rattle.acq_core.specs.declared.output.Output.TheVariants.{Ask, Reply}
use Rattle.acq_core.specs.declared.query.Query.{Query}
use Rattle.acq_core.specs.Arrivals.{arrival_of}
use Rattle.acq_core.specs.Tables.{Tables, step_output, step_tables, tables_after}
use Rattle.acq_book.specs.declared.book.Book.{Ghosts}
use Rattle.acq_book.specs.Calls.{Makes, MakesWithin}
use Rattle.acq_book.specs.declared.book_fault.BookFault.{BookFault}
use Rattle.acq_book.specs.declared.book_fault.BookFault.TheVariants.{Memory, Store}
use Rattle.acq_front.specs.Talk.{Saying, reply_in}
use Rattle.acq_front.specs.Turns.{ReplyFits}
use Rattle.acq_front.proofs.GivenInOrder.{two_moments}
use Rattle.acq_front.proofs.MessagesTaken.{AsksNothing, makes_alone, makes_asking, replies_one}
use Rattle.acq_front.proofs.MessagesTaken.{replies_two, said_nothing, said_two}
use Rattle.acq_rounds.specs.Acts.{AnswerTo, IsTaken, Message, Taken, Told, Turn, query_in, told_in}
use Rattle.acq_rounds.specs.Said.{told_at, told_by, told_by_all}
use Rattle.acq_rounds.specs.Taking.{TellsFault}
use Rattle.acq_rounds.specs.Within.{StaysWithin, TookAnswer, TookNext, TookWithin}
use Rattle.acq_rounds.specs.declared.said.Said.{Said}
use Rattle.acq_rounds.proofs.Running.{took-append, took_earlier}

-- ---- one message

-- a reply, if there is one, fits a frame
pub reply_fits : (o : Output) → ReplyFits o → fit_frames (reply_in o) ≡ true
reply_fits (Reply party text) fits = ap (λ (b : Bool). b && true) (fits party text refl)
reply_fits o fits = refl

-- what holds of whatever is told so, holds of the result, if there is one
pub if_said : (P : Said → Type 0) (r : Result Said BookFault) (o : Output) →
    IfOk r (λ said. told_by said ≡ told_at o) → IfOk r (λ said. ReplyFits o) →
    ((s : Said) → told_by s ≡ told_at o → ReplyFits o → P s) → IfOk r P
if_said P (Ok s) o is fits f = f s is fits
if_said P (Err fault) o is fits f = tt

pub if_both : (P Q : Said → Type 0) (r : Result Said BookFault) → ((s : Said) → P s → Q s) →
    IfOk r P → IfOk r Q
if_both P Q (Ok s) f h = f s h
if_both P Q (Err fault) f h = tt

-- where it isn't a fault of a call of the store, it is told so
pub tells_said : (r : Result Said BookFault) (Q : Type 0) {a b : ℕ} → b ≡ a →
    IfErr r (λ fault. fault ≡ Store) → (is_ok r ≡ false → Q) → TellsFault r a b Q
tells_said (Ok s) Q same fault q = same
tells_said (Err Memory) Q same fault q = same
tells_said (Err Store) Q same fault q = inr (q refl)

module _ (may_give : ℕ → Type 0) (may_say : Saying) (t : Tables) (moment : ℕ)
    (text message : List ℕ) (same : text ≡ message) (given : may_give moment) where
  abbrev came : Event
  came = Frame moment text

  abbrev taken_so : List ℕ → List ℕ → List Verdict → List Event → Output → Taken
  taken_so message moments verdicts events o = record {
    turn = Message message;
    moments = moments;
    verdicts = verdicts;
    events = events;
    waits = query_in o;
    said = reply_in o;
  }

  -- nobody was asked
  pub taken_alone : (o : Output) → step_output t (arrival_of came) ≡ o → AsksNothing o →
      ReplyFits o →
      IsTaken may_give may_say t (taken_so message (moment ∷ []) [] (came ∷ []) o)
  taken_alone o is nothing fits =
      let this : IsTaken may_give may_say t (taken_so text (moment ∷ []) [] (came ∷ []) o) =
      record {
        makes = inl (record {
          makes = makes_alone t moment text o is nothing;
          asked = said_nothing may_say t came o is nothing;
        });
        given = All-cons may_give moment [] given (All-nil may_give);
        waits = ap query_in (sym is);
        said = sym (replies_one t came o is);
        fit = reply_fits o fits;
      } in
      subst (λ (m : List ℕ). IsTaken may_give may_say t
      (taken_so m (moment ∷ []) [] (came ∷ []) o)) same this

  -- the issuer was asked, and answers later
  pub taken_waiting : (query : Query) (o : Output) → o ≡ Ask query →
      step_output t (arrival_of came) ≡ o →
      IsTaken may_give may_say t (taken_so message (moment ∷ []) [] (came ∷ []) o)
  taken_waiting query o asks is =
      let this : IsTaken may_give may_say t (taken_so text (moment ∷ []) [] (came ∷ []) o) =
      record {
        makes = inr (record {
          moment = moment;
          given = refl;
          event = refl;
          query = query;
          asks = is ∙ asks;
          unanswered = refl;
        });
        given = All-cons may_give moment [] given (All-nil may_give);
        waits = ap query_in (sym is);
        said = sym (replies_one t came o is);
        fit = ap (λ (p : Output). fit_frames (reply_in p)) asks;
      } in
      subst (λ (m : List ℕ). IsTaken may_give may_say t
      (taken_so m (moment ∷ []) [] (came ∷ []) o)) same this

  -- the issuer was asked, and said this at once
  pub taken_asking : (next : ℕ) (query : Query) (verdict : Verdict) (o : Output) →
      step_output t (arrival_of came) ≡ Ask query → may_give next →
      may_say query verdict →
      step_output (step_tables t (arrival_of came))
      (arrival_of (Answer next query.merchant query.reference verdict)) ≡ o → ReplyFits o →
      IsTaken may_give may_say t (taken_so message (moment ∷ next ∷ []) (verdict ∷ [])
      (came ∷ Answer next query.merchant query.reference verdict ∷ []) o)
  taken_asking next query verdict o is later said last fits =
      let answer = Answer next query.merchant query.reference verdict in
      let made : (m : List ℕ) → Taken =
      λ m. taken_so m (moment ∷ next ∷ []) (verdict ∷ []) (came ∷ answer ∷ []) o in
      let this : IsTaken may_give may_say t (made text) = record {
        makes = inl (record {
          makes = makes_asking t moment next text query verdict is;
          asked = said_two may_say t moment next text query.merchant query.reference query verdict
              is said;
        });
        given = two_moments may_give moment next given later;
        waits = ap query_in (sym last);
        said = sym (replies_two t came answer query o is last);
        fit = reply_fits o fits;
      } in
      subst (λ (m : List ℕ). IsTaken may_give may_say t (made m)) same this

-- an issuer's answer to what was asked before
pub taken_answer : (may_give : ℕ → Type 0) (may_say : Saying) (t : Tables) (moment : ℕ)
    (query : Query) (verdict : Verdict) (o : Output) → may_give moment → may_say query verdict →
    step_output t (arrival_of (Answer moment query.merchant query.reference verdict)) ≡ o →
    ReplyFits o →
    IsTaken may_give may_say t (record {
      turn = AnswerTo query;
      moments = moment ∷ [];
      verdicts = verdict ∷ [];
      events = Answer moment query.merchant query.reference verdict ∷ [];
      waits = query_in o;
      said = reply_in o;
    })
taken_answer may_give may_say t moment query verdict o given may is fits = record {
  makes = record {
    moment = moment;
    verdict = verdict;
    given = refl;
    event = refl;
    answers = refl;
    may = may;
  };
  given = All-cons may_give moment [] given (All-nil may_give);
  waits = ap query_in (sym is);
  said = sym (replies_one t (Answer moment query.merchant query.reference verdict) o is);
  fit = reply_fits o fits;
}

module _ {S : Type 0} (book : Ghosts S) where
  -- ---- how the book goes on within its group

  pub stays_none : (a : S) → StaysWithin book a a true
  stays_none a = record {
    was_honest = λ h. h;
    stays = λ began n ok h w. w;
    breaks = λ began n broke h w. absurd (true≢false broke);
    leaves = λ began n h w t l. l;
    books = λ began n h w b. b;
    rise = omega arith;
    counts = omega arith;
  }

  -- a call that took an event, or none
  pub stays_call : (a b : S) (ok : Bool) (next : Tables) → Makes book a b ok next →
      MakesWithin book a b ok next → StaysWithin book a b ok
  stays_call a b ok next makes within = record {
    was_honest = makes.was_honest;
    stays = within.stays;
    breaks = within.breaks;
    leaves = within.leaves;
    books = within.books;
    rise = makes.rise;
    counts = makes.counts;
  }

  pub stays_both : (a b c : S) (ok : Bool) → StaysWithin book a b true → StaysWithin book b c ok →
      StaysWithin book a c ok
  stays_both a b c ok first more = record {
    was_honest = λ h. first.was_honest (more.was_honest h);
    stays = λ began n all h w.
        more.stays began n all h (first.stays began n refl (more.was_honest h) w);
    breaks = λ began n broke h w.
        more.breaks began n broke h (first.stays began n refl (more.was_honest h) w);
    leaves = λ began n h w t l.
        let was = more.was_honest h in
        first.leaves began n was w t (more.leaves began n h (first.stays began n refl was w) t l);
    books = λ began n h w b.
        let was = more.was_honest h in
        more.books began n h (first.stays began n refl was w) (first.books began n was w b);
    rise = let one = first.rise in let two = more.rise in omega (arith, one, two);
    counts = let one = first.counts in let two = more.counts in omega (arith, one, two);
  }

  module _ (returns : (s : S) (began : Tables) (n : ℕ) → book.is_within s began n
      → book.can_return s began n) where
    -- all went well, and yet the group is to be given up
    pub stays_broken : (a b : S) (ok : Bool) → StaysWithin book a b true → StaysWithin book a b ok
    stays_broken a b true stays = stays
    stays_broken a b false stays = record {
      was_honest = stays.was_honest;
      stays = λ began n ok h w. absurd (true≢false (sym ok));
      breaks = λ began n broke h w. returns b began n (stays.stays began n refl h w);
      leaves = stays.leaves;
      books = stays.books;
      rise = stays.rise;
      counts = stays.counts;
    }

  -- ---- what was taken

  module _ (may_give : ℕ → Type 0) (may_say : Saying) where
    pub took_none : (a : S) → TookWithin book may_give may_say a a [] []
    took_none a = record { taken = []; brought = refl; replied = refl; took = refl }

    pub took_both : (a b c : S) (turns more : List Turn)
        (told now : List Told) → TookWithin book may_give may_say a b turns told →
        TookWithin book may_give may_say b c more now →
        TookWithin book may_give may_say a c (turns ++ more) (told ++ now)
    took_both a b c turns more told now first next = record {
      taken = first.taken ++ next.taken;
      brought = map-append (λ (x : Taken). x.turn) first.taken next.taken
          ∙ (λ i. first.brought i ++ next.brought i);
      replied = map-append told_in first.taken next.taken
          ∙ (λ i. first.replied i ++ next.replied i);
      took = took-append may_give may_say (book.tables a) (book.tables b) (book.tables c)
          first.taken next.taken first.took next.took;
    }

    -- one was
    pub took_one : (a b : S) (x : Taken) → IsTaken may_give may_say (book.tables a) x →
        book.tables b ≡ tables_after (book.tables a) x.events →
        TookWithin book may_give may_say a b (x.turn ∷ []) (told_in x ∷ [])
    took_one a b x is tables =
        record { taken = x ∷ []; brought = refl; replied = refl; took = (is, tables) }

    -- one was, to which this was told
    pub took_told : (a b : S) (x : Taken) (s : Said) (o : Output) → told_by s ≡ told_at o →
        told_in x ≡ told_at o → IsTaken may_give may_say (book.tables a) x →
        book.tables b ≡ tables_after (book.tables a) x.events →
        TookWithin book may_give may_say a b (x.turn ∷ []) (told_by s ∷ [])
    took_told a b x s o is so taken tables =
        subst (λ (w : Told). TookWithin book may_give may_say a b (x.turn ∷ []) (w ∷ []))
        (so ∙ sym is) (took_one a b x taken tables)

    -- an issuer's answer was
    pub took_answered : (a b : S) (query : Query) (s : Said) →
        TookAnswer may_give may_say (book.tables a) (book.tables b) query s →
        TookWithin book may_give may_say a b (AnswerTo query ∷ []) (told_by s ∷ [])
    took_answered a b query s took =
        let answer = Answer took.moment query.merchant query.reference took.verdict in
        let o = step_output (book.tables a) (arrival_of answer) in
        took_told a b _ s o took.told refl
        (taken_answer may_give may_say (book.tables a) took.moment query took.verdict o took.given
        took.may refl took.fits) took.tables

    -- one more was, and its reply stands behind the others
    pub took_next : (a b c : S) (turns : List Turn) (turn : Turn) (said now : List Said) →
        TookWithin book may_give may_say a b turns (told_by_all said) →
        TookNext book may_give may_say b c turn said now →
        TookWithin book may_give may_say a c (turns ++ turn ∷ []) (told_by_all now)
    took_next a b c turns turn said now first next =
        subst (TookWithin book may_give may_say a c (turns ++ turn ∷ []))
        (sym (ap told_by_all next.behind ∙ map-append told_by said (next.last ∷ [])))
        (took_both a b c turns (turn ∷ []) (told_by_all said) (told_by_all (next.last ∷ []))
        first next.took)

  -- what might be given and said later, might before
  pub took_before : (may_give might_give : ℕ → Type 0) (may_say might_say : Saying)
      (given : (m : ℕ) → may_give m → might_give m)
      (said : (q : Query) (v : Verdict) → may_say q v → might_say q v)
      (a b : S) (turns : List Turn) (now : List Told) →
      TookWithin book may_give may_say a b turns now →
      TookWithin book might_give might_say a b turns now
  took_before may_give might_give may_say might_say given said a b turns now t = record {
    taken = t.taken;
    brought = t.brought;
    replied = t.replied;
    took = took_earlier may_give might_give may_say might_say given said (book.tables a)
        (book.tables b) t.taken t.took;
  }

  pub next_before : (may_give might_give : ℕ → Type 0) (may_say might_say : Saying)
      (given : (m : ℕ) → may_give m → might_give m)
      (said : (q : Query) (v : Verdict) → may_say q v → might_say q v)
      (a b : S) (turn : Turn) (before now : List Said) →
      TookNext book may_give may_say a b turn before now →
      TookNext book might_give might_say a b turn before now
  next_before may_give might_give may_say might_say given said a b turn before now t = record {
    last = t.last;
    behind = t.behind;
    took = took_before may_give might_give may_say might_say given said a b (turn ∷ [])
        (told_by_all (t.last ∷ [])) t.took;
  }
