-- What is left where a question was done, or not to the end.
use Rattle.std.proofs.Common.{◌≡◌, Bool, true, false, [], ◌∷◌, Option, Some, None}
use Rattle.std.proofs.Common.{inl, refl, sym, arith}
use Rattle.std.specs.Prelude.{if◌then◌else◌}
use Rattle.acq_core.specs.declared.event.Event.{Event}
use Rattle.acq_core.specs.declared.event.Event.TheVariants as event
use Rattle.acq_core.specs.Tables.{tables_after}
use Rattle.acq_book.specs.declared.book.Book.{Ghosts}
use Rattle.acq_book.specs.Calls.{Looks}
use Rattle.acq_host.proofs.Runs.{LeavesTables}
use Rattle.acq_front.specs.Stops.{LeavesAll, left_of}
use Rattle.acq_front.proofs.StopsLeave.{refused_stop, taken_stop}
use Rattle.acq_control.specs.declared.question.Question.{Question}
use Rattle.acq_control.specs.declared.question.Question.TheVariants as question
use Rattle.acq_control.specs.Answers.{events_asked, tables_behind}
use Rattle.acq_control.specs.Doing.{Does, DoesSome, Takes, TakesIf}
use Rattle.acq_control.specs.Ends.{RefusesLine}

-- what every question leaves
pub record Kept {S : Type 0} (book : Ghosts S) (a c : S) (done : Bool) : Type 0 where
  pub was_honest : book.is_honest c → book.is_honest a
  pub stays_open : done ≡ true → book.is_honest c → book.is_open a → book.is_open c

module _ {S : Type 0} (book : Ghosts S) (a c : S) where
  looked : (done : Bool) → Looks book a c done → Kept book a c done
  looked done looks = record { was_honest = looks.was_honest; stays_open = looks.stays_open }

  pub does_kept : (asked : Option Question) (done : Bool) → Does book a c asked done →
      Kept book a c done
  does_kept (Some (question.Event e)) done makes =
      record { was_honest = makes.was_honest; stays_open = makes.stays_open }
  does_kept (Some (question.Report report)) done looks = looked done looks
  does_kept (Some (question.Holds merchant moment)) done looks = looked done looks
  does_kept (Some (question.Statement asked)) done looks = looked done looks
  does_kept (Some (question.Find sought)) done looks = looked done looks
  does_kept (Some (question.Pending day moment)) done looks = looked done looks
  does_kept (Some (question.Explain e)) done looks = looked done looks
  does_kept (Some (question.List listing)) done looks = looked done looks
  does_kept (Some (question.ReportCsv day)) done looks = looked done looks
  does_kept (Some (question.Sums day)) done looks = looked done looks
  does_kept (Some (question.Status form serving)) done looks = looked done looks
  does_kept (Some (question.End day moment)) done does = ended does.0 done does.1
    where
      ended : (is_it done : Bool) → TakesIf book a c (event.Cutover moment) is_it done →
          Kept book a c done
      ended true done makes =
          record { was_honest = makes.was_honest; stays_open = makes.stays_open }
      ended false done looks = looked done looks
  does_kept (Some question.Reopen) done looks = looked done looks
  does_kept (Some question.Stop) done looks = looked done looks
  does_kept None done looks = looked done looks

  module _ (honest : book.is_honest c) (opened : book.is_open a) where
    looked_tables : Looks book a c true → book.tables c ≡ book.tables a
    looked_tables looks = looks.same (looks.stays_open refl honest opened)

    -- the tables behind it
    pub done_tables : (asked : Option Question) → Does book a c asked true →
        book.tables c ≡ tables_behind (book.tables a) asked
    done_tables (Some (question.Event e)) makes =
        makes.made refl opened (makes.stays_open refl honest opened)
    done_tables (Some (question.Report report)) looks = looked_tables looks
    done_tables (Some (question.Holds merchant moment)) looks = looked_tables looks
    done_tables (Some (question.Statement asked)) looks = looked_tables looks
    done_tables (Some (question.Find sought)) looks = looked_tables looks
    done_tables (Some (question.Pending day moment)) looks = looked_tables looks
    done_tables (Some (question.Explain e)) looks = looked_tables looks
    done_tables (Some (question.List listing)) looks = looked_tables looks
    done_tables (Some (question.ReportCsv day)) looks = looked_tables looks
    done_tables (Some (question.Sums day)) looks = looked_tables looks
    done_tables (Some (question.Status form serving)) looks = looked_tables looks
    done_tables (Some (question.End day moment)) does =
        rw (sym (does.2 refl honest opened)) (ended does.0 does.1)
      where
        ended : (is_it : Bool) → TakesIf book a c (event.Cutover moment) is_it true →
            book.tables c ≡ tables_after (book.tables a)
            (if is_it then event.Cutover moment ∷ [] else [])
        ended true makes = makes.made refl opened (makes.stays_open refl honest opened)
        ended false looks = looked_tables looks
    done_tables (Some question.Reopen) looks = looked_tables looks
    done_tables (Some question.Stop) looks = looked_tables looks
    done_tables None looks = looked_tables looks

    module _ (settled : LeavesTables book) (stored : (s : S) → book.is_open s → book.leaves_books s)
      where
        looked_stop : (done : Bool) → Looks book a c done →
            LeavesAll (left_of book c) (book.tables a) []
        looked_stop done looks = record {
          tables = λ t l. settled a opened t (looks.leaves honest t l);
          stored = looks.books honest (stored a opened);
        }

        -- what a stop leaves of it
        pub done_stop : (asked : Option Question) → Does book a c asked true →
            LeavesAll (left_of book c) (book.tables a) (events_asked (book.tables a) asked)
        done_stop (Some (question.Event e)) makes =
            taken_stop book a c e honest opened makes
        done_stop (Some (question.Report report)) looks = looked_stop true looks
        done_stop (Some (question.Holds merchant moment)) looks = looked_stop true looks
        done_stop (Some (question.Statement asked)) looks = looked_stop true looks
        done_stop (Some (question.Find sought)) looks = looked_stop true looks
        done_stop (Some (question.Pending day moment)) looks = looked_stop true looks
        done_stop (Some (question.Explain e)) looks = looked_stop true looks
        done_stop (Some (question.List listing)) looks = looked_stop true looks
        done_stop (Some (question.ReportCsv day)) looks = looked_stop true looks
        done_stop (Some (question.Sums day)) looks = looked_stop true looks
        done_stop (Some (question.Status form serving)) looks = looked_stop true looks
        done_stop (Some (question.End day moment)) does =
            rw (sym (does.2 refl honest opened)) (ended does.0 does.1)
          where
            ended : (is_it : Bool) → TakesIf book a c (event.Cutover moment) is_it true →
                LeavesAll (left_of book c) (book.tables a)
                (if is_it then event.Cutover moment ∷ [] else [])
            ended true makes = taken_stop book a c (event.Cutover moment) honest opened makes
            ended false looks = looked_stop true looks
        done_stop (Some question.Reopen) looks = looked_stop true looks
        done_stop (Some question.Stop) looks = looked_stop true looks
        done_stop None looks = looked_stop true looks

        looked_some : (done : Bool) → Looks book a c done →
            RefusesLine (book.tables a) (left_of book c)
        looked_some done looks = record {
          taken = [];
          in_hand = [];
          at_most_one = omega arith;
          tables = λ is. looks.same is;
          stop = record {
            tables = λ t l. inl ((looked_stop done looks).tables t l);
            stored = (looked_stop done looks).stored;
          };
        }

        made_some : (e : Event) (done : Bool) → Takes book a c e done →
            RefusesLine (book.tables a) (left_of book c)
        made_some e true makes = record {
          taken = e ∷ [];
          in_hand = [];
          at_most_one = omega arith;
          tables = λ is. makes.made refl opened is;
          stop = record {
            tables = λ t l. inl (makes.settled refl opened honest t l);
            stored = makes.books opened honest;
          };
        }
        made_some e false makes = record {
          taken = [];
          in_hand = e ∷ [];
          at_most_one = omega arith;
          tables = λ is. makes.unmade refl opened is;
          stop = refused_stop book a c e honest opened settled makes;
        }

        -- where memory or the store refused a call
        pub some_done : (asked : Option Question) → DoesSome book a c asked →
            RefusesLine (book.tables a) (left_of book c)
        some_done (Some (question.Event e)) some = made_some e some.0 some.1
        some_done (Some (question.Report report)) some = looked_some some.0 some.1
        some_done (Some (question.Holds merchant moment)) some = looked_some some.0 some.1
        some_done (Some (question.Statement asked)) some = looked_some some.0 some.1
        some_done (Some (question.Find sought)) some = looked_some some.0 some.1
        some_done (Some (question.Pending day moment)) some = looked_some some.0 some.1
        some_done (Some (question.Explain e)) some = looked_some some.0 some.1
        some_done (Some (question.List listing)) some = looked_some some.0 some.1
        some_done (Some (question.ReportCsv day)) some = looked_some some.0 some.1
        some_done (Some (question.Sums day)) some = looked_some some.0 some.1
        some_done (Some (question.Status form serving)) some = looked_some some.0 some.1
        some_done (Some (question.End day moment)) some =
            ended some.1.0 some.0 some.1.1
          where
            ended : (is_it done : Bool) → TakesIf book a c (event.Cutover moment) is_it done →
                RefusesLine (book.tables a) (left_of book c)
            ended true done makes = made_some (event.Cutover moment) done makes
            ended false done looks = looked_some done looks
        some_done (Some question.Reopen) some = looked_some some.0 some.1
        some_done (Some question.Stop) some = looked_some some.0 some.1
        some_done None some = looked_some some.0 some.1

-- nothing was called
pub untouched : {S : Type 0} (book : Ghosts S) (a : S) (done : Bool) → Looks book a a done
untouched book a done = record {
  was_honest = λ h. h;
  was_open = λ o. o;
  stays_open = λ s h o. o;
  shuts = λ h o. inl o;
  same = λ o. refl;
  leaves = λ h t l. l;
  books = λ h b. b;
  rise = omega arith;
  counts = omega arith;
}

-- nothing was in hand
pub none_refused : {S : Type 0} (book : Ghosts S) (a : S) → book.is_open a → LeavesTables book →
    ((s : S) → book.is_open s → book.leaves_books s) →
    RefusesLine (book.tables a) (left_of book a)
none_refused book a opened settled stored = record {
  taken = [];
  in_hand = [];
  at_most_one = omega arith;
  tables = λ is. refl;
  stop = record { tables = λ t l. inl (settled a opened t l); stored = stored a opened };
}
