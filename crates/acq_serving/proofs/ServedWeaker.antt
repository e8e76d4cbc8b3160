-- How a connection was served, said with less.
use Rattle.std.proofs.Common.{◌≡◌, ◌⊎◌, ◌++◌, ℕ, Result, Ok, Err, inl, subst, refl, sym}
use Rattle.std.proofs.Common.{◌∙◌, ⊎_elim}
use Rattle.acq_message.specs.declared.verdict.Verdict.{Verdict}
use Rattle.acq_core.specs.declared.query.Query.{Query}
use Rattle.acq_core.specs.Tables.{Tables, tables_after}
use Rattle.acq_front.specs.declared.front_fault.FrontFault as fault
use Rattle.acq_front.specs.Stops.{Left, StopLeaves}
use Rattle.acq_front.specs.Talk.{queries, Saying}
use Rattle.acq_serving.specs.Serving.{Connection, AllAnswered, CutsLast, LeavesOff, Serves}
use Rattle.acq_serving.specs.Serving.{events_of}
use Rattle.acq_serving.proofs.TalkGoesOn.{said_weaker}

-- Less is known of what is left: the book stays open in fewer cases, and a stop may leave what it
-- might, or the tables of a book that is open.
pub record SaysLess (left less : Left) : Type 0 where
  pub is_open : less.is_open → left.is_open
  pub same : less.tables ≡ left.tables
  pub may_leave : (t : Tables) → less.may_leave t →
      left.may_leave t ⊎ (left.is_open × (t ≡ left.tables))
  pub leaves_books : left.leaves_books → less.leaves_books

-- the same
pub says_same : (left : Left) → SaysLess left left
says_same left = record {
  is_open = λ o. o;
  same = refl;
  may_leave = λ t l. inl l;
  leaves_books = λ b. b;
}

-- the issuer might have said more, and less is known of what is left
module _ (S R : Saying) (f : (q : Query) (v : Verdict) → S q v → R q v) (left less : Left)
    (g : SaysLess left less) (old : Tables) (c : Connection) where
  stop_weaker : (such : Tables → Type 0) → StopLeaves left such →
      (left.is_open → such left.tables) → StopLeaves less such
  stop_weaker such stop led = record {
    tables = λ t l. ⊎_elim (stop.tables t)
        (λ opened. subst such (sym opened.1) (led opened.0)) (g.may_leave t l);
    stored = g.leaves_books stop.stored;
  }

  all_weaker : AllAnswered S old left c → AllAnswered R old less c
  all_weaker a = record {
    came = a.came;
    tables = g.same ∙ a.tables;
    said = said_weaker S R f (queries old (events_of old c)) c.verdicts a.said;
    written = a.written;
    stop = stop_weaker (λ t. t ≡ tables_after old (events_of old c)) a.stop (λ o. a.tables);
  }

  leaves_weaker : LeavesOff S old left c → LeavesOff R old less c
  leaves_weaker a = record {
    came = a.came;
    read = a.read;
    events = a.events;
    missing = a.missing;
    at_most_one = a.at_most_one;
    all = a.all;
    tables = λ s. g.same ∙ a.tables (g.is_open s);
    said = said_weaker S R f (queries old a.events) c.verdicts a.said;
    written = a.written;
    in_hand = a.in_hand;
    which = a.which;
    stop = stop_weaker
        (λ t. (t ≡ tables_after old a.events) ⊎ (t ≡ tables_after old (a.events ++ a.in_hand)))
        a.stop (λ o. inl (a.tables o));
  }

  cuts_weaker : (n : ℕ) → CutsLast S old left c n → CutsLast R old less c n
  cuts_weaker n a = record {
    came = a.came;
    read = a.read;
    tables = g.same ∙ a.tables;
    said = said_weaker S R f (queries old (events_of old c)) c.verdicts a.said;
    earlier = a.earlier;
    last = a.last;
    replied = a.replied;
    short = a.short;
    written = a.written;
    stop = stop_weaker (λ t. t ≡ tables_after old (events_of old c)) a.stop (λ o. a.tables);
  }

  pub serves_weaker : (r : Result (Unit {0}) fault.FrontFault) → Serves S old left c r →
      Serves R old less c r
  serves_weaker (Ok u) (a, read, rest) = (all_weaker a, read, rest)
  serves_weaker (Err fault.TheVariants.Memory) a = leaves_weaker a
  serves_weaker (Err fault.TheVariants.Store) a = leaves_weaker a
  serves_weaker (Err fault.TheVariants.BadLength) (a, read, rest) = (all_weaker a, read, rest)
  serves_weaker (Err fault.TheVariants.Ended) (a, read, rest) = (all_weaker a, read, rest)
  serves_weaker (Err (fault.TheVariants.Undecodable u)) (a, rest) = (all_weaker a, rest)
  serves_weaker (Err fault.TheVariants.Read) (a, read, rest) = (all_weaker a, read, rest)
  serves_weaker (Err (fault.TheVariants.Write n)) a = cuts_weaker n a
