-- What a server served of the connections that it had in a run.
use Rattle.std.proofs.Common.{◌≡◌, ◌∙◌, ℕ, List, [], refl, sym, subst, inl, arith}
use Rattle.std.proofs.Common.{append-nil, Err}
use Rattle.acq_book.specs.declared.book_fault.BookFault as book
use Rattle.acq_core.specs.Tables.{Tables}
use Rattle.acq_faults.specs.Faults.{of_book}
use Rattle.acq_faults.specs.Serving.{ServedBy, Serves}
use Rattle.acq_front.specs.Stops.{Left}
use Rattle.acq_front.specs.Talk.{Saying}
use Rattle.acq_rounds.specs.Acts.{Connection}
use Rattle.acq_rounds.specs.Runs.{Following, HasServed, ServedOn, ServedUntil, Step}
use Rattle.acq_tcp.specs.Rounds.{Looked}

module _ {O : Type 0} (may_give : ℕ → Type 0) (may_say : Saying) (follow : Following O)
    (left : Left) where
  -- no connection came
  served_none : (t : Tables) (others : O) →
      HasServed may_give may_say follow t t [] 0 others others
  served_none t others = record {
    steps = [];
    did = refl;
    had_follow = tt;
    fair = tt;
    distinct = tt;
    every = λ k l. absurd (omega arith);
    others_follow = λ f. f;
  }

  until_none : (old : Tables) (others : O) → Looked old left →
      ServedUntil may_give may_say follow old left [] 0 others others
  until_none old others looked = record {
    kept = old;
    served = served_none old others;
    tables = looked.tables;
    here = [];
    last = ([], refl);
    stop = inl (inl looked.stop);
  }

  -- the tables couldn't be looked at
  pub serves_none : (old : Tables) (others now : O) (before after : List Connection)
      (first last : ℕ) (f : book.BookFault) → Looked old left → now ≡ others → after ≡ before →
      last ≡ first →
      Serves may_give may_say follow old left others now before after first last {X = Unit {0}}
      (Err (of_book f))
  serves_none old others now before after first last book.TheVariants.Memory looked is same many =
      record {
        had = [];
        given = 0;
        behind = same ∙ sym (append-nil before);
        many = omega (arith, many);
        served = subst (ServedUntil may_give may_say follow old left [] 0 others) (sym is)
            (until_none old others looked);
      }
  serves_none old others now before after first last book.TheVariants.Store looked is same many =
      record {
        had = [];
        given = 0;
        behind = same ∙ sym (append-nil before);
        many = omega (arith, many);
        served = subst (ServedUntil may_give may_say follow old left [] 0 others) (sym is)
            (until_none old others looked);
      }

  -- others that stay behind it
  module _ (had : List Connection) (given : ℕ) (first begun mid last : O) (same_first : begun ≡ first)
      (stays : (t : Tables) (steps : List Step) → follow t steps mid → follow t steps last) where
    served_on : (old new : Tables) →
        HasServed may_give may_say follow old new had given begun mid →
        HasServed may_give may_say follow old new had given first last
    served_on old new s = record {
      steps = s.steps;
      did = s.did;
      had_follow = s.had_follow;
      fair = s.fair;
      distinct = s.distinct;
      every = s.every;
      others_follow = λ f. stays old s.steps (s.others_follow (subst (follow old []) (sym same_first) f));
    }

    module _ (old mid_tables : Tables) (same : mid_tables ≡ old) where
      -- so many groups, or others
      pub served_all : (so_many : ℕ → Type 0) →
          ServedOn may_give may_say follow mid_tables left had given begun mid so_many →
          ServedOn may_give may_say follow old left had given first last (λ groups. Unit {0})
      unfolding served_on
      served_all so_many on =
          let P : Tables → Type 0 = λ t.
          ServedOn may_give may_say follow t left had given first last (λ groups. Unit {0}) in
          subst P same (record {
            served = served_on mid_tables left.tables on.served;
            told = on.told;
            long = tt;
            stop = on.stop;
          })

      served_some : ServedUntil may_give may_say follow mid_tables left had given begun mid →
          ServedUntil may_give may_say follow old left had given first last
      served_some until =
          let P : Tables → Type 0 = λ t.
          ServedUntil may_give may_say follow t left had given first last in
          subst P same (record {
            kept = until.kept;
            served = served_on mid_tables until.kept until.served;
            tables = until.tables;
            here = until.here;
            last = until.last;
            stop = until.stop;
          })

      -- memory or the store refused something
      pub served_until : (f : book.BookFault) →
          ServedUntil may_give may_say follow mid_tables left had given begun mid →
          ServedBy may_give may_say follow old left first last had given {X = Unit {0}}
          (Err (of_book f))
      served_until book.TheVariants.Memory until = served_some until
      served_until book.TheVariants.Store until = served_some until
