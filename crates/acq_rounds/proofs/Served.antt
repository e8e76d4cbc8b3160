-- A run from nothing.
use Rattle.std.proofs.Common.{◌≡◌, ◌+◌, ◌<◌, ◌⊎◌, inl, inr, ℕ, List, [], ◌++◌, arith, refl, reverse}
use Rattle.std.specs.Prelude.{OnErr, OnOk, Result, Ok, Err}
use Rattle.acq_core.specs.Tables.{Tables}
use Rattle.acq_front.specs.Stops.{Left}
use Rattle.acq_front.specs.Talk.{Saying}
use Rattle.acq_rounds.specs.Acts.{Act, Connection, Serves}
use Rattle.acq_rounds.specs.Runs.{Following, HasServed, Ran, RanOn, RanUntil, ServedOn, ServedUntil}
use Rattle.acq_rounds.specs.Runs.{all_acts, whole}
use Rattle.acq_rounds.proofs.Running.{fair_longer}

one_of : {A : Type 0} → A ⊎ ⊥ → A
one_of (inl a) = a
one_of (inr q) = absurd q

below : (k given first last began : ℕ) → k < given → last + began ≡ first + given → first ≡ 0 →
    began ≡ 0 → k < last
below k given first last began l e z w = omega (arith, l, e, z, w)

pub on_ok_both : {X E : Type 0} (r : Result X E) (P Q : Type 0) → (P → Q) → OnOk r P → OnOk r Q
on_ok_both (Ok x) P Q f p = f p
on_ok_both (Err e) P Q f p = tt

pub on_err_both : {X E : Type 0} (r : Result X E) (P Q : Type 0) → (P → Q) → OnErr r P → OnErr r Q
on_err_both (Ok x) P Q f p = tt
on_err_both (Err e) P Q f p = f p

-- it began with nothing, and at its end all were parted with
module _ {O : Type 0} (may_give : ℕ → Type 0) (may_say : Saying) (follow : Following O)
    (ended0 here0 ended1 here1 had : List Connection) (others0 others1 : O) (count0 count1 began given : ℕ)
    (old : Tables) (first : Serves [] ended0 here0 count0)
    (zero : count0 ≡ 0) (none : began ≡ 0) (numbered : count1 + began ≡ count0 + given)
    (all : had ≡ ended1 ++ reverse here1)
    (part : (acts : List Act) (count : ℕ) → Serves acts ended1 here1 count →
    Serves acts had [] count) where
  has_served : (now : Tables)
      (ran : Ran may_give may_say follow (whole ended0 here0 count0 old others0)
      (whole ended1 here1 count1 now others1)) →
      HasServed may_give may_say follow old now had given others0 others1
  has_served now ran =
      let last = part (all_acts ran.steps) count1 (ran.serves [] first) in
      record {
        steps = ran.steps;
        did = ran.did;
        had_follow = last.ended_follow;
        fair = fair_longer [] ended1 had ran.steps (reverse here1, all) (ran.fair [] first);
        distinct = last.ended_distinct;
        every = λ k l. one_of
            (last.each k (below k given count0 count1 began l numbered zero none));
        others_follow = ran.others old [] refl;
      }

  pub served_on : (left : Left) (so_many : ℕ → Type 0) →
      RanOn may_give may_say follow (whole ended0 here0 count0 old others0) ended1 here1 count1 left
      others1 so_many →
      ServedOn may_give may_say follow old left had given others0 others1 so_many
  unfolding has_served
  served_on left so_many ran =
      record {
        served = has_served left.tables ran.ran;
        told = ran.told;
        long = ran.long;
        stop = ran.stop;
      }

  pub served_until : (left : Left) →
      RanUntil may_give may_say follow (whole ended0 here0 count0 old others0) ended1 here1 count1
      left others1 →
      ServedUntil may_give may_say follow old left had given others0 others1
  served_until left ran = record {
    kept = ran.kept;
    served = has_served ran.kept ran.ran;
    tables = ran.tables;
    here = here1;
    last = (ended1, all);
    stop = ran.stop;
  }
