-- What a host that served many connections at once took of them, and what they had of it.
use Rattle.std.specs.Prelude.{◌≡◌, ◌+◌, ◌++◌, ℕ, List, Result, Err}
use Rattle.acq_core.specs.Tables.{Tables}
use Rattle.acq_front.specs.Stops.{Left}
use Rattle.acq_front.specs.Talk.{Saying}
use Rattle.acq_rounds.specs.Acts.{Connection}
use Rattle.acq_rounds.specs.Runs.{Following, ServedOn, ServedUntil}
use Rattle.acq_faults.specs.declared.fault.Fault.{Fault}
use Rattle.acq_faults.specs.declared.fault.Fault.TheVariants.{Memory, Store}

module _ {O : Type 0} (may_give : ℕ → Type 0) (may_say : Saying) (follow : Following O)
    (old : Tables) (left : Left) (others_then others : O) where
  -- how these connections were served, by how that ended: a fault of a connection ends it alone
  abbrev pub ServedBy : List Connection → ℕ → {X : Type 0} → Result X Fault → Type 0
  ServedBy had given (Err Memory) =
      ServedUntil may_give may_say follow old left had given others_then others
  ServedBy had given (Err Store) =
      ServedUntil may_give may_say follow old left had given others_then others
  ServedBy had given other =
      ServedOn may_give may_say follow old left had given others_then others (λ groups. Unit {0})

  -- Behind those that it had before it served connections, so many.
  pub record Serves (before after : List Connection) (first last : ℕ) {X : Type 0}
      (result : Result X Fault) : Type 0 where
    pub had : List Connection
    pub given : ℕ
    pub behind : after ≡ before ++ had
    pub many : last ≡ first + given
    pub served : ServedBy had given result
