-- What control connections in their places show.
use Rattle.std.specs.Prelude.{ℕ, List, Option, Some, None, map}
use Rattle.acq_front.specs.Lines.{received_of, sent_of}
use Rattle.acq_control.specs.Exchanges.{Passed, passed}
use Rattle.acq_rounds.specs.Acts.{Connection}
use Rattle.acq_controls.specs.declared.control.Control.{Control}
use Rattle.acq_controls.specs.declared.controls.Controls.{Controls}

-- one that is open: its number, and what passed over it
pub record Open : Type 0 where
  pub number : ℕ
  pub passed : Passed

-- how many came, those that ended, and what is in each place
pub record Aside : Type 0 where
  pub count : ℕ
  pub ended : List Connection
  pub here : List (Option Open)

module _ {S : Type 0} where
  abbrev pub seen : Control S → Open
  seen c = record { number = c.number; passed = passed received_of sent_of c.exchange }

  abbrev pub seen_in : Option (Control S) → Option Open
  seen_in None = None
  seen_in (Some c) = Some (seen c)

  abbrev pub aside_of : Controls S → Aside
  aside_of c =
      record { count = c.count; ended = c.past.list; here = map seen_in c.places.items }
