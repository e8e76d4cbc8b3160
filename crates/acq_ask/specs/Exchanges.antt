-- A message to a host, and its reply.
use Rattle.std.specs.Prelude.{◌≡◌, List, ℕ, ◌++◌}
use Rattle.acq_ask.specs.Turns.{LacksBy, Outcome, came_by, sent_by}

-- The message's frame went out, and what came of it behind what was held before; or why no reply
-- could be had of that.
pub record Exchanges (message held sent came after : List ℕ) (outcome : Outcome) : Type 0 where
  pub whole : sent ≡ sent_by message outcome
  pub reply : held ++ came ≡ came_by outcome ++ after
  pub lacks : LacksBy (held ++ came) outcome
