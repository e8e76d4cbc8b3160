-- How many connections came.
use Rattle.std.specs.Prelude.{◌≡◌, ◌+◌}
use Rattle.acq_tcp.specs.declared.had.Given.{Given}
use Rattle.acq_tcp.specs.declared.had.Had.{Had}

pub record IsNone (had : Had) : Type 0 where
  pub count : had.count ≡ 0

pub record IsMore (old : Had) (more : Given) (new : Had) : Type 0 where
  pub count : new.count ≡ old.count + more.number
