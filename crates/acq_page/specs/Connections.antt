-- Connections, each of which brings one request and takes one reply.
use Rattle.std.specs.Prelude.{◌==◌, ◌&&◌, ℕ, Bool, List, [], drop, length, Some, None}
use Rattle.std.specs.Prelude.{is_some}
use Rattle.acq_page.specs.declared.http_connection.HttpConnection.{HttpConnection}

-- what came over it
abbrev pub came_over : HttpConnection → List ℕ
came_over c = c.came.items

-- what is to be written
abbrev pub to_write : HttpConnection → List ℕ
to_write c = elim c.reply [ None ↦ [] | Some reply ↦ drop c.written reply.items ]

-- its whole reply went out
abbrev pub is_over : HttpConnection → Bool
is_over c = is_some c.reply && (length (to_write c) == 0)
