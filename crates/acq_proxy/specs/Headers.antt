-- What stands at the front of a connection that a proxy handed on (The PROXY protocol, 2).
use Rattle.std.specs.Prelude.{◌≡◌, ◌<◌, ◌≤◌, ℕ, Bool, List, length, take, MatchBool}
use Rattle.std.specs.Str.{bytes_eq}
use Rattle.acq_proxy.specs.Blocks.{IsBlockFront, signature}
use Rattle.acq_proxy.specs.Lines.{IsLineFront, mark}
use Rattle.acq_proxy.specs.declared.header.Header.{Header}
use Rattle.acq_proxy.specs.declared.header.Header.TheVariants.{Partial, Whole, Missing}

-- The bytes begin as this mark does: so far as both go, they are the same.
abbrev pub is_begun : List ℕ → List ℕ → Bool
is_begun bytes mark = bytes_eq (take (length mark) bytes) (take (length bytes) mark)

-- A block of version 2, a line of version 1, or none of them. No bytes at all are the beginning of
-- a block.
abbrev pub IsHeader : List ℕ → Header → Type 0
IsHeader bytes header =
    MatchBool (is_begun bytes signature) (IsBlockFront bytes header)
    (MatchBool (is_begun bytes mark) (IsLineFront bytes header) (header ≡ Missing))

-- A whole header has some bytes, all of which came, and no more than the longest has; and fewer
-- came where more are asked for.
abbrev pub IsBounded : List ℕ → Header → Type 0
IsBounded bytes Partial = length bytes < 536
IsBounded bytes (Whole n peer) = (0 < n) × (n ≤ 536) × (n ≤ length bytes)
IsBounded bytes Missing = Unit {0}
