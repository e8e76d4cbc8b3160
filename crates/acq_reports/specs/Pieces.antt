-- The pieces in which a report goes out.
use Rattle.std.specs.Prelude.{ℕ}

-- how many bytes are held at most
abbrev pub longest_piece : ℕ
longest_piece = 65536
