-- What a gateway gets, in slices: the lines of the rows of a book, in the order in which they came.
use Rattle.std.specs.Prelude.{◌≡◌, ◌⊎◌, ◌+◌, ◌++◌, ◌&&◌, ◌≤◌, ◌-◌, max, ℕ, Bool, true, false, not}
use Rattle.std.specs.Prelude.{List, [], ◌∷◌, drop, length, nat_lt, take, Option, Some, None}
use Rattle.acq_core.specs.declared.request.Request.{Request}
use Rattle.acq_core.specs.Tables.{Tables}
use Rattle.acq_gateway_lines.specs.declared.notice.Notice.{Notice}
use Rattle.acq_gateway_lines.specs.declared.told_row.ToldRow.{ToldRow}
use Rattle.acq_gateway_lines.specs.declared.slice.Gathering.{Gathering}
use Rattle.acq_gateway_lines.specs.declared.slice.GatewaySlice.{GatewaySlice}
use Rattle.acq_gateway_lines.specs.declared.waiting_message.WaitingMessage.{WaitingMessage}
use Rattle.acq_gateway_lines.specs.Lines.{known_at, line_of, row_line}
use Rattle.acq_gateway_lines.specs.Notices.{notice_of}

module _ (t : Tables) (moment : ℕ) (messages : List WaitingMessage) where
  -- the lines of these rows, which stand behind so many
  abbrev pub lines_of : (behind : ℕ) → List Request → List ℕ
  lines_of behind [] = []
  lines_of behind (row ∷ rows) =
      row_line t moment messages (behind + 1) row ++ lines_of (behind + 1) rows

  -- A slice has the lines of so many rows behind those that a gateway was told, as they stand, and
  -- says how many it was told with them. It goes over so many at most, and over one at least where
  -- one is left.
  pub record IsSliceOf (behind most : ℕ) (slice : GatewaySlice) : Type 0 where
    pub count : ℕ
    pub here : count ≤ length (drop behind t.requests)
    pub bounded : count ≤ max 1 most
    pub rows : slice.rows ≡ behind + count
    pub text : slice.text.items ≡ lines_of behind (take count (drop behind t.requests))
    pub moves : (count ≡ 0) → drop behind t.requests ≡ []

  -- the line of a row of which something is told
  abbrev pub told_line : ToldRow → List ℕ
  told_line told =
      line_of moment messages told.number told.notice told.row (known_at t told.notice told.row)

-- ---- how a slice is gathered

-- the row, where something is told of it
abbrev pub told_if : ℕ → Request → Option Notice → List ToldRow
told_if number row None = []
told_if number row (Some what) = record { number = number; notice = what; row = row } ∷ []

abbrev pub told_of : ℕ → Request → List ToldRow
told_of number row = told_if number row (notice_of row)

-- memory is there, and neither as many rows as may be were gone over nor 64 are told
abbrev pub wants_more : Gathering → Bool
wants_more g = not g.is_short && (nat_lt 0 g.left && nat_lt (length g.told.items) 64)

-- a row is gone over, or memory ran out
abbrev pub Gathers : Gathering → Request → Bool → Gathering → Type 0
Gathers old row more new =
    ((new.rows ≡ old.rows + 1)
    × (new.told.items ≡ old.told.items ++ told_of (old.rows + 1) row)
    × (new.left ≡ old.left - 1) × (new.is_short ≡ old.is_short) × (more ≡ wants_more new))
    ⊎ ((new.is_short ≡ true) × (more ≡ false))
