-- How the parts of the texts are written (own profile).
use Rattle.std.specs.Prelude.{ℕ, ◌-◌, ◌/◌, ◌%◌, min, List, ◌++◌, length, replicate}
use Rattle.std.specs.Prelude.{codes}
use Rattle.csv.specs.Writing.{row_text, default_writer}
use Rattle.day_totals.specs.Day.{date_text_of, two_digits}

-- a record of these fields as the crate `csv` writes it by default: a field with a comma, a quote
-- or a line's end stands in quotes, each quote in it twice; behind the last one a line feed
abbrev pub csv_line : List (List ℕ) → List ℕ
csv_line fields = row_text default_writer fields

-- a text to the right of so many places, which dots fill
abbrev pub dotted : ℕ → List ℕ → List ℕ
dotted places text = replicate (places - length text) 46 ++ text

-- ---- moments

-- 2000-01-01, in days since 1970-01-01
abbrev pub first_day : ℕ
first_day = 10_957

-- 2100-01-31 23:59:59, at or before which every hold ends
abbrev pub last_end : ℕ
last_end = 4_105_123_199

-- hours, minutes and seconds of a day
abbrev pub clock_text : ℕ → List ℕ
clock_text seconds =
    two_digits (seconds / 3600) ++ codes ":" ++ two_digits (seconds / 60 % 60) ++ codes ":"
    ++ two_digits (seconds % 60)

-- a moment in UTC, which is given in seconds since 1970-01-01 00:00:00
abbrev pub moment_text : ℕ → List ℕ
moment_text seconds =
    date_text_of (seconds / 86400 - first_day) ++ codes " " ++ clock_text (seconds % 86400)

-- the last second of a hold
abbrev pub end_text : ℕ → List ℕ
end_text seconds = moment_text (min seconds last_end)
