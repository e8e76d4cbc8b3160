-- The tables by prefixes of six digits as tables by eight.
use Rattle.card_no.specs.Widening.{widened_ranges}
use Rattle.acq_core.specs.Tables.{Tables}

-- the same tables, with each range widened
abbrev pub widened_tables : Tables → Tables
widened_tables t = record t { ranges = widened_ranges t.ranges }
