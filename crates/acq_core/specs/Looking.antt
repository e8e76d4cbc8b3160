-- What was looked up, as what is known.
use Rattle.std.specs.Prelude.{ℕ, false, None, option_map}
use Rattle.day_totals.specs.Totals.{zero_totals}
use Rattle.acq_core.specs.declared.looked.Looked.{Looked}
use Rattle.acq_core.specs.Known.{Known}
use Rattle.acq_core.specs.Tables.{prior_of}

-- what the look-ups let a decision know: of a request that was found, what its row says
abbrev pub known_of : Looked → Known
known_of looked =
    record {
      today = looked.today;
      limit = looked.limit;
      merchant = looked.merchant;
      has_terminal = looked.has_terminal;
      recorded = option_map prior_of looked.recorded;
      original = option_map prior_of looked.original;
      referred = option_map prior_of looked.referred;
      range = looked.range;
      overlapped = looked.overlapped;
      admitted = looked.admitted;
      used = looked.used;
      totals = looked.totals;
    }

-- where nothing is wanted
abbrev pub nothing_looked : ℕ → ℕ → Looked
nothing_looked today limit =
    record {
      today = today;
      limit = limit;
      merchant = None;
      has_terminal = false;
      recorded = None;
      original = None;
      referred = None;
      range = None;
      overlapped = None;
      admitted = 0;
      used = 0;
      totals = zero_totals;
    }
