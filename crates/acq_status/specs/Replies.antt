-- How many replies terminals got, by response code, and how long they took, in writing (own
-- profile; Prometheus, exposition formats, text-based format; histograms).
use Rattle.std.specs.Prelude.{ℕ, ◌/◌, ◌%◌, ◌==◌, List, [], ◌∷◌, ◌++◌, codes, if◌then◌else◌}
use Rattle.std.specs.Prelude.{replicate, slice_index}
use Rattle.std.specs.Fmt.{decimal}
use Rattle.std.specs.List.{flat_map, range_with_len}
use Rattle.day_totals.specs.Day.{two_digits}
use Rattle.acq_status.specs.declared.reply_counts.ReplyCounts.{ReplyCounts}
use Rattle.acq_status.specs.declared.reply_durations.ReplyDurations.{ReplyDurations}

-- a value ends its line
abbrev pub value_text : ℕ → List ℕ
value_text value = decimal value ++ codes "\n"

-- ---- replies by response code

abbrev pub no_replies : ReplyCounts
no_replies = record { by_code = replicate 100 0; other = 0 }

-- a response code between two texts, and how many replies had it; nothing where none had
abbrev pub reply_line : List ℕ → List ℕ → List ℕ → ℕ → List ℕ
reply_line before behind code replies =
    if replies == 0 then [] else before ++ code ++ behind ++ value_text replies

-- that of a code of two digits
abbrev pub code_line : List ℕ → List ℕ → ReplyCounts → ℕ → List ℕ
code_line before behind c code =
    reply_line before behind (two_digits code) (slice_index c.by_code code)

-- those of all, in ascending order, and of what is no code of two digits
abbrev pub reply_lines : List ℕ → List ℕ → ReplyCounts → List ℕ
reply_lines before behind c =
    flat_map (code_line before behind c) (range_with_len 0 100)
    ++ reply_line before behind (codes "other") c.other

-- ---- how long they took

abbrev pub no_durations : ReplyDurations
no_durations = record { within = replicate 10 0; replies = 0; microseconds = 0 }

-- the bounds of the buckets, in seconds
abbrev pub bounds : List (List ℕ)
bounds =
    codes "0.001" ∷ codes "0.002" ∷ codes "0.005" ∷ codes "0.01" ∷ codes "0.02"
    ∷ codes "0.05" ∷ codes "0.1" ∷ codes "0.5" ∷ codes "1" ∷ codes "5" ∷ []

-- how many replies took no longer than a bound
abbrev pub bucket : List ℕ → ℕ → List ℕ
bucket bound replies =
    codes "acqd_reply_seconds_bucket{le=\"" ++ bound ++ codes "\"} " ++ value_text replies

abbrev pub buckets : List (List ℕ) → List ℕ → List ℕ
buckets (bound ∷ bs) (replies ∷ rs) = bucket bound replies ++ buckets bs rs
buckets bs rs = []

-- microseconds as seconds, with six decimals, which end their line
abbrev pub seconds_text : ℕ → List ℕ
seconds_text microseconds =
    decimal (microseconds / 1000000) ++ codes "." ++ two_digits (microseconds / 10000 % 100)
    ++ two_digits (microseconds / 100 % 100) ++ two_digits (microseconds % 100) ++ codes "\n"

-- a histogram: its buckets, each with all that the ones before it have, the sum, and the count
abbrev pub duration_samples : ReplyDurations → List ℕ
duration_samples d =
    buckets bounds d.within ++ bucket (codes "+Inf") d.replies
    ++ codes "acqd_reply_seconds_sum " ++ seconds_text d.microseconds
    ++ codes "acqd_reply_seconds_count " ++ value_text d.replies
