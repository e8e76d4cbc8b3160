-- A clearing file reads back as its records.
use Rattle.std.proofs.Common.{◌≡◌, ℕ, suc, List, ◌++◌, length}
use Rattle.std.proofs.Common.{add-one, refl, ap, ◌∙◌, arith}
use Rattle.std.specs.Prelude.{drop, flat_map}
use Rattle.std.proofs.lemmas.List.{length-append}
use Rattle.csv.specs.Reading.{default_config, records_from, strip_bom}
use Rattle.csv.specs.declared.parser.State.TheVariants as st
use Rattle.csv.proofs.OnLiterals.{csv_on_literals}
use Rattle.acq_core.specs.Tables.{Tables}
use Rattle.acq_book.specs.Lookups.{postings_at}
use Rattle.acq_reports.proofs.LinesReadBack.{fewer_records, read_lines}
use Rattle.acq_clearing.specs.ClearingFile.{clearing_header, posting_fields, posting_line}
use Rattle.acq_clearing.specs.ClearedSums.{ReadsBack}

-- no byte order mark stands before it
same_text : (text : List ℕ) → strip_bom (clearing_header ++ text) ≡ clearing_header ++ text
unfolding strip_bom
same_text text = refl

-- the records of a text below the header
read_below : (n : ℕ) (text : List ℕ) →
    drop 1 (records_from default_config (suc n) st.StartRecord
    (strip_bom (clearing_header ++ text)))
    ≡ records_from default_config n st.StartRecord text
unfolding csv_on_literals
read_below n text = refl

pub reads_back : (t : Tables) (day : ℕ) → ReadsBack t day
reads_back t day =
    let rows = postings_at t day in
    let lines = flat_map posting_line rows in
    let text = strip_bom (clearing_header ++ lines) in
    let as_long = ap length (same_text lines) in
    let parts = length-append clearing_header lines in
    let fewer = fewer_records posting_fields (λ row. refl) rows in
    ap (λ n. drop 1 (records_from default_config n st.StartRecord text)) (add-one (length text))
    ∙ (read_below (length text) lines
    ∙ read_lines posting_fields (λ row. refl) (length text) rows (omega arith))
