use Rattle.std.proofs.Common.{◌≡◌, ℕ, List, Some}
use Rattle.csv.specs.Reading.{Ready, default_config, reader_config, reader_state, reader_trim}
use Rattle.csv.specs.Reading.{source_of, strip_bom}
use Rattle.csv.specs.declared.reader.Trim.TheVariants as trim
use Rattle.acq_out.proofs.records.RecordsRead.{Stands}
use Rattle.acq_out.proofs.records.reading.read_all.Given as goal

abbrev pub invariant-loop-number : goal.invariant-loop-number
invariant-loop-number g l = record {
  trim : reader_trim l.records ≡ trim.None;
  ready : Ready l.records;
  config : reader_config l.records ≡ default_config;
  known : (text : List ℕ) → source_of g.R.Read.remaining l.fn.records ≡ Some (strip_bom text)
      → Stands g.F.RecordForm.spelled text (source_of g.R.Read.remaining l.records)
      (reader_state l.records) l.values.items l.number;
}
