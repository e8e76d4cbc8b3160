-- Look-ups, one after another.
pub use Rattle.acq_reports.proofs.Chains.{failed_later, looks_more}
