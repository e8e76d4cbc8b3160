pub mod RangeListsWidened
pub mod WidenedDecisions
pub mod WidenedSteps
pub mod WidenedRuns
