mod FirstLine
mod HeldLines
pub mod Following
mod Doing
mod Ending
mod Turning
pub mod Unmade
mod Rounds
mod AnswersRead
mod Told
mod Talks
mod SaidAnswers
