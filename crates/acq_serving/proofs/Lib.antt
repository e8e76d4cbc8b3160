pub mod FaultsApart
pub mod FramesCame
pub mod ReplySent
pub mod Served
pub mod ServedWeaker
pub mod TalkGoesOn
