pub mod PutLines
pub mod PutParts
pub mod ElementsInTurn
pub mod LinesInTurn
pub mod Remarked
pub mod HiddenContents
pub mod OnLiterals
