pub mod FaultTexts
pub mod Lines
pub mod Contents
pub mod Said
pub mod Written
pub mod WrittenOut
