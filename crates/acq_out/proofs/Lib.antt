pub mod PutTexts
pub mod TwelveDigits
pub mod OnLiterals
