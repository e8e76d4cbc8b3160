pub mod ToldLater
