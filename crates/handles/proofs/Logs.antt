-- What a log tells of the words that its steps found.
pub mod Founds
pub mod Marks
