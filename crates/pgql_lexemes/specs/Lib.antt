pub mod Words
pub mod Lexemes
pub mod Seen
pub mod Operators
pub mod Parsers
pub mod Reads
pub mod Told
pub mod Lists
