pub use Rattle.pgql_lexemes.specs.Lexemes
pub use Rattle.pgql_lexemes.specs.Operators
pub use Rattle.pgql_lexemes.specs.Reads
pub mod Reading
pub mod Nests
