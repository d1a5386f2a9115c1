-- The kinds of tokens, for those who speak of the grammar's tokens.
pub use Rattle.pgql_lexemes.specs.declared.kind.Kind.{Kind}
