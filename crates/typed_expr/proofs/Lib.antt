mod AstByParts
mod Cases
mod Columns
mod Conjuncts
mod Days
pub use Rattle.typed_query.proofs.ExprByParts
mod Flags
pub use Rattle.typed_query.proofs.Folds
mod Lists
mod Meanings
mod Outcomes
pub use Rattle.typed_query.proofs.Parts
mod Queries
mod SameLaw
mod SameUses
mod Sames
mod Scopes
mod Trees
pub use Rattle.typed_query.proofs.Validity
mod Wholes
mod Written
