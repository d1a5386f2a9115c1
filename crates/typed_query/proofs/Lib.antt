pub mod ExprByParts
pub mod Folds
pub mod Parts
mod SameTexts
pub mod Validity
