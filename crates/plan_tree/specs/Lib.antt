pub mod Agreeing
pub mod Answers
pub mod Kinds
pub mod Laws
pub mod PlanTree
pub mod Rows
pub mod Told
