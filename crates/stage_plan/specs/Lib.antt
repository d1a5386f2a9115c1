pub mod Front
pub mod Hops
pub mod Laws
pub mod Moves
pub mod PlanText
pub mod Plans
pub mod Rules
pub mod Walk
