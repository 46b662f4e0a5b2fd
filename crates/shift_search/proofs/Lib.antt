pub mod Bounds
pub mod Places
pub mod Moving
pub mod Blocks
pub mod Costs
