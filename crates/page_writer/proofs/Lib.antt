pub mod Writing
pub mod States
