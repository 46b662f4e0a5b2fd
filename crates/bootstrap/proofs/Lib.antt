pub mod Soundness
pub mod NextYears
pub mod Walking
pub mod Order
