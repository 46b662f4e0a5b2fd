pub mod Days
pub mod TakenBack
pub mod Annuities
pub mod Blocks
pub mod Shifts
