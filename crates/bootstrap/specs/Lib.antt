pub mod Sound
pub mod Years
pub mod Liquids
