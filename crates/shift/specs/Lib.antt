pub mod Shift
pub mod Meaning
