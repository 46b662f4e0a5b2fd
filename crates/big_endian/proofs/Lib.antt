pub mod Gathering
pub mod Putting
