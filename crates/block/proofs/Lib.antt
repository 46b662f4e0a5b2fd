pub mod Enters
pub mod Paired
pub mod Worths
pub mod Worked
