pub mod Stretches
pub mod Selecting
