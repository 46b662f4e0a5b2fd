pub mod Sides
pub mod Working
