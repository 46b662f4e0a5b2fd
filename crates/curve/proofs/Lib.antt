pub mod TooWide
pub mod Laws
pub mod Extending
