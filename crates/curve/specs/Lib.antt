pub mod Curves
pub mod Alike
