pub mod Fits
pub mod Gaps
