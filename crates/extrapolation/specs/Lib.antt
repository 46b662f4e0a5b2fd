pub mod Extrapolated
