pub mod Adjusting
