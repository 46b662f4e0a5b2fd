pub mod Forwarding
pub mod Stepping
pub mod Gaps
pub mod LaterYears
