pub mod Lines
pub mod Desk
pub mod Handed
