pub mod Cursor
pub mod Places
pub mod Ranges
pub mod Lasts
pub mod Choosing
pub mod Bodies
