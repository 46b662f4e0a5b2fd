pub mod Markets
pub mod Views
pub mod Records
