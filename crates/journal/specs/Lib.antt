pub mod Journal
pub mod Replies
pub mod Kinds
pub mod Made
