pub mod Making
pub mod Decoding
pub mod Encoding
pub mod Examples
