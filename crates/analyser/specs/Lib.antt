pub mod Seen
pub mod Words
pub mod Messages
