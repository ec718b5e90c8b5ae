pub mod Errors
pub mod Words
pub mod Commands
pub mod Buses
pub mod Showing
pub mod Saying
pub mod Scenes
pub mod Running
