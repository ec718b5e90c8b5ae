pub mod Asks
pub mod Serving
pub mod Histories
pub mod Words
pub mod Laws
pub mod Runs
