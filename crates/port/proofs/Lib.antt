pub mod Many
pub mod Single
pub mod Places
pub mod Outcomes
pub mod Codes
mod Endings
mod Growth
pub mod Others
