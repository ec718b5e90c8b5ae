pub mod Drawn
pub mod Chips
pub mod Setups
pub mod Laws
