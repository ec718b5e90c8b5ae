pub mod Endpoints
pub mod Views
pub mod Devices
pub mod Setups
pub mod Arrivals
