pub mod Registers
pub mod Asked
pub mod Format
pub mod Exchanges
pub mod PortWires
pub mod Pieces
pub mod Chains
pub mod Laws
