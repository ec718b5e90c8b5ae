pub mod Decimals
pub mod HexTexts
pub mod Lines
pub mod Ascii
pub mod Idle
pub mod Once
pub mod Rows
pub mod Told
