mod Bodies
mod Commands
mod Carrying
mod Cutting
mod Above
mod RoundTrips
mod Rows
