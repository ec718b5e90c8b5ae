mod Arrived
mod Ends
mod Freshness
