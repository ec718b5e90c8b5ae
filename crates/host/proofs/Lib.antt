pub mod Accounted
mod Accounts
pub mod Admits
mod Arrivals
mod Budgets
mod Declines
mod FetchBudgets
mod FetchHeld
mod FetchSteps
pub mod HandedOver
pub mod InStep
mod InReplies
mod InTry
mod KeptBuffers
mod Levels
pub mod Names
mod Only
mod Opened
mod Opens
mod OutTry
mod Packets
pub mod Places
pub mod Reaches
mod Replies
pub mod Requests
mod Resets
mod Runs
pub mod Sent
mod StageTry
mod Steps
mod Tallying
mod Targets
pub mod Touches
mod Writes
