pub mod Refusals
pub mod Answers
pub mod Standings
pub mod Counting
pub mod Tables
pub mod Checks
