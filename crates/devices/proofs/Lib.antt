mod Places
mod Rows
