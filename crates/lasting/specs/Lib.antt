-- A call leaves tables that the next call reads.
pub mod Promises
pub mod Held
pub mod Fetched
pub mod Again
pub mod Drops
pub mod Public
pub mod Runs
pub mod Told
pub mod layouts
