-- Places that close up or open: what stands where afterwards, and what a list that is read out of them becomes.
pub mod Close
pub mod Moved
pub mod Walk
pub mod Columns
