-- Add's steps over the sparse tables: a row with or without a subject, the temporary slack, and the whole.
pub mod creation
pub mod Adding
pub mod Symbols
pub mod Kept
pub mod Inputs
pub mod Entered
pub mod Removed
pub mod Alone
pub mod Chosen
pub mod Stepped
pub mod Whole
