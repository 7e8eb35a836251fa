-- The stored constraints and edits of sparse tables: carried from one set of tables into another, and what is read afterwards.
pub mod Parts
pub mod Maps
pub mod Carried
pub mod Moved
pub mod Put
pub mod Gaps
pub mod Listed
pub mod Beside
pub mod Holds
pub mod Reading
pub mod Ended
pub mod Ends
pub mod Came
pub mod Suggested
