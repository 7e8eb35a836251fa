-- The variables of the sparse tables: over the tables' places, and what the tables then read as.
pub mod Variables
pub mod Found
pub mod Alone
pub mod Came
pub mod Stretches
pub mod Kept
pub mod Uses
pub mod Told
pub mod Less
pub mod Went
pub mod UseLess
pub mod LessReads
pub mod Falls
pub mod TellReads
