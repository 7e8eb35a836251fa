-- Demand 2 for whole runs, proved of the definitions in specs/: an edit of one of these is tried against what stands here.
pub mod AtRest
pub mod Refit
pub mod Suggested
pub mod Drop
pub mod AddInv
pub mod Add
pub mod AddEdit
pub mod Run
-- The cutoff of a whole run is not seen.
pub mod Unseen
-- Demand 3.
pub mod stall
