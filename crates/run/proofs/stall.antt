-- Why demand 3 holds.
pub mod Turns
pub mod Rows
pub mod Moments
pub mod Pass
pub mod Quiet
pub mod Accounts
pub mod Calls
pub mod RemoveStarts
pub mod AddStarts
pub mod SuggestStarts
pub mod DropStarts
pub mod Whole
pub mod DropSets
