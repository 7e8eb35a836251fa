-- A live constraint as it was added, in lent places.
pub mod Shown
pub mod Filled
pub mod Stored
pub mod Found
pub mod Few
