-- A changing call by value.
pub mod tags
pub mod terms
pub mod Change
