-- The f64 steps are the theory's, while their mark stays.
pub mod Quot
pub mod Walk
pub mod Rows
pub mod Table
pub mod Chosen
pub mod Looks
pub mod Runs
pub mod Ends
pub mod Enter
pub mod Ranks
pub mod Duals
pub mod Drags
pub mod Sample
