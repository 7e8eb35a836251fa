-- "Changes suffice": a reader that takes the fetched lists alone holds what asking every live variable gives.
pub mod Numbers
pub mod Reader
pub mod Fresh
pub mod Values
pub mod Placed
pub mod Pivoting
pub mod Passing
pub mod Removing
pub mod Building
pub mod Adding
pub mod Calls
pub mod Listing
pub mod Samples
