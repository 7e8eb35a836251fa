-- "Changes suffice": what a reader makes of the fetched lists, and that it is what asking every live variable gives.
pub mod Listing
pub mod Suffice
