-- Fetch changes over the sparse tables: what it leaves, its loop over the variables among the gone ones, that the two are the same, and that the lists have room.
pub mod Fetch
pub mod Few
pub mod Lists
pub mod Telling
pub mod Anew
pub mod Others
pub mod Seen
pub mod Listing
pub mod Done
pub mod shown
