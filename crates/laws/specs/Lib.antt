-- Laws that know nothing of the solver, each written once: integers, the ring solver, loops over places, lists in tables.
pub mod Z
pub mod Ring
pub mod Loops
pub mod Lists
pub mod Places
pub mod Given
pub mod exact
pub mod streams
