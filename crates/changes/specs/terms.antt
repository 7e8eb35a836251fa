pub mod Terms
pub mod Packed
pub mod Kept
pub mod Listed
