pub mod Skip
pub mod Merge
pub mod Fronts
pub mod Merging
pub mod Paste
pub mod Substituted
