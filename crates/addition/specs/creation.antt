-- Add's steps 1 to 3 over the sparse tables: the row of a constraint, built from its terms, with its tag.
pub mod Building
pub mod Growth
pub mod Tags
pub mod Steps
pub mod Known
pub mod Terms
pub mod Going
pub mod Settled
pub mod Created
