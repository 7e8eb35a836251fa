-- Whether each table is lent once.
pub mod Lengths
