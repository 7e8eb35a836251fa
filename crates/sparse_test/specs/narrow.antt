-- Numbers stay within a u32 through every call, and tables of the sparse form whose state reads, with such numbers, read as a state.
pub mod Numbers
pub mod Near
pub mod NearAdd
pub mod Narrow
pub mod Tabled
pub mod Written
pub mod Holds
