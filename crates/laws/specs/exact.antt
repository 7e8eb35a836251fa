-- Floats that are whole numbers: each operation and each test of binary64 on them is the integers'.
pub mod Whole
pub mod Compare
pub mod Near
pub mod Unbroken
