-- Demand 3: no pass of an add, a removal or a suggestion stalls.
pub mod Stall
pub mod Samples
