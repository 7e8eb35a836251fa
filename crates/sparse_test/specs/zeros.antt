-- No call leaves a cell that is -0.0, so a state of a run has its one place in the sparse tables.
pub mod Plain
pub mod PlainAdding
pub mod PlainCalls
pub mod Fitting
