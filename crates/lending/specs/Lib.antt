-- What a changing call over sparse tables answers and leaves, for any call of the steps.
pub mod sparse_copy
pub mod Lending
pub mod Entered
pub mod Bare
pub mod Reset
