-- The solver's mathematics in whole numbers, proved of the definitions in specs/: an edit of one of these is tried against what stands here. The order is that of the imports.
pub mod Bland
pub mod Bound
pub mod Count
pub mod Search
pub mod Look
pub mod Problem
pub mod Final
pub mod bridge
