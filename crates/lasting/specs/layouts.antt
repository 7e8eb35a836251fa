-- The dense layout that the sparse one replaced, and that every call is the same on both.
pub mod Dense
pub mod Written
pub mod Groups
pub mod Related
