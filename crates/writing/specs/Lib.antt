-- The writer's buffer, and the numbers that it writes.
pub mod Buffer
pub mod Figures
pub mod Texts
pub mod Given
pub mod Writes
