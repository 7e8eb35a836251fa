-- A stream of bytes cut into lines of at most so many bytes.
pub mod Lines
pub mod Held
