pub mod Places
pub mod Held
