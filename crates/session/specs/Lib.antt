pub mod Said
pub mod Calls
pub mod Shows
pub mod Turns
