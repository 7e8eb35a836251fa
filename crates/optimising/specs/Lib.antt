pub mod Turn
pub mod Chosen
pub mod suggestion
