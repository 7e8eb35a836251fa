-- A relation as the code has it.
pub mod Tags
