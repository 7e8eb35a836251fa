-- What the C names answer and leave, beside the calls that they make.
pub mod handed
pub mod Given
pub mod Places
pub mod Adding
pub mod Held
pub mod Together
pub mod Dragged
pub mod HandedOn
pub mod Written
pub mod HandedBack
pub mod ShownBack
