-- What the contracts of `suggestion` cite, and the laws that its definitions read as the steps' suggestion.
pub mod Shifting
pub mod Drags
pub mod ShiftRead
pub mod Shifts
pub mod Suggested
