-- What the contracts of `rows` cite, and the laws that its definitions read as the steps.
pub mod Nans
pub mod Marks
pub mod Table
pub mod Integral
pub mod Place
pub mod Cells
pub mod Stays
pub mod Reading
pub mod choose
pub mod moves
pub mod places
