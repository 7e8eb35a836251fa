-- What the service line's readers hand to a caller in lent places.
pub mod Fits
pub mod Handed
pub mod Examples
