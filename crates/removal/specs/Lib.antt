-- What the contracts of `removal` cite, and the laws that put its steps together.
pub mod Reading
pub mod Bound
pub mod Effects
pub mod Marker
pub mod Tag
pub mod Alike
pub mod Room
pub mod Uses
pub mod Steps
