-- The lent tables: what they read as, and how a state is written into them; that the two undo each other stands in proofs/.
pub mod Layout
pub mod Rooms
pub mod Laying
pub mod Relaid
pub mod Copy
pub mod ReadBack
pub mod cells
