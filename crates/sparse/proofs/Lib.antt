-- Reading and writing undo each other: an edit of a definition in specs/ is tried against what stands here.
pub mod Laying
pub mod ReadBack
pub mod Repack
pub mod HeldLaid
pub mod Written
pub mod Agree
pub mod Copied
