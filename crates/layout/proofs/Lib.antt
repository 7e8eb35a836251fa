-- Reading and writing undo each other: an edit of a definition in specs/ is tried against what stands here.
pub mod Written
pub mod Back
pub mod ReadBack
pub mod Copied
