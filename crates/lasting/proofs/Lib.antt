-- What holds of any sequence of public calls: an edit of a definition in specs/ is tried against what stands here.
pub mod Held
pub mod Runs
pub mod Never
pub mod Told
