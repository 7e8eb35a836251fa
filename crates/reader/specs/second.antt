-- The code of T-13's second edition: what stands behind a line's `@`, the end of a line, and its answer.
pub mod Numbers
pub mod Tails
pub mod Ends
pub mod Replies
