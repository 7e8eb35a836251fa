-- The answer to a line as text.
pub mod Replies
