-- T-13 of document 02, second edition of the service line. In the document's words: the ending, and what any bytes are answered.
pub mod Endings
pub mod Service
-- The reader as steps that compute, and lines with their answers.
pub mod Steps
pub mod Examples
-- The reader over the bytes of a line: with T-01's up to an `@`, and over an ending.
pub mod Follow
pub mod Tails
pub mod Free
pub mod Walks
-- The laws by which a descending reader reads so.
pub mod Descent
-- What the reader has passed begins a line.
pub mod Begun
-- The reader's answer is the document's, and the only one.
pub mod Theorems
pub mod OneTree
-- What readers of the first edition make of the second's lines.
pub mod OldReaders
