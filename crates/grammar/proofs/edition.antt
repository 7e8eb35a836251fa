-- T-13 of document 02, second edition of the service line: what its reader makes of a line's bytes.
pub mod Walks
-- The laws by which a descending reader reads so.
pub mod Descent
-- What the reader has passed begins a line.
pub mod Begun
-- The reader's answer is the document's, and the only one.
pub mod Theorems
-- What readers of the first edition make of the second's lines.
pub mod OldReaders
