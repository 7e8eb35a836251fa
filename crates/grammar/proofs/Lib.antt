-- T-01 of document 02, proved of the definitions in specs/: an edit of one of these is tried against what stands here.
-- The laws by which a descending reader reads so.
pub mod Descent
-- The reader over the bytes of a tree and of a line: it meets the first fault, or it arrives with the reading.
pub mod Pieces
pub mod Walk
pub mod LineWalk
-- What the reader has passed begins a line of the grammar.
pub mod Begun
pub mod Complete
-- A refusal is met by the bytes up to it; the reader's answer is the document's, and the only one.
pub mod Causal
pub mod Facts
pub mod Theorems
-- A line that reads names variables that fit.
pub mod Names
pub mod edition
pub mod plain
