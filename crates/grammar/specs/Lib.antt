-- T-01 of document 02, constraints as text. In the document's words: the bytes, the sums, the trees of the grammar, and what any bytes are answered.
pub mod Bytes
pub mod Sums
pub mod Trees
pub mod Says
-- The reader as steps that compute, the laws by which a descending reader reads so, and lines with their answers.
pub mod Reader
pub mod Descent
pub mod Examples
-- The reader over the bytes of a tree: it meets the first fault, or it arrives with the reading.
pub mod Pieces
pub mod Walk
pub mod LineWalk
pub mod Terms
pub mod Gather
-- What the reader has passed begins a line of the grammar.
pub mod Prefix
pub mod Reach
pub mod Complete
-- A refusal is met by the bytes up to it; no line has two trees; the reader's answer is the document's, and the only one.
pub mod Causal
pub mod Offsets
pub mod Facts
pub mod OneTree
pub mod Theorems
-- A line that reads names variables that fit.
pub mod Names
pub mod edition
pub mod plain
