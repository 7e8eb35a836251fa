-- T-13 of document 02, the writer: its plain form as a tree of the grammar.
pub mod Forms
-- Reading what is written, and writing what is read.
pub mod Theorems
-- 36 is for what no line reads as, and for nothing else.
pub mod Unsaid
