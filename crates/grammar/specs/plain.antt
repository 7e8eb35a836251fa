-- T-13 of document 02, the writer. In the document's words: the plain form of a constraint, and what can be written.
pub mod Decimal
pub mod Plain
pub mod Examples
-- The plain form as a tree of the grammar.
pub mod Numbers
pub mod Forms
-- Reading what is written, and writing what is read.
pub mod Said
pub mod Theorems
