-- The live part of sparse tables put over others, table by table, and a room of them cleared.
pub mod Over
pub mod Becomes
