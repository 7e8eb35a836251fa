-- The calls over slices of arrays.
pub mod Entry
pub mod typed
