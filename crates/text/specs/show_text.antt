-- "`show C`" as text.
pub mod Show
