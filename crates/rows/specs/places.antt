-- Tests place by place that know no table's layout, and what follows from them.
pub mod Finding
pub mod Listed
pub mod Products
pub mod Marked
pub mod Shares
pub mod Spent
pub mod Owned
