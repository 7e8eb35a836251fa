-- The tests before the steps, over the lent sparse tables: as the code runs them, and what they mean.
pub mod Refusals
pub mod Goes
pub mod New
pub mod Tested
pub mod Passed
pub mod Known
pub mod Groups
pub mod Numbers
