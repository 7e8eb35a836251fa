-- Which symbol or row a step takes: what a choice answers, and that a look along places is the steps' walk along the list read from them.
pub mod Back
pub mod Choose
pub mod Better
pub mod Walk
pub mod Chosen
pub mod Steps
pub mod Own
