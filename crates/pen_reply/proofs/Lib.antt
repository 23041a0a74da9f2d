pub mod Steps
pub mod Rows
pub mod Kept
pub mod Samples
