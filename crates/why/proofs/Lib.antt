pub mod Steps
pub mod Turns
pub mod Asked
pub mod Whole
pub mod Roomless
pub mod Claim
pub mod Samples
