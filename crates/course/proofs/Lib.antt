pub mod Strokes
pub mod Counts
pub mod Reached
pub mod Joined
