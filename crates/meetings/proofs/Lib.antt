pub mod Candidates
pub mod Samples
pub mod Nearer
pub mod Moved
pub mod Ruled
pub mod Rules
pub mod Starts
