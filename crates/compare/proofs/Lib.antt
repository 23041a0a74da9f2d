pub mod Entries
pub mod Answers
pub mod Listed
pub mod Told
pub mod Alike
pub mod Claim
pub mod Given
pub mod Samples
