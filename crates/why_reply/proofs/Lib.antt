pub mod Replies
pub mod Cut
pub mod Samples
