pub mod Prolonged
pub mod Samples
