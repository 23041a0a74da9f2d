pub mod Texts
pub mod Decodings
pub mod Never
pub mod Samples
