pub mod Writing
pub mod Bytes
pub mod Digits
pub mod Lines
pub mod Samples
