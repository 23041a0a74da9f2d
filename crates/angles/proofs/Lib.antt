pub mod Halved
pub mod Tables
pub mod Gentle
pub mod Turned
pub mod Steps
pub mod Samples
pub mod Mapped
pub mod Walk
