pub mod Source
pub mod Segments
