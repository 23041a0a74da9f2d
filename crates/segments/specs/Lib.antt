pub mod Modes
pub mod Vertex
pub mod Segment
pub mod InnerSteps
