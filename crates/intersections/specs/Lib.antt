pub mod Points
pub mod Lines
pub mod LineCircle
pub mod Circles
