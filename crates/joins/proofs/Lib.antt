pub mod Bound
pub mod Settling
pub mod Made
pub mod Corner
pub mod Rules
pub mod Samples
pub mod RuleSamples
pub mod Seen
