pub mod Boundary
pub mod Connector
pub mod Join
pub mod Corner
pub mod Rules
pub mod InnerSteps
