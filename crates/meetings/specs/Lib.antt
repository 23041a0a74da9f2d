pub mod Params
pub mod Meetings
pub mod Rules
pub mod InnerSteps
