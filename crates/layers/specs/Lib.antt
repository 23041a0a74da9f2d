-- What the exports of inner functions say.
pub mod InnerSteps
