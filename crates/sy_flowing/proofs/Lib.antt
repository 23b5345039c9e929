pub mod relay
pub mod steps
pub mod numbers
pub mod examples
