-- Parameters of objects.
pub mod Lookups
pub mod Fits
pub mod Defaults
pub mod Ranges
pub mod ParameterFaultLaws
