pub mod Rows
pub mod Faults
pub mod CertificateValue
pub mod internal
