-- What private functions say, in words of this profile's own.
pub mod Lines
pub mod Given
pub mod SiteInside
pub mod Classes
pub mod Reading
pub mod Relays
pub mod Findings
