-- The text of a site file (this profile's own): its lines, the site that it describes together with the files of its
-- relays, and what may be wrong with it.
pub mod Lines
pub mod Shapes
pub mod Files
pub mod Describes
pub mod HasFault
pub mod Faults
