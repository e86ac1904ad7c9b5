pub mod Site
pub mod Cases
pub mod Faults
