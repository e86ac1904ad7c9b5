pub mod Carried
pub mod Faults
pub mod Kinds
pub mod Fields
pub mod Layout
pub mod Frames
pub mod Writing
