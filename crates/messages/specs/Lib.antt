pub mod Marks
pub mod Sent
pub mod Lines
pub mod Texts
