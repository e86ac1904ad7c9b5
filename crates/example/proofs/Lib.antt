pub mod Granted
pub mod Worked
