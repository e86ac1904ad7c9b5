pub mod Answering
pub mod Apart
pub mod Fit
pub mod Offsets
pub mod RoundTrip
pub mod Rows
pub mod Told
