pub mod Searching
pub mod Told
