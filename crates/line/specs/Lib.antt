pub mod Room
pub mod Stops
pub mod Tokens
pub mod History
pub mod Laws
pub mod Runs
