pub mod Typed
pub mod Tests
pub mod Each
mod Naming
mod Reading
mod Writing
mod Ranges
mod Accepting
mod Keeping
mod Loading
mod Runs
mod Stopping
mod Meeting
pub mod Formed
mod Scanning
mod Answering
pub mod Decode
pub mod Yields
pub mod Growing
