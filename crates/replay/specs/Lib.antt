pub mod Stops
pub mod Replays
pub mod Laws
pub mod Piles
pub mod Shapes
pub mod Stacks
