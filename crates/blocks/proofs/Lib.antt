pub mod Digits
mod Chains
pub mod Placed
pub mod Blocks
pub mod Sealed
pub mod Pieces
pub mod Sizes
pub mod Fields
pub mod Judged
