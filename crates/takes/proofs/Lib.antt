pub mod Bytes
pub mod Deciding
mod Feeding
