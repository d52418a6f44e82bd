pub mod Lengths
pub mod Placing
pub mod Promises
