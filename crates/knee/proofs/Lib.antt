pub mod Knobs
pub mod Turning
