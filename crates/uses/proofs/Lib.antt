pub mod Trips
pub mod Cut
pub mod CutTake
pub mod Zeros
