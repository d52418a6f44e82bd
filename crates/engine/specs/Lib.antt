pub mod Curve
pub mod Wave
pub mod Plan
pub mod Sweep
pub mod Sample
pub mod Tape
pub mod Play
pub mod Raw
