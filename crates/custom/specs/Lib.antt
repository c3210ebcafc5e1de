pub mod Climbing
pub mod DeadBand
pub mod DeadBandMeasureLemmas
