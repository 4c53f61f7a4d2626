-- What a run of the programs leaves.
pub mod Runs
