pub mod Clearing
pub mod Packed
pub mod KeptFaults
pub mod Checking
pub mod Faults
pub mod RegionLaws
