pub mod Asking
pub mod Clearing
pub mod MaskPlaces
pub mod NoEndMasked
