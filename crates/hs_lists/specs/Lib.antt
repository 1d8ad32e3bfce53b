pub mod Causes
pub mod ListKinds
pub mod Accepting
pub mod Beginnings
pub mod Endings
pub mod Loading
