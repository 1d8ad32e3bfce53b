pub mod KeepingLemmas
pub mod LeavingLemmas
pub mod ForgetLemmas
pub mod FinishingLemmas
