pub mod AllEndLemmas
pub mod MaskLemmas
pub mod OpenLemmas
pub mod HitTableLemmas
pub mod HitLoopLemmas
pub mod HitStreamLemmas
