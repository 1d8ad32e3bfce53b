pub mod StateEnds
pub mod DfaEngines
pub mod DfaClauses
pub mod SetRuns
pub mod ClearSets
