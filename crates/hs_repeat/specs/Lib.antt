pub mod Repeats
pub mod RepeatMeanings
pub mod RepeatEngines
pub mod RepeatBlocks
pub mod RepeatLaws
