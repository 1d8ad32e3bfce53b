pub mod PlainEngines
