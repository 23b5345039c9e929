-- Faults of scripts.
pub mod AmongLaws
pub mod NameSets
pub mod ItemFacts
pub mod CleanItems
pub mod ScriptLaws
pub mod TestFaultLaws
pub mod ItemsThere
pub mod ItemsRefuted
pub mod FaultLaws
