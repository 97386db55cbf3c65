pub mod FaultTexts
pub mod Output
pub mod Refusals
pub mod Sinks
pub mod StepsOfRuns
