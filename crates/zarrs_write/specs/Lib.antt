pub mod Calls
pub mod Crashes
pub mod FaultTexts
pub mod Laws
pub mod RemovingDocuments
pub mod ReplacingDocuments
pub mod StepsOfRecords
pub mod StepsOfReplacing
