pub mod DecidingDocuments
mod GroupDocuments
mod GroupTexts
pub mod LeftFiles
mod MoreAnswers
pub mod LoadingSteps
pub mod Openings
pub mod PassedPaths
mod RecordSteps
pub mod PrunedListings
