pub mod Answers
pub mod FaultTexts
pub mod Folders
pub mod Laws
pub mod Openings
pub mod PassedPaths
pub mod PrunedStores
pub mod StepsOfLoadingNodes
