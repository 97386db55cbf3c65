pub mod SameSteps
pub mod SameData
pub mod SameParts
pub mod SameNodes
