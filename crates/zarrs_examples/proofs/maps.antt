pub mod MapsShown
pub mod InFront
pub mod DefaultVersion
pub mod MoreNumbers
pub mod DocumentsSet
pub mod ErasedDocuments
