pub mod maps
pub mod Catalogues
pub mod ConvertedNodes
pub mod Chunks
pub mod KeyLists
pub mod OwnStores
