pub mod MapsOfNodes
pub mod Catalogues
pub mod Conversions
pub mod StepsOfConversions
pub mod ChunkKeys
pub mod OpenedArrays
pub mod OwnStores
pub mod StepsOfOwnStores
