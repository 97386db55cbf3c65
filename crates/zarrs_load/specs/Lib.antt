pub mod FaultTexts
pub mod Folder
pub mod Image
pub mod Reading
pub mod StepsOfLoading
