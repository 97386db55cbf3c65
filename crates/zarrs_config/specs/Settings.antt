-- Zarr core specification 3.1, "Metadata": which documents a call reads, writes and erases is left to the caller, who
-- chooses here.
-- <https://zarr-specs.readthedocs.io/en/latest/v3/core/index.html#metadata>
use Rattle.zarrs_config.specs.declared.version.MetadataConvertVersion.{MetadataConvertVersion}
use Rattle.zarrs_config.specs.declared.version.MetadataConvertVersion.TheVariants.{Default as AsHeld}
use Rattle.zarrs_config.specs.declared.version.MetadataEraseVersion.{MetadataEraseVersion}
use Rattle.zarrs_config.specs.declared.version.MetadataEraseVersion.TheVariants.{Default as OfHeld}
use Rattle.zarrs_config.specs.declared.version.UseConsolidatedMetadata.{UseConsolidatedMetadata}
use Rattle.zarrs_config.specs.declared.version.UseConsolidatedMetadata.TheVariants.{Auto}

-- what a configuration holds: the version that is written, the version that is erased, and when a consolidated block
-- is used
pub record Settings : Type 0 where
  pub convert_version : MetadataConvertVersion
  pub erase_version : MetadataEraseVersion
  pub use_consolidated : UseConsolidatedMetadata

-- the settings of a new configuration: the version that is held, for writing and for erasing, and a block where there
-- is one
abbrev pub default_settings : Settings
default_settings = record { convert_version = AsHeld; erase_version = OfHeld; use_consolidated = Auto }
