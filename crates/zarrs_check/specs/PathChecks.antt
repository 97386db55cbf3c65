-- Zarr core specification 3.1, "Hierarchy": all that a check tells of one path.
-- <https://zarr-specs.readthedocs.io/en/latest/v3/core/index.html#hierarchy>
--     IsCheckedFrom s v b c      what there is to tell from b on: of an array by its own documents, of all else with
-- what is below it
--     IsPathCheckOf s v b c      the same, and what the blocks above b say otherwise from b on
use Rattle.std.specs.Prelude.{◌≡◌, false}
use Rattle.zarrs_store.specs.Contents.{Contents}
use Rattle.zarrs_path.specs.Paths.{Path}
use Rattle.zarrs_config.specs.declared.version.MetadataRetrieveVersion.{MetadataRetrieveVersion}
use Rattle.zarrs_meta.specs.Node.{is_group}
use Rattle.zarrs_meta.specs.declared.node.NodeMetadata.{NodeMetadata}
use Rattle.zarrs_meaning.specs.Meaning.{meaning, node}
use Rattle.zarrs_notes.specs.NodeFindings.{AreNodeFindings}
use Rattle.zarrs_check.specs.BlocksAbove.{MeansNoArray, AreAboveFindings}
use Rattle.zarrs_check.specs.Checks.{AreBlockFindings, IsCheckOf}
use Rattle.zarrs_check.specs.declared.path_check.CheckedFrom.{CheckedFrom}
use Rattle.zarrs_check.specs.declared.path_check.CheckedFrom.TheVariants.{Array, Tree}
use Rattle.zarrs_check.specs.declared.path_check.PathCheck.{PathCheck}

-- b means an array, and this is what its documents tell; or it means none, and this is the check of what is at b and
-- below it
abbrev pub IsCheckedFrom : Contents → MetadataRetrieveVersion → Path → CheckedFrom → Type 0
IsCheckedFrom s v b (Array found) =
    (m : NodeMetadata) × (meaning s v b ≡ node m) × (is_group m ≡ false) × AreNodeFindings s b m found.items
IsCheckedFrom s v b (Tree c) = MeansNoArray s v b × IsCheckOf s v b c × AreBlockFindings s v b c.findings.items

-- what there is to tell from b on, and by the blocks of the groups above b
pub record IsPathCheckOf (s : Contents) (v : MetadataRetrieveVersion) (b : Path) (c : PathCheck) : Type 0 where
  pub from : IsCheckedFrom s v b c.from
  pub above : AreAboveFindings s v b c.above.items
