-- Zarr core specification 3.1, "Metadata documents": what a path means where numbers have to be whole, and where any
-- may stand.
-- <https://zarr-specs.readthedocs.io/en/latest/v3/core/index.html#metadata>
use Rattle.std.specs.Prelude.{◌≡◌, false}
use Rattle.zarrs_store.specs.Contents.{Values}
use Rattle.zarrs_fault.specs.declared.numbers.Numbers.{Numbers}
use Rattle.zarrs_fault.specs.declared.numbers.Numbers.TheVariants.{Whole}
use Rattle.zarrs_path.specs.Paths.{Path}
use Rattle.zarrs_config.specs.declared.version.MetadataRetrieveVersion.{MetadataRetrieveVersion}
use Rattle.zarrs_meaning.specs.Meaning.{is_bad, meaning}

-- a path that is not bad in a store whose numbers have to be whole means the same whatever numbers may stand
abbrev pub WholePathsMeanTheSame : Type 0
WholePathsMeanTheSame =
    (values : Values) (numbers : Numbers) (v : MetadataRetrieveVersion) (p : Path)
    → is_bad (meaning (record { values = values; numbers = Whole }) v p) ≡ false
    → meaning (record { values = values; numbers = numbers }) v p
    ≡ meaning (record { values = values; numbers = Whole }) v p
