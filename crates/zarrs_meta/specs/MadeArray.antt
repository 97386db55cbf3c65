-- Zarr core specification 3.1, "Array metadata" and "Chunk key encoding": the version 3 array that is made of its
-- members.
-- <https://zarr-specs.readthedocs.io/en/latest/v3/core/index.html#array-metadata>
-- <https://zarr-specs.readthedocs.io/en/latest/v3/core/index.html#chunk-key-encoding>
use Rattle.std.specs.Prelude.{ℕ, List, [], Some, None, true, codes}
use Rattle.serde_json.specs.Data.{Data, string, no_members, member}
use Rattle.zarrs_form.specs.declared.extension.MetadataV3.{MetadataV3}
use Rattle.zarrs_meta.specs.declared.array_v3.ArrayMetadataV3.{ArrayMetadataV3}

-- the encoding `default` of the keys of chunks, whose separator is a slash
abbrev pub default_encoding : MetadataV3
default_encoding = record {
  name = codes "default";
  configuration = Some (member (codes "separator") (string (codes "/")) no_members);
  must_understand = true;
}

-- the array with these members and the encoding `default`; all other members are absent
abbrev pub made_array : List ℕ → MetadataV3 → MetadataV3 → Data → List MetadataV3 → ArrayMetadataV3
made_array shape chunk_grid data_type fill_value codecs = record {
  shape = shape;
  data_type = data_type;
  chunk_grid = chunk_grid;
  chunk_key_encoding = default_encoding;
  fill_value = fill_value;
  codecs = codecs;
  attributes = no_members;
  storage_transformers = [];
  dimension_names = None;
  additional_fields = no_members;
}
