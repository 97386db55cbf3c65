-- Zarr specification version 2, "Data type encoding", and Zarr core specification 3.1, "Data types": the tables of the conversion to version 3, by examples.
use Rattle.std.proofs.Common.{◌≡◌, codes, refl, None, Some, Ok, Err}
use Rattle.zarrs_form.specs.declared.data_type.DataTypeMetadataV2.TheVariants.{Simple}
use Rattle.zarrs_form.specs.declared.data_type.Endianness.TheVariants.{Little, Big}
use Rattle.zarrs_convert.specs.DataTypes.{byte_order, data_type_name}

-- a float of eight bytes, of either byte order
float64 : data_type_name (codes "<f8") ≡ Some (codes "float64")
float64 = refl

-- `>f8` has the name `float64` as well
float64_too : data_type_name (codes ">f8") ≡ Some (codes "float64")
float64_too = refl

-- a byte has no byte order
int8 : data_type_name (codes "|i1") ≡ Some (codes "int8")
int8 = refl

-- `<i1` has no name of a data type
no_int8 : data_type_name (codes "<i1") ≡ None
no_int8 = refl

-- no integer has three bytes
no_int24 : data_type_name (codes "<i3") ≡ None
no_int24 = refl

-- the byte order is told by the first character
little : byte_order (Simple (codes "<f8")) ≡ Ok (Some Little)
little = refl

-- the byte order of `>f8` is the big one
big : byte_order (Simple (codes ">f8")) ≡ Ok (Some Big)
big = refl

-- `|O` has no byte order
none : byte_order (Simple (codes "|O")) ≡ Ok None
none = refl

-- `f8`, which begins with none of these characters, is refused
unknown : byte_order (Simple (codes "f8")) ≡ Err (codes "f8")
unknown = refl
