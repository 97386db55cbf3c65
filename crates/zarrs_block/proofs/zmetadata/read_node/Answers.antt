use Rattle.std.proofs.Common.{Option, IfSome, IsTrue, subst}
use Rattle.std.specs.Prelude.{option_map}
use Rattle.serde_json.specs.Data.{Data}
use Rattle.serde_json.specs.View.{view}
use Rattle.serde_json.specs.declared.value.Value.{Value}
use Rattle.zarrs_form.specs.Forms.{fits_in}
use Rattle.zarrs_block.specs.declared.zmetadata.File.TheVariants.{Array as array_file, Group as group_file, Attributes as attributes_file}
use Rattle.zarrs_block.proofs.zmetadata.read_node.Goals as goal

pub read_array-requires-clause-document : goal.read_array-requires-clause-document
read_array-requires-clause-document c = subst (λ (o : Option Value). IfSome (option_map view o) (λ (d : Data). IsTrue (fits_in c.args.numbers d))) c.in-Some.is (c.requires array_file)

pub read_array-requires-clause-attributes : goal.read_array-requires-clause-attributes
read_array-requires-clause-attributes c = c.requires attributes_file

pub read_group-requires-clause-document : goal.read_group-requires-clause-document
read_group-requires-clause-document c = subst (λ (o : Option Value). IfSome (option_map view o) (λ (d : Data). IsTrue (fits_in c.args.numbers d))) c.in-Some-group.is (c.requires group_file)

pub read_group-requires-clause-attributes : goal.read_group-requires-clause-attributes
read_group-requires-clause-attributes c = c.requires attributes_file
