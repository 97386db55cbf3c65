use Rattle.std.proofs.Common.{◌≡◌, rules}
use Rattle.serde_json.specs.Data.{no_members}
use Rattle.zarrs_notes.specs.Demands.{fields_of}
use Rattle.zarrs_notes.proofs.FieldParts.{none_ascend}
use Rattle.zarrs_notes.proofs.fields.add_fields.Goals as goal

pub returns-in-Group-V2-clause-ascending : goal.returns-in-Group-V2-clause-ascending
returns-in-Group-V2-clause-ascending c = let none : no_members ≡ fields_of c.args.metadata.now = search rules in none_ascend (fields_of c.args.metadata.now) none

pub returns-in-Group-V2-2-clause-ascending : goal.returns-in-Group-V2-2-clause-ascending
returns-in-Group-V2-2-clause-ascending c = let none : no_members ≡ fields_of c.args.metadata.now = search rules in none_ascend (fields_of c.args.metadata.now) none
