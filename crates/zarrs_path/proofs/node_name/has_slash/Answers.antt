use Rattle.std.proofs.Common.{lit<}
use Rattle.std.proofs.lemmas.Str.Pattern.{contains_char}
use Rattle.zarrs_path.proofs.ByteTests.{has_slash_is}
use Rattle.zarrs_path.proofs.node_name.has_slash.Goals as goal

pub returns : goal.returns
returns c = has_slash_is c.args.text.now c.contains.result (contains_char 47 c.args.text.now c.contains.result c.contains.ensures.cases (lit< tt))
