use Rattle.std.proofs.Common.{lit<, refl}
use Rattle.std.proofs.lemmas.Str.Pattern.{strip_suffix_char}
use Rattle.zarrs_cli.proofs.FolderNames.{folder_name_is}
use Rattle.zarrs_cli.proofs.nowhere.folder_name.Goals as goal

pub returns : goal.returns
returns c = folder_name_is c.args.source.now c.strip_suffix.result c.args.source c.unwrap_or.result (strip_suffix_char 47 c.args.source.now c.strip_suffix.result c.strip_suffix.ensures.cases (lit< tt)) refl c.unwrap_or.ensures
