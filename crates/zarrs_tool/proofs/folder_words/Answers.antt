use Rattle.std.proofs.Common.{◌∙◌, codes, sym}
use Rattle.zarrs_tool.proofs.Folders.{four_words, not_differing}
use Rattle.zarrs_tool.proofs.folder_words.Goals as goal

pub returns-clause-some : goal.returns-clause-some
returns-clause-some c =
    let word = sym c.as_str.ensures.value ∙ not_differing _ (codes "folder") c.if-ne.ensures in
    let tree = sym c.as_str-2.ensures.value ∙ not_differing _ (codes "tree") c.if-ne-2.ensures in
    rw c.as_str-3.ensures.value
    (four_words c.args.words.now _ _ _ _ c.in-len4.len_at_least c.in-len4.len_below c.word-item.is c.folder-item.is c.tree-item.is c._path-item.is word tree)
