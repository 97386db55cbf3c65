use Rattle.std.proofs.Common.{None, sym, subst}
use Rattle.std.specs.Prelude.{IfSome}
use Rattle.zarrs_folder.specs.Folders.{values_of}
use Rattle.zarrs_cli.specs.StepsOfRuns.{IsWrittenOfEach, IsWrittenOfSome}
use Rattle.zarrs_cli.specs.declared.words.Word.TheVariants.{Tree}
use Rattle.zarrs_cli.proofs.BlockTrees.{tree_of_each, tree_of_some}
use Rattle.zarrs_cli.proofs.folder.tree_by_block.Goals as goal

pub returns-clause-ok : goal.returns-clause-ok
returns-clause-ok g c =
    let b = c.args.base.now in
    subst (λ w. IfSome c.ok.result (λ text. IsWrittenOfSome w b (None, text))) (sym c.in-Tree.is)
    (subst (λ o. IfSome o (λ text. IsWrittenOfSome Tree b (None, text))) (sym c.ok.ensures.value)
    (tree_of_some b c.as_str-valid.ensures.valid (values_of c.in_ok-store.store.inner) c.tree_text-shown.result c.tree_text-shown.ensures.ok))

pub returns-clause-whole : goal.returns-clause-whole
returns-clause-whole g c =
    let b = c.args.base.now in
    let P = g.F.Folder.agrees c.load_base.new.folder in
    subst (λ w. IfSome c.ok.result (λ text. IsWrittenOfEach w b P (None, text))) (sym c.in-Tree.is)
    (subst (λ o. IfSome o (λ text. IsWrittenOfEach Tree b P (None, text))) (sym c.ok.ensures.value)
    (tree_of_each b c.as_str-valid.ensures.valid (values_of c.in_ok-store.store.inner) P c.in_ok-store.ensures.ok c.tree_text-shown.result c.tree_text-shown.ensures.ok))
