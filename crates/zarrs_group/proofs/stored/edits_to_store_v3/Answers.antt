use Rattle.std.proofs.Common.{◌∙◌, ap, sym, subst, map, [], ◌∷◌, ◌++◌, Some, None, refl}
use Rattle.zarrs_path.specs.Keys.{zarr_json}
use Rattle.zarrs_meta.specs.GroupV3.{group_v3_tree}
use Rattle.zarrs_meta.specs.declared.node.GroupMetadata.TheVariants.{V3}
use Rattle.zarrs_group.specs.Edits.{set}
use Rattle.zarrs_group.specs.StoredTexts.{IsStoredText}
use Rattle.zarrs_group.specs.StepsOfGroups.{edit_of}
use Rattle.zarrs_group.specs.StoringGroups.{AreEditsOf}
use Rattle.zarrs_group.proofs.StoreLemmas.{beside_is}
use Rattle.zarrs_group.proofs.stored.edits_to_store_v3.Goals as goal

pub returns-clause-ok : goal.returns-clause-ok
returns-clause-ok c =
    let text = subst (IsStoredText c.in_ok-bytes.bytes.items) c.in_ok-to_value.ensures c.in_ok-bytes.ensures in
    λ block. subst (λ xs. AreEditsOf ((c.args.path.now ++ zarr_json ∷ [], Some (group_v3_tree c.args.group.now)) ∷ []) (map edit_of xs)) (sym c.in_ok-vec.ensures.items)
    ((c.in_ok-bytes.bytes.items, ap (λ k. set k c.in_ok-bytes.bytes.items) c.in_ok-key.ensures, text), tt)

pub returns-clause-plain : goal.returns-clause-plain
returns-clause-plain c = λ block. beside_is c.args.numbers c.args.path.now (V3 c.args.group.now) block None (sym c.group_v3_fault.ensures ∙ c.in_default.is) refl
