-- What storing a group promises, from the edits that were made of its parts.
use Rattle.std.proofs.Common.{◌≡◌, Result, OnOk, List, Option, None, sym, ap, ◌∙◌, subst}
use Rattle.zarrs_store.specs.Contents.{Contents}
use Rattle.zarrs_path.specs.Paths.{Path}
use Rattle.zarrs_meta.specs.declared.node.GroupMetadata.{GroupMetadata}
use Rattle.zarrs_block.specs.Block.{Block}
use Rattle.zarrs_group.specs.Edits.{Edit, after}
use Rattle.zarrs_group.specs.Laws.{MeansStored}
use Rattle.zarrs_group.specs.StoringGroups.{AreEditsOf, IsBlockReadBack, store_changes, store_edits, stored_fault_in}
use Rattle.zarrs_group.proofs.MeaningLaws.{means_stored, block_stored}
use Rattle.zarrs_group.proofs.StoreLemmas.{on_ok, own_plain}
use Rattle.zarrs_group.proofs.WholeEdits.{whole_edits_are_exact}
use Rattle.zarrs_fault.specs.declared.numbers.Numbers.TheVariants.{Whole}

-- what holds of parts holds of the same parts by other names
pub of_parts : (P : Path → GroupMetadata → Option Block → Type 0) (p q : Path) (m k : GroupMetadata) (b d : Option Block) → p ≡ q → m ≡ k → b ≡ d → P p m b → P q k d
of_parts P p q m k b d path metadata block h = subst (λ x. P q k x) block (subst (λ x. P q x b) metadata (subst (λ x. P x m b) path h))

-- the edits of a plain group, and the store after them
module _ (S T : Contents) (p : Path) (m : GroupMetadata) (block : Option Block) (es : List Edit) (plain : stored_fault_in S.numbers p m block ≡ None) (are : AreEditsOf (store_changes p m block) es) where
  -- exactly, where no number is a fraction
  pub stores_exactly : {A E : Type 0} (r : Result A E) → OnOk r (T ≡ after S es) → OnOk r (stored_fault_in Whole p m block ≡ None → T ≡ after S (store_edits p m block))
  stores_exactly r h = on_ok r h (λ is whole. is ∙ ap (after S) (whole_edits_are_exact p m block es whole are))

  -- in which the path means the group
  pub stores_meaning : {A E : Type 0} (r : Result A E) → OnOk r (T ≡ after S es) → OnOk r (MeansStored T p m)
  stores_meaning r h = on_ok r h (λ is. subst (λ x. MeansStored x p m) (sym is) (means_stored S p m block es (own_plain S.numbers p m block plain) are))

  -- and its block is read
  pub stores_block : {A E : Type 0} (r : Result A E) → OnOk r (T ≡ after S es) → OnOk r (IsBlockReadBack T p m block)
  stores_block r h = on_ok r h (λ is. subst (λ x. IsBlockReadBack x p m block) (sym is) (block_stored S p m block es are))
