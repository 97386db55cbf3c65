-- Fractions in a block: the key of the first node that has one, the path that is named for it, and that a store of whole numbers has none.
use Rattle.std.proofs.Common.{◌≡◌, ℕ, Bool, true, false, true≢false, List, [], ◌∷◌, ◌++◌, Some, Result, Err, IfErr, IsTrue, String, Global, string_bytes, refl, sym, ap, subst, ◌∙◌}
use Rattle.std.specs.List.{AllByRecursion}
use Rattle.std.proofs.lemmas.List.{append_cancel_left}
use Rattle.std.proofs.lemmas.List.Elements.{All-nil, All-cons}
use Rattle.zarrs_store.specs.Contents.{Contents, Values}
use Rattle.zarrs_path.specs.Paths.{Path, IsPath, relative_names}
use Rattle.zarrs_path.proofs.Relative.{relative_of_text}
use Rattle.zarrs_config.specs.declared.version.MetadataRetrieveVersion.TheVariants.{Default}
use Rattle.zarrs_meta.specs.Node.{is_plain_node}
use Rattle.zarrs_meta.specs.declared.node.NodeMetadata.{NodeMetadata}
use Rattle.zarrs_fault.specs.declared.numbers.Numbers.TheVariants.{Whole}
use Rattle.zarrs_block.specs.Block.{Block, HasPlainNodesIn, IsAscending, IsBlockOf, node_at_key}
use Rattle.zarrs_block.proofs.BlockLaws.{shown}
use Rattle.zarrs_block.proofs.Expansion.{found_all}
use Rattle.zarrs_node.specs.Nodes.{Nodes}
use Rattle.zarrs_meaning.proofs.PlainMeanings.{plain_node}
use Rattle.zarrs_tool.specs.Output.{in_whole_numbers}
use Rattle.zarrs_tool.specs.Refusals.{ShowsFraction}
use Rattle.zarrs_tool.specs.StepsOfRuns.{HasFractionAt, IsBlockFault, IsFractionFault}
use Rattle.zarrs_tool.specs.declared.fault.ToolFault.{ToolFault}
use Rattle.zarrs_tool.specs.declared.fault.ToolFault.TheVariants.{Usage, Read, ReadTooLong, Image, ImageKey, ImageValue, Folder, NotAGroup, Fraction, Node, Write, OutOfMemory}

-- ---- entry by entry

-- what is left of a block: where it is plain the block is, and the block has each of it at its key
abbrev pub IsLeft : Block → Block → Type 0
IsLeft B left = (HasPlainNodesIn Whole left → HasPlainNodesIn Whole B) × (IsAscending B → AllByRecursion (λ e. node_at_key B e.0 ≡ Some e.1) left)

-- at first all of it is left
pub all_left : (B : Block) (es : List (String Global × NodeMetadata)) → shown es ≡ B → IsLeft B (shown es)
all_left B es is = subst (IsLeft B) (sym is) ((λ plain. plain), found_all B)

-- where nothing is left the block is plain
pub none_left : (B : Block) (left : List (String Global × NodeMetadata)) → left ≡ [] → IsLeft B (shown left) → HasPlainNodesIn Whole B
none_left B left is so_far = let none : IsLeft B [] = subst (λ l. IsLeft B (shown l)) is so_far in none.0 (All-nil (λ e. IsTrue (is_plain_node e.1)))

module _ (B : Block) (left : List (String Global × NodeMetadata)) (e : String Global × NodeMetadata) (es : List (String Global × NodeMetadata)) (is : left ≡ e ∷ es) (so_far : IsLeft B (shown left)) where
  -- the node at hand is the first of those left
  here : IsLeft B ((string_bytes e.0, e.1) ∷ shown es)
  here = subst (λ l. IsLeft B (shown l)) is so_far

  -- a plain node is passed by
  pub plain_passed : is_plain_node e.1 ≡ true → IsLeft B (shown es)
  plain_passed plain = (
    λ rest. here.0 (All-cons (λ d. IsTrue (is_plain_node d.1)) (string_bytes e.0, e.1) (shown es) plain rest),
    λ up. (here.1 up).1,
  )

  -- one that is not has a fraction, at its key
  pub fraction_found : (key : List ℕ) → key ≡ string_bytes e.0 → is_plain_node e.1 ≡ false → HasFractionAt B key
  fraction_found key same plain up = (e.1, ap (node_at_key B) same ∙ (here.1 up).0, plain)

-- ---- the block of the nodes below a group

module _ (store : Contents) (base : Path) (B : Block) (up : IsAscending B) (holds : IsBlockOf (Nodes store Default true base) base B) where
  -- a node of the block that has a fraction is one that a listing finds
  shown_fraction : (p : Path) (key : List ℕ) → p ≡ base ++ relative_names key → HasFractionAt B key → ShowsFraction store base p
  shown_fraction p key is has =
      let found = has up in
      let w = (holds key found.0).0 found.1 in
      let below = w.3.0.below in
      let names : IsPath (w.0 ∷ w.1) = subst IsPath (sym (append_cancel_left base (w.0 ∷ w.1) (below.0 ∷ below.1) below.2)) below.3 in
      let same : p ≡ base ++ w.0 ∷ w.1 = is ∙ ap (λ r. base ++ r) (ap relative_names w.2 ∙ relative_of_text (w.0 ∷ w.1) names) in
      (found.0, subst (λ q. Nodes store Default true base (q, found.0)) (sym same) w.3, found.2)

  -- the fault that names it is one of the block
  block_fraction : (can_fail : Bool) (fault : ToolFault) → IsFractionFault base B fault → IsBlockFault can_fail store base fault
  block_fraction can_fail (Fraction p) h = shown_fraction p h.0 h.1 h.2
  block_fraction can_fail OutOfMemory h = tt
  block_fraction can_fail Usage h = absurd h
  block_fraction can_fail Read h = absurd h
  block_fraction can_fail ReadTooLong h = absurd h
  block_fraction can_fail Image h = absurd h
  block_fraction can_fail (ImageKey name) h = absurd h
  block_fraction can_fail (ImageValue name) h = absurd h
  block_fraction can_fail Folder h = absurd h
  block_fraction can_fail NotAGroup h = absurd h
  block_fraction can_fail (Node e) h = absurd h
  block_fraction can_fail Write h = absurd h

  -- an error that names a fraction is a fault of the block
  pub block_fraction_result : {T : Type 0} (can_fail : Bool) (r : Result T ToolFault) (fault : ToolFault) → r ≡ Err fault → IsFractionFault base B fault → IfErr r (IsBlockFault can_fail store base)
  block_fraction_result can_fail r fault is h = subst (λ x. IfErr x (IsBlockFault can_fail store base)) (sym is) (block_fraction can_fail fault h)

-- ---- whole numbers

-- a store of whole numbers shows no fraction
pub no_fraction : (values : Values) (base p : Path) → ShowsFraction (in_whole_numbers values) base p → ⊥
no_fraction values base p (m, found, not_plain) = true≢false (sym (plain_node (in_whole_numbers values) p refl Default m found.1) ∙ not_plain)
