-- The block of the nodes that a listing finds.
use Rattle.std.proofs.Common.{◌≡◌, ◌⊎◌, inl, inr, ⊎_elim, ℕ, Bool, true, false, List, [], ◌∷◌, ◌++◌, Result, Ok, Err, IfErr, IsTrue, if◌then◌else◌, refl, sym, subst, ◌∙◌}
use Rattle.std.specs.Result.{IsErrAnd}
use Rattle.serde_json.specs.Data.{Data, Members}
use Rattle.serde_json.specs.Written.{has_float}
use Rattle.zarrs_store.specs.Contents.{Contents}
use Rattle.zarrs_fault.specs.declared.numbers.Numbers.{Numbers}
use Rattle.zarrs_fault.specs.declared.numbers.Numbers.TheVariants.{Whole}
use Rattle.zarrs_fault.specs.declared.fault.MetadataFault.{MetadataFault}
use Rattle.zarrs_fault.specs.declared.fault.MetadataFault.TheVariants.{UnsupportedNumber}
use Rattle.zarrs_path.specs.Paths.{Path, IsPath, path_text}
use Rattle.zarrs_config.specs.declared.version.MetadataRetrieveVersion.TheVariants.{Default}
use Rattle.zarrs_config.specs.declared.version.UseConsolidatedMetadata.TheVariants.{Never}
use Rattle.zarrs_form.specs.Documents.{◌>>=◌, object_of}
use Rattle.zarrs_meta.specs.Node.{is_group}
use Rattle.zarrs_meta.specs.declared.node.NodeMetadata.{NodeMetadata}
use Rattle.zarrs_meta.specs.declared.node.NodeMetadata.TheVariants.{Group, Array}
use Rattle.zarrs_block.specs.Block.{Block, HasPlainNodesIn, IsAscending, IsBlockOf, block_of, block_of_in, block_tree}
use Rattle.zarrs_meaning.specs.Meaning.{Means, meaning, node, nothing, bad}
use Rattle.zarrs_meaning.specs.Refusals.{IsExcused, IsMissing}
use Rattle.zarrs_meaning.specs.declared.node_create_error.NodeCreateError.{NodeCreateError}
use Rattle.zarrs_node.specs.Nodes.{Nodes, Bad, ShowsBad}
use Rattle.zarrs_block.proofs.BlockReads.{block_again}
use Rattle.zarrs_node.proofs.Inverse.{kept_reads_back}
use Rattle.zarrs_hierarchy.proofs.OpenedPairs.{below_refused}
use Rattle.zarrs_group.specs.StoredTexts.{pretty_text}
use Rattle.zarrs_tool.specs.Output.{IsBlockText}
use Rattle.zarrs_tool.specs.declared.fault.ToolFault.{ToolFault}
use Rattle.zarrs_tool.specs.declared.fault.ToolFault.TheVariants.{Node}
use Rattle.zarrs_tool.specs.StepsOfRuns.{IsArray, RefusesOpen, IsBlockFault}
use Rattle.zarrs_meaning.proofs.PlainMeanings.{plain_node}

-- what was read as a document has numbers that fit
fits_first : (b : Bool) (d : Data) (rest : Members → Result Block MetadataFault) (B : Block) → ((if b then Err UnsupportedNumber else object_of d) >>= rest) ≡ Ok B → b ≡ false
fits_first true d rest B e = cc e
fits_first false d rest B e = refl

-- a tree that reads as a block has numbers that fit
read_no_float : (d : Data) (B : Block) → block_of d ≡ Ok B → has_float d ≡ false
unfolding block_of_in
read_no_float d B e = fits_first (has_float d) d _ B e

-- a block of the nodes of a store of whole numbers reads back, and so does one of plain nodes
block_read : (store : Contents) (base : Path) (B : Block) (numbers : Numbers) → numbers ≡ store.numbers → (numbers ≡ Whole) ⊎ HasPlainNodesIn Whole B → IsAscending B → IsBlockOf (Nodes store Default true base) base B
    → block_of (block_tree B) ≡ Ok B
block_read store base B numbers are whole up holds =
    ⊎_elim
    (λ all. kept_reads_back Whole (Means (meaning store Default)) base B (λ e k. plain_node store e.0 (sym are ∙ all) Default e.1 k.1) up holds)
    (λ plain. block_again B plain)
    whole

-- the layout of the block of the nodes below a group is what is to be written
pub block_written : (store : Contents) (base : Path) (m : NodeMetadata) (B : Block) (text : List ℕ) (numbers : Numbers)
    → meaning store Default base ≡ node m → IsTrue (is_group m) → IsAscending B → IsBlockOf (Nodes store Default true base) base B → (Bad store Default true base → ⊥)
    → numbers ≡ store.numbers → (numbers ≡ Whole) ⊎ HasPlainNodesIn Whole B → (has_float (block_tree B) ≡ false → text ≡ pretty_text (block_tree B) ++ 10 ∷ []) → IsBlockText store base text
block_written store base (Array a) B text numbers means group up holds clean are whole layout = let no : false ≡ true = group in cc no
block_written store base (Group g) B text numbers means group up holds clean are whole layout = record {
  group = g;
  means = means;
  block = B;
  ascending = up;
  holds = holds;
  is = layout (read_no_float (block_tree B) B (block_read store base B numbers are whole up holds));
  clean = clean;
}

-- a node that is no group is an array
pub array_means : (store : Contents) (base : Path) (m : NodeMetadata) → meaning store Default base ≡ node m → is_group m ≡ false → IsArray store base
array_means store base (Array a) means other = (a, means)
array_means store base (Group g) means other = let no : true ≡ false = other in cc no

-- a refusal of the node is one of the opening
pub node_refused : (can_fail : Bool) (store : Contents) (base : Path) (e : NodeCreateError) → IsPath base
    → IsExcused can_fail e ⊎ ((meaning store Default base ≡ nothing) × IsMissing base e) ⊎ (meaning store Default base ≡ bad e) → RefusesOpen can_fail store Never base e
node_refused can_fail store base e valid h = ⊎_elim inl (λ why. inr (inr (base, valid, refl, inl why))) h

-- an error of what is below a group refuses opening
pub listing_refused : (can_fail : Bool) (store : Contents) (base : Path) (m : NodeMetadata) (e : NodeCreateError) → IsPath base → meaning store Default base ≡ node m → IsTrue (is_group m)
    → IsExcused can_fail e ⊎ ShowsBad store Default true base e → RefusesOpen can_fail store Never base e
listing_refused can_fail store base (Array a) e valid means group h = let no : false ≡ true = group in cc no
listing_refused can_fail store base (Group g) e valid means group h = below_refused can_fail store Default Never (path_text base) base (Group g) e valid refl means h

-- a fault that holds such a refusal is one of the block
pub listing_fault : {A : Type 0} (r : Result A ToolFault) (can_fail : Bool) (store : Contents) (base : Path) (m : NodeMetadata) (e : NodeCreateError) → IsErrAnd r (λ fault. fault ≡ Node e)
    → IsPath base → meaning store Default base ≡ node m → IsTrue (is_group m) → IsExcused can_fail e ⊎ ShowsBad store Default true base e → IfErr r (IsBlockFault can_fail store base)
listing_fault (Ok a) can_fail store base m e is valid means group h = tt
listing_fault (Err fault) can_fail store base m e is valid means group h = subst (IsBlockFault can_fail store base) (sym is) (listing_refused can_fail store base m e valid means group h)
