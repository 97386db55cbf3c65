-- What is written of a node is read as that node.
use Rattle.std.proofs.Common.{◌≡◌, ℕ, List, Option, Some, None, IfSome, IsTrue, subst}
use Rattle.serde_json.specs.Data.{Data}
use Rattle.zarrs_fault.specs.declared.numbers.Numbers.{Numbers}
use Rattle.zarrs_form.specs.DocumentTexts.{IsTextOf}
use Rattle.zarrs_meta.specs.Node.{node_tree, is_plain_node_in}
use Rattle.zarrs_meta.specs.NodeDocuments.{ReadsAsIn}
use Rattle.zarrs_meta.specs.declared.node.NodeMetadata.{NodeMetadata}
use Rattle.zarrs_meta.proofs.NodeLaws.{node_again_in}

-- the text of a node that is plain in these numbers is read in them as the node
pub text_reads : (numbers : Numbers) (bytes : List ℕ) (m : NodeMetadata) → IsTextOf bytes (node_tree m) → IsTrue (is_plain_node_in numbers m) → ReadsAsIn numbers bytes m
text_reads numbers bytes m text plain = rw text.reads (node_again_in numbers m plain)

-- where there is such a text, it is read so
pub found_reads : {A : Type 0} (items : A → List ℕ) (numbers : Numbers) (found : Option A) (d : Data) (m : NodeMetadata) → IfSome found (λ bytes. IsTextOf (items bytes) d) → d ≡ node_tree m
    → IsTrue (is_plain_node_in numbers m) → IfSome found (λ bytes. ReadsAsIn numbers (items bytes) m)
found_reads items numbers None d m text is plain = tt
found_reads items numbers (Some bytes) d m text is plain = text_reads numbers (items bytes) m (subst (IsTextOf (items bytes)) is text) plain
