-- What reads where numbers are whole reads the same where they may be any: a block, and a document `.zmetadata`.
use Rattle.std.proofs.Common.{◌≡◌, ℕ, Bool, true, false, not, ◌&&◌, if◌then◌else◌, List, [], ◌∷◌, Option, Some, None, option_and_then, Result, Ok, Err, codes, refl, ap, ◌∙◌}
use Rattle.std.specs.List.{list_all}
use Rattle.std.specs.Result.{result_ok}
use Rattle.std.proofs.lemmas.Bool.{and_parts, and_from, not-true}
use Rattle.serde_json.specs.Data.{Data, Members, no_members, member}
use Rattle.serde_json.specs.Find.{get as member_of, as_object}
use Rattle.zarrs_store.specs.Segments.{Segments}
use Rattle.zarrs_fault.specs.declared.fault.MetadataFault.{MetadataFault}
use Rattle.zarrs_fault.specs.declared.fault.MetadataFault.TheVariants.{BadMember}
use Rattle.zarrs_fault.specs.declared.numbers.Numbers.{Numbers}
use Rattle.zarrs_fault.specs.declared.numbers.Numbers.TheVariants.{Whole}
use Rattle.zarrs_config.specs.declared.version.MetadataRetrieveVersion.TheVariants.{V2}
use Rattle.zarrs_path.specs.Names.{is_name}
use Rattle.zarrs_path.specs.Paths.{Path}
use Rattle.zarrs_form.specs.Documents as steps
use Rattle.zarrs_form.specs.Documents.{document_in, member_or_fault, form_or_fault, required_member, optional_member}
use Rattle.zarrs_form.specs.Forms as forms
use Rattle.zarrs_meta.specs.Node.{node_in}
use Rattle.zarrs_meta.specs.Laws.{ReadsToo}
use Rattle.zarrs_meaning.proofs.MoreMeanings.{MeansToo, meaning_too, trees_more}
use Rattle.zarrs_meta.proofs.MoreNumbers.{document_too, node_too}
use Rattle.zarrs_block.specs.Block.{inline, untrue, nodes_in, nodes, block_of_in}
use Rattle.zarrs_block.specs.Laws.{WholeBlocksReadTheSame}
use Rattle.zarrs_meaning.specs.DocumentsAtKeys.{in_trees}
use Rattle.zarrs_meaning.specs.Meaning.{Meaning}
use Rattle.zarrs_meaning.specs.Small.{small, small_meaning_in}
use Rattle.zarrs_meaning.specs.Meaning.{is_bad}
use Rattle.zarrs_block.specs.Zmetadata.{before_last, documents_below, is_good, with_node, block_from, block_where_good, small_block_in, zmetadata_members_in, zmetadata_in}

-- ---- steps

-- a step and the next, each of which reads too
then_too : {A B : Type 0} (more r : Result A MetadataFault) (f g : A → Result B MetadataFault) → ReadsToo more r → ((a : A) → ReadsToo (f a) (g a)) → ReadsToo (steps.◌>>=◌ more f) (steps.◌>>=◌ r g)
then_too more (Ok a) f g h k x e = ap (λ s. steps.◌>>=◌ s f) (h a refl) ∙ k a x e
then_too more (Err fault) f g h k x e = cc

-- what reads alike reads too
same_too : {A : Type 0} (r : Result A MetadataFault) → ReadsToo r r
same_too r x e = e

-- a value is found where the other finds one
abbrev FindsToo : {A : Type 0} → Option A → Option A → Type 0
FindsToo {A} more o = (x : A) → o ≡ Some x → more ≡ Some x

-- a step of a form and the next, each of which finds too
some_too : {A B : Type 0} (more o : Option A) (f g : A → Option B) → FindsToo more o → ((a : A) → FindsToo (f a) (g a)) → FindsToo (forms.◌>>=◌ more f) (forms.◌>>=◌ o g)
some_too more (Some a) f g h k x e = ap (λ s. forms.◌>>=◌ s f) (h a refl) ∙ k a x e
some_too more None f g h k x e = cc

-- what reads is found
read_found : {A : Type 0} (more r : Result A MetadataFault) → ReadsToo more r → FindsToo (result_ok more) (result_ok r)
read_found more (Ok a) h x e = ap result_ok (h a refl) ∙ e
read_found more (Err fault) h x e = cc

-- and what is found reads
form_too : {A : Type 0} (name : List ℕ) (more o : Option A) → FindsToo more o → ReadsToo (form_or_fault name more) (form_or_fault name o)
form_too name more (Some a) h x e = ap (form_or_fault name) (h a refl) ∙ e
form_too name more None h x e = cc

-- ---- blocks of version 3

-- the nodes of members
nodes_too : (numbers : Numbers) (ms : Members) → FindsToo (nodes_in numbers ms) (nodes_in Whole ms)
nodes_too numbers no_members = λ x e. e
nodes_too numbers (member t d ms) =
    some_too (result_ok (node_in numbers d)) (result_ok (node_in Whole d)) _ _ (read_found (node_in numbers d) (node_in Whole d) (node_too numbers d))
    (λ m. some_too (nodes_in numbers ms) (nodes_in Whole ms) _ _ (nodes_too numbers ms) (λ B x e. e))

-- those of an object
object_too : (numbers : Numbers) (o : Option Members) → FindsToo (option_and_then (nodes_in numbers) o) (option_and_then (nodes_in Whole) o)
object_too numbers None = λ x e. e
object_too numbers (Some ms) = nodes_too numbers ms

-- a block that reads where numbers are whole reads the same where they may be any
pub block_too : (numbers : Numbers) (d : Data) → ReadsToo (block_of_in numbers d) (block_of_in Whole d)
unfolding block_of_in
block_too numbers d =
    then_too (document_in numbers d) (document_in Whole d) _ _ (document_too numbers d) λ _.
    then_too (required_member (codes "kind") inline d) (required_member (codes "kind") inline d) _ _ (same_too (required_member (codes "kind") inline d)) λ _.
    then_too (optional_member (codes "must_understand") tt untrue d) (optional_member (codes "must_understand") tt untrue d) _ _ (same_too (optional_member (codes "must_understand") tt untrue d)) λ _.
    then_too (member_or_fault (codes "metadata") (member_of (codes "metadata") d)) (member_or_fault (codes "metadata") (member_of (codes "metadata") d)) _ _
    (same_too (member_or_fault (codes "metadata") (member_of (codes "metadata") d))) λ v.
    form_too (codes "metadata") (nodes numbers v) (nodes Whole v) (object_too numbers (as_object v))

-- ---- documents `.zmetadata`

module _ (of less : Path → Meaning) (same : (p : Path) → MeansToo (of p) (less p)) where
  -- where all documents are good, they are so by the other meanings, and the block is the same
  goods_too : (es : List (Segments × Data)) → list_all (λ e. is_good less e.0) es ≡ true → (list_all (λ e. is_good of e.0) es ≡ true) × (block_from of es ≡ block_from less es)
  goods_too [] good = (refl, refl)
  goods_too (e ∷ es) good =
      let both = and_parts (is_good less e.0) (list_all (λ x. is_good less x.0) es) good in
      let p = before_last e.0 in
      let own = and_parts (list_all is_name p) (not (is_bad (less p))) both.0 in
      let alike : of p ≡ less p = same p (not-true (is_bad (less p)) own.1) in
      let rest = goods_too es both.1 in (
        and_from (is_good of e.0) (list_all (λ x. is_good of x.0) es) (ap (λ m. list_all is_name p && not (is_bad m)) alike ∙ both.0) rest.0,
        λ i. with_node p (alike i) (rest.1 i),
      )

  -- a block that reads by the lesser meanings reads the same by the others
  good_too : (es : List (Segments × Data)) → ReadsToo (block_where_good of es) (block_where_good less es)
  good_too es B h = by (list_all (λ e. is_good less e.0) es) refl h
    where
      by : (b : Bool) → list_all (λ e. is_good less e.0) es ≡ b → (if b then Ok (block_from less es) else Err (BadMember (codes "metadata"))) ≡ Ok B → block_where_good of es ≡ Ok B
      by true good e =
          let too = goods_too es good in
          ap (λ b. if b then Ok (block_from of es) else Err (BadMember (codes "metadata"))) too.0 ∙ ap Ok too.1 ∙ e
      by false good e = cc

-- the block of members
small_too : (numbers : Numbers) (ms : Members) → ReadsToo (small_block_in numbers ms) (small_block_in Whole ms)
small_too numbers ms =
    good_too (small_meaning_in numbers (small [] ms)) (small_meaning_in Whole (small [] ms)) (λ p. meaning_too numbers (in_trees numbers) (in_trees Whole) (trees_more numbers) (small [] ms) p V2) (documents_below ms)

-- a document that reads where numbers are whole reads the same where they may be any
pub zmetadata_too : (numbers : Numbers) (d : Data) → ReadsToo (zmetadata_in numbers d) (zmetadata_in Whole d)
unfolding zmetadata_in
zmetadata_too numbers d =
    then_too (zmetadata_members_in numbers d) (zmetadata_members_in Whole d) (small_block_in numbers) (small_block_in Whole)
    (then_too (document_in numbers d) (document_in Whole d) _ _ (document_too numbers d) (λ _. same_too _)) (small_too numbers)

-- ---- laws

-- blocks and documents that read where numbers have to be whole read the same
pub whole_blocks_read_the_same : WholeBlocksReadTheSame
whole_blocks_read_the_same numbers d = (block_too numbers d, zmetadata_too numbers d)
