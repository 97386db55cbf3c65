-- The texts of names beyond a base.
use Rattle.std.proofs.Common.{◌≡◌, ℕ, List, ◌∷◌, ◌++◌, length, drop, sym, ap, ◌∙◌, subst}
use Rattle.std.proofs.Math.Seq.{drop-append_seam}
use Rattle.std.proofs.lemmas.List.{append_cancel_left}
use Rattle.zarrs_store.specs.Segments.{key_text}
use Rattle.zarrs_path.specs.Paths.{Path, IsPath, IsBelow, names_text, without_leading_slash}
use Rattle.zarrs_path.proofs.PathTexts.{IsPath-parts, slashed-append, slashed-cons}
use Rattle.zarrs_meta.specs.declared.node.NodeMetadata.{NodeMetadata}
use Rattle.zarrs_node.specs.BlocksOfNodes.{text_beyond}
use Rattle.zarrs_node.specs.StepsOfBlocks.{ArePairsBelow, ArePaths}
use Rattle.zarrs_node.specs.Inverse.{HasNames}

-- the text of a path beyond b is that of its names there
pub text_is : (b p : Path) (n : List ℕ) (ns : Path) → p ≡ b ++ n ∷ ns → text_beyond b p ≡ key_text (n ∷ ns)
text_is b p n ns is = ap key_text (ap (drop (length b)) is ∙ drop-append_seam b (n ∷ ns))

-- what stands behind the base's own names, without its slash, is the text of a path beyond it
pub rest_is : (b p : Path) (rest r : List ℕ) → IsBelow b p → names_text p ≡ names_text b ++ rest → r ≡ without_leading_slash rest → r ≡ text_beyond b p
rest_is b p rest r (n, ns, is) cut stripped =
    let behind : rest ≡ names_text (n ∷ ns) = append_cancel_left (names_text b) rest (names_text (n ∷ ns)) (sym cut ∙ ap names_text is ∙ slashed-append b (n ∷ ns)) in
    stripped ∙ ap without_leading_slash (behind ∙ slashed-cons n ns) ∙ sym (text_is b p n ns is)

-- paths below b have names beyond it
pub names_of : (b : Path) (es : List (Path × NodeMetadata)) → ArePairsBelow b es → ArePaths es → HasNames b es
names_of b es below valid e in' =
    let w = below e in' in
    (w.0, w.1, w.2, (IsPath-parts b (w.0 ∷ w.1) (subst IsPath w.2 (valid e in'))).1)
