-- When two keys or two prefixes are one, by their texts.
use Rattle.std.proofs.Common.{◌≡◌, ℕ, Bool, List, sym, ap, ◌∙◌}
use Rattle.std.specs.Prelude.{◌↔◌, IsTrue}
use Rattle.std.proofs.lemmas.Slice.Eq.{bytes_eq-Decides}
use Rattle.zarrs_store.specs.Segments.{Segments, segments_of, key_text, prefix_text, bytes_eq, IsKey, IsPrefix}
use Rattle.zarrs_store.proofs.Cuts.{segments_of-key_text, segments_of-prefix_text, segments_test}

-- lists of segments are one where their texts are, if these are cut into them again
same_by_text : (text : Segments → List ℕ) (a b : Segments) (s t : List ℕ) (r : Bool) → s ≡ text a → t ≡ text b
    → segments_of (text a) ≡ a → segments_of (text b) ≡ b → r ≡ bytes_eq s t → IsTrue r ↔ (a ≡ b)
same_by_text text a b s t r sa tb cut_a cut_b e =
    let d = bytes_eq-Decides s t in (
      λ same. sym cut_a ∙ ap segments_of (sym sa ∙ d.0 (sym e ∙ same) ∙ tb) ∙ cut_b,
      λ same. e ∙ d.1 (sa ∙ ap text same ∙ sym tb),
    )

-- two keys are one where their texts are
pub same_keys : (a b : Segments) (s t : List ℕ) (r : Bool) → s ≡ key_text a → t ≡ key_text b → IsKey a → IsKey b → r ≡ bytes_eq s t → IsTrue r ↔ (a ≡ b)
same_keys a b s t r sa tb va vb e = same_by_text key_text a b s t r sa tb (segments_of-key_text a va) (segments_of-key_text b vb) e

-- two prefixes are one where their texts are
pub same_prefixes : (a b : Segments) (s t : List ℕ) (r : Bool) → s ≡ prefix_text a → t ≡ prefix_text b → IsPrefix a → IsPrefix b → r ≡ bytes_eq s t → IsTrue r ↔ (a ≡ b)
same_prefixes a b s t r sa tb va vb e =
    same_by_text prefix_text a b s t r sa tb (segments_of-prefix_text a (segments_test a va)) (segments_of-prefix_text b (segments_test b vb)) e
