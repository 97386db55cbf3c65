-- The number of names of a path, by its text.
use Rattle.std.proofs.Common.{◌≡◌, ◌≢◌, ℕ, ◌+◌, List, [], ◌∷◌, length, refl, ap, ◌∙◌, arith}
use Rattle.std.specs.List.{count_by, filter, slice_split}
use Rattle.std.proofs.lemmas.List.Sums.{length-filter}
use Rattle.std.proofs.lemmas.List.Splits.{length-slice_split}
use Rattle.zarrs_store.specs.Segments.{is_slash}
use Rattle.zarrs_path.specs.Paths.{Path, IsPath, path_text}
use Rattle.zarrs_path.proofs.PathTexts.{parts-path_text}

-- a path with names has a slash for each
slashes : (n : List ℕ) (p : Path) → IsPath (n ∷ p) → count_by is_slash (path_text (n ∷ p)) ≡ length (n ∷ p)
slashes n p h =
    let cut = length-slice_split is_slash (path_text (n ∷ p)) in
    let whole : length (slice_split is_slash (path_text (n ∷ p))) ≡ length (n ∷ p) + 1 = ap length (parts-path_text (n ∷ p) h) ∙ omega arith in
    omega (arith, cut, whole)

-- the slashes of the text of a path that is not the root are as many as its names
pub depth_of : (p : Path) (text : List ℕ) (n : ℕ) → IsPath p → text ≡ path_text p → n ≡ length (filter is_slash text) → p ≢ [] → n ≡ length p
depth_of [] text n h t e some = absurd (some refl)
depth_of (m ∷ p) text n h t e some = e ∙ length-filter is_slash text ∙ ap (count_by is_slash) t ∙ slashes m p h
