-- Further names behind a path, by its text.
use Rattle.std.proofs.Common.{◌≡◌, ◌≢◌, ℕ, List, [], ◌∷◌, ◌++◌, sym, ap, ◌∙◌, subst, None, is_none}
use Rattle.std.specs.List.{slice_split}
use Rattle.zarrs_store.specs.Segments.{segments_of, is_slash}
use Rattle.zarrs_path.specs.Paths.{Path, IsPath, IsPathText, names_text, parts, first_bad}
use Rattle.zarrs_path.proofs.PathTexts.{first_bad_none, joined_text, joined_names, parts_some_is}

-- `first_bad` answered None
pub all_names : (rest : List ℕ) → first_bad (slice_split is_slash rest) ≡ None → IsPath (slice_split is_slash rest)
all_names rest e = first_bad_none (slice_split is_slash rest) (ap is_none e)

-- a text of the form that `join` writes
pub joined_is_text : (bs rest : List ℕ) (p : Path) → bs ≡ names_text p ++ 47 ∷ rest → IsPath p → first_bad (slice_split is_slash rest) ≡ None → IsPathText bs
joined_is_text bs rest p e h none = subst IsPathText (sym e) (joined_text p rest h (all_names rest none))

-- the names of a text of that form
pub joined_is_names : (bs rest : List ℕ) (p : Path) → bs ≡ names_text p ++ 47 ∷ rest → IsPath p → rest ≢ [] → first_bad (slice_split is_slash rest) ≡ None → segments_of bs ≡ p ++ parts rest
joined_is_names bs rest p e h some none =
    let same = parts_some_is rest some in
    ap segments_of e ∙ (joined_names p rest h (all_names rest none) ∙ ap (λ q. p ++ q) (sym same))
