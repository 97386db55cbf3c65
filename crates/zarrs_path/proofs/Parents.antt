-- The path above a path, by its text.
use Rattle.std.proofs.Common.{zero, suc, refl, ◌≡◌, ◌≢◌, ℕ, ◌<◌, ◌+◌, List, [], ◌∷◌, ◌++◌, sym, ap, ◌∙◌, subst, take, drop, length, get_or, Option, unwrap_or, MatchOption}
use Rattle.zarrs_store.specs.Segments.{segments_of}
use Rattle.zarrs_path.specs.Paths.{Path, IsPath, IsPathText}
use Rattle.zarrs_path.proofs.ByteTests.{IsLastSlash, last_slash_is}
use Rattle.zarrs_path.proofs.PathTexts.{IsCutAt, cut_last, slash_from_text, path_of_text, valid_of_text, slashed_nil, text_from_slashed, segments_of-slashed, segments_from_names}

-- the text of a path that is not the root, cut at the slash that `rfind('/').unwrap_or(0)` finds
pub parent_cut : (bs text : List ℕ) (p : Path) (r : Option ℕ) (at : ℕ) → IsPathText bs → text ≡ bs → segments_of bs ≡ p → p ≢ []
    → MatchOption r ((i : ℕ) → i < length text → get_or text i 0 ≢ 47) (λ k. (k < length text) × (get_or text k 0 ≡ 47) × ((i : ℕ) → k < i → i < length text → get_or text i 0 ≢ 47))
    → at ≡ unwrap_or r 0 → IsCutAt p (take at text)
parent_cut bs text p r at t same view some m is =
    let t' : IsPathText text = subst IsPathText (sym same) t in
    let view' : segments_of text ≡ p = ap segments_of same ∙ view in
    let slash = slash_from_text text t' in
    let last : IsLastSlash text at = last_slash_is text slash.0 r at slash.1 m is in
    let P : Path → Type 0 = λ p. IsCutAt p (take at text) in
    subst P view' (cut_last (segments_of text) (take at text) (drop (at + 1) text) (valid_of_text text t') (λ e. some (sym view' ∙ e)) (path_of_text text t' ∙ last.cut) last.clean)

-- a path with nothing before its last slash has the root as its parent
pub root_parent : (p q : Path) (front : List ℕ) → IsCutAt p front → front ≡ [] → q ≡ [] → (n : List ℕ) × (p ≡ q ++ n ∷ [])
root_parent p q front cut e none =
    (cut.name, cut.whole ∙ ap (λ q. q ++ cut.name ∷ []) (slashed_nil cut.upper (cut.text ∙ e) ∙ sym none))

-- what stands before the last slash is the text of a path
pub upper_text : (p : Path) (front : List ℕ) → IsCutAt p front → front ≢ [] → IsPathText front
upper_text p front cut some = text_from_slashed cut.upper front cut.valid cut.text some

-- its names are those of the parent
pub upper_parent : (p : Path) (front : List ℕ) → IsCutAt p front → (n : List ℕ) × (p ≡ segments_of front ++ n ∷ [])
upper_parent p front cut =
    (cut.name, cut.whole ∙ ap (λ q. q ++ cut.name ∷ []) (sym (segments_of-slashed cut.upper (segments_from_names cut.upper cut.valid)) ∙ ap segments_of cut.text))

-- the names before the last slash are a path
pub upper_valid : (p : Path) (front : List ℕ) → IsCutAt p front → IsPath (segments_of front)
upper_valid p front cut =
    subst IsPath (sym (segments_of-slashed cut.upper (segments_from_names cut.upper cut.valid)) ∙ ap segments_of cut.text) cut.valid

-- the first bytes of a text are some, if any are taken
pub take_some : (at : ℕ) (bs : List ℕ) → (at ≡ 0 → ⊥) → bs ≢ [] → take at bs ≢ []
take_some zero bs n some e = n refl
take_some (suc at) [] n some e = some refl
take_some (suc at) (b ∷ bs) n some e = cc

-- the text of a path is not empty
pub path_some : (bs : List ℕ) → IsPathText bs → bs ≢ []
path_some bs t e = let slash = slash_from_text bs t in let f : 47 ∷ slash.0 ≡ [] = sym slash.1 ∙ e in cc
