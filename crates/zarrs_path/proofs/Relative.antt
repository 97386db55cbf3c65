-- The relative text of names, which `join` reads back.
use Rattle.std.proofs.Common.{◌≡◌, ◌≢◌, ℕ, true, false, not, List, [], ◌∷◌, ◌++◌, refl, ap, ◌∙◌, IsTrue}
use Rattle.std.specs.List.{list_all}
use Rattle.std.proofs.lemmas.Bool.{and_parts, not-true}
use Rattle.std.proofs.lemmas.List.Splits.{join_with_byte-slice_split}
use Rattle.zarrs_store.specs.Segments.{is_slash, has_no_slash, key_text}
use Rattle.zarrs_store.proofs.Cuts.{parts-join, segments_clean}
use Rattle.zarrs_path.specs.Names.{is_name}
use Rattle.zarrs_path.specs.Paths.{Path, IsPath, relative_names, parts, without_leading_slash}
use Rattle.zarrs_path.proofs.PathTexts.{segment_from_name, segments_from_names, parts_some_is}

-- a text that begins with another byte keeps it
keeps_first : (b : ℕ) (bs : List ℕ) → is_slash b ≡ false → without_leading_slash (b ∷ bs) ≡ b ∷ bs
keeps_first b bs other = rw other refl

-- the text of names begins with no slash
names_keep : (p : Path) → IsPath p → without_leading_slash (key_text p) ≡ key_text p
names_keep [] h = refl
names_keep ([] ∷ p) h = let f : false ≡ true = h in cc
names_keep ((b ∷ n) ∷ p) h =
    let name : IsTrue (is_name (b ∷ n)) = (and_parts (is_name (b ∷ n)) (list_all is_name p) h).0 in
    let clean : IsTrue (has_no_slash (b ∷ n)) = (and_parts true (has_no_slash (b ∷ n)) (segment_from_name (b ∷ n) name)).1 in
    let no : is_slash b ≡ false = not-true (is_slash b) (and_parts (not (is_slash b)) (has_no_slash n) clean).0 in
    let P : Path → Type 0 = λ p. without_leading_slash (key_text ((b ∷ n) ∷ p)) ≡ key_text ((b ∷ n) ∷ p) in
    let all : (p : Path) → P p = elim [ [] ↦ keeps_first b n no | ◌∷◌ m q ↦ keeps_first b (n ++ 47 ∷ key_text (m ∷ q)) no ] in
    all p

-- the text of names, if there are any, is not empty
key_some : (p : Path) → IsPath p → p ≢ [] → key_text p ≢ []
key_some [] h some e = some refl
key_some ([] ∷ p) h some e = let f : false ≡ true = h in cc
key_some ((b ∷ n) ∷ []) h some e = cc
key_some ((b ∷ n) ∷ m ∷ p) h some e = cc

-- the text of names is cut into them
names_parts : (p : Path) → IsPath p → parts (key_text p) ≡ p
names_parts [] h = refl
names_parts (n ∷ p) h =
    parts_some_is (key_text (n ∷ p)) (key_some (n ∷ p) h (λ e. cc)) ∙ parts-join (n ∷ p) (λ e. cc) (segments_clean (n ∷ p) (segments_from_names (n ∷ p) h))

-- names joined by slashes are read back, also behind a slash
pub relative_of_text : (p : Path) → IsPath p → relative_names (key_text p) ≡ p
relative_of_text p h = ap parts (names_keep p h) ∙ names_parts p h

-- the same behind a slash
pub relative_of_slashed : (p : Path) → IsPath p → relative_names (47 ∷ key_text p) ≡ p
relative_of_slashed p h = names_parts p h

-- a text is its relative names joined, after one leading slash
pub text_of_relative : (rel : List ℕ) → key_text (relative_names rel) ≡ without_leading_slash rel
text_of_relative rel =
    let P : List ℕ → Type 0 = λ t. key_text (parts t) ≡ t in
    let all : (t : List ℕ) → P t = elim [ [] ↦ refl | ◌∷◌ b t ↦ join_with_byte-slice_split 47 (b ∷ t) ] in
    all (without_leading_slash rel)
