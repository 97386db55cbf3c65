-- The texts of paths, and the paths that they are cut into.
use Rattle.std.proofs.Common.{is_none, Some, None, ◌≡◌, ◌≢◌, ℕ, Bool, true, false, cond, not, ◌&&◌, List, [], ◌∷◌, ◌++◌, refl, sym, ap, ◌∙◌, subst, IsTrue, append-nil}
use Rattle.std.specs.List.{slice_split, list_all}
use Rattle.std.proofs.lemmas.List.Splits.{join_with_byte-slice_split}
use Rattle.std.proofs.lemmas.Bool.{and_parts, and_from}
use Rattle.zarrs_store.specs.Segments.{segments_of, key_text, is_segment, is_nonempty, has_no_slash, is_slash}
use Rattle.zarrs_store.specs.StepsOfStores.{IsSegments}
use Rattle.zarrs_store.proofs.Cuts.{segments_of-append, segments_of_one, segments_of-nil, parts-join, parts_some, segments_clean}
use Rattle.zarrs_path.specs.Names.{is_name, is_all_periods, is_reserved}
use Rattle.std.proofs.lemmas.Grind.{flat_map-append}
use Rattle.std.proofs.lemmas.List.Folds.{list_all-append}
use Rattle.std.specs.Ordering.{nat_cmp}
use Rattle.std.specs.Cmp.Lexicographic.{slice_cmp}
use Rattle.zarrs_path.specs.Paths.{path_cmp, parts, Path, IsPath, IsPathText, path_text, names_text, first_bad}

-- a name is a segment of a key
pub segment_from_name : (n : List ℕ) → IsTrue (is_name n) → IsTrue (is_segment n)
segment_from_name n h =
    let some = and_parts (is_nonempty n) (has_no_slash n && (not (is_all_periods n) && not (is_reserved n))) h in
    let clean = and_parts (has_no_slash n) (not (is_all_periods n) && not (is_reserved n)) some.1 in
    and_from (is_nonempty n) (has_no_slash n) some.0 clean.0

-- the names of a path are segments
pub segments_from_names : (p : Path) → IsPath p → IsSegments p
segments_from_names [] h = refl
segments_from_names (n ∷ p) h =
    let both = and_parts (is_name n) (list_all is_name p) h in
    and_from (is_segment n) (list_all is_segment p) (segment_from_name n both.0) (segments_from_names p both.1)

-- a name, and then names with a slash before each
segments_of_first : (n : List ℕ) (p : Path) → IsTrue (is_segment n) → IsSegments p → segments_of (n ++ names_text p) ≡ n ∷ p
segments_of_first n [] h hs = rw (append-nil n) (segments_of_one n h)
segments_of_first n (m ∷ p) h hs =
    let both = and_parts _ _ hs in
    segments_of-append n (m ++ names_text p) ∙ rw (segments_of_one n h, segments_of_first m p both.0 both.1) refl

-- segments with a slash before each are cut into themselves
pub segments_of-slashed : (p : Path) → IsSegments p → segments_of (names_text p) ≡ p
segments_of-slashed [] h = segments_of-nil
segments_of-slashed (n ∷ p) h =
    let both = and_parts _ _ h in
    segments_of-append [] (n ++ names_text p) ∙ rw (segments_of-nil, segments_of_first n p both.0 both.1) refl

-- the text of segments as a path is cut into them
pub cut_path_text : (p : Path) → IsSegments p → segments_of (path_text p) ≡ p
cut_path_text [] h = segments_of-append [] [] ∙ rw (segments_of-nil) refl
cut_path_text (n ∷ p) h = segments_of-slashed (n ∷ p) h

-- the text of a path is cut into its names
pub segments_of-path_text : (p : Path) → IsPath p → segments_of (path_text p) ≡ p
segments_of-path_text p h = cut_path_text p (segments_from_names p h)

-- the text of a path is that of the names that it is cut into
pub path_of_text : (bs : List ℕ) → IsPathText bs → path_text (segments_of bs) ≡ bs
path_of_text bs t =
    let P : List ℕ → Type 0 = λ bs. path_text (segments_of bs) ≡ bs in
    subst P t.text (rw (segments_of-path_text t.path t.valid) refl)

-- what the text of a path is cut into is a path
pub valid_of_text : (bs : List ℕ) → IsPathText bs → IsPath (segments_of bs)
valid_of_text bs t =
    let P : List ℕ → Type 0 = λ bs. IsPath (segments_of bs) in
    subst P t.text (rw (segments_of-path_text t.path t.valid) t.valid)

-- ---- the names after the first slash

-- names with a slash before each are a slash, and the names joined by slashes
pub slashed-cons : (n : List ℕ) (p : Path) → names_text (n ∷ p) ≡ 47 ∷ key_text (n ∷ p)
slashed-cons n [] = rw (append-nil n) refl
slashed-cons n (m ∷ p) = ap (λ t. 47 ∷ (n ++ t)) (slashed-cons m p)

-- the same of the text of a path with names
pub path_text_some : (p : Path) → p ≢ [] → path_text p ≡ 47 ∷ key_text p
path_text_some [] some = absurd (some refl)
path_text_some (n ∷ p) some = slashed-cons n p

-- where no part is bad, the parts are a path
pub first_bad_none : (p : Path) → IsTrue (is_none (first_bad p)) → IsPath p
first_bad_none [] h = refl
first_bad_none (n ∷ p) h =
    let P : Bool → Type 0 = λ t. is_name n ≡ t → IsTrue (is_none (cond (not t) (Some n) (first_bad p))) → IsPath (n ∷ p) in
    let all : (t : Bool) → P t = elim [ true ↦ λ e h. and_from (is_name n) (list_all is_name p) e (first_bad_none p h) | false ↦ λ e h. cc ] in
    all (is_name n) refl h

-- a path has no bad part
pub none_first_bad : (p : Path) → IsPath p → first_bad p ≡ None
none_first_bad [] h = refl
none_first_bad (n ∷ p) h =
    let both = and_parts (is_name n) (list_all is_name p) h in rw (both.0) (none_first_bad p both.1)

-- a text of a slash, and then names
pub text_from_names : (rest : List ℕ) → IsPath (slice_split is_slash rest) → IsPathText (47 ∷ rest)
text_from_names rest h = record {
  path = slice_split is_slash rest;
  valid = h;
  text = path_text_some (slice_split is_slash rest) (parts_some rest) ∙ ap (λ t. 47 ∷ t) (join_with_byte-slice_split 47 rest);
}

-- what follows the slash is nothing, or names
pub names_from_text : (rest : List ℕ) → IsPathText (47 ∷ rest) → rest ≢ [] → IsPath (slice_split is_slash rest)
names_from_text rest t some =
    let P : Path → Type 0 = λ p. IsPath p → path_text p ≡ 47 ∷ rest → IsPath (slice_split is_slash rest) in
    let all : (p : Path) → P p = elim [
      | [] ↦ λ h e. let same : [] ≡ rest = cc in absurd (some (sym same))
      | ◌∷◌ n p ↦ λ h e.
          let same : key_text (n ∷ p) ≡ rest = let f = slashed-cons n p in cc in
          let parts : slice_split is_slash (key_text (n ∷ p)) ≡ n ∷ p = parts-join (n ∷ p) (λ e. cc) (segments_clean (n ∷ p) (segments_from_names (n ∷ p) h)) in
          rw (← same, parts) h
    ] in
    all t.path t.valid t.text

-- the text of a path begins with a slash
pub slash_from_text : (bs : List ℕ) → IsPathText bs → (rest : List ℕ) × (bs ≡ 47 ∷ rest)
slash_from_text bs t =
    let P : Path → Type 0 = λ p. path_text p ≡ bs → (rest : List ℕ) × (bs ≡ 47 ∷ rest) in
    let all : (p : Path) → P p = elim [ [] ↦ λ e. ([], sym e) | ◌∷◌ n p ↦ λ e. (key_text (n ∷ p), sym e ∙ slashed-cons n p) ] in
    all t.path t.text

-- ---- whole paths

-- names in a row stand one after another in the text
pub slashed-append : (p q : Path) → names_text (p ++ q) ≡ names_text p ++ names_text q
slashed-append p q = flat_map-append (λ n. 47 ∷ n) p q

-- the text of a path with names has a slash before each
pub path_text-slashed : (p : Path) → p ≢ [] → path_text p ≡ names_text p
path_text-slashed [] some = absurd (some refl)
path_text-slashed (n ∷ p) some = refl

-- only the root has no slashed names
pub slashed_nil : (p : Path) → names_text p ≡ [] → p ≡ []
slashed_nil [] e = refl
slashed_nil (n ∷ p) e = cc

-- two paths in a row are a path
pub IsPath-append : (p q : Path) → IsPath p → IsPath q → IsPath (p ++ q)
IsPath-append p q h k = list_all-append is_name p q ∙ and_from (list_all is_name p) (list_all is_name q) h k

-- both parts of a path are paths
pub IsPath-parts : (p q : Path) → IsPath (p ++ q) → IsPath p × IsPath q
IsPath-parts p q h = and_parts (list_all is_name p) (list_all is_name q) (sym (list_all-append is_name p q) ∙ h)

-- a path that is not the root has a last name
pub last_name : (p : Path) → p ≢ [] → (q : Path) × (n : List ℕ) × (p ≡ q ++ n ∷ [])
last_name [] some = absurd (some refl)
last_name (n ∷ []) some = ([], n, refl)
last_name (n ∷ m ∷ p) some =
    let back = last_name (m ∷ p) (λ e. cc) in
    (n ∷ back.0, back.1, ap (λ t. n ∷ t) back.2)

-- a text with a slash does not pass as one without
slash_not_clean : (ys m : List ℕ) → IsTrue (has_no_slash (ys ++ 47 ∷ m)) → ⊥
slash_not_clean [] m h = let f : false ≡ true = h in cc
slash_not_clean (y ∷ ys) m h = slash_not_clean ys m (and_parts (not (is_slash y)) (has_no_slash (ys ++ 47 ∷ m)) h).1

-- the last slash of a text
last_slash_same : (xs ys n m : List ℕ) → xs ++ 47 ∷ n ≡ ys ++ 47 ∷ m → IsTrue (has_no_slash n) → IsTrue (has_no_slash m) → xs ≡ ys
last_slash_same [] [] n m e h k = refl
last_slash_same [] (y ∷ ys) n m e h k =
    let same : n ≡ ys ++ 47 ∷ m = cc in absurd (slash_not_clean ys m (ap has_no_slash (sym same) ∙ h))
last_slash_same (x ∷ xs) [] n m e h k =
    let same : m ≡ xs ++ 47 ∷ n = cc in absurd (slash_not_clean xs n (ap has_no_slash (sym same) ∙ k))
last_slash_same (x ∷ xs) (y ∷ ys) n m e h k =
    let head : x ≡ y = cc in
    let tail : xs ++ 47 ∷ n ≡ ys ++ 47 ∷ m = cc in
    let more = last_slash_same xs ys n m tail h k in cc

-- a path whose text is cut at its last slash
pub record IsCutAt (p : Path) (front : List ℕ) : Type 0 where
  pub upper : Path
  pub name : List ℕ
  pub whole : p ≡ upper ++ name ∷ []
  pub valid : IsPath upper
  pub text : names_text upper ≡ front

-- where the text of a path is cut at its last slash, what stands before is the text of the upper names
pub cut_last : (p : Path) (front last : List ℕ) → IsPath p → p ≢ [] → path_text p ≡ front ++ 47 ∷ last → IsTrue (has_no_slash last) → IsCutAt p front
cut_last p front last h some e clean =
    let view = last_name p some in
    let q : Path = view.0 in
    let n : List ℕ = view.1 in
    let whole : p ≡ q ++ n ∷ [] = view.2 in
    let both : IsPath q × IsPath (n ∷ []) = IsPath-parts q (n ∷ []) (subst IsPath whole h) in
    let text : names_text q ++ 47 ∷ n ≡ front ++ 47 ∷ last =
    let one : names_text (n ∷ []) ≡ 47 ∷ n = ap (λ t. 47 ∷ t) (append-nil n) in
    ap (λ t. names_text q ++ t) (sym one) ∙ (sym (slashed-append q (n ∷ [])) ∙ (ap names_text (sym whole) ∙ (sym (path_text-slashed p some) ∙ e))) in
    let one_segment : IsTrue (is_segment n) = segment_from_name n (and_parts (is_name n) true both.1).0 in
    record { upper = q; name = n; whole = whole; valid = both.0; text = last_slash_same (names_text q) front n last text (and_parts (is_nonempty n) (has_no_slash n) one_segment).1 clean }

-- slashed names, if there are any, are the text of a path
pub text_from_slashed : (q : Path) (front : List ℕ) → IsPath q → names_text q ≡ front → front ≢ [] → IsPathText front
text_from_slashed q front h e some =
    record { path = q; valid = h; text = path_text-slashed q (λ none. some (sym e ∙ ap names_text none)) ∙ e }

-- ---- further names

-- the parts of a text that is not empty are what stands between its slashes
pub parts_some_is : (rest : List ℕ) → rest ≢ [] → parts rest ≡ slice_split is_slash rest
parts_some_is [] some = absurd (some refl)
parts_some_is (b ∷ rest) some = refl

-- the parts of a text with a slash before each are the text behind a slash
pub slashed_parts : (rest : List ℕ) → names_text (slice_split is_slash rest) ≡ 47 ∷ rest
slashed_parts rest =
    sym (path_text-slashed (slice_split is_slash rest) (parts_some rest)) ∙ (path_text_some (slice_split is_slash rest) (parts_some rest) ∙ ap (λ t. 47 ∷ t) (join_with_byte-slice_split 47 rest))

-- a path and the parts of a rest, slashed
pub joined_slashed : (p : Path) (rest : List ℕ) → names_text (p ++ slice_split is_slash rest) ≡ names_text p ++ 47 ∷ rest
joined_slashed p rest = slashed-append p (slice_split is_slash rest) ∙ ap (λ t. names_text p ++ t) (slashed_parts rest)

-- a list with further elements is not empty
some_append : (p q : Path) → q ≢ [] → p ++ q ≢ []
some_append [] q some e = some e
some_append (n ∷ p) q some e = cc

-- the text of a path, a slash and names is the text of a path
pub joined_text : (p : Path) (rest : List ℕ) → IsPath p → IsPath (slice_split is_slash rest) → IsPathText (names_text p ++ 47 ∷ rest)
joined_text p rest h k = record {
  path = p ++ slice_split is_slash rest;
  valid = IsPath-append p (slice_split is_slash rest) h k;
  text = path_text-slashed (p ++ slice_split is_slash rest) (some_append p (slice_split is_slash rest) (parts_some rest)) ∙ joined_slashed p rest;
}

-- that text is cut into the names of the path and the further names
pub joined_names : (p : Path) (rest : List ℕ) → IsPath p → IsPath (slice_split is_slash rest) → segments_of (names_text p ++ 47 ∷ rest) ≡ p ++ slice_split is_slash rest
joined_names p rest h k =
    ap segments_of (sym (joined_slashed p rest)) ∙ segments_of-slashed (p ++ slice_split is_slash rest) (segments_from_names (p ++ slice_split is_slash rest) (IsPath-append p (slice_split is_slash rest) h k))

-- a path whose text is a slash alone is the root
pub root_from_text : (p : Path) → IsPath p → path_text p ≡ 47 ∷ [] → p ≡ []
root_from_text p h e = sym (segments_of-path_text p h) ∙ (ap segments_of e ∙ segments_of-path_text [] refl)

-- ---- the order

-- the parts of the text of a path
abbrev pub text_parts : Path → List (List ℕ)
text_parts [] = [] ∷ [] ∷ []
text_parts (n ∷ p) = [] ∷ n ∷ p

-- the text of a path is cut into those parts
pub parts-path_text : (p : Path) → IsPath p → slice_split is_slash (path_text p) ≡ text_parts p
parts-path_text [] h = refl
parts-path_text (n ∷ p) h =
    ap (slice_split is_slash) (slashed-cons n p) ∙ ap (λ q. [] ∷ q) (parts-join (n ∷ p) (λ e. cc) (segments_clean (n ∷ p) (segments_from_names (n ∷ p) h)))

-- they are in the order of the paths
pub cmp_parts : (p q : Path) → IsPath p → IsPath q → slice_cmp (slice_cmp nat_cmp) (text_parts p) (text_parts q) ≡ path_cmp p q
cmp_parts [] [] h k = refl
cmp_parts [] ((b ∷ n) ∷ q) h k = refl
cmp_parts [] ([] ∷ q) h k = let f : false ≡ true = k in cc
cmp_parts ((b ∷ n) ∷ p) [] h k = refl
cmp_parts ([] ∷ p) [] h k = let f : false ≡ true = h in cc
cmp_parts (n ∷ p) (m ∷ q) h k = refl

-- texts of paths are ordered by their parts as the paths are
pub cmp_texts : (p q : Path) (s t : List ℕ) → s ≡ path_text p → t ≡ path_text q → IsPath p → IsPath q → slice_cmp (slice_cmp nat_cmp) (slice_split is_slash s) (slice_split is_slash t) ≡ path_cmp p q
cmp_texts p q s t e f h k =
    let mine : slice_split is_slash s ≡ text_parts p = ap (slice_split is_slash) e ∙ parts-path_text p h in
    let theirs : slice_split is_slash t ≡ text_parts q = ap (slice_split is_slash) f ∙ parts-path_text q k in
    ap (λ r. slice_cmp (slice_cmp nat_cmp) r (slice_split is_slash t)) mine ∙ (ap (slice_cmp (slice_cmp nat_cmp) (text_parts p)) theirs ∙ cmp_parts p q h k)
