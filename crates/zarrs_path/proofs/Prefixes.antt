-- Paths, prefixes and paths below others, by their texts.
use Rattle.std.proofs.Common.{◌≡◌, ℕ, Bool, List, [], ◌∷◌, ◌++◌, refl, sym, ap, ◌∙◌, append-nil, append_assoc, get_or, arith, ◌+◌, ◌-◌, ◌<◌, ◌≤◌, length, take, slice_index, length-append}
use Rattle.std.specs.Bool.{Decides}
use Rattle.std.proofs.Math.Seq.{get_or-append_seam, take-append_seam}
use Rattle.std.proofs.lemmas.List.{append_cancel_left, nil_from_length}
use Rattle.zarrs_store.specs.Segments.{segments_of, prefix_text, IsPrefixText}
use Rattle.zarrs_store.proofs.Cuts.{segments_of_test, prefix_text-cons, segments_of-append, segments_of-prefix_text}
use Rattle.zarrs_path.specs.Paths.{Path, IsPath, IsBelow, path_text, names_text}
use Rattle.zarrs_path.proofs.PathTexts.{slashed-append, segments_of-slashed, segments_from_names}

-- slashes before and behind each name
slash_ends : (p : Path) → 47 ∷ prefix_text p ≡ names_text p ++ 47 ∷ []
slash_ends [] = refl
slash_ends (n ∷ p) = ap (λ t. 47 ∷ t) (prefix_text-cons n p) ∙ ap (λ t. 47 ∷ (n ++ t)) (slash_ends p) ∙ ap (λ t. 47 ∷ t) (sym (append_assoc n (names_text p) (47 ∷ [])))

-- the text of a prefix without its last byte, if it has one, is behind a slash the text of its segments as a path
pub slash_moved : (p : Path) (bs after : List ℕ) (n m : ℕ) → bs ≡ prefix_text p → n ≡ length bs → m ≡ length after → m ≤ n → (0 < n → slice_index bs (n - 1) < 128 → after ≡ take (n - 1) bs) → 47 ∷ after ≡ path_text p
slash_moved [] bs after n m e is_n is_m less popped =
    let none : length bs ≡ 0 = ap length e in
    ap (λ t. 47 ∷ t) (nil_from_length after (omega (arith, is_n, is_m, less, none)))
slash_moved (x ∷ q) bs after n m e is_n is_m less popped =
    let names : List ℕ = x ++ names_text q in
    let f : bs ≡ names ++ 47 ∷ [] = e ∙ (prefix_text-cons x q ∙ ap (λ t. x ++ t) (slash_ends q) ∙ sym (append_assoc x (names_text q) (47 ∷ []))) in
    let long : length bs ≡ length names + 1 = ap length f ∙ length-append names (47 ∷ []) in
    let end : n - 1 ≡ length names = omega (arith, is_n, long) in
    let last : slice_index bs (n - 1) ≡ 47 = ap (slice_index bs) end ∙ ap (λ t. slice_index t (length names)) f ∙ get_or-append_seam names 47 [] 0 in
    let cut : take (n - 1) bs ≡ names = ap (λ i. take i bs) end ∙ ap (take (length names)) f ∙ take-append_seam names (47 ∷ []) in
    ap (λ t. 47 ∷ t) (popped (omega (arith, is_n, long)) (omega (arith, last)) ∙ cut)

-- the text of a path without its first slash, with one behind, is that of the prefix
pub prefix_from_names : (p : Path) (names bs : List ℕ) → names_text p ≡ 47 ∷ names → bs ≡ names ++ 47 ∷ [] → prefix_text p ≡ bs
prefix_from_names p names bs is e =
    let f : 47 ∷ prefix_text p ≡ 47 ∷ (names ++ 47 ∷ []) = slash_ends p ∙ ap (λ t. t ++ 47 ∷ []) is in
    let g : prefix_text p ≡ names ++ 47 ∷ [] = cc in g ∙ sym e

-- the names of a path are the segments of a prefix
pub prefix_from_path : (p : Path) (bs : List ℕ) → IsPath p → prefix_text p ≡ bs → IsPrefixText bs
prefix_from_path p bs h e = record { prefix = p; valid = segments_of_test p (segments_from_names p h); is = sym e }

-- that prefix is cut into the names of the path
pub prefix_is_path : (p : Path) (bs : List ℕ) → IsPath p → prefix_text p ≡ bs → segments_of bs ≡ p
prefix_is_path p bs h e = ap segments_of (sym e) ∙ segments_of-prefix_text p (segments_from_names p h)

-- ---- a path below another

-- a path whose text is the base's, a slash and more is below the base
below_from_cut : (p b : Path) (more : List ℕ) → IsPath p → IsPath b → names_text p ≡ names_text b ++ 47 ∷ more → IsBelow b p
below_from_cut p b more h k e =
    let whole : p ≡ b ++ segments_of more =
    sym (segments_of-slashed p (segments_from_names p h)) ∙ (ap segments_of e ∙ (segments_of-append (names_text b) more ∙ ap (λ q. q ++ segments_of more) (segments_of-slashed b (segments_from_names b k)))) in
    let P : Path → Type 0 = λ q. p ≡ b ++ q → IsBelow b p in
    let all : (q : Path) → P q = elim [
      | [] ↦ λ f.
          let same : names_text b ++ [] ≡ names_text b ++ 47 ∷ more = append-nil (names_text b) ∙ (ap names_text (sym (f ∙ append-nil b)) ∙ e) in
          let none : [] ≡ 47 ∷ more = append_cancel_left (names_text b) [] (47 ∷ more) same in cc
      | ◌∷◌ n q ↦ λ f. (n, q, f)
    ] in
    all (segments_of more) whole

-- a path whose text is the base's and a rest is below the base exactly where the rest begins with a slash
pub below_is : (p b : Path) (rest : List ℕ) (r : Bool) → IsPath p → IsPath b → names_text p ≡ names_text b ++ rest → Decides r (get_or rest 0 0 ≡ 47) → Decides r (IsBelow b p)
below_is p b rest r h k e d =
    let Q : List ℕ → Type 0 = λ rest. names_text p ≡ names_text b ++ rest → get_or rest 0 0 ≡ 47 → IsBelow b p in
    let all : (rest : List ℕ) → Q rest = elim [
      | [] ↦ λ e f. absurd (omega arith)
      | ◌∷◌ x more ↦ λ e f. below_from_cut p b more h k (e ∙ ap (λ x. names_text b ++ x ∷ more) f)
    ] in (
      λ t. all rest e (d.0 t),
      λ w.
          let behind : names_text b ++ rest ≡ names_text b ++ names_text (w.0 ∷ w.1) = sym e ∙ (ap names_text w.2 ∙ slashed-append b (w.0 ∷ w.1)) in
          d.1 (ap (λ t. get_or t 0 0) (append_cancel_left (names_text b) rest (names_text (w.0 ∷ w.1)) behind)),
    )
