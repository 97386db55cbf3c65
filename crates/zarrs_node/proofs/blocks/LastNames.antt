-- The last name of a path, by the text of the path.
use Rattle.std.proofs.Common.{◌≡◌, ◌≢◌, ℕ, Bool, false, true, not, ◌==◌, ◌||◌, List, [], ◌∷◌, ◌++◌, length, take, drop, refl, sym, ap, ◌∙◌, subst, IsTrue, append-nil, length-append, arith, ◌↔◌, true≢false}
use Rattle.std.specs.Str.{bytes_eq}
use Rattle.std.proofs.lemmas.Bool.{eqb-true, not-true}
use Rattle.std.proofs.lemmas.Slice.Eq.{bytes_eq-Decides}
use Rattle.std.proofs.lemmas.List.{append_cancel_left}
use Rattle.std.proofs.Math.Seq.{take-append_seam}
use Rattle.zarrs_store.specs.Segments.{is_nonempty, has_no_slash, last_segment, segments_of}
use Rattle.zarrs_store.proofs.ChildLemmas.{last_segment-child}
use Rattle.zarrs_path.specs.Paths.{Path, IsPath, path_text, names_text}
use Rattle.zarrs_path.proofs.PathTexts.{IsCutAt, cut_last, slashed-append, segments_of-slashed, segments_from_names, IsPath-parts}
use Rattle.zarrs_path.proofs.NameLemmas.{name_head, name_tail, name_nonempty}
use Rattle.zarrs_path.specs.Names.{is_node_name}
use Rattle.zarrs_path.proofs.ByteTests.{nonempty_from_test}
use Rattle.zarrs_node.specs.Forest.{IsChildOf}
pub use Rattle.zarrs_block.proofs.LastSlash.{IsCutText, split_of}

-- a path's text has a slash
pub has_slash : (p : Path) → IsTrue (has_no_slash (path_text p)) → ⊥
has_slash [] h = let f : false ≡ true = h in cc
has_slash (n ∷ p) h = let f : false ≡ true = h in cc

-- behind the last slash of a path's text stands its last name
pub last_of : (p : Path) (front last : List ℕ) → IsPath p → IsCutText (path_text p) front last → last ≡ last_segment p
last_of [] [] last h t = let e : 47 ∷ [] ≡ 47 ∷ last = t.cut in sym (ap (drop 1) e)
last_of [] (x ∷ front) last h t =
    let long = ap length t.cut in
    let more = length-append front (47 ∷ last) in
    absurd (omega (arith, long, more))
last_of (n ∷ p) front last h t =
    let at : IsCutAt (n ∷ p) front = cut_last (n ∷ p) front last h (λ e. cc) t.cut t.clean in
    let one : names_text (at.name ∷ []) ≡ 47 ∷ at.name = ap (λ t. 47 ∷ t) (append-nil at.name) in
    let both : front ++ 47 ∷ last ≡ front ++ 47 ∷ at.name =
    sym t.cut ∙ ap names_text at.whole ∙ slashed-append at.upper (at.name ∷ []) ∙ ap (λ t. t ++ names_text (at.name ∷ [])) at.text ∙ ap (λ t. front ++ t) one in
    ap (drop 1) (append_cancel_left front (47 ∷ last) (47 ∷ at.name) both) ∙ sym (last_segment-child at.upper at.name) ∙ ap last_segment (sym at.whole)

-- where the names before the last slash are those of the base, the path is the base and one name
pub child_is : (b p : Path) (front last : List ℕ) → IsPath b → IsPath p → IsCutText (path_text p) front last → last ≢ [] → front ≡ names_text b → IsChildOf b p
child_is b [] front last hb h t some e = absurd (some (last_of [] front last h t))
child_is b (n ∷ p) front last hb h t some e =
    let at : IsCutAt (n ∷ p) front = cut_last (n ∷ p) front last h (λ e. cc) t.cut t.clean in
    let same : at.upper ≡ b = sym (segments_of-slashed at.upper (segments_from_names at.upper at.valid)) ∙ ap segments_of (at.text ∙ e) ∙ segments_of-slashed b (segments_from_names b hb) in
    (at.name, at.whole ∙ ap (λ q. q ++ at.name ∷ []) same)

-- two lists that are one with an item more are one
front_same : (b c : Path) (n m : List ℕ) → b ++ n ∷ [] ≡ c ++ m ∷ [] → b ≡ c
front_same b c n m e =
    let long = ap length e in
    let one = length-append b (n ∷ []) in
    let two = length-append c (m ∷ []) in
    let same : length b ≡ length c = omega (arith, long, one, two) in
    sym (take-append_seam b (n ∷ [])) ∙ ap (take (length b)) e ∙ ap (λ k. take k (c ++ m ∷ [])) same ∙ take-append_seam c (m ∷ [])

-- a path that is the base and one name has the base's names before its last slash, and a name behind it
pub from_child : (b p : Path) (front last : List ℕ) → IsPath p → IsCutText (path_text p) front last → IsChildOf b p → (last ≢ []) × (front ≡ names_text b)
from_child b [] front last h t (n, e) =
    let long = ap length e in
    let more = length-append b (n ∷ []) in
    absurd (omega (arith, long, more))
from_child b (k ∷ p) front last h t (n, e) =
    let at : IsCutAt (k ∷ p) front = cut_last (k ∷ p) front last h (λ e. cc) t.cut t.clean in
    let same : b ≡ at.upper = front_same b at.upper n at.name (sym e ∙ at.whole) in
    let name = name_nonempty n (name_head n [] (IsPath-parts b (n ∷ []) (subst IsPath e h)).1) in
    let last_is : last ≡ n = last_of (k ∷ p) front last h t ∙ ap last_segment e ∙ last_segment-child b n in (
      λ none. let f : false ≡ true = ap is_nonempty (sym none ∙ last_is) ∙ name in cc,
      sym at.text ∙ ap names_text (sym same),
    )

-- a text without bytes is empty
nil_from : (bs : List ℕ) → length bs ≡ 0 → bs ≡ []
nil_from [] e = refl
nil_from (b ∷ bs) e = absurd (omega (arith, e))

module _ (b p : Path) (front last : List ℕ) (h : IsPath p) (t : IsCutText (path_text p) front last) where
  -- a path with a name behind its last slash is a child where the texts before it are the same
  pub child_test : (base : List ℕ) (empty r : Bool) → IsPath b → base ≡ names_text b → empty ≡ (length last == 0) → empty ≡ false → r ≡ bytes_eq front base → IsTrue r ↔ IsChildOf b p
  child_test base empty r hb same is filled e =
      let d = bytes_eq-Decides front base in (
        λ equal. child_is b p front last hb h t (nonempty_from_test last (sym is ∙ filled)) (d.0 (sym e ∙ equal) ∙ same),
        λ child. e ∙ d.1 ((from_child b p front last h t child).1 ∙ sym same),
      )

  -- a path with no name behind its last slash is no child
  pub root_test : (empty : Bool) → empty ≡ (length last == 0) → empty ≡ true → IsTrue (not empty) ↔ IsChildOf b p
  root_test empty is bare = (
    λ named. absurd (true≢false (sym bare ∙ not-true empty named)),
    λ child. absurd ((from_child b p front last h t child).0 (nil_from last (eqb-true (length last) 0 (sym is ∙ bare)))),
  )

-- a test or one that passes passes
or_true : (a : Bool) → (a || true) ≡ true
or_true true = refl
or_true false = refl

-- the last name of a path is a name, or the empty name of the root
pub last_is_name : (p : Path) → IsPath p → IsTrue (is_node_name (last_segment p))
last_is_name [] h = refl
last_is_name (n ∷ []) h = ap (λ b. not (is_nonempty n) || b) (name_head n [] h) ∙ or_true (not (is_nonempty n))
last_is_name (n ∷ m ∷ p) h = last_is_name (m ∷ p) (name_tail n (m ∷ p) h)
