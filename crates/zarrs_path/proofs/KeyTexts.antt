-- The texts of keys below a path.
use Rattle.std.proofs.Common.{◌≡◌, ◌≢◌, ℕ, List, [], ◌∷◌, ◌++◌, refl, sym, ap, ◌∙◌, IsTrue}
use Rattle.std.proofs.lemmas.List.Elements.{All-nil, All-cons, All-append}
use Rattle.zarrs_store.specs.Segments.{segments_of, key_text, is_segment, IsSegment, IsKey, IsKeyText}
use Rattle.zarrs_store.specs.StepsOfStores.{IsSegments}
use Rattle.zarrs_store.proofs.Cuts.{segment_of_test, segments_of_test, segments_of-append, segments_of-nil, segments_of-key_text, key_from_text}
use Rattle.zarrs_path.specs.Paths.{Path, IsPath, names_text}
use Rattle.zarrs_path.proofs.PathTexts.{slashed-cons, slashed-append, segments_of-slashed, segments_from_names}

-- a segment is the text of the key of it alone
pub segment_text : (s : List ℕ) → IsTrue (is_segment s) → IsKeyText s
segment_text s h = record {
  key = s ∷ [];
  valid = record { some = λ e. cc; each = All-cons IsSegment s [] (segment_of_test s h) (All-nil IsSegment) };
  is = refl;
}

-- segments with a slash before each are a slash and the text of their key
slashed_key : (r : Path) → r ≢ [] → names_text r ≡ 47 ∷ key_text r
slashed_key [] some = absurd (some refl)
slashed_key (n ∷ r) some = slashed-cons n r

-- a list with further elements is not empty
append_some : (p q : Path) → q ≢ [] → p ++ q ≢ []
append_some [] q some e = some e
append_some (n ∷ p) q some e = cc

-- a key behind segments is a key
pub key_append : (p r : Path) → IsSegments p → IsKey r → IsKey (p ++ r)
key_append p r h k = record {
  some = append_some p r k.some;
  each = All-append IsSegment p r (segments_of_test p h) k.each;
}

module _ (p : Path) (names rest : List ℕ) (valid : IsPath p) (is : names_text p ≡ 47 ∷ names) (key : IsKeyText rest) where
  -- the names of a path, a slash and the text of a key are the text of a key
  pub below_text : IsKeyText (names ++ 47 ∷ rest)
  below_text =
      let back = key_from_text rest key in
      let r : Path = segments_of rest in
      let text : 47 ∷ key_text (p ++ r) ≡ 47 ∷ (names ++ 47 ∷ rest) =
      sym (slashed_key (p ++ r) (append_some p r back.0.some)) ∙ (slashed-append p r ∙ (ap (λ t. t ++ names_text r) is ∙ ap (λ t. 47 ∷ (names ++ t)) (slashed_key r back.0.some ∙ ap (λ t. 47 ∷ t) back.1))) in
      record { key = p ++ r; valid = key_append p r (segments_from_names p valid) back.0; is = cc }

  -- that key has the names of the path, and then the segments of the other
  pub below_segments : segments_of (names ++ 47 ∷ rest) ≡ p ++ segments_of rest
  below_segments =
      let first : segments_of (47 ∷ names) ≡ segments_of names = segments_of-append [] names ∙ ap (λ q. q ++ segments_of names) segments_of-nil in
      segments_of-append names rest ∙ ap (λ q. q ++ segments_of rest) (sym first ∙ (ap segments_of (sym is) ∙ segments_of-slashed p (segments_from_names p valid)))

-- what begins with no slash is the root's
pub root_names : (p : Path) → ((rest : List ℕ) → names_text p ≢ 47 ∷ rest) → p ≡ []
root_names [] none = refl
root_names (n ∷ p) none = absurd (none (n ++ names_text p) refl)

-- the text of a key is cut into its segments
pub key_parts : (bs : List ℕ) (k : Path) → bs ≡ key_text k → IsKey k → segments_of bs ≡ k
key_parts bs k e h = ap segments_of e ∙ segments_of-key_text k h
