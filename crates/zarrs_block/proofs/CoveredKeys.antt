-- The keys behind a slash that a key without it covers.
use Rattle.std.proofs.Common.{◌≡◌, ◌⊎◌, inl, inr, ℕ, Bool, true, false, if◌then◌else◌, ◌||◌, cond, List, [], ◌∷◌, ◌++◌, String, Global, string_bytes, string_cmp, Option, Some, None, IsSome, is_some, refl, sym, ap, subst, ◌∙◌, length, arith}
use Rattle.std.specs.Prelude.{◌==◌}
use Rattle.std.specs.BTreeMap.{BTreeMap, get_by_text, UpdatesBy}
use Rattle.std.specs.Str.{bytes_eq}
use Rattle.std.proofs.lemmas.Bool.{eqb-true}
use Rattle.std.proofs.lemmas.Map.Text.{btree_map_updates_text}
use Rattle.std.proofs.lemmas.Slice.Eq.{bytes_eq-Decides}
use Rattle.zarrs_form.specs.Forms.{is_nil}
use Rattle.zarrs_path.specs.Paths.{Path, relative_names}
use Rattle.zarrs_block.specs.Block.{Block, node_at_key, IsValidKey}
use Rattle.zarrs_block.specs.BlockExpansion.{is_covered, path_at}
use Rattle.zarrs_block.specs.StepsOfKeys.{Among}

-- texts as the keys of a map of nothing
abbrev Keys : Type 0
Keys = BTreeMap (String Global) (Unit {0})

-- the map has covered keys, and each covered key that begins with a slash is in it, or left
pub record AreGathered (B : Block) (covered : Keys) (left : List (List ℕ)) : Type 0 where
  pub sound : (t : List ℕ) → is_some (get_by_text covered t) ≡ true → is_covered B t ≡ true
  pub whole : (t : List ℕ) → IsSome (node_at_key B t) → is_covered B t ≡ true → (is_some (get_by_text covered t) ≡ true) ⊎ Among left t

module _ (B : Block) (covered : Keys) (left : List (List ℕ)) (k : List ℕ) (ks : List (List ℕ)) (is : left ≡ k ∷ ks) (h : AreGathered B covered left) where
  -- the key at hand is the first of those left
  here : AreGathered B covered (k ∷ ks)
  here = subst (AreGathered B covered) is h

  -- one that is covered is gathered
  pub key_put : (new : Keys) (s : String Global) → string_bytes s ≡ k → is_covered B k ≡ true → UpdatesBy string_cmp (string_cmp s) covered new (Some tt) → AreGathered B new ks
  key_put new s text cov there = record {
    sound = λ t has. both_sound t (bytes_eq k t) refl (sym (ap is_some (now t)) ∙ has);
    whole = λ t some is_cov. by t (here.whole t some is_cov);
  }
    where
      now : (t : List ℕ) → get_by_text new t ≡ cond (bytes_eq k t) (Some tt) (get_by_text covered t)
      now t = btree_map_updates_text (string_bytes s) covered new (Some tt) there t ∙ ap (λ u. cond (bytes_eq u t) (Some tt) (get_by_text covered t)) text

      both_sound : (t : List ℕ) (b : Bool) → bytes_eq k t ≡ b → is_some (cond b (Some tt) (get_by_text covered t)) ≡ true → is_covered B t ≡ true
      both_sound t true same has = ap (is_covered B) (sym ((bytes_eq-Decides k t).0 same)) ∙ cov
      both_sound t false other has = here.sound t has

      still : (t : List ℕ) (b : Bool) → is_some (get_by_text covered t) ≡ true → is_some (cond b (Some tt) (get_by_text covered t)) ≡ true
      still t true has = refl
      still t false has = has

      by : (t : List ℕ) → (is_some (get_by_text covered t) ≡ true) ⊎ Among (k ∷ ks) t → (is_some (get_by_text new t) ≡ true) ⊎ Among ks t
      by t (inl has) = inl (ap is_some (now t) ∙ still t (bytes_eq k t) has)
      by t (inr (inl same)) = inl (ap is_some (now t) ∙ ap (λ b. is_some (cond b (Some tt) (get_by_text covered t))) ((bytes_eq-Decides k t).1 (sym same)))
      by t (inr (inr later)) = inr later

-- ---- the base's own keys

-- the empty text and a slash alone are keys of the base
pub own_key : (t : List ℕ) → ((t ≡ []) ⊎ (t ≡ 47 ∷ [])) → IsValidKey t
own_key t (inl is) = ([], refl, inl is)
own_key t (inr is) = ([], refl, inr is)

-- a text is empty where it has no length
pub empty_text : (t : List ℕ) → (length t == 0) ≡ true → t ≡ []
empty_text [] h = refl
empty_text (c ∷ t) h = let none : length (c ∷ t) ≡ 0 = eqb-true (length (c ∷ t)) 0 h in absurd (omega (arith, none))

-- what was asked of the keys that are covered is the path that a key adds
pub path_asked : (b : Path) (B : Block) (covered : Keys) (t u : List ℕ) (o : Option Path) → u ≡ t
    → o ≡ (if is_nil (relative_names u) || is_some (get_by_text covered u) then None else Some (b ++ relative_names u)) → is_some (get_by_text covered t) ≡ is_covered B t → o ≡ path_at b B t
path_asked b B covered t u o same is cov =
    is ∙ ap (λ x. if is_nil (relative_names x) || is_some (get_by_text covered x) then None else Some (b ++ relative_names x)) same
    ∙ ap (λ c. if is_nil (relative_names t) || c then None else Some (b ++ relative_names t)) cov
