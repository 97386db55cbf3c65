-- Which keys are valid, and the path that a key adds to a base.
use Rattle.std.proofs.Common.{◌≡◌, ◌≢◌, ◌⊎◌, inl, inr, ℕ, Bool, true, false, cond, ◌||◌, ◌&&◌, if◌then◌else◌, List, [], ◌∷◌, ◌++◌, length, Some, None, is_some, unwrap_or, refl, ap, sym, subst, ◌∙◌, arith}
use Rattle.std.specs.List.{list_all}
use Rattle.std.proofs.lemmas.Bool.{and_parts, eqb-true}
use Rattle.std.proofs.lemmas.List.Folds.{list_all-append}
use Rattle.zarrs_store.specs.Segments.{is_slash, key_text}
use Rattle.zarrs_path.specs.Names.{is_name}
use Rattle.zarrs_path.specs.Paths.{Path, IsPath, relative_names, without_leading_slash, first_bad}
use Rattle.zarrs_path.proofs.NameLemmas.{name_head, name_tail}
use Rattle.zarrs_path.proofs.Relative.{relative_of_text, relative_of_slashed, text_of_relative}
use Rattle.zarrs_form.specs.Forms.{is_nil}
use Rattle.zarrs_block.specs.Block.{Block, IsValidKey, node_at_key}
use Rattle.zarrs_block.specs.BlockExpansion.{is_covered, path_at}

-- ---- valid keys

-- names joined by slashes, also behind one slash, are the relative names
pub names_of_key : (t : List ℕ) (ns : Path) → IsPath ns → ((t ≡ key_text ns) ⊎ (t ≡ 47 ∷ key_text ns)) → relative_names t ≡ ns
names_of_key t ns h (inl e) = ap relative_names e ∙ relative_of_text ns h
names_of_key t ns h (inr e) = ap relative_names e ∙ relative_of_slashed ns h

-- a text is itself without a leading slash, or that behind a slash
slash_or_not : (t : List ℕ) → (t ≡ without_leading_slash t) ⊎ (t ≡ 47 ∷ without_leading_slash t)
slash_or_not [] = inl refl
slash_or_not (c ∷ t) =
    elim (is_slash c) as (λ b. is_slash c ≡ b → (c ∷ t ≡ cond b t (c ∷ t)) ⊎ (c ∷ t ≡ 47 ∷ cond b t (c ∷ t))) [
      | true ↦ λ s. inr (ap (λ d. d ∷ t) (eqb-true c 47 s))
      | false ↦ λ s. inl refl
    ] refl

-- a key whose relative names are names is valid
pub valid_of_names : (t : List ℕ) → IsPath (relative_names t) → IsValidKey t
valid_of_names t h =
    (relative_names t, h, subst (λ w. (t ≡ w) ⊎ (t ≡ 47 ∷ w)) (sym (text_of_relative t)) (slash_or_not t))

-- a key that was joined to a path is valid
pub valid_joined : (b p : Path) (t : List ℕ) → p ≡ b ++ relative_names t → IsPath p → IsValidKey t
valid_joined b p t is h =
    valid_of_names t (and_parts (list_all is_name b) (list_all is_name (relative_names t)) (sym (list_all-append is_name b (relative_names t)) ∙ ap (list_all is_name) (sym is) ∙ h)).1

-- a path has no bad part
none_bad : (p : Path) → IsPath p → first_bad p ≡ None
none_bad [] h = refl
none_bad (n ∷ p) h = rw (name_head n p h) (none_bad p (name_tail n p h))

-- a key with a bad part is not valid
pub not_valid : (t c : List ℕ) → first_bad (relative_names t) ≡ Some c → IsValidKey t → ⊥
not_valid t c bad v =
    let none : None ≡ Some c = sym (none_bad v.0 v.1) ∙ ap first_bad (sym (names_of_key t v.0 v.1 v.2)) ∙ bad in
    cc

-- ---- the path of a key

-- a key that has names and is not covered adds the path with its names behind the base
pub own_path : (b : Path) (B : Block) (t : List ℕ) (p : Path) → p ≡ b ++ relative_names t → is_nil (relative_names t) ≡ false → is_covered B t ≡ false → Some p ≡ path_at b B t
own_path b B t p is some bare = ap Some is ∙ rw (some, bare) refl

-- where names add a path, there are some, they are not covered, and the path has them behind the base
path_by : (b R p : Path) (c : Bool) → (if is_nil R || c then None else Some (b ++ R)) ≡ Some p → (is_nil R ≡ false) × (c ≡ false) × (p ≡ b ++ R)
path_by b [] p c e = cc
path_by b (n ∷ R) p true e = cc
path_by b (n ∷ R) p false e = (refl, refl, sym (ap (λ o. unwrap_or o p) e))

-- where a key adds a path, it has names and is not covered
pub path_of_key : (b p : Path) (B : Block) (t : List ℕ) → path_at b B t ≡ Some p → (is_nil (relative_names t) ≡ false) × (is_covered B t ≡ false) × (p ≡ b ++ relative_names t)
path_of_key b p B t e = path_by b (relative_names t) p (is_covered B t) e

-- ---- covered keys

-- a text is not itself behind a byte
longer : (t : List ℕ) (c : ℕ) → t ≡ c ∷ t → ⊥
longer t c e = let l : length t ≡ length (c ∷ t) = ap length e in omega (arith, l)

-- a text that begins with no slash is not covered
pub bare_key : (B : Block) (t : List ℕ) → without_leading_slash t ≡ t → is_covered B t ≡ false
bare_key B [] e = refl
bare_key B (c ∷ t) e =
    elim (is_slash c) as (λ b. cond b t (c ∷ t) ≡ c ∷ t → (b && is_some (node_at_key B t)) ≡ false) [
      | true ↦ λ same. absurd (longer t c same)
      | false ↦ λ same. refl
    ] e

-- names joined by slashes begin with no slash
pub text_bare : (p : Path) → IsPath p → without_leading_slash (key_text p) ≡ key_text p
text_bare p h = sym (text_of_relative (key_text p)) ∙ ap key_text (relative_of_text p h)

-- names with one text are one
pub one_text : (p q : Path) → IsPath p → IsPath q → key_text p ≡ key_text q → p ≡ q
one_text p q h g e = sym (relative_of_text p h) ∙ ap relative_names e ∙ relative_of_text q g

-- the text of names is not that of others behind a slash
pub slash_apart : (p q : Path) → IsPath q → 47 ∷ key_text p ≡ key_text q → ⊥
slash_apart p q g e =
    let bare : key_text p ≡ key_text q = ap without_leading_slash e ∙ text_bare q g in
    let long = ap length (e ∙ sym bare) in
    omega (arith, long)

-- nor is one that was not found to begin with a slash
pub no_slash : (B : Block) (t : List ℕ) → ((rest : List ℕ) → t ≢ 47 ∷ rest) → false ≡ is_covered B t
no_slash B [] h = refl
no_slash B (c ∷ t) h =
    elim (is_slash c) as (λ b. is_slash c ≡ b → false ≡ (b && is_some (node_at_key B t))) [
      | true ↦ λ s. absurd (h t (ap (λ d. d ∷ t) (eqb-true c 47 s)))
      | false ↦ λ _. refl
    ] refl
