-- The pairs that the keys of a block come to below a base.
use Rattle.std.proofs.Common.{◌≡◌, ◌≢◌, ◌<◌, ◌⊎◌, inl, inr, ℕ, zero, suc, Bool, true, false, true≢false, cond, List, [], ◌∷◌, ◌++◌, length, Option, Some, None, Result, Ok, Err, IfErr, IsSome, is_some, unwrap_or, String, Global, string_bytes, string_cmp, Less, Greater, refl, ap, sym, subst, append_assoc, ◌∙◌, arith}
use Rattle.std.specs.Prelude.{All, Contains}
use Rattle.std.specs.List.{AllByRecursion}
use Rattle.std.specs.List.Sorted.{IsStrictlySortedBy}
use Rattle.std.specs.Map.{keys_of}
use Rattle.std.specs.BTreeMap.{is_at}
use Rattle.std.specs.Ordering.{is_eq, ordering_reverse}
use Rattle.std.specs.Result.{IsErrAnd}
use Rattle.std.proofs.lemmas.Cmp.{tied_itself, nat_list_cmp_total}
use Rattle.std.proofs.lemmas.Map.Text.{is_eq-slice_cmp}
use Rattle.std.proofs.lemmas.Slice.Eq.{bytes_eq-Decides}
use Rattle.std.proofs.lemmas.List.{append_cancel_left}
use Rattle.std.proofs.lemmas.List.Elements.{All-nil, All-cons}
use Rattle.std.proofs.lemmas.List.Kept.{AllPairs-cons}
use Rattle.zarrs_store.specs.Segments.{bytes_cmp, key_text}
use Rattle.zarrs_store.specs.Contents.{Lists}
use Rattle.zarrs_path.specs.Paths.{Path, IsPath, relative_names}
use Rattle.zarrs_path.specs.PathErrors.{RefusesJoin}
use Rattle.zarrs_path.specs.declared.node_path.NodePathError.{NodePathError as PathError}
use Rattle.zarrs_path.specs.declared.node_path.NodePathError.TheVariants.{Invalid, OutOfMemory}
use Rattle.zarrs_form.specs.Forms.{is_nil}
use Rattle.zarrs_meta.specs.declared.node.NodeMetadata.{NodeMetadata}
use Rattle.zarrs_block.specs.Block.{Block, IsAscending, IsValidKey, HasValidKeys, node_at_key, first_some, Entries}
use Rattle.zarrs_block.specs.BlockExpansion.{RefusesKeys, HaveOwnPaths, is_covered, path_at, paths_at, with_pair, pairs_at}
use Rattle.zarrs_meaning.specs.declared.node_create_error.NodeCreateError.{NodeCreateError}
use Rattle.zarrs_meaning.specs.declared.node_create_error.NodeCreateError.TheVariants.{NodePathError}
use Rattle.zarrs_block.proofs.BlockLaws.{shown, texts, texts_ascend, nothing_behind}
use Rattle.zarrs_block.proofs.KeyLaws.{names_of_key, not_valid, path_of_key, own_path, bare_key, text_bare}

-- ---- what a block has at its keys

-- a text is tied with itself
pub at_itself : (t : List ℕ) → is_at (bytes_cmp t) t ≡ true
at_itself t = ap is_eq (tied_itself nat_list_cmp_total t)

-- tied texts are one
pub same_text : (t s : List ℕ) → is_at (bytes_cmp t) s ≡ true → t ≡ s
same_text t s e = (bytes_eq-Decides t s).0 (sym (is_eq-slice_cmp t s) ∙ e)

-- the first entry of a block is found at its key
found_here : (e : List ℕ × NodeMetadata) (es : Block) → node_at_key (e ∷ es) e.0 ≡ Some e.1
found_here e es = ap (λ b. cond b (Some e.1) (node_at_key es e.0)) (at_itself e.0)

-- where something is found, something is found with one entry more
some_or : (b : Bool) (m : NodeMetadata) (o : Option NodeMetadata) → IsSome o → IsSome (cond b (Some m) o)
some_or true m o h = refl
some_or false m o h = h

-- a key of a block is one with another entry before it
found_later : (e : List ℕ × NodeMetadata) (es : Block) (t : List ℕ) → IsSome (node_at_key es t) → IsSome (node_at_key (e ∷ es) t)
found_later e es t h = some_or (is_at (bytes_cmp t) e.0) e.1 (node_at_key es t) h

-- entries found at their keys are so with an entry before them whose key is below theirs
found_behind : (x : List ℕ × NodeMetadata) (es fs : Block) → AllByRecursion (λ y. bytes_cmp x.0 y ≡ Less) (keys_of fs) → AllByRecursion (λ e. node_at_key es e.0 ≡ Some e.1) fs
    → AllByRecursion (λ e. node_at_key (x ∷ es) e.0 ≡ Some e.1) fs
found_behind x es [] below h = tt
found_behind x es (e ∷ fs) below h =
    let above : bytes_cmp e.0 x.0 ≡ Greater = nat_list_cmp_total.antisymm e.0 x.0 ∙ ap ordering_reverse below.0 in (
      ap (λ o. cond (is_eq o) (Some x.1) (node_at_key es e.0)) above ∙ h.0,
      found_behind x es fs below.1 h.1,
    )

-- a block whose keys ascend has each entry at its key
pub found_all : (B : Block) → IsAscending B → AllByRecursion (λ e. node_at_key B e.0 ≡ Some e.1) B
unfolding IsStrictlySortedBy
found_all [] h = tt
found_all (x ∷ es) h = (found_here x es, found_behind x es es h.0 (found_all es h.1))

-- the keys of the block of a map are the texts of the map's keys
keys_shown : (es : List (String Global × NodeMetadata)) → keys_of (shown es) ≡ texts es
keys_shown [] = refl
keys_shown (e ∷ es) = ap (λ ks. string_bytes e.0 ∷ ks) (keys_shown es)

-- the keys of a map ascend
pub map_ascends : (B : Block) (es : List (String Global × NodeMetadata)) → shown es ≡ B → IsStrictlySortedBy string_cmp (keys_of es) → IsAscending B
map_ascends B es is h = subst IsAscending is (subst (IsStrictlySortedBy bytes_cmp) (sym (keys_shown es)) (texts_ascend es h))

-- ---- valid keys

-- each key is valid where all are
valid_keys : (B : Block) → AllByRecursion (λ e. IsValidKey e.0) B → HasValidKeys B
valid_keys [] all t s = absurd (true≢false (sym s))
valid_keys (e ∷ B) all t s =
    elim (is_at (bytes_cmp t) e.0) as (λ b. is_at (bytes_cmp t) e.0 ≡ b → IsSome (cond b (Some e.1) (node_at_key B t)) → IsValidKey t) [
      | true ↦ λ same _. subst IsValidKey (sym (same_text t e.0 same)) all.0
      | false ↦ λ _ later. valid_keys B all.1 t later
    ] refl s

-- ---- the pairs are the entries

-- the pairs that these entries add below a base, as keys of the block
abbrev pairs_by : Path → Block → Block → List (Path × NodeMetadata)
pairs_by b B es = pairs_at (paths_at b B es) es

-- where it is false that there are metadata, there are none
is_none : (o : Option NodeMetadata) → is_some o ≡ false → o ≡ None
is_none None e = refl
is_none (Some m) e = cc

-- of a text and this behind a slash, the key that is not covered has what counts
entry_found : (B : Block) (k t : List ℕ) (m : NodeMetadata) → ((t ≡ k) ⊎ (t ≡ 47 ∷ k)) → is_covered B t ≡ false → node_at_key B t ≡ Some m
    → first_some (node_at_key B k) (node_at_key B (47 ∷ k)) ≡ Some m
entry_found B k t m (inl e) bare is = ap (λ o. first_some o (node_at_key B (47 ∷ k))) (ap (node_at_key B) (sym e) ∙ is)
entry_found B k t m (inr e) bare is =
    ap (λ o. first_some o (node_at_key B (47 ∷ k))) (is_none (node_at_key B k) (ap (is_covered B) (sym e) ∙ bare)) ∙ ap (node_at_key B) (sym e) ∙ is

-- a key of names that is not covered, with what the block has there, makes an entry at the path of these names
entry_by : (b : Path) (B : Block) (ns p : Path) (t : List ℕ) (m : NodeMetadata) → IsPath ns → ((t ≡ key_text ns) ⊎ (t ≡ 47 ∷ key_text ns)) → is_nil ns ≡ false
    → is_covered B t ≡ false → p ≡ b ++ ns → node_at_key B t ≡ Some m → Entries B b (p, m)
entry_by b B [] p t m h form some bare path is = cc
entry_by b B (n ∷ ns) p t m h form some bare path is = (n, ns, h, path, entry_found B (key_text (n ∷ ns)) t m form bare is)

-- a valid key that adds a path, with what the block has there, makes an entry at that path
entry_of : (b p : Path) (B : Block) (t : List ℕ) (m : NodeMetadata) → path_at b B t ≡ Some p → node_at_key B t ≡ Some m → IsValidKey t → Entries B b (p, m)
entry_of b p B t m path is v =
    let parts = path_of_key b p B t path in
    let names = names_of_key t v.0 v.1 v.2 in
    entry_by b B v.0 p t m v.1 v.2 (ap is_nil (sym names) ∙ parts.0) parts.1 (parts.2 ∙ ap (λ ns. b ++ ns) names) is

-- where entries are found at their valid keys, their pairs are entries below the base
sound : (b : Path) (B es : Block) → AllByRecursion (λ e. node_at_key B e.0 ≡ Some e.1) es → AllByRecursion (λ e. IsValidKey e.0) es → All (Entries B b) (pairs_by b B es)
sound b B [] h v = All-nil (Entries B b)
sound b B (e ∷ es) h v =
    let rest = sound b B es h.1 v.1 in
    elim (path_at b B e.0) as (λ o. path_at b B e.0 ≡ o → All (Entries B b) (with_pair o e.1 (pairs_by b B es))) [
      | None ↦ λ _. rest
      | Some p ↦ λ path. All-cons (Entries B b) (p, e.1) (pairs_by b B es) (entry_of b p B e.0 e.1 path h.0 v.0) rest
    ] refl

-- a pair in a list is in it with another before it
contains_behind : (o : Option Path) (n m : NodeMetadata) (p : Path) (es : List (Path × NodeMetadata)) → Contains es (p, m) → Contains (with_pair o n es) (p, m)
contains_behind None n m p es h = h
contains_behind (Some q) n m p es h =
    let less : h.0 < length es = h.1 in
    (suc h.0, omega (arith, less), h.2)

-- where a key adds a path, the pair of the path and of what entries have at the key is among theirs
listed : (b p : Path) (B es : Block) (t : List ℕ) (m : NodeMetadata) → path_at b B t ≡ Some p → node_at_key es t ≡ Some m → Contains (pairs_by b B es) (p, m)
listed b p B [] t m path is = cc
listed b p B (e ∷ es) t m path is =
    elim (is_at (bytes_cmp t) e.0) as (λ c. is_at (bytes_cmp t) e.0 ≡ c → cond c (Some e.1) (node_at_key es t) ≡ Some m → Contains (pairs_by b B (e ∷ es)) (p, m)) [
      | true ↦ λ same here.
          let own : path_at b B e.0 ≡ Some p = ap (path_at b B) (sym (same_text t e.0 same)) ∙ path in
          let last : m ≡ e.1 = sym (ap (λ o. unwrap_or o m) here) in
          subst (λ o. Contains (with_pair o e.1 (pairs_by b B es)) (p, m)) (sym own) (zero, omega arith, ap (λ n. (p, n)) (sym last))
      | false ↦ λ _ later. contains_behind (path_at b B e.0) e.1 m p (pairs_by b B es) (listed b p B es t m path later)
    ] refl is

-- the first of two is the first, or there is no first, and it is the second
first_is : (o other : Option NodeMetadata) (m : NodeMetadata) → first_some o other ≡ Some m → (o ≡ Some m) ⊎ ((o ≡ None) × (other ≡ Some m))
first_is (Some n) other m e = inl e
first_is None other m e = inr (refl, e)

-- names for which the block has metadata, behind a slash where it has none without, have their pair
listed_by : (b p : Path) (B : Block) (n : List ℕ) (ns : Path) (m : NodeMetadata) → IsPath (n ∷ ns) → p ≡ b ++ n ∷ ns
    → ((node_at_key B (key_text (n ∷ ns)) ≡ Some m) ⊎ ((node_at_key B (key_text (n ∷ ns)) ≡ None) × (node_at_key B (47 ∷ key_text (n ∷ ns)) ≡ Some m)))
    → Contains (pairs_by b B B) (p, m)
listed_by b p B n ns m h path (inl is) =
    let k = key_text (n ∷ ns) in
    let names = names_of_key k (n ∷ ns) h (inl refl) in
    listed b p B B k m (sym (own_path b B k p (path ∙ ap (λ xs. b ++ xs) (sym names)) (ap is_nil names) (bare_key B k (text_bare (n ∷ ns) h)))) is
listed_by b p B n ns m h path (inr is) =
    let k = key_text (n ∷ ns) in
    let names = names_of_key (47 ∷ k) (n ∷ ns) h (inr refl) in
    listed b p B B (47 ∷ k) m (sym (own_path b B (47 ∷ k) p (path ∙ ap (λ xs. b ++ xs) (sym names)) (ap is_nil names) (ap is_some is.0))) is.1

-- each entry below the base is among the pairs of the block
complete : (b : Path) (B : Block) (e : Path × NodeMetadata) → Entries B b e → Contains (pairs_by b B B) e
complete b B e h =
    listed_by b e.0 B h.0 h.1 e.1 h.2 h.3 (first_is (node_at_key B (key_text (h.0 ∷ h.1))) (node_at_key B (47 ∷ key_text (h.0 ∷ h.1))) e.1 h.4)

-- ---- each path once

-- a text at which a block has these metadata is a key of it
some_found : (B : Block) (t : List ℕ) (m : NodeMetadata) → node_at_key B t ≡ Some m → is_some (node_at_key B t) ≡ true
some_found B t m e = ap is_some e

-- of a text and this behind a slash at most one is a key that is not covered
one_key : (B : Block) (k t s : List ℕ) → ((t ≡ k) ⊎ (t ≡ 47 ∷ k)) → ((s ≡ k) ⊎ (s ≡ 47 ∷ k)) → is_covered B t ≡ false → is_covered B s ≡ false
    → is_some (node_at_key B t) ≡ true → is_some (node_at_key B s) ≡ true → t ≡ s
one_key B k t s (inl d) (inl e) bare_t bare_s has_t has_s = d ∙ sym e
one_key B k t s (inr d) (inr e) bare_t bare_s has_t has_s = d ∙ sym e
one_key B k t s (inl d) (inr e) bare_t bare_s has_t has_s =
    let both : true ≡ false = sym has_t ∙ ap (λ x. is_some (node_at_key B x)) d ∙ ap (is_covered B) (sym e) ∙ bare_s in
    cc
one_key B k t s (inr d) (inl e) bare_t bare_s has_t has_s =
    let both : true ≡ false = sym has_s ∙ ap (λ x. is_some (node_at_key B x)) e ∙ ap (is_covered B) (sym d) ∙ bare_t in
    cc

-- keys with one path are one key
same_key : (b p q : Path) (B : Block) (t s : List ℕ) (m n : NodeMetadata) → path_at b B t ≡ Some p → path_at b B s ≡ Some q → p ≡ q → node_at_key B t ≡ Some m → node_at_key B s ≡ Some n
    → IsValidKey t → IsValidKey s → t ≡ s
same_key b p q B t s m n at_t at_s same is_t is_s v w =
    let parts = path_of_key b p B t at_t in
    let others = path_of_key b q B s at_s in
    let names : v.0 ≡ w.0 = sym (names_of_key t v.0 v.1 v.2) ∙ append_cancel_left b (relative_names t) (relative_names s) (sym parts.2 ∙ same ∙ others.2) ∙ names_of_key s w.0 w.1 w.2 in
    one_key B (key_text w.0) t s (subst (λ ns. (t ≡ key_text ns) ⊎ (t ≡ 47 ∷ key_text ns)) names v.2) w.2 parts.1 others.1 (some_found B t m is_t) (some_found B s n is_s)

-- a text that is before another is not that
differ : (t s : List ℕ) → bytes_cmp t s ≡ Less → t ≡ s → ⊥
differ t s less e =
    let both : Less ≡ Rattle.std.specs.declared.cmp.Ordering.TheVariants.Equal = sym less ∙ ap (bytes_cmp t) (sym e) ∙ tied_itself nat_list_cmp_total t in
    cc

-- the path of a valid key is not that of any valid key behind it
apart : (b p : Path) (B es : Block) (t : List ℕ) (m : NodeMetadata) → path_at b B t ≡ Some p → node_at_key B t ≡ Some m → IsValidKey t
    → AllByRecursion (λ y. bytes_cmp t y ≡ Less) (keys_of es) → AllByRecursion (λ e. node_at_key B e.0 ≡ Some e.1) es → AllByRecursion (λ e. IsValidKey e.0) es
    → All (λ e. p ≢ e.0) (pairs_by b B es)
apart b p B [] t m path is v below h w = All-nil (λ e. p ≢ e.0)
apart b p B (e ∷ es) t m path is v below h w =
    let rest = apart b p B es t m path is v below.1 h.1 w.1 in
    elim (path_at b B e.0) as (λ o. path_at b B e.0 ≡ o → All (λ d. p ≢ d.0) (with_pair o e.1 (pairs_by b B es))) [
      | None ↦ λ _. rest
      | Some q ↦ λ other.
          All-cons (λ d. p ≢ d.0) (q, e.1) (pairs_by b B es) (λ same. differ t e.0 below.0 (same_key b p q B t e.0 m e.1 path other same is h.0 v w.0)) rest
    ] refl

-- the pairs of valid keys that ascend have each path once
once : (b : Path) (B es : Block) → IsStrictlySortedBy bytes_cmp (keys_of es) → AllByRecursion (λ e. node_at_key B e.0 ≡ Some e.1) es → AllByRecursion (λ e. IsValidKey e.0) es
    → HaveOwnPaths (pairs_by b B es)
unfolding IsStrictlySortedBy
once b B [] up h v = λ i j d less inside. absurd (omega (arith, inside))
once b B (e ∷ es) up h v =
    let rest = once b B es up.1 h.1 v.1 in
    elim (path_at b B e.0) as (λ o. path_at b B e.0 ≡ o → HaveOwnPaths (with_pair o e.1 (pairs_by b B es))) [
      | None ↦ λ _. rest
      | Some p ↦ λ path.
          AllPairs-cons (λ d f. d.0 ≢ f.0) (p, e.1) (pairs_by b B es) (apart b p B es e.0 e.1 path h.0 v.0 up.0 h.1 v.1) rest
    ] refl

-- entries that a block with valid keys has at their keys have valid keys
all_valid : (B es : Block) → HasValidKeys B → AllByRecursion (λ e. node_at_key B e.0 ≡ Some e.1) es → AllByRecursion (λ e. IsValidKey e.0) es
all_valid B [] v h = tt
all_valid B (e ∷ es) v h = (v e.0 (subst IsSome (sym h.0) refl), all_valid B es v h.1)

-- the pairs of a block whose keys ascend and are valid have each path once
pub own_paths : (b : Path) (B : Block) → IsAscending B → HasValidKeys B → HaveOwnPaths (pairs_at (paths_at b B B) B)
own_paths b B up v = once b B B up (found_all B up) (all_valid B B v (found_all B up))

-- they are the entries of the block below the base
pub entries_listed : (b : Path) (B : Block) → IsAscending B → HasValidKeys B → Lists (Entries B b) (pairs_at (paths_at b B B) B)
entries_listed b B up v = record {
  each_once = λ i j d less inside e. own_paths b B up v i j d less inside (ap (λ x. x.0) e);
  sound = sound b B B (found_all B up) (all_valid B B v (found_all B up));
  complete = complete b B;
}

-- ---- pairs, key by key

-- these are the pairs of the first keys, and those of the keys that are left make them all; the keys of the block are valid where those that are left are
abbrev pub IsExpanding : Path → Block → List (Path × NodeMetadata) → Block → Type 0
IsExpanding b B all left =
    (all ++ pairs_by b B left ≡ pairs_by b B B) × (AllByRecursion (λ e. IsValidKey e.0) left → AllByRecursion (λ e. IsValidKey e.0) B)
    × ((t : List ℕ) → IsSome (node_at_key left t) → IsSome (node_at_key B t))

module _ (b : Path) (B : Block) (all : List (Path × NodeMetadata)) (left : Block) (e : List ℕ × NodeMetadata) (es : Block) (is : left ≡ e ∷ es) (h : IsExpanding b B all left) where
  -- the entry at hand is the first of those left
  then_here : IsExpanding b B all (e ∷ es)
  then_here = subst (IsExpanding b B all) is h

  -- a key that is left is one of the block
  pub is_there : IsSome (node_at_key B e.0)
  is_there = then_here.2 e.0 (subst IsSome (sym (found_here e es)) refl)

  -- a key that adds a path has its pair
  pub expanded_some : (new : List (Path × NodeMetadata)) (p : Path) → Some p ≡ path_at b B e.0 → IsValidKey e.0 → new ≡ all ++ (p, e.1) ∷ [] → IsExpanding b B new es
  expanded_some new p path valid more = (
    ap (λ xs. xs ++ pairs_by b B es) more ∙ append_assoc all ((p, e.1) ∷ []) (pairs_by b B es)
        ∙ ap (λ o. all ++ with_pair o e.1 (pairs_by b B es)) path ∙ then_here.0,
    λ v. then_here.1 (valid, v),
    λ t s. then_here.2 t (found_later e es t s),
  )

  -- one that adds none is passed over
  pub expanded_none : None ≡ path_at b B e.0 → IsValidKey e.0 → IsExpanding b B all es
  expanded_none path valid = (
    ap (λ o. all ++ with_pair o e.1 (pairs_by b B es)) path ∙ then_here.0,
    λ v. then_here.1 (valid, v),
    λ t s. then_here.2 t (found_later e es t s),
  )

  -- one that does not join is refused
  pub refuses_key : (err : PathError) → RefusesJoin e.0 err → RefusesKeys B (NodePathError err)
  refuses_key (Invalid text) refused = (e.0, is_there, not_valid e.0 refused.0 refused.1, refused)
  refuses_key OutOfMemory refused = tt

-- where none is left, all have their pairs
pub all_expanded : (b : Path) (B : Block) (all : List (Path × NodeMetadata)) (left : Block) → left ≡ [] → IsExpanding b B all left → (all ≡ pairs_by b B B) × HasValidKeys B
all_expanded b B all left none h =
    let done : IsExpanding b B all [] = subst (IsExpanding b B all) none h in
    (sym (nothing_behind all) ∙ done.0, valid_keys B (done.1 tt))

-- a refusal that is handed on is one
pub keys_refused : {A : Type 0} (B : Block) (r : Result A NodeCreateError) (e : NodeCreateError) → IsErrAnd r (λ made. made ≡ e) → RefusesKeys B e → IfErr r (RefusesKeys B)
keys_refused B (Ok x) e is h = absurd is
keys_refused B (Err made) e is h = subst (RefusesKeys B) (sym is) h
