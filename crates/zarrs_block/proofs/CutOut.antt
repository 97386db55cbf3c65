-- Blocks without some of their keys.
use Rattle.std.proofs.Common.{◌≡◌, ◌≢◌, inl, inr, ⊎_elim, ◌↔◌, ◌<◌, ℕ, Bool, true, false, true≢false, not, ◌&&◌, cond, List, [], ◌∷◌, ◌++◌, map, Some, None, String, Global, string_bytes, string_cmp, nat_cmp, Ordering, Less, Equal, Greater, refl, ap, sym, subst, ◌∙◌, arith}
use Rattle.std.specs.List.{filter}
use Rattle.std.specs.Map.{remove_entry}
use Rattle.std.specs.BTreeMap.{is_at}
use Rattle.std.specs.BTreeMap.Range.{entries_between}
use Rattle.std.specs.declared.ops.Bound.TheVariants.{Included, Excluded}
use Rattle.std.specs.Ordering.{MatchOrdering, is_eq, is_gt, is_le, ordering_then}
use Rattle.std.specs.Cmp.Lexicographic.{slice_cmp}
use Rattle.std.proofs.lemmas.Bool.{false_from_ne_true}
use Rattle.std.proofs.lemmas.Cmp.{nat_cmp_total, ranked, tied_itself}
use Rattle.zarrs_store.specs.Segments.{bytes_cmp}
use Rattle.zarrs_meta.specs.declared.node.NodeMetadata.{NodeMetadata}
use Rattle.zarrs_block.specs.Block.{Block, IsAscending, node_at_key}
use Rattle.zarrs_block.specs.KeysAboutAPath.{IsAtOrBelow, IsWithout}
use Rattle.zarrs_block.specs.StepsOfKeys.{Among, AreKeysBelow, Begins, IsCutBy}
use Rattle.zarrs_block.proofs.BlockLaws.{shown, texts, nothing_behind}
use Rattle.zarrs_block.proofs.Expansion.{same_text}

-- an entry of a map of texts
abbrev Entry : Type 0
Entry = String Global × NodeMetadata

-- nothing is no metadata
pub none_some : (m : NodeMetadata) → None ≡ Some m → ⊥
none_some m e = cc

-- ---- one key removed

-- at another text there is what there was
pub others_kept : (k t : List ℕ) (es : List Entry) → t ≢ k → node_at_key (shown (remove_entry (is_at (λ q. slice_cmp nat_cmp k (string_bytes q))) es)) t ≡ node_at_key (shown es) t
others_kept k t [] other = refl
others_kept k t (e ∷ es) other = by (is_eq (bytes_cmp k (string_bytes e.0))) refl (others_kept k t es other)
  where
    by : (x : Bool) → is_eq (bytes_cmp k (string_bytes e.0)) ≡ x → node_at_key (shown (remove_entry (is_at (λ q. slice_cmp nat_cmp k (string_bytes q))) es)) t ≡ node_at_key (shown es) t
        → node_at_key (shown (cond x es (e ∷ remove_entry (is_at (λ q. slice_cmp nat_cmp k (string_bytes q))) es))) t ≡ node_at_key (shown (e ∷ es)) t
    by true is again =
        let off : is_eq (bytes_cmp t (string_bytes e.0)) ≡ false =
        false_from_ne_true (is_eq (bytes_cmp t (string_bytes e.0))) (λ at. other (same_text t (string_bytes e.0) at ∙ sym (same_text k (string_bytes e.0) is))) in
        sym (ap (λ y. cond y (Some e.1) (node_at_key (shown es) t)) off)
    by false is again = ap (λ o. cond (is_eq (bytes_cmp t (string_bytes e.0))) (Some e.1) o) again

-- ---- the texts that begin with a text and a slash

-- whether t stands between r with a slash and r with a `0`
abbrev pub is_between : List ℕ → List ℕ → Bool
is_between r t = is_le (bytes_cmp (r ++ 47 ∷ []) t) && not (is_le (bytes_cmp (r ++ 48 ∷ []) t))

-- no text is before the empty one
none_first : (u : List ℕ) → is_le (bytes_cmp [] u) ≡ true
none_first [] = refl
none_first (c ∷ u) = refl

-- what is both and is not
not_both : (a b : Bool) → b ≡ true → a && not b ≡ true → ⊥
not_both true true e h = true≢false (sym h)
not_both false b e h = true≢false (sym h)
not_both true false e h = true≢false (sym e)

-- a byte behind the slash is a `0` or behind it
behind_slash : (c : ℕ) (u : List ℕ) → 47 < c → is_le (bytes_cmp (48 ∷ []) (c ∷ u)) ≡ true
behind_slash c u low = by (nat_cmp 48 c) (ranked 48 c (nat_cmp 48 c) refl)
  where
    by : (o : Ordering) → MatchOrdering o (48 < c) (48 ≡ c) (c < 48) → is_le (ordering_then o (bytes_cmp [] u)) ≡ true
    by Less h = refl
    by Equal h = none_first u
    by Greater h = absurd (omega (arith, low, h))

-- what stands between them begins with r and a slash
pub begins_from : (r t : List ℕ) → is_between r t ≡ true → (rest : List ℕ) × (t ≡ r ++ 47 ∷ rest)
begins_from [] [] h = absurd (true≢false (sym h))
begins_from (k ∷ r) [] h = absurd (true≢false (sym h))
begins_from [] (c ∷ u) h = by (nat_cmp 47 c) (ranked 47 c (nat_cmp 47 c) refl) h
  where
    by : (o : Ordering) → MatchOrdering o (47 < c) (47 ≡ c) (c < 47) → is_le (ordering_then o (bytes_cmp [] u)) && not (is_le (bytes_cmp (48 ∷ []) (c ∷ u))) ≡ true → (rest : List ℕ) × (c ∷ u ≡ 47 ∷ rest)
    by Less low g = absurd (not_both true (is_le (bytes_cmp (48 ∷ []) (c ∷ u))) (behind_slash c u low) g)
    by Equal same g = (u, ap (λ d. d ∷ u) (sym same))
    by Greater high g = absurd (true≢false (sym g))
begins_from (k ∷ r) (c ∷ u) h = by (nat_cmp k c) (ranked k c (nat_cmp k c) refl) (begins_from r u) h
  where
    by : (o : Ordering) → MatchOrdering o (k < c) (k ≡ c) (c < k) → (is_between r u ≡ true → (rest : List ℕ) × (u ≡ r ++ 47 ∷ rest))
        → is_le (ordering_then o (bytes_cmp (r ++ 47 ∷ []) u)) && not (is_le (ordering_then o (bytes_cmp (r ++ 48 ∷ []) u))) ≡ true → (rest : List ℕ) × (c ∷ u ≡ k ∷ (r ++ 47 ∷ rest))
    by Less low again g = absurd (true≢false (sym g))
    by Equal same again g = let w = again g in (w.0, λ i. sym same i ∷ w.1 i)
    by Greater high again g = absurd (true≢false (sym g))

-- and what begins so stands between them
pub begins_of : (r rest : List ℕ) → is_between r (r ++ 47 ∷ rest) ≡ true
begins_of [] rest = ap (λ x. x && true) (none_first rest)
begins_of (k ∷ r) rest =
    ap (λ o. is_le (ordering_then o (bytes_cmp (r ++ 47 ∷ []) (r ++ 47 ∷ rest))) && not (is_le (ordering_then o (bytes_cmp (r ++ 48 ∷ []) (r ++ 47 ∷ rest))))) (tied_itself nat_cmp_total k)
    ∙ begins_of r rest

-- r with a slash is not behind r with a `0`
pub runs_forward : (r : List ℕ) → is_gt (bytes_cmp (r ++ 47 ∷ []) (r ++ 48 ∷ [])) ≡ false
runs_forward [] = refl
runs_forward (k ∷ r) = ap (λ o. is_gt (ordering_then o (bytes_cmp (r ++ 47 ∷ []) (r ++ 48 ∷ [])))) (tied_itself nat_cmp_total k) ∙ runs_forward r

-- ---- the entries of a range

module _ (test : List ℕ → Bool) where
  -- the entries whose keys pass the test
  abbrev passing : List Entry → List Entry
  passing es = filter (λ e. test (string_bytes e.0)) es

  -- a key that passes and is found is among them
  among_of : (t : List ℕ) (m : NodeMetadata) (es : List Entry) → test t ≡ true → node_at_key (shown es) t ≡ Some m → Among (texts (passing es)) t
  among_of t m [] pass h = absurd (none_some m h)
  among_of t m (e ∷ es) pass h = by (is_eq (bytes_cmp t (string_bytes e.0))) refl (test (string_bytes e.0)) refl (among_of t m es pass) h
    where
      by : (x : Bool) → is_eq (bytes_cmp t (string_bytes e.0)) ≡ x → (y : Bool) → test (string_bytes e.0) ≡ y → (node_at_key (shown es) t ≡ Some m → Among (texts (passing es)) t)
          → cond x (Some e.1) (node_at_key (shown es) t) ≡ Some m → Among (texts (cond y (e ∷ passing es) (passing es))) t
      by true at true is again g = inl (same_text t (string_bytes e.0) at)
      by true at false is again g = absurd (true≢false (sym pass ∙ ap test (same_text t (string_bytes e.0) at) ∙ is))
      by false at true is again g = inr (again g)
      by false at false is again g = again g

  -- and each of them passes
  among_from : (t : List ℕ) (es : List Entry) → Among (texts (passing es)) t → test t ≡ true
  among_from t [] h = absurd h
  among_from t (e ∷ es) h = by (test (string_bytes e.0)) refl (among_from t es) h
    where
      by : (y : Bool) → test (string_bytes e.0) ≡ y → (Among (texts (passing es)) t → test t ≡ true) → Among (texts (cond y (e ∷ passing es) (passing es))) t → test t ≡ true
      by true is again g = ⊎_elim (λ same. ap test same ∙ is) again g
      by false is again g = again g

-- the keys of the range are those that begin with r and a slash
pub range_below : (r : List ℕ) (B : Block) (es left : List Entry) (first end : String Global) → shown es ≡ B
    → string_bytes first ≡ r ++ 47 ∷ [] → string_bytes end ≡ r ++ 48 ∷ [] → left ≡ entries_between string_cmp (Included first) (Excluded end) es → AreKeysBelow r B (texts left)
range_below r B es left first end all low high range t = (
  λ among. begins_from r t (among_from (is_between r) t es (subst (λ xs. Among (texts xs) t) whole among)),
  λ m h begins.
      subst (λ xs. Among (texts xs) t) (sym whole)
      (among_of (is_between r) t m es (ap (is_between r) begins.1 ∙ begins_of r begins.0) (ap (λ C. node_at_key C t) all ∙ h)),
)
  where
    -- the range by the bytes of its bounds
    whole : left ≡ filter (λ e. is_between r (string_bytes e.0)) es
    whole = range ∙ ap (λ k. filter (λ e. is_le (bytes_cmp k (string_bytes e.0)) && not (is_le (bytes_cmp (string_bytes end) (string_bytes e.0)))) es) low
        ∙ ap (λ k. filter (λ e. is_le (bytes_cmp (r ++ 47 ∷ []) (string_bytes e.0)) && not (is_le (bytes_cmp k (string_bytes e.0)))) es) high

-- the texts with one more at their end, and further texts
copied_one : (keys : List (String Global)) (k : String Global) (ts : List (List ℕ)) → map string_bytes (keys ++ k ∷ []) ++ ts ≡ map string_bytes keys ++ string_bytes k ∷ ts
copied_one [] k ts = refl
copied_one (x ∷ keys) k ts = ap (λ ks. string_bytes x ∷ ks) (copied_one keys k ts)

-- one more key is copied
pub copied_key : (r : List ℕ) (B : Block) (keys new : List (String Global)) (k : String Global) (left es : List Entry) (e : Entry) → left ≡ e ∷ es → string_bytes k ≡ string_bytes e.0
    → new ≡ keys ++ k ∷ [] → AreKeysBelow r B (map string_bytes keys ++ texts left) → AreKeysBelow r B (map string_bytes new ++ texts es)
copied_key r B keys new k left es e is key push h =
    let same : map string_bytes new ++ texts es ≡ map string_bytes keys ++ texts left =
    ap (λ ks. map string_bytes ks ++ texts es) push ∙ copied_one keys k (texts es) ∙ ap (λ t. map string_bytes keys ++ t ∷ texts es) key ∙ ap (λ xs. map string_bytes keys ++ texts xs) (sym is) in
    subst (AreKeysBelow r B) (sym same) h

-- at first all are left, and at the end none
pub all_left : (r : List ℕ) (B : Block) (keys : List (String Global)) (left : List Entry) → keys ≡ [] → AreKeysBelow r B (texts left) → AreKeysBelow r B (map string_bytes keys ++ texts left)
all_left r B keys left none h = subst (λ ks. AreKeysBelow r B (map string_bytes ks ++ texts left)) (sym none) h

-- where none is left, the keys that were copied are those that begin with r and a slash
pub all_copied : (r : List ℕ) (B : Block) (keys : List (String Global)) (left : List Entry) → left ≡ [] → AreKeysBelow r B (map string_bytes keys ++ texts left) → AreKeysBelow r B (map string_bytes keys)
all_copied r B keys left none h = subst (AreKeysBelow r B) (ap (λ xs. map string_bytes keys ++ texts xs) none ∙ nothing_behind (map string_bytes keys)) h

-- ---- what is cut out of a block

-- without a key a block has at each text what it had, but for that key
module _ (r : List ℕ) (old one : Block) (gone : node_at_key one r ≡ None) (others : (t : List ℕ) → t ≢ r → node_at_key one t ≡ node_at_key old t) where
  -- what it has is not at the key
  pub not_there : (t : List ℕ) (m : NodeMetadata) → node_at_key one t ≡ Some m → t ≢ r
  not_there t m h same = none_some m (sym gone ∙ ap (node_at_key one) (sym same) ∙ h)

  -- and was there
  pub was_there : (t : List ℕ) (m : NodeMetadata) → node_at_key one t ≡ Some m → node_at_key old t ≡ Some m
  was_there t m h = sym (others t (not_there t m h)) ∙ h

module _ (r : List ℕ) (one : Block) where
  -- the keys that are left are still to be taken out
  abbrev pub IsLeft : Block → List (List ℕ) → Type 0
  IsLeft now left = IsAscending now × ((t : List ℕ) (m : NodeMetadata) → ((Among left t → ⊥) × (node_at_key now t ≡ Some m)) ↔ ((Begins r t → ⊥) × (node_at_key one t ≡ Some m)))

  -- at first those are left that begin with the text and a slash
  pub cut_start : (ks left : List (List ℕ)) → left ≡ ks → IsAscending one → AreKeysBelow r one ks → IsLeft one left
  cut_start ks left all up below = (
    up,
    λ t m. (
      λ h. (λ begins. h.0 (subst (λ xs. Among xs t) (sym all) ((below t).1 m h.1 begins)), h.1),
      λ h. (λ among. h.0 ((below t).0 (subst (λ xs. Among xs t) all among)), h.1),
    ),
  )

  -- one more is taken out
  pub cut_next : (now new : Block) (left ks : List (List ℕ)) (k t' : List ℕ) → left ≡ t' ∷ ks → k ≡ t'
      → node_at_key new k ≡ None → ((t : List ℕ) → t ≢ k → node_at_key new t ≡ node_at_key now t) → IsAscending new → IsLeft now left → IsLeft new ks
  cut_next now new left ks k t' is key gone others up h = (
    up,
    λ t m. (
      λ g.
          let other : t ≢ k = not_there k now new gone others t m g.1 in
          (h.1 t m).0 (λ among. ⊎_elim (λ same. other (same ∙ sym key)) g.0 (subst (λ xs. Among xs t) is among), sym (others t other) ∙ g.1),
      λ g.
          let w = (h.1 t m).1 g in
          let apart : Among (t' ∷ ks) t → ⊥ = λ among. w.0 (subst (λ xs. Among xs t) (sym is) among) in
          (λ among. apart (inr among), others t (λ same. apart (inl (same ∙ key))) ∙ w.1),
    ),
  )

  -- where none is left, all are taken out, and the key itself before them
  pub cut_end : (old now : Block) (left : List (List ℕ)) → left ≡ [] → node_at_key one r ≡ None → ((t : List ℕ) → t ≢ r → node_at_key one t ≡ node_at_key old t) → IsLeft now left → IsCutBy r old now
  cut_end old now left is gone others h t m = (
    λ g.
        let w = (h.1 t m).0 (λ among. subst (λ xs. Among xs t) is among, g) in
        (λ at. ⊎_elim (not_there r old one gone others t m w.1) w.0 at, was_there r old one gone others t m w.1),
    λ g. ((h.1 t m).1 (λ begins. g.0 (inr begins), others t (λ same. g.0 (inl same)) ∙ g.1)).1,
  )

-- a text at or below one behind a slash is one at or below it, behind a slash
rooted_from : (r t : List ℕ) → IsAtOrBelow (47 ∷ r) t → (u : List ℕ) × (t ≡ 47 ∷ u) × IsAtOrBelow r u
rooted_from r t h = ⊎_elim (λ same. (r, same, inl refl)) (λ w. (r ++ 47 ∷ w.0, w.1, inr (w.0, refl))) h

-- a text at or below another is so where both stand behind a slash
rooted_of : (r t : List ℕ) → (u : List ℕ) × (t ≡ 47 ∷ u) × IsAtOrBelow r u → IsAtOrBelow (47 ∷ r) t
rooted_of r t (u, is, h) = ⊎_elim (λ same. inl (is ∙ ap (λ x. 47 ∷ x) same)) (λ w. inr (w.0, is ∙ ap (λ x. 47 ∷ x) w.1)) h

-- a block cut by a text, and then by that text behind a slash, is the block without both
pub cut_twice : (r s : List ℕ) (B one two : Block) → s ≡ 47 ∷ r → IsCutBy r B one → IsCutBy s one two → IsWithout r B two
cut_twice r s B one two rooted first second t m = (
  λ h.
      let w = (second t m).0 h in
      let v = (first t m).0 w.1 in
      (λ about. ⊎_elim v.0 (λ deep. w.0 (subst (λ x. IsAtOrBelow x t) (sym rooted) (rooted_of r t deep))) about, v.1),
  λ h.
      (second t m).1 (
        λ at. h.0 (inr (rooted_from r t (subst (λ x. IsAtOrBelow x t) rooted at))),
        (first t m).1 (λ at. h.0 (inl at), h.1),
      ),
)
