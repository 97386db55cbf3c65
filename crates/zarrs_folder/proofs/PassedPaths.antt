-- The documents below the paths at which a listing goes no further.
use Rattle.std.proofs.Common.{◌≡◌, ◌⊎◌, inl, inr, ⊎_elim, ℕ, Bool, true, false, List, [], ◌∷◌, ◌++◌, Contains, refl, sym, ap, subst, ◌∙◌, append_assoc, append-nil, arith}
use Rattle.std.proofs.lemmas.List.Elements.{Contains-append_left, Contains-append_right, Contains-push_cases}
use Rattle.zarrs_store.specs.Segments.{Segments}
use Rattle.zarrs_store.specs.Contents.{Contents, Values, HasKey, HasBelow, IsChildPrefix}
use Rattle.zarrs_path.specs.Keys.{zarr_json, zarray, zgroup, zattrs, zmetadata}
use Rattle.zarrs_path.specs.Paths.{Path, IsPath, IsBelow}
use Rattle.zarrs_meta.specs.Node.{is_group}
use Rattle.zarrs_meta.specs.declared.node.NodeMetadata.{NodeMetadata}
use Rattle.zarrs_config.specs.declared.version.MetadataRetrieveVersion.TheVariants.{Default}
use Rattle.zarrs_meaning.specs.Meaning.{Meaning, meaning, node, nothing, bad}
use Rattle.zarrs_node.specs.Nodes.{StandsFrom}
use Rattle.zarrs_node.specs.Nodes.{MeansNode, IsListed}
use Rattle.zarrs_node.specs.Reach.{Reached}
use Rattle.zarrs_node.proofs.blocks.Leads.{same_or_above}
use Rattle.zarrs_node.proofs.Order.{contains_cases}
use Rattle.zarrs_node.proofs.ForestsBeside.{Contains-first}
use Rattle.zarrs_node.proofs.walk.WalkSteps.{reached_deeper}
use Rattle.zarrs_path.proofs.NameLemmas.{name_head}
use Rattle.zarrs_path.proofs.PathTexts.{IsPath-parts}
use Rattle.zarrs_folder.specs.Folders.{in_any}
use Rattle.zarrs_folder.specs.declared.documents.Documents.TheVariants.{All}
use Rattle.zarrs_folder.proofs.DecidingDocuments.{files_of_all}
use Rattle.zarrs_folder.specs.PrunedStores.{Grows, HasNoOtherKeys, HasSameFile, HasSameFiles, IsLoadedFrom, IsPruned, node_files}
use Rattle.zarrs_folder.specs.PassedPaths.{node_documents, HasSameDocuments, HoldsFilesOf, HoldsBelow, IsPassed, IsBelowArray, PassedHoldSame}
use Rattle.zarrs_folder.specs.StepsOfLoadingNodes.{HoldsButAhead, LiesAhead}
use Rattle.zarrs_folder.proofs.LoadingSteps.{below_kept, child_of, file_cases, grows_further, no_loop, not_below}

-- ---- what was loaded stays

-- a store that was loaded stays so as it grows
pub loaded_grows : (V L M : Values) (b : Path) → Grows V L M → IsLoadedFrom All (in_any V) (in_any L) b → IsLoadedFrom All (in_any V) (in_any M) b
loaded_grows V L M b grows loaded = record {
  base = record { numbers = refl; keys = grows.keys loaded.base.keys; documents = λ file in'. grows.same (b ++ file ∷ []) (loaded.base.documents file in') };
  below = λ none.
      let pruned = loaded.below none in
      record {
        numbers = refl;
        keys = grows.keys pruned.keys;
        documents = λ p stands file in'. grows.same (p ++ file ∷ []) (pruned.documents p stands file in');
        children = λ g n listed has. below_kept V L M grows (g ++ n ∷ []) (pruned.children g n listed has);
      };
}

-- so does what it has below paths
pub below_grows : (V L M : Values) (ps : List Path) → Grows V L M → HoldsBelow V L ps → HoldsBelow V M ps
below_grows V L M ps grows holds p q in' low file of' = grows.same (q ++ file ∷ []) (holds p q in' low file of')

-- what is below some paths and below one more
pub below_another : (V L : Values) (ps : List Path) (p : Path) → HoldsBelow V L ps → HoldsBelow V L (p ∷ []) → HoldsBelow V L (ps ++ p ∷ [])
below_another V L ps p before last x q in' low file of' = ⊎_elim
    (λ old. before x q old low file of')
    (λ is. last p q (Contains-first p []) (subst (λ y. IsBelow y q) (sym is) low) file of')
    (Contains-push_cases ps p x in')

-- ---- what lies ahead

-- a file that makes a node is one of the files of a node
document_is_file : (file : List ℕ) → Contains node_documents file → Contains node_files file
document_is_file file in' = Contains-append_left node_documents (zattrs ∷ zmetadata ∷ []) file in'

-- what holds of the three names holds of each
of_each_document : (P : List ℕ → Type 0) → P zarr_json → P zarray → P zgroup → (file : List ℕ) → Contains node_documents file → P file
of_each_document P a b c file in' =
    ⊎_elim (λ is. subst P is a) (λ r. ⊎_elim (λ is. subst P is b) (λ s. ⊎_elim (λ is. subst P is c) (λ t. absurd (omega (arith, t.1)))
    (contains_cases zgroup [] file s)) (contains_cases zarray (zgroup ∷ []) file r)) (contains_cases zarr_json (zarray ∷ zgroup ∷ []) file in')

-- what lies ahead does so by the last prefix, or by one before it
lies_ahead_cases : (qs : List Segments) (q x : Segments) → LiesAhead (qs ++ q ∷ []) x → LiesAhead qs x ⊎ ((rest : Segments) × (x ≡ q ++ rest))
lies_ahead_cases qs q x (r, in', (rest, is)) = ⊎_elim (λ before. inl (r, before, (rest, is))) (λ last. inr (rest, is ∙ ap (λ z. z ++ rest) (sym last))) (Contains-push_cases qs q r in')

-- once the children of a prefix lie ahead, so does what has something below it there
ahead_below : (V : Values) (q : Segments) (cs : List Segments) → ((child : Segments) → IsChildPrefix V q child → Contains cs child)
    → (m : List ℕ) (ms x : Segments) → x ≡ q ++ m ∷ ms → HasBelow V x → LiesAhead cs x
ahead_below V q cs complete m ms x is has = (q ++ m ∷ [], complete (q ++ m ∷ []) (child_of V q m ms x is has), (ms, is ∙ sym (append_assoc q (m ∷ []) ms)))

-- the beginning: the children of the path lie ahead
pub passed_begun : (V : Values) (p : Path) (L : Values) (cs : List Segments) → HasNoOtherKeys V L → ((child : Segments) → IsChildPrefix V p child → Contains cs child) → HoldsButAhead V p L cs
passed_begun V p L cs none complete = record {
  keys = none;
  documents = λ q low file in'. file_cases V L q file none (λ has. ahead_below V p cs complete low.0 low.1 q low.2 has);
}

-- a turn: the documents of a prefix are there, and its children lie ahead
pub passed_turn : (V : Values) (p : Path) (L M : Values) (qs rs : List Segments) (q : Segments) → Grows V L M → (HasNoOtherKeys V L → HasSameDocuments V M q)
    → (cs : List Segments) → ((child : Segments) → IsChildPrefix V q child → Contains cs child) → rs ≡ qs ++ cs → HoldsButAhead V p L (qs ++ q ∷ []) → HoldsButAhead V p M rs
passed_turn V p L M qs rs q grows got cs complete is way = subst (HoldsButAhead V p M) (sym is) (record {
  keys = grows.keys way.keys;
  documents = λ x low file in'. ⊎_elim (λ same. inl (grows.same (x ++ file ∷ []) same))
      (λ ahead. ⊎_elim (λ old. inr (old.0, Contains-append_left qs cs old.0 old.1, old.2)) (λ new. at x file in' new.0 new.1) (lies_ahead_cases qs q x ahead))
      (way.documents x low file in');
})
  where
    at : (x : Path) (file : List ℕ) → Contains node_documents file → (rest : Segments) → x ≡ q ++ rest → HasSameFile V M x file ⊎ LiesAhead (qs ++ cs) x
    at x file in' [] e = inl (subst (λ y. HasSameFile V M y file) (sym (e ∙ append-nil q)) (got way.keys file in'))
    at x file in' (m ∷ ms) e = file_cases V M x file (grows.keys way.keys) (λ has.
        let w = ahead_below V q cs complete m ms x e has in (w.0, Contains-append_right qs cs w.0 w.1, w.2))

-- the end: nothing lies ahead
pub passed_ended : (V : Values) (p : Path) (L : Values) → HoldsButAhead V p L [] → HoldsBelow V L (p ∷ [])
passed_ended V p L way x q in' low file of' = ⊎_elim (λ same. same) (λ ahead. absurd (omega (arith, ahead.1.1)))
    (way.documents q (⊎_elim (λ is. subst (λ y. IsBelow y q) (sym is) low) (λ none. absurd (omega (arith, none.1))) (contains_cases p [] x in')) file of')

-- three documents, one after another
pub three_grown : (V L0 L1 L2 L3 : Values) → Grows V L0 L1 → Grows V L1 L2 → Grows V L2 L3 → Grows V L0 L3
three_grown V L0 L1 L2 L3 a b c = grows_further V L0 L1 L3 a (grows_further V L1 L2 L3 b c)

-- are as in the whole in the end
pub three_got : (V L0 L1 L2 L3 : Values) (p : Path) → Grows V L0 L1 → Grows V L1 L2 → Grows V L2 L3
    → (HasNoOtherKeys V L0 → HasSameFile V L1 p zarr_json) → (HasNoOtherKeys V L1 → HasSameFile V L2 p zarray) → (HasNoOtherKeys V L2 → HasSameFile V L3 p zgroup)
    → HasNoOtherKeys V L0 → HasSameDocuments V L3 p
three_got V L0 L1 L2 L3 p a b c f g h none0 =
    let none1 = a.keys none0 in
    let none2 = b.keys none1 in
    of_each_document (HasSameFile V L3 p) (c.same _ (b.same _ (f none0))) (c.same _ (g none1)) (h none2)

-- ---- the law

-- a listed path and one name is reached
child_reached : (S : Contents) (b g : Path) (n : List ℕ) (c : Path) → IsListed (meaning S Default) true b g → IsPath (n ∷ []) → c ≡ g ++ n ∷ [] → Reached (MeansNode S Default) true b c
child_reached S b g n c h name is = ⊎_elim
    (λ same. record {
      below = (n, [], is ∙ ap (λ x. x ++ n ∷ []) same, name);
      between = λ q low up. absurd (⊎_elim (λ at. not_below b (subst (IsBelow b) (at ∙ same) low)) (λ above. no_loop b q low (subst (IsBelow q) same above)) (same_or_above g q n up.0 up.1 (sym is ∙ up.2)));
    })
    (λ w. reached_deeper (MeansNode S Default) true b g c n w.0 w.1 (name_head n [] name) is)
    h

module _ (S L : Contents) (b p : Path) (ps : List Path) (pruned : IsPruned All S L b) (holds : HoldsBelow S.values L.values ps) (all : (q : Path) → IsPassed S b q → Contains ps q)
    (far : IsBelowArray S b p → ⊥) where
  -- of what stands from the base on
  standing : StandsFrom S Default b p → HasSameDocuments S.values L.values p
  standing stands file in' = files_of_all S.values L.values p (pruned.documents p stands) file (document_is_file file in')

  -- below a path that is passed, where something is below that
  passed : (c : Path) → (HasBelow S.values c → IsPassed S b c) → IsBelow c p → HasSameDocuments S.values L.values p
  passed c then low file in' = ⊎_elim (λ same. same)
      (λ has. holds c p (all c (then (low.0, low.1 ++ has.0 ∷ has.1, subst (HasKey S.values) (ap (λ x. x ++ has.0 ∷ has.1) low.2 ∙ append_assoc c (low.0 ∷ low.1) (has.0 ∷ has.1)) has.2))) low file in')
      (file_cases S.values L.values p file pruned.keys (λ has. has))

  -- below a listed path, by the names beyond it
  beyond : (g : Path) → IsListed (meaning S Default) true b g → (y : List ℕ) (ys : Path) → p ≡ g ++ y ∷ ys → IsPath (y ∷ ys) → HasSameDocuments S.values L.values p
  beyond g listed y [] e valid = standing (inr (child_reached S b g y p listed valid e))
  beyond g listed y (z ∷ zs) e valid =
      let parts = IsPath-parts (y ∷ []) (z ∷ zs) valid in
      let reached = child_reached S b g y (g ++ y ∷ []) listed parts.0 refl in
      let further = e ∙ sym (append_assoc g (y ∷ []) (z ∷ zs)) in
      by_meaning (g ++ y ∷ []) reached (z, zs, further)
      (λ listed'. beyond (g ++ y ∷ []) listed' z zs further parts.1)
      (meaning S Default (g ++ y ∷ [])) refl
    where
      by_group : (c : Path) → Reached (MeansNode S Default) true b c → IsBelow c p → (IsListed (meaning S Default) true b c → HasSameDocuments S.values L.values p)
          → (m : NodeMetadata) → meaning S Default c ≡ node m → (k : Bool) → is_group m ≡ k → HasSameDocuments S.values L.values p
      by_group c reached low deeper m means true kind = deeper (inr (reached, (refl, (m, means, kind))))
      by_group c reached low deeper m means false kind = absurd (far (c, inr reached, low, (m, means, kind)))

      by_meaning : (c : Path) → Reached (MeansNode S Default) true b c → IsBelow c p → (IsListed (meaning S Default) true b c → HasSameDocuments S.values L.values p)
          → (mean : Meaning) → meaning S Default c ≡ mean → HasSameDocuments S.values L.values p
      by_meaning c reached low deeper (node m) means = by_group c reached low deeper m means (is_group m) refl
      by_meaning c reached low deeper nothing means = passed c (λ has. inl (reached, means, has)) low
      by_meaning c reached low deeper (bad error) means = passed c (λ has. inr (reached, (error, means))) low

-- where a pruned store has what is below all passed paths, paths below the base and no array have the same documents
pub passed_hold_same : PassedHoldSame
passed_hold_same S L b ps pruned holds all p ns n is names far = beyond S L b p ps pruned holds all far b (inl refl) n ns is names

-- ---- the documents of single paths

-- what is as in the whole at some paths stays so
pub at_grows : (V L M : Values) (ps : List Path) → Grows V L M → HoldsFilesOf V L ps → HoldsFilesOf V M ps
at_grows V L M ps grows at p in' file of' = grows.same (p ++ file ∷ []) (at p in' file of')

-- and at one path more
pub at_another : (V L : Values) (ps : List Path) (p : Path) → HoldsFilesOf V L ps → HasSameFiles V L p → HoldsFilesOf V L (ps ++ p ∷ [])
at_another V L ps p before last x in' = ⊎_elim (λ old. before x old) (λ is. subst (HasSameFiles V L) is last) (Contains-push_cases ps p x in')
