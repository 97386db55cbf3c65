-- A block of which nothing is to be told agrees with its store.
use Rattle.std.proofs.Common.{◌≡◌, ◌⊎◌, inl, inr, ⊎_elim, ℕ, Bool, true, false, List, [], ◌∷◌, ◌++◌, map, refl, sym, ap, subst, ◌∙◌, arith, Contains, AllPairs, Less, Option, Some, None, Result, Ok, true≢false}
use Rattle.std.specs.List.{list_all}
use Rattle.std.specs.Prelude.{option_map, option_and_then}
use Rattle.std.specs.Result.{result_ok}
use Rattle.std.proofs.lemmas.List.{append_cancel_left}
use Rattle.std.proofs.lemmas.List.Elements.{All-map, Contains-get_or}
use Rattle.std.proofs.lemmas.List.Kept.{AllPairs-cons}
use Rattle.zarrs_fault.specs.declared.fault.MetadataFault.{MetadataFault}
use Rattle.zarrs_store.specs.Contents.{Contents}
use Rattle.zarrs_path.specs.Names.{is_name}
use Rattle.zarrs_path.specs.Paths.{Path, IsPath, IsBelow, path_cmp, relative_names}
use Rattle.zarrs_path.specs.PathOrder.{path_total}
use Rattle.zarrs_config.specs.declared.version.MetadataRetrieveVersion.{MetadataRetrieveVersion}
use Rattle.zarrs_config.specs.declared.version.UseConsolidatedMetadata.TheVariants.{Must, Never}
use Rattle.zarrs_meta.specs.Node.{is_group}
use Rattle.zarrs_meta.specs.declared.node.GroupMetadata.{GroupMetadata}
use Rattle.zarrs_meta.specs.declared.node.GroupMetadata.TheVariants.{V2, V3}
use Rattle.zarrs_meta.specs.declared.node.NodeMetadata.{NodeMetadata}
use Rattle.zarrs_meta.specs.declared.node.NodeMetadata.TheVariants.{Group, Array}
use Rattle.zarrs_block.specs.Block.{Block, Entries, HasValidKeys, IsValidKey, entry}
use Rattle.zarrs_block.specs.Policy.{use_block, list_store, block_to_use}
use Rattle.zarrs_compare.specs.Same.{IsSame, without_block}
use Rattle.zarrs_compare.specs.StepsOfSame.{same_node}
use Rattle.zarrs_compare.proofs.SameNodes.{same_from_test, test_from_same}
use Rattle.zarrs_node.specs.BlocksBelow.{block_at}
use Rattle.zarrs_node.specs.Forest.{Forest, pairs, Shows}
use Rattle.zarrs_node.specs.Nodes.{Nodes}
use Rattle.zarrs_node.specs.OpeningNodes.{choice, IsCleanChosen, ShowsChosen}
use Rattle.zarrs_node.specs.Order.{Ascend}
use Rattle.zarrs_node.specs.Reach.{HasGroup, Kept}
use Rattle.zarrs_node.proofs.FlatForests.{contains_map, contains_mapped}
use Rattle.zarrs_node.proofs.ListedItems.{listed_each, all_pairs_first, all_pairs_tail}
use Rattle.zarrs_node.proofs.Order.{shown_ascend}
use Rattle.zarrs_node.proofs.Unique.{names_irrefl}
use Rattle.zarrs_check.specs.declared.base.Base.TheVariants.{Node}
use Rattle.zarrs_check.specs.Checks.{block_read, HasBadPath, HasOtherAttributes, IsBlockFinding, IsToldOf}
use Rattle.zarrs_meaning.specs.Exists.{HasNodeKey}
use Rattle.zarrs_check.specs.Findings.{HasPath, IsSpoilt, IsKeyFinding, IsPathFinding, IsFinding}
use Rattle.zarrs_meaning.specs.Meaning.{Pair}
use Rattle.zarrs_check.specs.Laws.{HaveSameNodes, GoodBlocksAgree, GoodEntriesAreNodes, paths_of}
use Rattle.zarrs_check.specs.Surveys.{IsSurveyOf}
use Rattle.zarrs_check.specs.declared.finding.Finding.{Finding}
use Rattle.zarrs_check.specs.declared.finding.FindingKind.{FindingKind}
use Rattle.zarrs_check.specs.declared.finding.FindingKind.TheVariants.{BadKey, OwnAttributes, Unreachable, Stale, Unreached, Differs, Missing}
use Rattle.zarrs_check.specs.declared.survey.Survey.{Survey}
use Rattle.zarrs_check.proofs.Above.{below_or_not, same_or_not}
use Rattle.zarrs_check.proofs.CheckedBlocks.{base_means}
use Rattle.zarrs_check.proofs.KeyFindings.{names_valid}
use Rattle.zarrs_check.proofs.LastGroup.{reached_or_not}
use Rattle.zarrs_check.proofs.LawProofs.{nothing_bad_is_told}
use Rattle.zarrs_check.proofs.MergedPairs.{key_or_not, same_list}

-- ---- what can be told apart

-- two metadata are the same or not
same_or_other : (m n : NodeMetadata) → IsSame m n ⊎ (IsSame m n → ⊥)
same_or_other m n = by (same_node (without_block m) (without_block n)) refl
  where
    by : (t : Bool) → same_node (without_block m) (without_block n) ≡ t → IsSame m n ⊎ (IsSame m n → ⊥)
    by true t = inl (same_from_test m n t)
    by false t = inr (λ h. true≢false (sym (test_from_same m n h) ∙ t))

-- an entry is there or not
some_or_none : (o : Option NodeMetadata) → ((m : NodeMetadata) × (o ≡ Some m)) ⊎ (o ≡ None)
some_or_none (Some m) = inl (m, refl)
some_or_none None = inr refl

-- what an option has
abbrev given_or : {D : Type 0} → Option D → D → D
given_or (Some y) d = y
given_or None d = d

-- nothing is no metadata
none_some : (m : NodeMetadata) → None ≡ Some m → ⊥
none_some m e = cc

module _ (B : Block) (b : Path) where
  -- names beyond the base are one
  same_names : (m n : List ℕ) (ms ns : Path) → b ++ m ∷ ms ≡ b ++ n ∷ ns → m ∷ ms ≡ n ∷ ns
  same_names m n ms ns e = append_cancel_left b (m ∷ ms) (n ∷ ns) e

  -- what the entries have at names beyond the base
  entry_is : (n : List ℕ) (ns : Path) (m : NodeMetadata) → Entries B b (b ++ n ∷ ns, m) → IsPath (n ∷ ns) × (entry B (n ∷ ns) ≡ Some m)
  entry_is n ns m (k, ks, path, is, has) =
      let same = same_names k n ks ns (sym is) in
      (subst IsPath same path, ap (entry B) (sym same) ∙ has)

  -- a path has an entry or not
  entry_or_not : (n : List ℕ) (ns : Path) → HasPath (Entries B b) (b ++ n ∷ ns) ⊎ (HasPath (Entries B b) (b ++ n ∷ ns) → ⊥)
  entry_or_not n ns = by (list_all is_name (n ∷ ns)) refl
    where
      by : (t : Bool) → list_all is_name (n ∷ ns) ≡ t → HasPath (Entries B b) (b ++ n ∷ ns) ⊎ (HasPath (Entries B b) (b ++ n ∷ ns) → ⊥)
      by false is = inr (λ h. true≢false (sym (entry_is n ns h.0 h.1).0 ∙ is))
      by true is = ⊎_elim
          (λ w. inl (w.0, (n, ns, is, refl, w.1)))
          (λ nothing. inr (λ h. none_some h.0 (sym nothing ∙ (entry_is n ns h.0 h.1).1)))
          (some_or_none (entry B (n ∷ ns)))

  -- a path has a group entry or not
  group_at : (q : Path) → HasGroup (Entries B b) q ⊎ (HasGroup (Entries B b) q → ⊥)
  group_at q = ⊎_elim
      (λ low.
      subst (λ p. HasGroup (Entries B b) p ⊎ (HasGroup (Entries B b) p → ⊥)) (sym low.2)
      (⊎_elim (λ h. kind low.0 low.1 h.0 h.1 (is_group h.0) refl) (λ no'. inr (λ g. no' (g.0, g.1))) (entry_or_not low.0 low.1)))
      (λ out. inr (λ g. out (g.1.0, g.1.1, g.1.3)))
      (below_or_not b q)
    where
      kind : (n : List ℕ) (ns : Path) (m : NodeMetadata) → Entries B b (b ++ n ∷ ns, m) → (t : Bool) → is_group m ≡ t → HasGroup (Entries B b) (b ++ n ∷ ns) ⊎ (HasGroup (Entries B b) (b ++ n ∷ ns) → ⊥)
      kind n ns m has true is = inl (m, has, is)
      kind n ns m has false is = inr (λ g. true≢false (sym g.2 ∙ ap (λ o. is_group (given_or o g.0)) (sym (entry_is n ns g.0 g.1).1 ∙ (entry_is n ns m has).1) ∙ is))

-- ---- the block that is read is the one that is chosen

-- what was read with no fault is what is read where faults are left out
read_block : {A C : Type 0} (f : A → Result C MetadataFault) (o : Option A) (x : C) → option_map f o ≡ Some (Ok x) → option_and_then (λ y. result_ok (f y)) o ≡ Some x
read_block f None x e = cc
read_block f (Some a) x e = ap result_ok (ap (λ r. given_or r (f a)) e)

-- a block that was read with no fault is the one that stands for the nodes below
chosen : (s : Contents) (b : Path) (m : NodeMetadata) (B : Block) → block_read s b m ≡ Some (Ok B) → block_at s b m ≡ Some B
chosen s b (Group (V2 g)) B e = read_block _ _ B e
chosen s b (Group (V3 g)) B e = read_block _ _ B e
chosen s b (Array a) B e = cc

-- ---- lists of paths

-- the paths of ascending pairs ascend
paths_ascend : (es : List Pair) → Ascend es → AllPairs (λ p q. path_cmp p q ≡ Less) (map (λ e. e.0) es)
paths_ascend [] up = λ i j d l m. absurd (omega (arith, m))
paths_ascend (e ∷ es) up = AllPairs-cons (λ p q. path_cmp p q ≡ Less) e.0 (map (λ d. d.0) es)
    (All-map (λ q. path_cmp e.0 q ≡ Less) (λ d. d.0) es (λ k d lt. all_pairs_first (λ (c d : Pair). path_cmp c.0 d.0 ≡ Less) e es up _ (Contains-get_or es k d lt)))
    (paths_ascend es (all_pairs_tail (λ (c d : Pair). path_cmp c.0 d.0 ≡ Less) e es up))

-- a list of pairs has a path exactly where the list of their paths has it
path_in : (es : List Pair) (p : Path) → Contains (map (λ e. e.0) es) p → HasPath (Contains es) p
path_in es p h = let w = contains_mapped (λ (e : Pair). e.0) es p h in (w.0.1, subst (λ q. Contains es (q, w.0.1)) w.2 w.1)

-- a path of a list of pairs is in the list of their paths
path_out : (es : List Pair) (p : Path) → HasPath (Contains es) p → Contains (map (λ e. e.0) es) p
path_out es p h = contains_map (λ (e : Pair). e.0) es (p, h.0) h.1

-- ---- nothing is to be told

module _ (s : Contents) (v : MetadataRetrieveVersion) (b : Path) (survey : Survey) (h : IsSurveyOf s v b survey) (sound : survey.bad_documents ≡ []) (m : NodeMetadata) (B : Block)
    (base : survey.base ≡ Node m) (read : block_read s b m ≡ Some (Ok B)) (none : (f : Finding) → IsBlockFinding s v b f → f.group ≡ b → f.kind ≡ OwnAttributes) where
  -- so nothing of the block is
  untold : (p : Path) (k : FindingKind) → IsFinding B (Nodes s v true b) (HasBadPath s v b) (HasNodeKey s) b (record { group = b; path = p; kind = k }) → ⊥
  untold p k is =
      let own = none (record { group = b; path = p; kind = k })
      (m, inl (refl, (base_means s v b survey h m).0 base), subst (λ r. IsToldOf r (HasOtherAttributes s b m) (Nodes s v true b) (HasBadPath s v b) (HasNodeKey s) b (record { group = b; path = p; kind = k })) (sym read) (inl is)) refl in
      ⊎_elim (λ key. subst (IsKeyFinding B b p) own key) (λ path. subst (IsPathFinding (Entries B b) (Nodes s v true b) (HasBadPath s v b) (HasNodeKey s) b p) own path) is.1

  -- no finding of a path of the block is to be told
  untold_path : (p : Path) (k : FindingKind) → IsPathFinding (Entries B b) (Nodes s v true b) (HasBadPath s v b) (HasNodeKey s) b p k → ⊥
  untold_path p k is = untold p k (refl, inr is)

  -- each key is valid
  valid : HasValidKeys B
  valid t has = by (list_all is_name (relative_names t)) refl
    where
      by : (n : Bool) → list_all is_name (relative_names t) ≡ n → IsValidKey t
      by true n = (names_valid t).1 n
      by false n = absurd (untold b (BadKey t) (refl, inl (refl, (has, λ w. true≢false (sym ((names_valid t).0 w) ∙ n)))))

  -- no path is spoilt
  unspoilt : (q : Path) → HasBadPath s v b q → ⊥
  unspoilt q w = let in' : Contains [] (q, w.0) = subst (λ ds. Contains ds (q, w.0)) sound ((listed_each h.bad_documents (q, w.0)).1 w.1) in omega (arith, in'.1)

  -- a path means a node or not
  node_or_not : (p : Path) → HasPath (Nodes s v true b) p ⊎ (HasPath (Nodes s v true b) p → ⊥)
  node_or_not p = ⊎_elim
      (λ w. inl (w.0, (listed_each h.nodes (p, w.0)).0 w.1))
      (λ other. inr (λ w. other (w.0, (listed_each h.nodes (p, w.0)).1 w.1)))
      (key_or_not same_or_not survey.nodes.items p)

  -- each kept entry has a node
  pub has_node : (p : Path) → HasPath (Kept (Entries B b) true b) p → HasPath (Nodes s v true b) p
  has_node p (k, (reached, is)) = ⊎_elim (λ w. w)
      (λ other.
      let clean : IsSpoilt (HasBadPath s v b) p → ⊥ = λ spoilt. unspoilt spoilt.0 spoilt.1 in
      absurd (untold_path p Stale ((k, is), other, clean, λ there. untold_path p Unreached ((k, is), other, clean, there))))
      (node_or_not p)

  -- each node has a kept entry
  pub has_entry : (p : Path) → HasPath (Nodes s v true b) p → HasPath (Kept (Entries B b) true b) p
  has_entry p (n, (reached, means)) =
      let low = reached.below in
      let path : p ≡ b ++ low.0 ∷ low.1 = low.2 in
      ⊎_elim
      (λ w. ⊎_elim
      (λ way. (w.0, (record { below = low; between = λ q above below. (refl, way q above (subst (IsBelow q) path below)) }, subst (λ q. Entries B b (q, w.0)) (sym path) w.1)))
      (λ cut. absurd (untold_path (b ++ low.0 ∷ low.1) Unreachable (w, cut)))
      (reached_or_not (Entries B b) (group_at B b) b low.0 low.1))
      (λ other. absurd (untold_path p Missing ((n, (reached, means)), (low.0, low.1, path), λ w. other (subst (HasPath (Entries B b)) path w))))
      (entry_or_not B b low.0 low.1)

  -- each entry is kept
  pub entry_kept : (e : Pair) → Entries B b e → Kept (Entries B b) true b e
  entry_kept (p, k) (n, ns, names, is, has) = ⊎_elim
      (λ way. (record { below = (n, ns, is, names); between = λ q above below. (refl, way q above (subst (IsBelow q) is below)) }, (n, ns, names, is, has)))
      (λ cut. absurd (untold_path (b ++ n ∷ ns) Unreachable ((k, (n, ns, names, refl, has)), cut)))
      (reached_or_not (Entries B b) (group_at B b) b n ns)

  -- and the same metadata
  pub same_metadata : (p : Path) (k n : NodeMetadata) → Kept (Entries B b) true b (p, k) → Nodes s v true b (p, n) → IsSame k n
  same_metadata p k n kept is = ⊎_elim (λ same. same)
      (λ other. absurd (untold_path p Differs (k, n, kept.1, is, other)))
      (same_or_other k n)

  -- so the entries have the paths of the nodes with the same metadata
  entries_agree : HaveSameNodes (Entries B b) (Nodes s v true b)
  entries_agree = record {
    paths = λ p. (λ w. has_node p (w.0, entry_kept (p, w.0) w.1), λ w. let x = has_entry p w in (x.0, x.1.1));
    metadata = λ p k n has is. same_metadata p k n (entry_kept (p, k) has) is;
  }

  -- and two forests that show them have the same
  pub forests_agree : (f g : Forest) → Shows f b (Kept (Entries B b) true b) → Shows g b (Nodes s v true b) → (paths_of f ≡ paths_of g) × HaveSameNodes (Contains (pairs f)) (Contains (pairs g))
  forests_agree f g shows_f shows_g = (
    same_list (λ p q. path_cmp p q ≡ Less) (λ p less. names_irrefl p less) (λ p q r less more. path_total.trans p q r less more) (paths_of f) (paths_of g)
        (paths_ascend (pairs f) (shown_ascend b _ f shows_f)) (paths_ascend (pairs g) (shown_ascend b _ g shows_g))
        (λ p. (λ in'. path_out (pairs g) p (to_g p (path_in (pairs f) p in')), λ in'. path_out (pairs f) p (to_f p (path_in (pairs g) p in')))),
    record {
      paths = λ p. (to_g p, to_f p);
      metadata = λ p k n in_f in_g. same_metadata p k n ((listed_each shows_f.shown (p, k)).0 in_f) ((listed_each shows_g.shown (p, n)).0 in_g);
    },
  )
    where
      to_g : (p : Path) → HasPath (Contains (pairs f)) p → HasPath (Contains (pairs g)) p
      to_g p w = let x = has_node p (w.0, (listed_each shows_f.shown (p, w.0)).0 w.1) in (x.0, (listed_each shows_g.shown (p, x.0)).1 x.1)

      to_f : (p : Path) → HasPath (Contains (pairs g)) p → HasPath (Contains (pairs f)) p
      to_f p w = let x = has_entry p (w.0, (listed_each shows_g.shown (p, w.0)).0 w.1) in (x.0, (listed_each shows_f.shown (p, x.0)).1 x.1)

-- the entries of a block of which nothing is to be told are the nodes
pub good_entries_are_nodes : GoodEntriesAreNodes
good_entries_are_nodes s v b survey h sound named m B base read none = entries_agree s v b survey h sound m B base read none

-- by a group's choice of the block, and of a listing
by_choice : (s : Contents) (v : MetadataRetrieveVersion) (b : Path) (g : GroupMetadata) (B : Block) → block_at s b (Group g) ≡ Some B → choice s Must b (Group g) ≡ use_block B
by_choice s v b g B e = ap (λ o. block_to_use o Must) e

-- by a listing no block is chosen for a group
listed : (s : Contents) (b : Path) (g : GroupMetadata) → choice s Never b (Group g) ≡ list_store
listed s b g = by (block_at s b (Group g))
  where
    by : (o : Option Block) → block_to_use o Never ≡ list_store
    by None = refl
    by (Some B) = refl

-- a block of which nothing is to be told agrees with its store
pub good_blocks_agree : GoodBlocksAgree
good_blocks_agree s v b survey h sound named (Array a) B base read none = cc
good_blocks_agree s v b survey h sound named (Group g) B base read none =
    let must = by_choice s v b g B (chosen s b (Group g) B read) in
    let never = listed s b g in (
      subst (λ c. IsCleanChosen s v c true b) (sym must) (valid s v b survey h sound (Group g) B base read none),
      subst (λ c. IsCleanChosen s v c true b) (sym never) ((nothing_bad_is_told s v b survey h).0 (sound, named)),
      λ f k shows_f shows_k. forests_agree s v b survey h sound (Group g) B base read none f k
          (subst (λ c. ShowsChosen s v c true b f) must shows_f)
          (subst (λ c. ShowsChosen s v c true b k) never shows_k),
    )
