-- What a hierarchy holds that is made of a base and of what stands below it.
use Rattle.std.proofs.Common.{◌≡◌, ◌↔◌, ◌⊎◌, inl, inr, ⊎_elim, ℕ, Bool, true, false, List, [], ◌∷◌, ◌++◌, get_or, length, refl, sym, ap, subst, ◌∙◌, ◌-◌, arith, length-append, append-nil, append_assoc, String, Global, string_bytes, Contains, Less, true≢false, IsTrue, Result, Ok, Err}
use Rattle.std.specs.Prelude.{IfOk, IfErr, IsErrAnd}
use Rattle.std.specs.Global.{Vec}
use Rattle.std.specs.List.{flat_map}
use Rattle.std.proofs.lemmas.List.Kept.{AllPairs-cons}
use Rattle.zarrs_store.specs.Contents.{Contents, Lists}
use Rattle.zarrs_path.specs.Paths.{Path, IsPath, IsBelow, path_cmp, path_text}
use Rattle.zarrs_meta.specs.Node.{is_group}
use Rattle.zarrs_meta.specs.declared.node.GroupMetadata.{GroupMetadata}
use Rattle.zarrs_meta.specs.declared.node.NodeMetadata.{NodeMetadata}
use Rattle.zarrs_meta.specs.declared.node.NodeMetadata.TheVariants.{Group, Array}
use Rattle.zarrs_config.specs.declared.version.MetadataRetrieveVersion.{MetadataRetrieveVersion}
use Rattle.zarrs_config.specs.declared.version.UseConsolidatedMetadata.{UseConsolidatedMetadata}
use Rattle.zarrs_block.specs.Block.{Block, Entries}
use Rattle.zarrs_block.specs.Policy.{Choice, use_block, list_store, refuse}
use Rattle.zarrs_meaning.specs.Refusals.{IsExcused}
use Rattle.zarrs_block.specs.Policy.{RefusesUse}
use Rattle.zarrs_meaning.specs.declared.node_create_error.NodeCreateError.{NodeCreateError}
use Rattle.zarrs_meaning.specs.declared.node_create_error.NodeCreateError.TheVariants.{NodePathError, StorePrefixError, StorageError, MetadataVersionMismatch, MissingMetadata, OutOfMemory}
use Rattle.zarrs_meaning.specs.Meaning.{Meaning, node, nothing, bad, meaning}
use Rattle.zarrs_node.specs.Forest.{pairs}
use Rattle.zarrs_node.specs.BlocksBelow.{ExcusesBlock}
use Rattle.zarrs_node.specs.Lines.{line, lines}
use Rattle.zarrs_node.specs.Nodes.{Nodes}
use Rattle.zarrs_node.specs.OpeningNodes.{choice, IsCleanChosen, IsCleanBelow, PassesOver, RefusesBelow, RefusesChosen, RefusesOpening}
use Rattle.zarrs_node.specs.Order.{Ascend}
use Rattle.zarrs_node.specs.Sinks.{TakesAll, TakesForest, KeepsPair}
use Rattle.zarrs_node.proofs.walk.SinkSteps.{kept_pairs, took_joined}
use Rattle.zarrs_node.proofs.ListedItems.{lists_from, listed_each}
use Rattle.zarrs_node.proofs.ForestsBeside.{Contains-first, Contains-cons}
use Rattle.zarrs_node.proofs.LawProofs.{apart}
use Rattle.zarrs_node.proofs.OpenedNodes.{block_excused}
use Rattle.zarrs_node.proofs.Order.{contains_cases, shown_ascend}
use Rattle.zarrs_hierarchy.specs.PairsOfHierarchies.{Pairs, Holds, WithBase}
use Rattle.zarrs_hierarchy.specs.OpeningHierarchies.{PairsChosen, PairsOf, IsOpened, IsOpenedTree, PassedBelow, ListsPassed}
use Rattle.zarrs_hierarchy.specs.Sinks.{AppendsNode, TakesOpened}
use Rattle.zarrs_hierarchy.specs.StepsOfHierarchies.{TakesPairs}
use Rattle.zarrs_hierarchy.specs.declared.tree_text.TreeText.{TreeText}
use Rattle.zarrs_hierarchy.proofs.Below.{stands_behind}

-- no path is below itself
pub not_itself : (b : Path) → IsBelow b b → ⊥
not_itself b (n, ns, e) =
    let long = ap length e in
    let more = length-append b (n ∷ ns) in
    absurd (omega (arith, long, more))

-- ascending pairs below a base and the base in front of them hold both
pub holds_front : (b : Path) (m : NodeMetadata) (N : Path × NodeMetadata → Type 0) → ((e : Path × NodeMetadata) → N e → IsBelow b e.0) → (xs : Pairs) → Lists N xs → Ascend xs → (h : Pairs) → h ≡ (b, m) ∷ xs → Holds h (WithBase b m N)
holds_front b m N low xs listed up h is = subst (λ x. Holds x (WithBase b m N)) (sym is) (record {
  held = lists_from ((b, m) ∷ xs) same_set (apart ((b, m) ∷ xs) ordered);
  ordered = ordered;
})
  where
    -- the base stands before all that is below it
    ordered : Ascend ((b, m) ∷ xs)
    ordered = AllPairs-cons (λ d e. path_cmp d.0 e.0 ≡ Less) (b, m) xs (λ i d l. stands_behind b (get_or xs i d).0 (low (get_or xs i d) (listed.sound i d l))) up

    -- the base and those pairs are the base and all pairs of the set
    same_set : (e : Path × NodeMetadata) → Contains ((b, m) ∷ xs) e ↔ WithBase b m N e
    same_set e = (
      λ in'. ⊎_elim (λ is. inl (sym is)) (λ l. inr ((listed_each listed e).0 l)) (contains_cases (b, m) xs e in'),
      λ h. ⊎_elim (λ is. subst (Contains ((b, m) ∷ xs)) (sym is) (Contains-first (b, m) xs)) (λ l. Contains-cons (b, m) xs e ((listed_each listed e).1 l)) h,
    )

-- a list with the base alone that took a forest below it holds the base and what the forest shows
pub holds_walked : (b : Path) (m : NodeMetadata) (N : Path × NodeMetadata → Type 0) → ((e : Path × NodeMetadata) → N e → IsBelow b e.0) → (a z : Vec (Path × NodeMetadata)) → a.items ≡ (b, m) ∷ [] → TakesForest KeepsPair a z b N → Holds z.items (WithBase b m N)
holds_walked b m N low a z alone t =
    holds_front b m N low (pairs t.trees) t.shows.shown (shown_ascend b N t.trees t.shows) z.items
    (kept_pairs a z b N t ∙ ap (λ x. x ++ pairs t.trees) alone)

-- ---- what stands below a base

-- a meaning has one node
pub node_one : (m k : NodeMetadata) → node m ≡ node k → m ≡ k
node_one m k e = ap node_or e
  where
    node_or : Meaning → NodeMetadata
    node_or (node x) = x
    node_or nothing = m
    node_or (bad e) = m

-- the nodes of a listing are below its base
pub nodes_low : (s : Contents) (v : MetadataRetrieveVersion) (b : Path) (e : Path × NodeMetadata) → Nodes s v true b e → IsBelow b e.0
nodes_low s v b e h = (h.0.below.0, h.0.below.1, h.0.below.2)

-- the entries of a block are
pub entries_low : (B : Block) (b : Path) (e : Path × NodeMetadata) → Entries B b e → IsBelow b e.0
entries_low B b e h = (h.0, h.1, h.3)

module _ (s : Contents) (v : MetadataRetrieveVersion) where
  -- and so are the pairs of each choice
  chosen_low : (c : Choice) (b : Path) (e : Path × NodeMetadata) → PairsChosen s v c b e → IsBelow b e.0
  chosen_low (use_block B) b e h = entries_low B b e h
  chosen_low list_store b e h = nodes_low s v b e h
  chosen_low refuse b e h = absurd h

  -- what stands below a node is
  pub pairs_low : (policy : UseConsolidatedMetadata) (b : Path) (m : NodeMetadata) (e : Path × NodeMetadata) → PairsOf s v policy b m e → IsBelow b e.0
  pairs_low policy b (Array a) e h = absurd h
  pairs_low policy b (Group g) e h = chosen_low (choice s policy b (Group g)) b e h

  -- a node that is no group holds itself alone
  pub holds_array : (policy : UseConsolidatedMetadata) (b : Path) (m : NodeMetadata) (h : Pairs) → is_group m ≡ false → h ≡ (b, m) ∷ [] → Holds h (WithBase b m (PairsOf s v policy b m))
  holds_array policy b (Group g) h other is = absurd (true≢false other)
  holds_array policy b (Array a) h other is = holds_front b (Array a) (PairsOf s v policy b (Array a)) (pairs_low policy b (Array a)) []
      (lists_from [] (λ e. (λ in'. absurd (omega (arith, in'.1)), λ none. absurd none)) (λ i j d l k. absurd (omega (arith, l, k))))
      (λ i j d l k. absurd (omega (arith, l, k))) h is

  -- what stands below a group is what stands there by the choice that is made
  pub listed_by : (policy : UseConsolidatedMetadata) (b : Path) (m : NodeMetadata) (c : Choice) (xs : Pairs)
      → IsTrue (is_group m) → choice s policy b m ≡ c → Lists (PairsChosen s v c b) xs → Lists (PairsOf s v policy b m) xs
  listed_by policy b (Array a) c xs group e h = absurd (true≢false (sym group))
  listed_by policy b (Group g) c xs group e h = subst (λ k. Lists (PairsChosen s v k b) xs) (sym e) h

-- each pair put behind those before it gives all of them
joined_same : (es : Pairs) → flat_map (λ (d : Path × NodeMetadata). d ∷ []) es ≡ es
joined_same [] = refl
joined_same (e ∷ es) = ap (λ xs. e ∷ xs) (joined_same es)

-- what a sink took of what stands below a group is what stands below the node
told_group : {K : Type 0} (R : K → Path × NodeMetadata → K → Type 0) (s : Contents) (v : MetadataRetrieveVersion) (policy : UseConsolidatedMetadata) (b : Path) (m : NodeMetadata) (c : Choice) (a z : K)
    → IsTrue (is_group m) → choice s policy b m ≡ c → TakesPairs R a z (PairsChosen s v c b) → TakesPairs R a z (PairsOf s v policy b m)
told_group R s v policy b m c a z group chosen t = record {
  nodes = t.nodes;
  lists = listed_by s v policy b m c t.nodes group chosen t.lists;
  ordered = t.ordered;
  took = t.took;
}

-- below a node that is no group a sink takes nothing
told_array : {K : Type 0} (R : K → Path × NodeMetadata → K → Type 0) (s : Contents) (v : MetadataRetrieveVersion) (policy : UseConsolidatedMetadata) (b : Path) (m : NodeMetadata) (a : K)
    → is_group m ≡ false → TakesPairs R a a (PairsOf s v policy b m)
told_array R s v policy b (Group g) a other = absurd (true≢false other)
told_array R s v policy b (Array m) a other = record {
  nodes = [];
  lists = lists_from [] (λ e. (λ in'. absurd (omega (arith, in'.1)), λ none. absurd none)) (λ i j d l k. absurd (omega (arith, l, k)));
  ordered = λ i j d l k. absurd (omega (arith, l, k));
  took = refl;
}

-- what a sink took of a forest below a base are its pairs
told_forest : {K : Type 0} (R : K → Path × NodeMetadata → K → Type 0) (N : Path × NodeMetadata → Type 0) (b : Path) (a z : K) → TakesForest R a z b N → TakesPairs R a z N
told_forest R N b a z t = record {
  nodes = pairs t.trees;
  lists = t.shows.shown;
  ordered = shown_ascend b N t.trees t.shows;
  took = t.took;
}

-- the same of an answer
pub answer_told : {K A E : Type 0} (R : K → Path × NodeMetadata → K → Type 0) (N : Path × NodeMetadata → Type 0) (b : Path) (a z : K) (o : Result A E) → IfOk o (λ _. TakesForest R a z b N) → IfOk o (λ _. TakesPairs R a z N)
answer_told R N b a z (Ok x) t = told_forest R N b a z t
answer_told R N b a z (Err e) t = tt

-- where nothing below a group is refused, the group is clean
clean_by : (s : Contents) (v : MetadataRetrieveVersion) (policy : UseConsolidatedMetadata) (b : Path) (m : NodeMetadata) (c : Choice) → IsTrue (is_group m) → choice s policy b m ≡ c
    → IsCleanChosen s v c true b → IsCleanBelow s v policy b m
clean_by s v policy b (Array a) c group chosen clean = tt
clean_by s v policy b (Group g) c group chosen clean = subst (λ k. IsCleanChosen s v k true b) (sym chosen) clean

-- what excuses the want of a block excuses the call
pub excused_by : (can_fail : Bool) (m : NodeMetadata) (policy : UseConsolidatedMetadata) (e : NodeCreateError) → ExcusesBlock can_fail m policy e → IsExcused can_fail e
excused_by can_fail m policy e h = block_excused can_fail m policy e h

-- a refusal of what stands below a group is one below the node
pub refused_by : (can_fail : Bool) (s : Contents) (v : MetadataRetrieveVersion) (policy : UseConsolidatedMetadata) (b : Path) (m : NodeMetadata) (c : Choice) (e : NodeCreateError) → IsTrue (is_group m)
    → choice s policy b m ≡ c → IsExcused can_fail e ⊎ RefusesChosen s v c true b e → IsExcused can_fail e ⊎ RefusesBelow s v policy b m e
refused_by can_fail s v policy b (Array a) c e group chosen h = absurd (true≢false (sym group))
refused_by can_fail s v policy b (Group g) c e group chosen h = ⊎_elim inl (λ shown. inr (subst (λ k. RefusesChosen s v k true b e) (sym chosen) shown)) h

-- what is below the node of a text's path is refused, so the opening is
pub below_refused : (can_fail : Bool) (s : Contents) (v : MetadataRetrieveVersion) (policy : UseConsolidatedMetadata) (text : List ℕ) (b : Path) (m : NodeMetadata) (e : NodeCreateError)
    → IsPath b → path_text b ≡ text → meaning s v b ≡ node m → IsExcused can_fail e ⊎ RefusesBelow s v policy b m e → IsExcused can_fail e ⊎ RefusesOpening s v policy text e
below_refused can_fail s v policy text b m e valid is means h = ⊎_elim inl (λ below. inr (inr (b, valid, is, inr (m, means, below)))) h

-- where the node is no group, nothing below it is refused
clean_array : (s : Contents) (v : MetadataRetrieveVersion) (policy : UseConsolidatedMetadata) (b : Path) (m : NodeMetadata) → is_group m ≡ false → IsCleanBelow s v policy b m
clean_array s v policy b (Group g) other = absurd (true≢false other)
clean_array s v policy b (Array a) other = tt

-- what took a node that is no group took the hierarchy there
pub opened_array : {K : Type 0} (R : K → Path × NodeMetadata → K → Type 0) (s : Contents) (v : MetadataRetrieveVersion) (policy : UseConsolidatedMetadata) (b q : Path) (m : NodeMetadata) (a z : K)
    → IsPath b → meaning s v b ≡ node m → is_group m ≡ false → q ≡ b → R a (q, m) z → TakesOpened R a z s v policy b
opened_array R s v policy b q m a z valid means other same took = record {
  hierarchy = (b, m) ∷ [];
  opened = record {
    base = b;
    valid = valid;
    path = refl;
    metadata = m;
    means = means;
    holds = holds_array s v policy b m ((b, m) ∷ []) other refl;
    clean = clean_array s v policy b m other;
  };
  took = (z, subst (λ p. R a (p, m) z) same took, refl);
}

-- what took a group, and then what stands below it by the choice that is made, took the hierarchy there
pub opened_group : {K : Type 0} (R : K → Path × NodeMetadata → K → Type 0) (s : Contents) (v : MetadataRetrieveVersion) (policy : UseConsolidatedMetadata) (b q : Path) (m : NodeMetadata) (c : Choice) (a k z : K)
    → IsPath b → meaning s v b ≡ node m → IsTrue (is_group m) → choice s policy b m ≡ c → q ≡ b → R a (q, m) k → TakesPairs R k z (PairsChosen s v c b) → IsCleanChosen s v c true b
    → TakesOpened R a z s v policy b
opened_group R s v policy b q m c a k z valid means group chosen same took t good = record {
  hierarchy = (b, m) ∷ t.nodes;
  opened = record {
    base = b;
    valid = valid;
    path = refl;
    metadata = m;
    means = means;
    holds = holds_front b m (PairsOf s v policy b m) (pairs_low s v policy b m) t.nodes (listed_by s v policy b m c t.nodes group chosen t.lists) t.ordered ((b, m) ∷ t.nodes) refl;
    clean = clean_by s v policy b m c group chosen good;
  };
  took = (k, subst (λ p. R a (p, m) k) same took, t.took);
}

-- the opening is refused where what stands below a group by the choice that is made is
pub group_refused : (can_fail : Bool) (s : Contents) (v : MetadataRetrieveVersion) (policy : UseConsolidatedMetadata) (b : Path) (m : NodeMetadata) (c : Choice) (e : NodeCreateError) → IsPath b → meaning s v b ≡ node m
    → IsTrue (is_group m) → choice s policy b m ≡ c → IsExcused can_fail e ⊎ RefusesChosen s v c true b e → IsExcused can_fail e ⊎ RefusesOpening s v policy (path_text b) e
group_refused can_fail s v policy b m c e valid means group chosen h = below_refused can_fail s v policy (path_text b) b m e valid refl means (refused_by can_fail s v policy b m c e group chosen h)

-- the same of an answer
pub answer_opened : {K A E : Type 0} (R : K → Path × NodeMetadata → K → Type 0) (s : Contents) (v : MetadataRetrieveVersion) (policy : UseConsolidatedMetadata) (b q : Path) (m : NodeMetadata) (c : Choice) (a k z : K)
    (o : Result A E) → IsPath b → meaning s v b ≡ node m → IsTrue (is_group m) → choice s policy b m ≡ c → q ≡ b → R a (q, m) k
    → IfOk o (λ _. TakesPairs R k z (PairsChosen s v c b)) → IfOk o (λ _. IsCleanChosen s v c true b) → IfOk o (λ _. TakesOpened R a z s v policy b)
answer_opened R s v policy b q m c a k z (Ok x) valid means group chosen same took t good = opened_group R s v policy b q m c a k z valid means group chosen same took t good
answer_opened R s v policy b q m c a k z (Err e) valid means group chosen same took t good = tt

-- ---- what is passed over

-- at a node that is no group nothing is
pub array_passed : (s : Contents) (v : MetadataRetrieveVersion) (policy : UseConsolidatedMetadata) (b : Path) (m : NodeMetadata) (ps : List Path) → meaning s v b ≡ node m → is_group m ≡ false → ps ≡ []
    → ListsPassed s v policy b ps
array_passed s v policy b (Group g) ps means other none = absurd (true≢false other)
array_passed s v policy b (Array a) ps means other none = (
  Array a,
  means,
  subst (Lists (PassedBelow s v policy b (Array a))) (sym none)
      (lists_from [] (λ e. (λ in'. absurd (omega (arith, in'.1)), λ none'. absurd none')) (λ i j d l k. absurd (omega (arith, l, k)))),
)

-- below a group what its choice passes over is
group_passed : (s : Contents) (v : MetadataRetrieveVersion) (policy : UseConsolidatedMetadata) (b : Path) (m : NodeMetadata) (c : Choice) (ps : List Path) → meaning s v b ≡ node m → IsTrue (is_group m)
    → choice s policy b m ≡ c → Lists (PassesOver s v c b) ps → ListsPassed s v policy b ps
group_passed s v policy b (Array a) c ps means group chosen listed = absurd (true≢false (sym group))
group_passed s v policy b (Group g) c ps means group chosen listed = (Group g, means, subst (λ k. Lists (PassesOver s v k b) ps) (sym chosen) listed)

-- the same of an answer
pub answer_passed : {E : Type 0} (s : Contents) (v : MetadataRetrieveVersion) (policy : UseConsolidatedMetadata) (b : Path) (m : NodeMetadata) (c : Choice) (o : Result (Vec Path) E) → meaning s v b ≡ node m
    → IsTrue (is_group m) → choice s policy b m ≡ c → IfOk o (λ ignored. Lists (PassesOver s v c b) ignored.items) → IfOk o (λ ignored. ListsPassed s v policy b ignored.items)
answer_passed s v policy b m c (Ok ignored) means group chosen listed = group_passed s v policy b m c ignored.items means group chosen listed
answer_passed s v policy b m c (Err e) means group chosen listed = tt

-- ---- what is refused

-- the want of a block refuses what stands below a group
wanted : (s : Contents) (v : MetadataRetrieveVersion) (b : Path) (c : Choice) (e : NodeCreateError) → RefusesUse b c e → RefusesChosen s v c true b e
wanted s v b refuse e u = u
wanted s v b (use_block B) e u = absurd (used e u)
  where
    used : (e : NodeCreateError) → RefusesUse b (use_block B) e → ⊥
    used (NodePathError f) u = u
    used (StorePrefixError f) u = u
    used (StorageError f) u = u
    used MetadataVersionMismatch u = u
    used (MissingMetadata text) u = let no : use_block B ≡ refuse = u.0 in cc
    used OutOfMemory u = let no : use_block B ≡ refuse = u in cc
wanted s v b list_store e u = absurd (listed e u)
  where
    listed : (e : NodeCreateError) → RefusesUse b list_store e → ⊥
    listed (NodePathError f) u = u
    listed (StorePrefixError f) u = u
    listed (StorageError f) u = u
    listed MetadataVersionMismatch u = u
    listed (MissingMetadata text) u = let no : list_store ≡ refuse = u.0 in cc
    listed OutOfMemory u = let no : list_store ≡ refuse = u in cc

-- so the opening is refused where its block is wanted, or memory for it is
pub want_refused : (can_fail : Bool) (s : Contents) (v : MetadataRetrieveVersion) (policy : UseConsolidatedMetadata) (b : Path) (m : NodeMetadata) (e : NodeCreateError) → IsPath b → meaning s v b ≡ node m → IsTrue (is_group m)
    → ExcusesBlock can_fail m policy e ⊎ RefusesUse b (choice s policy b m) e → IsExcused can_fail e ⊎ RefusesOpening s v policy (path_text b) e
want_refused can_fail s v policy b (Array a) e valid means group h = absurd (true≢false (sym group))
want_refused can_fail s v policy b (Group g) e valid means group h =
    below_refused can_fail s v policy (path_text b) b (Group g) e valid refl means
    (⊎_elim (λ x. inl (excused_by can_fail (Group g) policy e x)) (λ u. inr (wanted s v b (choice s policy b (Group g)) e u)) h)

-- an answer that what stands below a group refuses, by the choice that is made, is refused by the opening
pub answer_refused : {A : Type 0} (can_fail : Bool) (s : Contents) (v : MetadataRetrieveVersion) (policy : UseConsolidatedMetadata) (b : Path) (m : NodeMetadata) (c : Choice) (o : Result A NodeCreateError) → IsPath b
    → meaning s v b ≡ node m → IsTrue (is_group m) → choice s policy b m ≡ c → IfErr o (λ e. IsExcused can_fail e ⊎ RefusesChosen s v c true b e)
    → IfErr o (λ e. IsExcused can_fail e ⊎ RefusesOpening s v policy (path_text b) e)
answer_refused can_fail s v policy b m c (Ok x) valid means group chosen h = tt
answer_refused can_fail s v policy b m c (Err e) valid means group chosen h = group_refused can_fail s v policy b m c e valid means group chosen h

-- an error that is handed on is the one that came
pub error_handed : {A E : Type 0} (r : Result A E) (e : E) (P : E → Type 0) → IsErrAnd r (λ made. made ≡ e) → P e → IfErr r P
error_handed (Ok x) e P is h = absurd is
error_handed (Err made) e P is h = subst P (sym is) h

-- a list that was empty and took the hierarchy at a path is that hierarchy
pub kept_opened : (s : Contents) (v : MetadataRetrieveVersion) (policy : UseConsolidatedMetadata) (b : Path) (text : List ℕ) (a z : Vec (Path × NodeMetadata)) → a.items ≡ [] → path_text b ≡ text
    → TakesOpened KeepsPair a z s v policy b → IsOpened s v policy text z.items
kept_opened s v policy b text a z none is t =
    let all : z.items ≡ t.hierarchy =
    took_joined KeepsPair (λ x. x.items) (λ d. d ∷ []) (λ x d y r. r) a t.hierarchy z t.took ∙ ap (λ x. x ++ flat_map (λ (d : Path × NodeMetadata). d ∷ []) t.hierarchy) none ∙ joined_same t.hierarchy in
    subst (λ x. IsOpened s v policy x z.items) is (subst (IsOpened s v policy (path_text b)) (sym all) t.opened)

-- ---- the text of what stands below a base

-- a text that took pairs has the line of each
took_lines : (b : Path) (a : TreeText) (es : Pairs) (z : TreeText) → TakesAll AppendsNode a es z → a.above ≡ length b → string_bytes z.text ≡ string_bytes a.text ++ lines b es
took_lines b a [] z t at = ap (λ (x : TreeText). string_bytes x.text) t ∙ sym (append-nil (string_bytes a.text))
took_lines b a (e ∷ es) z t at =
    took_lines b t.0 es z t.2 (t.1.base ∙ at)
    ∙ ap (λ w. w ++ lines b es) (t.1.bytes ∙ ap (λ n. string_bytes a.text ++ line (length e.0 - n) e.0 e.1) at)
    ∙ append_assoc (string_bytes a.text) (line (length e.0 - length b) e.0 e.1) (lines b es)

-- a text with the line of a base that took what stands below it is the tree of the hierarchy that has both
told_tree : (s : Contents) (v : MetadataRetrieveVersion) (policy : UseConsolidatedMetadata) (b : Path) (m : NodeMetadata) (a z : TreeText) → IsPath b → meaning s v b ≡ node m → a.above ≡ length b
    → string_bytes a.text ≡ path_text b ++ 10 ∷ [] → TakesPairs AppendsNode a z (PairsOf s v policy b m) → IsCleanBelow s v policy b m → IsOpenedTree s v policy b (string_bytes z.text)
told_tree s v policy b m a z valid means at start t clean = (
  (b, m) ∷ t.nodes,
  record {
    base = b;
    valid = valid;
    path = refl;
    metadata = m;
    means = means;
    holds = holds_front b m (PairsOf s v policy b m) low t.nodes t.lists t.ordered ((b, m) ∷ t.nodes) refl;
    clean = clean;
  },
  record {
    below = lines b t.nodes;
    is = took_lines b a t.nodes z t.took at ∙ ap (λ x. x ++ lines b t.nodes) start ∙ append_assoc (path_text b) (10 ∷ []) (lines b t.nodes);
    lines_below = (t.nodes, lists_from t.nodes each (apart t.nodes t.ordered), t.ordered, refl);
  },
)
  where
    low : (e : Path × NodeMetadata) → PairsOf s v policy b m e → IsBelow b e.0
    low = pairs_low s v policy b m

    each : (e : Path × NodeMetadata) → Contains t.nodes e ↔ (Contains ((b, m) ∷ t.nodes) e × IsBelow b e.0)
    each e = (
      λ in'. (Contains-cons (b, m) t.nodes e in', low e ((listed_each t.lists e).0 in')),
      λ both. ⊎_elim (λ same. absurd (not_itself b (subst (λ x. IsBelow b x.0) (sym same) both.1))) (λ l. l) (contains_cases (b, m) t.nodes e both.0),
    )

-- the line of a base that is no group is the tree of the hierarchy that has it alone
pub array_tree : (s : Contents) (v : MetadataRetrieveVersion) (policy : UseConsolidatedMetadata) (b : Path) (m : NodeMetadata) (text : String Global) → IsPath b → meaning s v b ≡ node m → is_group m ≡ false
    → string_bytes text ≡ path_text b ++ 10 ∷ [] → IsOpenedTree s v policy b (string_bytes text)
array_tree s v policy b m text valid means other start =
    let a : TreeText = record { above = length b; text = text } in
    told_tree s v policy b m a a valid means refl start (told_array AppendsNode s v policy b m a other) (clean_array s v policy b m other)

-- a text with the line of a group that took what stands below it by the choice that is made is the tree of the hierarchy that has both
pub group_tree : (s : Contents) (v : MetadataRetrieveVersion) (policy : UseConsolidatedMetadata) (b : Path) (m : NodeMetadata) (c : Choice) (a z : TreeText) → IsPath b → meaning s v b ≡ node m → IsTrue (is_group m)
    → choice s policy b m ≡ c → a.above ≡ length b → string_bytes a.text ≡ path_text b ++ 10 ∷ [] → TakesPairs AppendsNode a z (PairsChosen s v c b) → IsCleanChosen s v c true b
    → IsOpenedTree s v policy b (string_bytes z.text)
group_tree s v policy b m c a z valid means group chosen at start t good =
    told_tree s v policy b m a z valid means at start (told_group AppendsNode s v policy b m c a z group chosen t) (clean_by s v policy b m c group chosen good)

-- a list of a group's path and copied metadata that took a listing below it holds the group and that
pub group_holds : (s : Contents) (v : MetadataRetrieveVersion) (b q : Path) (m k : GroupMetadata) (a z : Vec (Path × NodeMetadata)) → q ≡ b → k ≡ m → a.items ≡ (q, Group k) ∷ []
    → TakesForest KeepsPair a z q (Nodes s v true q) → Holds z.items (WithBase b (Group m) (Nodes s v true b))
group_holds s v b q m k a z there same alone t =
    let holds_q = holds_walked q (Group k) (Nodes s v true q) (nodes_low s v q) a z alone t in
    let holds_b = subst (λ r. Holds z.items (WithBase r (Group k) (Nodes s v true r))) there holds_q in
    subst (λ n. Holds z.items (WithBase b (Group n) (Nodes s v true b))) same holds_b
