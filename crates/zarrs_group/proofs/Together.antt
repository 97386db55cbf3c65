-- The children of a group as pairs of path and metadata.
use Rattle.std.proofs.Common.{append-nil, ◌≡◌, Result, Ok, Err, IfOk, ℕ, Bool, true, false, true≢false, List, [], ◌∷◌, ◌++◌, map, filter, cond, length, refl, sym, ap, subst, ◌∙◌, append_assoc, arith, Contains}
use Rattle.std.proofs.lemmas.List.{append_cancel_left, map-append}
use Rattle.std.proofs.lemmas.List.Elements.{Contains-append_left, Contains-append_right}
use Rattle.zarrs_store.specs.Contents.{Contents, Lists}
use Rattle.zarrs_path.specs.Paths.{Path}
use Rattle.zarrs_config.specs.Settings.{Settings}
use Rattle.zarrs_config.specs.declared.version.MetadataRetrieveVersion.{MetadataRetrieveVersion}
use Rattle.zarrs_config.specs.declared.version.MetadataRetrieveVersion.TheVariants.{Default}
use Rattle.zarrs_meta.specs.declared.node.NodeMetadata.{NodeMetadata}
use Rattle.zarrs_meta.specs.declared.node.NodeMetadata.TheVariants.{Group, Array}
use Rattle.zarrs_block.specs.Block.{Entries}
use Rattle.zarrs_block.specs.Policy.{Choice, use_block, list_store, refuse}
use Rattle.zarrs_node.specs.Nodes.{MeansNode, Bad}
use Rattle.zarrs_node.specs.Order.{Ascend}
use Rattle.zarrs_node.specs.Reach.{Kept}
use Rattle.zarrs_node.specs.declared.node.Node.{Node}
use Rattle.zarrs_node.specs.Forest.{Forest, none, tree, pairs, Shows, IsPlaced, forest, path_of, metadata_of, below_of}
use Rattle.zarrs_node.proofs.ListedItems.{listed_each}
use Rattle.zarrs_node.proofs.ForestsBeside.{plant_out, Contains-first, Contains-cons}
use Rattle.zarrs_node.proofs.Order.{pairs_ascend}
use Rattle.zarrs_node.specs.OpeningNodes.{ShowsChosen, IsCleanChosen}
use Rattle.zarrs_group.specs.Groups.{GroupState}
use Rattle.zarrs_group.specs.Children.{block_choice, ListsDirectly, ShowsChildren, AreChildren, groups_of, with_group, group_at}

-- a node as the pair of its path and its metadata
abbrev pub pair_of : Node → Path × NodeMetadata
pair_of n = (path_of n, metadata_of n)

-- what is kept of pairs, not recursively, has one name beyond the base
one_name : (N : Path × NodeMetadata → Type 0) (b : Path) (e : Path × NodeMetadata) → Kept N false b e → (n : List ℕ) × (e.0 ≡ b ++ n ∷ [])
one_name N b e h = at h.0.below.1 h.0.below.2
  where
    at : (ns : Path) → e.0 ≡ b ++ h.0.below.0 ∷ ns → (n : List ℕ) × (e.0 ≡ b ++ n ∷ [])
    at [] is = (h.0.below.0, is)
    at (k ∷ ks) is =
        absurd (true≢false (sym (h.0.between (b ++ h.0.below.0 ∷ []) (h.0.below.0, [], refl) (k, ks, is ∙ sym (append_assoc b (h.0.below.0 ∷ []) (k ∷ ks)))).0))

-- two names beyond a base are not one
not_one : (b : Path) (k j i : List ℕ) → (b ++ k ∷ []) ++ j ∷ [] ≡ b ++ i ∷ [] → ⊥
not_one b k j i e =
    let cut = append_cancel_left b (k ∷ j ∷ []) (i ∷ []) (sym (append_assoc b (k ∷ []) (j ∷ [])) ∙ e) in
    let long = ap length cut in
    absurd (omega (arith, long))

-- a tree whose pairs all have one name beyond the base has nothing below its root
nothing_below : (b p : Path) (k : List ℕ) → p ≡ b ++ k ∷ [] → (below : Forest) → IsPlaced p below → ((e : Path × NodeMetadata) → Contains (pairs below) e → (n : List ℕ) × (e.0 ≡ b ++ n ∷ [])) → pairs below ≡ []
nothing_below b p k root none placed flat = refl
nothing_below b p k root (tree q m deeper after) placed flat =
    let one = flat (q, m) (Contains-first (q, m) _) in
    absurd (not_one b k placed.0.0 one.0 (ap (λ x. x ++ placed.0.0 ∷ []) (sym root) ∙ sym placed.0.1 ∙ one.1))

-- where the pairs of nodes all have one name beyond the base, they are those of the nodes themselves
flat_pairs : (b : Path) (ns : List Node) → IsPlaced b (forest ns) → ((e : Path × NodeMetadata) → Contains (pairs (forest ns)) e → (n : List ℕ) × (e.0 ≡ b ++ n ∷ [])) → pairs (forest ns) ≡ map pair_of ns
flat_pairs b [] placed flat = refl
flat_pairs b (x ∷ ns) placed flat =
    let split : forest (x ∷ ns) ≡ tree (path_of x) (metadata_of x) (below_of x) (forest ns) = plant_out x (forest ns) in
    let at : IsPlaced b (tree (path_of x) (metadata_of x) (below_of x) (forest ns)) = subst (IsPlaced b) split placed in
    let each = λ (e : Path × NodeMetadata) (h : Contains (pairs (tree (path_of x) (metadata_of x) (below_of x) (forest ns))) e). flat e (subst (λ f. Contains (pairs f) e) (sym split) h) in
    let gone : pairs (below_of x) ≡ [] = nothing_below b (path_of x) at.0.0 at.0.1 (below_of x) at.2
    (λ e h. each e (Contains-cons (pair_of x) (pairs (below_of x) ++ pairs (forest ns)) e (Contains-append_left (pairs (below_of x)) (pairs (forest ns)) e h))) in
    let rest : pairs (forest ns) ≡ map pair_of ns = flat_pairs b ns at.4
    (λ e h. each e (Contains-cons (pair_of x) (pairs (below_of x) ++ pairs (forest ns)) e (Contains-append_right (pairs (below_of x)) (pairs (forest ns)) e h))) in
    ap pairs split ∙ ap (λ l. pair_of x ∷ (l ++ pairs (forest ns))) gone ∙ ap (λ l. pair_of x ∷ l) rest

-- the pairs of nodes that show what is kept, not recursively, are listed in the order of their paths
kept_pairs : (N : Path × NodeMetadata → Type 0) (b : Path) (ns : List Node) → Shows (forest ns) b (Kept N false b) → Ascend (map pair_of ns) × Lists (Kept N false b) (map pair_of ns)
kept_pairs N b ns h =
    let is = flat_pairs b ns h.placed (λ e in'. one_name N b e ((listed_each h.shown e).0 in')) in
    (subst Ascend is (pairs_ascend b (forest ns) h.placed), subst (Lists (Kept N false b)) is h.shown)

-- so are those of nodes that show what is chosen
chosen_pairs : (s : Contents) (c : Choice) (b : Path) (ns : List Node) → ShowsChosen s Default c false b (forest ns) → Ascend (map pair_of ns) × ListsDirectly s c b (map pair_of ns)
chosen_pairs s (use_block B) b ns h = kept_pairs (Entries B b) b ns h
chosen_pairs s list_store b ns h = kept_pairs (MeansNode s Default) b ns h
chosen_pairs s refuse b ns h = absurd h

-- the pairs of the nodes that show the children of a group are its children
pub are_children : (s : Contents) (g : GroupState) (config : Settings) (ns : List Node) → ShowsChildren s g config false (forest ns) → AreChildren s g config (map pair_of ns)
are_children s g config ns h = let both = chosen_pairs s (block_choice s.numbers g config) g.path ns h in record { ascend = both.0; children = both.1 }

-- the paths of the pairs of nodes are those of the nodes
pub paths_of_pairs : (ns : List Node) → map (λ e. e.0) (map pair_of ns) ≡ map path_of ns
paths_of_pairs [] = refl
paths_of_pairs (n ∷ ns) = ap (λ ps. path_of n ∷ ps) (paths_of_pairs ns)

-- one node more is passed over, or stands first
kind_step : (b : Bool) (n : Node) (es : List (Path × NodeMetadata)) (ms : List Node) → map (λ e. e.0) es ≡ map path_of ms → map (λ e. e.0) (cond b (pair_of n ∷ es) es) ≡ map path_of (cond b (n ∷ ms) ms)
kind_step true n es ms h = ap (λ ps. path_of n ∷ ps) h
kind_step false n es ms h = h

-- the same of those of one kind
pub kind_of_pairs : (k : NodeMetadata → Bool) (ns : List Node) → map (λ e. e.0) (filter (λ e. k e.1) (map pair_of ns)) ≡ map path_of (filter (λ n. k (metadata_of n)) ns)
kind_of_pairs k [] = refl
kind_of_pairs k (n ∷ ns) = kind_step (k (metadata_of n)) n (filter (λ e. k e.1) (map pair_of ns)) (filter (λ n. k (metadata_of n)) ns) (kind_of_pairs k ns)

-- where the store is listed, what is clean of a listing is clean
pub clean_listed : {A E : Type 0} (s : Contents) (c : Choice) (b : Path) (r : Bool) (answer : Result A E) (v : MetadataRetrieveVersion) (q : Path) → IfOk answer (λ _. Bad s v r q → ⊥)
    → q ≡ b → v ≡ Default → c ≡ list_store → IfOk answer (λ _. IsCleanChosen s Default c r b)
clean_listed s c b r (Ok x) v q h at is e = subst (λ k. IsCleanChosen s Default k r b) (sym e) (subst (λ p. Bad s Default r p → ⊥) at (subst (λ w. Bad s w r q → ⊥) is h))
clean_listed s c b r (Err x) v q h at is e = tt

-- nothing behind a list leaves it
pub nothing_more : (gs : List GroupState) → gs ++ [] ≡ gs
nothing_more gs = append-nil gs

-- ---- node by node

-- the groups of two lists of pairs in a row
groups_append : (config : Settings) (es ds : List (Path × NodeMetadata)) → groups_of config (es ++ ds) ≡ groups_of config es ++ groups_of config ds
groups_append config [] ds = refl
groups_append config (e ∷ es) ds = group_step e.1 (groups_append config es ds)
  where
    group_step : (m : NodeMetadata) → groups_of config (es ++ ds) ≡ groups_of config es ++ groups_of config ds
        → with_group config e.0 m (groups_of config (es ++ ds)) ≡ with_group config e.0 m (groups_of config es) ++ groups_of config ds
    group_step (Group g) h = ap (λ gs. group_at config e.0 g ∷ gs) h
    group_step (Array a) h = h

-- one node more adds its group
pub groups_step : (config : Settings) (ns : List Node) (n : Node) (gs hs : List GroupState) (p : Path) (m : NodeMetadata) → p ≡ path_of n → m ≡ metadata_of n
    → gs ≡ groups_of config (map pair_of ns) → hs ≡ gs ++ with_group config p m [] → hs ≡ groups_of config (map pair_of (ns ++ n ∷ []))
groups_step config ns n gs hs p m path meta so_far new =
    new ∙ (λ i. so_far i ++ with_group config (path i) (meta i) [])
    ∙ sym (ap (groups_of config) (map-append pair_of ns (n ∷ [])) ∙ groups_append config (map pair_of ns) (pair_of n ∷ []))
