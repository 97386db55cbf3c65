-- What a sink took of a walk.
use Rattle.std.proofs.Common.{◌≡◌, Bool, Option, Ok, true, List, [], ◌∷◌, ◌++◌, reverse, refl, sym, ap, subst, ◌∙◌, append-nil, append_assoc, Contains, ◌↔◌}
use Rattle.std.specs.Global.{Vec}
use Rattle.std.specs.List.{flat_map}
use Rattle.zarrs_path.specs.Paths.{Path, IsPath}
use Rattle.zarrs_store.specs.Contents.{Contents, Lists}
use Rattle.zarrs_store.specs.Segments.{Segments}
use Rattle.zarrs_store.specs.Children.{AreVisibleChildren}
use Rattle.zarrs_meta.specs.declared.node.NodeMetadata.{NodeMetadata}
use Rattle.zarrs_config.specs.declared.version.MetadataRetrieveVersion.{MetadataRetrieveVersion}
use Rattle.zarrs_meaning.specs.Meaning.{meaning}
use Rattle.zarrs_meaning.specs.Refusals.{Finds}
use Rattle.zarrs_node.specs.Forest.{Forest, pairs, Shows}
use Rattle.zarrs_node.specs.StepsOfTrees.{own_node, paths_passed, is_group_found}
use Rattle.zarrs_node.specs.Nodes.{Nodes, Ignored}
use Rattle.zarrs_node.specs.Faults.{Faults}
use Rattle.zarrs_node.specs.StepsOfTheWalk.{IsFaultOf}
use Rattle.zarrs_node.specs.declared.fault.NodeFault.{NodeFault}
use Rattle.zarrs_node.proofs.walk.WalkSteps.{PathFault}
use Rattle.zarrs_store.specs.Segments.{IsPrefix}
use Rattle.zarrs_node.specs.Order.{Ascend}
use Rattle.zarrs_node.specs.Reach.{Kept}
use Rattle.zarrs_node.specs.Sinks.{TakesAll, TakesForest, KeepsPair}
use Rattle.zarrs_node.proofs.FlatForests.{shows_same}
use Rattle.zarrs_node.proofs.ListedItems.{listed_each}
use Rattle.zarrs_node.proofs.KeptPairs.{placed_between}
use Rattle.zarrs_node.proofs.Order.{shown_ascend}
use Rattle.zarrs_node.proofs.walk.WalkTurns.{HasWalked, has_started, has_shown, has_ignored, has_faults, turn_alone, turn_deeper, turn_fault}
use Rattle.zarrs_node.proofs.Unique.{Pair}

-- what takes some and then some more takes them all
pub took_more : {S A : Type 0} (R : S → A → S → Type 0) (a : S) (xs : List A) (b : S) (ys : List A) (z : S) → TakesAll R a xs b → TakesAll R b ys z → TakesAll R a (xs ++ ys) z
took_more R a [] b ys z t u = subst (λ x. TakesAll R x ys z) t u
took_more R a (x ∷ xs) b ys z t u = (t.0, t.1, took_more R t.0 xs b ys z t.2 u)

-- where each step puts g of its element behind what the view v shows, all put theirs there
pub took_joined : {S A B : Type 0} (R : S → A → S → Type 0) (v : S → List B) (g : A → List B) → ((a : S) (e : A) (z : S) → R a e z → v z ≡ v a ++ g e) → (a : S) (es : List A) (z : S) → TakesAll R a es z → v z ≡ v a ++ flat_map g es
took_joined R v g step a [] z t = ap v t ∙ sym (append-nil (v a))
took_joined R v g step a (x ∷ xs) z t = took_joined R v g step t.0 xs z t.2 ∙ ap (λ w. w ++ flat_map g xs) (step a x t.0 t.1) ∙ append_assoc (v a) (g x) (flat_map g xs)

-- a sink that keeps each element as it comes joins the elements
joined_same : {A : Type 0} (es : List A) → flat_map (λ e. e ∷ []) es ≡ es
joined_same [] = refl
joined_same (x ∷ xs) = ap (λ ys. x ∷ ys) (joined_same xs)

-- the walk has come so far, and the sink took the nodes that it told
pub record HasFed {K : Type 0} (R : K → Pair → K → Type 0) (s : Contents) (v : MetadataRetrieveVersion) (r : Bool) (b : Path) (a z : K) (ig : List Path) (fs : List PathFault) (ps : List Path) : Type 0 where
  pub nodes : List Pair
  pub took : TakesAll R a nodes z
  pub walked : HasWalked s v r b nodes ig fs ps

module _ {K : Type 0} (R : K → Pair → K → Type 0) (s : Contents) (v : MetadataRetrieveVersion) (r : Bool) (b : Path) (a : K) where
  -- before the first prefix is read
  pub fed_start : IsPath b → (cs : List Segments) → AreVisibleChildren s.values b cs → (ig : List Path) (fs : List PathFault) (ps : List Path) → ig ≡ [] → fs ≡ [] → ps ≡ [] ++ reverse cs → HasFed R s v r b a a ig fs ps
  fed_start valid cs h ig fs ps e k f = record { nodes = []; took = refl; walked = has_started s v r b valid cs h [] ig fs ps refl e k f }

  module _ (z : K) (ig : List Path) (fs : List PathFault) (ps : List Path) (e : ps ≡ []) (h : HasFed R s v r b a z ig fs ps) where
    -- after the last the sink took a forest
    pub fed_forest : TakesForest R a z b (Nodes s v r b)
    fed_forest = record {
      trees = h.walked.trees;
      shows = has_shown s v r b h.nodes ig fs ps e h.walked;
      took = subst (λ xs. TakesAll R a xs z) h.walked.are h.took;
    }

    -- the list has the ignored paths
    pub fed_ignored : Lists (Ignored s v r b) ig
    fed_ignored = has_ignored s v r b h.nodes ig fs ps e h.walked

    -- and the other what is bad
    pub fed_faults : Lists (Faults s v r b) fs
    fed_faults = has_faults s v r b h.nodes ig fs ps e h.walked

  module _ (c : Path) (can_fail : Bool) (z : K) (ig : List Path) (fs : List PathFault) (ps : List Path) (h : HasFed R s v r b a z ig fs (ps ++ c ∷ [])) where
    -- a turn at what is bad
    pub fed_fault : (k : NodeFault) → IsPrefix c → IsFaultOf s v c k → (gs : List PathFault) → gs ≡ fs ++ (c, k) ∷ [] → HasFed R s v r b a z ig gs ps
    fed_fault k segments is gs e = record {
      nodes = h.nodes;
      took = h.took;
      walked = turn_fault s v r b c can_fail h.nodes ig fs ps h.nodes ig h.walked k segments is gs e;
    }

    module _ (valid : IsPath c) (o : Option NodeMetadata) (means : Finds can_fail (Ok o) (meaning s v c)) (w : K) (jg : List Path) (step : TakesAll R z (own_node c o) w) (more : jg ≡ ig ++ paths_passed c o []) where
      -- a turn where the walk does not go on below
      pub fed_alone : (r ≡ true → true ≡ is_group_found o → ⊥) → HasFed R s v r b a w jg fs ps
      fed_alone closed = record {
        nodes = h.nodes ++ own_node c o;
        took = took_more R a h.nodes z (own_node c o) w h.took step;
        walked = turn_alone s v r b c can_fail h.nodes ig fs ps (h.nodes ++ own_node c o) jg h.walked valid o means closed refl more;
      }

      -- a turn where it does
      pub fed_deeper : r ≡ true → true ≡ is_group_found o → (cs : List Segments) → AreVisibleChildren s.values c cs → (qs : List Path) → qs ≡ ps ++ reverse cs → HasFed R s v r b a w jg fs qs
      fed_deeper deep group cs children qs g = record {
        nodes = h.nodes ++ own_node c o;
        took = took_more R a h.nodes z (own_node c o) w h.took step;
        walked = turn_deeper s v r b c can_fail h.nodes ig fs ps (h.nodes ++ own_node c o) jg h.walked valid o means deep group cs children qs g refl more;
      }

-- ---- what the sinks have

-- a list of pairs has those of the forest behind what it had
pub kept_pairs : (a z : Vec Pair) (b : Path) (N : Pair → Type 0) (t : TakesForest KeepsPair a z b N) → z.items ≡ a.items ++ pairs t.trees
kept_pairs a z b N t = took_joined KeepsPair (λ x. x.items) (λ d. d ∷ []) (λ x d y r. r) a (pairs t.trees) z t.took ∙ ap (λ x. a.items ++ x) (joined_same (pairs t.trees))

-- and alone where it had nothing
only_pairs : (a z : Vec Pair) (b : Path) (N : Pair → Type 0) (t : TakesForest KeepsPair a z b N) → a.items ≡ [] → z.items ≡ pairs t.trees
only_pairs a z b N t e = kept_pairs a z b N t ∙ ap (λ x. x ++ pairs t.trees) e

-- it lists the nodes
pub listed_pairs : (a z : Vec Pair) (b : Path) (N : Pair → Type 0) → TakesForest KeepsPair a z b N → a.items ≡ [] → Lists N z.items
listed_pairs a z b N t e = subst (Lists N) (sym (only_pairs a z b N t e)) t.shows.shown

-- and ascends
pub ascending_pairs : (a z : Vec Pair) (b : Path) (N : Pair → Type 0) → TakesForest KeepsPair a z b N → a.items ≡ [] → Ascend z.items
ascending_pairs a z b N t e = subst Ascend (sym (only_pairs a z b N t e)) (shown_ascend b N t.trees t.shows)

-- what is kept of the pairs of a forest that shows kept nodes are those nodes
kept_again : (N : Pair → Type 0) (r : Bool) (b : Path) (f : Forest) → Shows f b (Kept N r b) → (e : Pair) → Kept (Contains (pairs f)) true b e ↔ Kept N r b e
kept_again N r b f h e = (
  λ k. (listed_each h.shown e).0 k.1,
  λ k. let in' = (listed_each h.shown e).1 k in (
    record { below = k.0.below; between = λ q low up. (refl, placed_between b f h.placed e in' q low up) },
    in',
  ),
)

-- the tree that is built of the pairs of kept nodes shows those nodes
pub built_shows : (a z : Vec Pair) (b : Path) (N : Pair → Type 0) (r : Bool) → TakesForest KeepsPair a z b (Kept N r b) → a.items ≡ [] → (f : Forest) → Shows f b (Kept (Contains z.items) true b) → Shows f b (Kept N r b)
built_shows a z b N r t e f h =
    shows_same f b (Kept (Contains (pairs t.trees)) true b) (Kept N r b) (kept_again N r b t.trees t.shows)
    (subst (λ xs. Shows f b (Kept (Contains xs) true b)) (only_pairs a z b (Kept N r b) t e) h)
