-- Nodes whose metadata are put into a block.
use Rattle.std.proofs.Common.{◌≡◌, ℕ, ⊎_elim, List, [], ◌∷◌, ◌++◌, sym, ap, subst, ◌∙◌, append_assoc, arith}
use Rattle.std.proofs.lemmas.List.Elements.{Contains-append_cases}
use Rattle.zarrs_path.specs.Paths.{Path, IsPath, IsBelow}
use Rattle.zarrs_meta.specs.declared.node.NodeMetadata.{NodeMetadata}
use Rattle.zarrs_block.specs.Block.{Block, IsAscending, IsBlockOf, put}
use Rattle.zarrs_node.specs.declared.node.Node.{Node}
use Rattle.zarrs_node.specs.Forest.{Forest, none, tree, pairs, path_of, metadata_of, ArePlacedBelow}
use Rattle.zarrs_node.specs.StepsOfPreorder.{Stop, stops, stop_of}
use Rattle.zarrs_node.specs.LastOfEqualPaths.{IsLatest}
use Rattle.zarrs_node.specs.BlocksOfNodes.{text_beyond}
use Rattle.zarrs_node.specs.StepsOfBlocks.{ArePairsBelow, ArePaths, put_all}
use Rattle.zarrs_node.proofs.ForestsBeside.{Contains-first, Contains-cons}
use Rattle.zarrs_node.proofs.Order.{contains_cases}
use Rattle.zarrs_node.proofs.walk.WalkPrefixes.{pairs_at, pairs_stops}
use Rattle.zarrs_node.proofs.blocks.PairsInBlocks.{put_all_ascends, none_ascend}
use Rattle.zarrs_node.proofs.blocks.BlockTexts.{names_of}
use Rattle.zarrs_node.proofs.blocks.LatestPairs.{latest_block}

-- a path below a child is below its parent
below_child : (b p q : Path) (n : List ℕ) → p ≡ b ++ n ∷ [] → IsBelow p q → IsBelow b q
below_child b p q n child (k, ks, is) = (n, k ∷ ks, is ∙ ap (λ x. x ++ k ∷ ks) child ∙ append_assoc b (n ∷ []) (k ∷ ks))

-- in a forest that is placed below b each path is below b
pub placed_below : (b : Path) (f : Forest) → ArePlacedBelow b f → ArePairsBelow b (pairs f)
placed_below b none h e in' = absurd (omega (arith, in'.1))
placed_below b (tree p m below after) h e in' = ⊎_elim
    (λ same. (h.0.0, [], ap (λ d. d.0) (sym same) ∙ h.0.1))
    (λ rest. ⊎_elim
    (λ l. below_child b p e.0 h.0.0 h.0.1 (placed_below p below h.1 e l))
    (λ l. placed_below b after h.2 e l)
    (Contains-append_cases (pairs below) (pairs after) e rest))
    (contains_cases (p, m) (pairs below ++ pairs after) e in')

-- a loop over the nodes ss that are ahead of a walk: they stand below b, they make with the block now what the pairs es make of the old one, and those have names only where these do
pub record PutsAhead (b : Path) (old now : Block) (es : List (Path × NodeMetadata)) (ss : List Stop) : Type 0 where
  pub below : ArePairsBelow b (pairs_at ss)
  pub puts : put_all b now (pairs_at ss) ≡ put_all b old es
  pub valid : ArePaths (pairs_at ss) → ArePaths es

module _ (b : Path) where
  -- where all nodes of a forest are ahead
  pub puts_start : (old : Block) (f : Forest) (ss : List Stop) → ss ≡ stops 1 f → ArePairsBelow b (pairs f) → PutsAhead b old old (pairs f) ss
  puts_start old f ss all below =
      let same : pairs_at ss ≡ pairs f = ap pairs_at all ∙ pairs_stops 1 f in
      record { below = subst (ArePairsBelow b) (sym same) below; puts = ap (put_all b old) same; valid = subst ArePaths same }

  module _ {old now : Block} {es : List (Path × NodeMetadata)} {ss : List Stop} (h : PutsAhead b old now es ss) where
    -- the next node is below b
    pub puts_low : (level : ℕ) (n : Node) (later : List Stop) → ss ≡ stop_of level n ∷ later → IsBelow b (path_of n)
    puts_low level n later e = subst (λ l. ArePairsBelow b (pairs_at l)) e h.below (path_of n, metadata_of n) (Contains-first (path_of n, metadata_of n) (pairs_at later))

    -- the next node is put into the block
    pub puts_turn : (level : ℕ) (n : Node) (later : List Stop) (new : Block) (k : List ℕ) (m : NodeMetadata) → ss ≡ stop_of level n ∷ later → IsPath (path_of n) → k ≡ text_beyond b (path_of n) → m ≡ metadata_of n
        → new ≡ put k m now → PutsAhead b old new es later
    puts_turn level n later new k m e own key same put_is = record {
      below = λ d in'. subst (λ l. ArePairsBelow b (pairs_at l)) e h.below d (Contains-cons (path_of n, metadata_of n) (pairs_at later) d in');
      puts = ap (λ B. put_all b B (pairs_at later)) (put_is ∙ (λ j. put (key j) (same j) now)) ∙ ap (λ l. put_all b now (pairs_at l)) (sym e) ∙ h.puts;
      valid = λ rest. h.valid (subst (λ l. ArePaths (pairs_at l)) (sym e)
          (λ d in'. ⊎_elim (λ is. subst IsPath (ap (λ x. x.0) is) own) (λ l. rest d l) (contains_cases (path_of n, metadata_of n) (pairs_at later) d in')));
    }

    -- no node is left
    pub puts_end : ss ≡ [] → (now ≡ put_all b old es) × ArePaths es
    puts_end none_left = (
      ap (λ l. put_all b now (pairs_at l)) (sym none_left) ∙ h.puts,
      h.valid (subst (λ l. ArePaths (pairs_at l)) (sym none_left) (λ d in'. absurd (omega (arith, in'.1)))),
    )

-- the block of all nodes below b, put into an empty one, and its order
module _ (b base : Path) (f g : Forest) (start B : Block) (path : base ≡ b) (same : f ≡ g) (empty : start ≡ []) (all : B ≡ put_all base start (pairs f)) where
  -- it holds the later of two with one path
  pub whole_block : ArePlacedBelow b g → ArePaths (pairs f) → IsBlockOf (IsLatest (pairs g)) b B
  whole_block placed valid =
      latest_block b (pairs g) B (names_of b (pairs g) (placed_below b g placed) (subst (λ h. ArePaths (pairs h)) same valid)) (all ∙ (λ i. put_all (path i) (empty i) (pairs (same i))))

  -- its keys ascend
  pub whole_ascends : IsAscending B
  whole_ascends = subst IsAscending (sym all) (put_all_ascends base start (pairs f) (subst IsAscending (sym empty) none_ascend))
