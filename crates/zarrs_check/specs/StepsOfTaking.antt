-- Steps of taking nodes and comparing them with the blocks above them, one after another; no public contract rests on
-- them.
use Rattle.std.specs.Prelude.{◌≡◌, ◌+◌, ◌<◌, ℕ, Bool, IfErr, List, [], ◌∷◌, ◌++◌, get_or, length, AllPairs, Contains}
use Rattle.std.specs.Prelude.{Option, Some, None, Ok, Err}
use Rattle.zarrs_store.specs.Contents.{Contents}
use Rattle.zarrs_store.specs.Faults.{IsStoreError}
use Rattle.zarrs_path.specs.Paths.{Path, IsBelow}
use Rattle.zarrs_meaning.specs.declared.node_create_error.NodeCreateError.{NodeCreateError}
use Rattle.zarrs_check.specs.Checks.{fault_of_block}
use Rattle.zarrs_meaning.specs.Meaning.{Pair}
use Rattle.zarrs_check.specs.StepsOfChecks.{BlockOrFault, ReadBlock, block_with_own}
use Rattle.zarrs_check.specs.StepsOfComparisons.{IsEnd, IsNextBelow, IsOnly, IsStart}
use Rattle.zarrs_check.specs.declared.base.Base.{Base}
use Rattle.zarrs_check.specs.declared.base.Base.TheVariants.{Node, Refused}
use Rattle.zarrs_check.specs.declared.comparison.Comparison.{Comparison}
use Rattle.zarrs_check.specs.declared.comparisons.Comparisons.{Comparisons}
use Rattle.zarrs_check.specs.declared.finding.Finding.{Finding}

-- the base as a node, where it is one
abbrev pub base_nodes : Path → Base → List Pair
base_nodes p (Node m) = (p, m) ∷ []
base_nodes p (Refused e) = []

-- why the base is no node, where it is none
abbrev pub base_fault : Base → Option NodeCreateError
base_fault (Node m) = None
base_fault (Refused e) = Some e

-- what was read as the block of a node, if it has one, with the path
abbrev pub named_block : Path → Option BlockOrFault → List ReadBlock
named_block p None = []
named_block p (Some r) = (p, r) ∷ []

-- what was read as the blocks of nodes, in their order
abbrev pub blocks_of : Contents → List Pair → List ReadBlock
blocks_of s [] = []
blocks_of s (e ∷ es) = named_block e.0 (block_with_own s e.0 e.1) ++ blocks_of s es

-- ---- blocks beside nodes

-- nothing was compared yet with what was read as the block of p
abbrev pub IsBegun : Path → BlockOrFault → Comparison → Type 0
IsBegun p (Ok w) c = IsStart w.0 w.1 p c
IsBegun p (Err fault) c = IsOnly (fault_of_block p fault) c

-- the places of blocks, and behind them the place n, if the block there reads
abbrev pub places_after : List ℕ → ℕ → BlockOrFault → List ℕ
places_after js n (Ok w) = js ++ n ∷ []
places_after js n (Err fault) = js

-- places ascend
abbrev pub PlacesAscend : List ℕ → Type 0
PlacesAscend js = AllPairs (λ i j. i < j) js

-- the block at j is above p
abbrev pub IsAboveAt : List Comparison → ℕ → Path → Type 0
IsAboveAt cs j p = (d : Comparison) × (j < length cs) × IsBelow (get_or cs j d).group p

-- the block at the last of these places is above p, if there is one
abbrev pub IsLastAbove : List ℕ → List Comparison → Path → Type 0
IsLastAbove js cs p = (is : List ℕ) (j : ℕ) → js ≡ is ++ j ∷ [] → IsAboveAt cs j p

-- with the blocks at these places the node was compared, and the others are as they were
pub record AreCompared (js : List ℕ) (e : Pair) (old new : List Comparison) : Type 0 where
  pub size : length new ≡ length old
  pub at_places : (j : ℕ) (d : Comparison) → Contains js j → j < length old
      → IsNextBelow (get_or old j d) e (get_or new j d)
  pub others : (j : ℕ) (d : Comparison) → (Contains js j → ⊥) → get_or new j d ≡ get_or old j d

-- what was read as the block of p was put behind other blocks
pub record PutsBlock (blocks : List Comparison) (above : List ℕ) (p : Path) (read : BlockOrFault)
    (more : List Comparison) (places : List ℕ) : Type 0 where
  pub block : Comparison
  pub begun : IsBegun p read block
  pub items : more ≡ blocks ++ block ∷ []
  pub places_are : places ≡ places_after above (length blocks) read

-- if something was read as the block of p, it was put behind other blocks, and else nothing was
abbrev pub MayPutBlock : List Comparison → List ℕ → Path → Option BlockOrFault → List Comparison → List ℕ → Type 0
MayPutBlock blocks above p None more places = (more ≡ blocks) × (places ≡ above)
MayPutBlock blocks above p (Some read) more places = PutsBlock blocks above p read more places

-- all that is told at the ends of comparisons, one after another
abbrev pub AreEnds : (Path → Type 0) → List Comparison → List (Path × NodeCreateError) → List Finding → Type 0
AreEnds D [] bad whole = whole ≡ []
AreEnds D (c ∷ cs) bad whole =
    (found : List Finding) × (rest : List Finding) × (whole ≡ found ++ rest) × IsEnd D c bad found
    × AreEnds D cs bad rest

module _ {S : Type 0} where
  -- no nodes were taken
  pub record IsNew (k : Comparisons S) : Type 0 where
    pub count : k.count ≡ 0
    pub blocks : k.blocks.items ≡ []
    pub above : k.above.items ≡ []
    pub outcome : k.outcome ≡ Ok tt

  -- the last places went, of blocks that are not above p
  pub record Closes (old : Comparisons S) (p : Path) (new : Comparisons S) : Type 0 where
    pub blocks : new.blocks.items ≡ old.blocks.items
    pub gone : List ℕ
    pub above : old.above.items ≡ new.above.items ++ gone
    pub not_above : (j : ℕ) → Contains gone j → IsAboveAt old.blocks.items j p → ⊥

  -- a node was counted and compared with the blocks above it, and its own block put behind the others
  pub record TakesNode (s : Contents) (old : Comparisons S) (e : Pair) (new : Comparisons S) : Type 0 where
    pub count : new.count ≡ old.count + 1
    pub above : List ℕ
    pub gone : List ℕ
    pub closes : old.above.items ≡ above ++ gone
    pub not_above : (j : ℕ) → Contains gone j → IsAboveAt old.blocks.items j e.0 → ⊥
    pub blocks : List Comparison
    pub compared : PlacesAscend above → AreCompared above e old.blocks.items blocks
    pub puts : MayPutBlock blocks above e.0 (block_with_own s e.0 e.1) new.blocks.items new.above.items

  -- a node was taken, or the store had failed or did
  pub record Takes (contents : S → Contents) (can_fail : S → Bool) (old : Comparisons S) (e : Pair)
      (new : Comparisons S) : Type 0 where
    pub storage : new.storage.now ≡ old.storage.now
    pub taken : new.outcome ≡ Ok tt → (old.outcome ≡ Ok tt) × TakesNode (contents old.storage.now) old e new
    pub fault : IfErr old.outcome (IsStoreError (can_fail old.storage.now))
        → IfErr new.outcome (IsStoreError (can_fail old.storage.now))
