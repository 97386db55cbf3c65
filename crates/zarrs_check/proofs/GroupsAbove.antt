-- The blocks of the groups above a path, one group after another from the path up.
use Rattle.std.proofs.Common.{◌≡◌, ◌<◌, ℕ, suc, ◌↔◌, ◌⊎◌, inl, inr, ⊎_elim, Option, Some, None, Result, Ok, Err, List, [], ◌∷◌, ◌++◌, get_or, length, length-append, refl, sym, ap, subst, ◌∙◌, arith, append_assoc, AllPairs, Contains, Less}
use Rattle.std.proofs.lemmas.List.Elements.{Contains-append_left, Contains-append_right, Contains-append_cases, Contains-get_or}
use Rattle.zarrs_fault.specs.declared.fault.MetadataFault.{MetadataFault}
use Rattle.zarrs_store.specs.Contents.{Contents}
use Rattle.zarrs_path.specs.Paths.{Path, path_cmp, IsBelow, IsParent}
use Rattle.zarrs_config.specs.declared.version.MetadataRetrieveVersion.{MetadataRetrieveVersion}
use Rattle.zarrs_block.specs.Block.{Block, Entries}
use Rattle.zarrs_meaning.specs.Meaning.{meaning, node}
use Rattle.zarrs_block.specs.declared.consolidated.ConsolidatedMetadata.{ConsolidatedMetadata}
use Rattle.zarrs_meaning.specs.Exists.{HasNodeKey}
use Rattle.zarrs_node.proofs.walk.Child.{node_same}
use Rattle.zarrs_node.proofs.ListedItems.{all_pairs_append}
use Rattle.zarrs_node.proofs.KeptOfLists.{below_later, below_trans, not_below_itself}
use Rattle.zarrs_check.specs.BlocksAbove.{HasNodeFrom, HasBadFrom, IsAboveFinding, AreAboveFindings}
use Rattle.zarrs_check.specs.Checks.{block_read, StandsBefore}
use Rattle.zarrs_check.specs.Findings.{IsAtOrAbove, IsPathFinding, IsSpoilt}
use Rattle.zarrs_meaning.specs.Meaning.{Pair}
use Rattle.zarrs_check.specs.Laws.{NothingIsAboveRoot}
use Rattle.zarrs_check.specs.StepsOfBlocksAbove.{AreFoundBelow, ArePartFindings, IsGoodBlock, IsNextAbove, IsPartOf, IsBelowNext}
use Rattle.zarrs_check.specs.StepsOfChecks.{HasBad}
use Rattle.zarrs_check.specs.StepsOfComparing.{StandBehind}
use Rattle.zarrs_check.specs.declared.blocks_above.PartOfStore.{PartOfStore}
use Rattle.zarrs_check.specs.declared.finding.Finding.{Finding}
use Rattle.zarrs_check.specs.declared.finding.FindingKind.{FindingKind}
use Rattle.zarrs_check.specs.declared.finding.FindingKind.TheVariants.{BlockFault, BadKey, Shadowed, OwnKey, OwnAttributes, Unreachable, Stale, Unreached, Differs, Missing}
use Rattle.zarrs_check.proofs.Above.{goes_through, up_cases}
use Rattle.zarrs_check.proofs.Blocks.{finding_same}

-- ---- paths above a path

-- nothing is above the root
pub none_above_root : (g : Path) → IsBelow g [] → ⊥
none_above_root g low =
    let long = ap length low.2 in
    let parts = length-append g (low.0 ∷ low.1) in
    omega (arith, long, parts)

-- what is above the next group, or the root where there is none, and above a path below q, is q or below it, where q is the one before
passed_cases : (b q g : Path) (next : Option Path) → IsParent q next → IsBelow q b → IsBelow g b → IsBelowNext next g → (g ≡ q) ⊎ IsBelow q g
passed_cases b q g None root low above passed = up_cases q g (g, sym (ap (λ x. x ++ g) root))
passed_cases b q g (Some r) (n, is) low above passed =
    let whole : b ≡ r ++ n ∷ (low.0 ∷ low.1) = low.2 ∙ ap (λ x. x ++ low.0 ∷ low.1) is ∙ append_assoc r (n ∷ []) (low.0 ∷ low.1) in
    up_cases q g (subst (λ x. IsAtOrAbove x g) (sym is) (goes_through r g n (low.0 ∷ low.1) passed (subst (IsBelow g) whole above)))

-- q and what is below it comes below the next group
at_passed : (q g : Path) (next : Option Path) → IsParent q next → g ≡ q → IsBelowNext next g
at_passed q g None root same = tt
at_passed q g (Some r) (n, is) same = (n, [], same ∙ is)

-- what is below q comes below the next group above it, if there is one
below_passed : (q g : Path) (next : Option Path) → IsParent q next → IsBelow q g → IsBelowNext next g
below_passed q g None root low = tt
below_passed q g (Some r) (n, is) low = below_trans r q g (n, [], is) low

-- how many groups are left
abbrev pub groups_left : Option Path → ℕ
groups_left None = 0
groups_left (Some q) = suc (length q)

-- with each group they become fewer
pub fewer_left : (q : Path) (next : Option Path) → IsParent q next → groups_left next < suc (length q)
fewer_left q None root = omega arith
fewer_left q (Some r) (n, is) =
    let long = ap length is in
    let parts = length-append r (n ∷ []) in
    omega (arith, long, parts)

-- ---- findings turn on which nodes there are, and on what is spoilt, alone

module _ (E N : Pair → Type 0) (F F' D : Path → Type 0) (g : Path) (spoilt : (p : Path) → IsSpoilt F p ↔ IsSpoilt F' p) where
  -- a finding by what the one spoils is one by what the other does
  spoilt_same : (p : Path) (k : FindingKind) → IsPathFinding E N F D g p k → IsPathFinding E N F' D g p k
  spoilt_same p Unreachable h = h
  spoilt_same p Stale h = (h.0, h.1, λ x. h.2 ((spoilt p).1 x), h.3)
  spoilt_same p Unreached h = (h.0, h.1, λ x. h.2 ((spoilt p).1 x), h.3)
  spoilt_same p Differs h = h
  spoilt_same p Missing h = h
  spoilt_same p (BlockFault fault) h = h
  spoilt_same p (BadKey t) h = h
  spoilt_same p (Shadowed t) h = h
  spoilt_same p (OwnKey t) h = h
  spoilt_same p OwnAttributes h = h

-- a finding by these nodes is one by the same
nodes_same : (B : Block) (N N' : Pair → Type 0) (F D : Path → Type 0) (g : Path) → ((d : Pair) → N d ↔ N' d) → (p : Path) (k : FindingKind) → IsPathFinding (Entries B g) N F D g p k → IsPathFinding (Entries B g) N' F D g p k
nodes_same B N N' F D g n = finding_same (Entries B g) (Entries B g) N N' F F D g (λ d is. (is.0, is.1, is.3)) (λ d. (λ x. x, λ x. x)) (λ d low. n d) (λ q. (λ x. x, λ x. x))

-- the block that was read
abbrev block_or : Block → Option (Result Block MetadataFault) → Block
block_or B None = B
block_or B (Some (Err fault)) = B
block_or B (Some (Ok C)) = C

-- ---- one group after another

module _ (s : Contents) (v : MetadataRetrieveVersion) (b : Path) where
  -- of no group nothing is told
  pub found_none : (next : Option Path) (found : List Finding) → IsParent b next → found ≡ [] → AreFoundBelow s v b next found
  found_none None found root none = record {
    place = tt;
    exact = λ f. (
      λ in'. let empty : Contains [] f = subst (λ xs. Contains xs f) none in' in absurd (omega (arith, empty.1)),
      λ w. absurd (none_above_root f.group (subst (IsBelow f.group) root w.0.above)),
    );
    ascend = subst (AllPairs StandsBefore) (sym none) (λ i j d l m. absurd (omega (arith, m)));
  }
  found_none (Some q) found (n, is) none = record {
    place = (n, [], is);
    exact = λ f. (
      λ in'. let empty : Contains [] f = subst (λ xs. Contains xs f) none in' in absurd (omega (arith, empty.1)),
      λ w.
          let here : IsAtOrAbove b f.group = subst (λ x. IsAtOrAbove x f.group) (sym is) (goes_through q f.group n [] w.1 (subst (IsBelow f.group) is w.0.above)) in
          absurd (⊎_elim
          (λ same. not_below_itself b (subst (λ x. IsBelow x b) same w.0.above))
          (λ low. not_below_itself b (below_trans b f.group b low w.0.above))
          (up_cases b f.group here)),
    );
    ascend = subst (AllPairs StandsBefore) (sym none) (λ i j d l m. absurd (omega (arith, m)));
  }

  -- a finding is of the block of q
  abbrev pub IsFoundAt : Path → Finding → Type 0
  IsFoundAt q f = IsAboveFinding s v b f × (f.group ≡ q)

  -- what is told of one group more comes first
  pub found_more : (q : Path) (next : Option Path) (told found whole : List Finding) → IsParent q next → ((f : Finding) → Contains told f ↔ IsFoundAt q f) → AllPairs StandsBefore told → whole ≡ told ++ found
      → AreFoundBelow s v b (Some q) found → AreFoundBelow s v b next whole
  found_more q next told found whole parent each up is h = subst (AreFoundBelow s v b next) (sym is) (record {
    place = placed next parent;
    exact = λ f. (
      λ in'. ⊎_elim
          (λ first. let w = (each f).0 first in (w.0, at_passed q f.group next parent w.1))
          (λ later. let w = (h.exact f).0 later in (w.0, below_passed q f.group next parent w.1))
          (Contains-append_cases told found f in'),
      λ w. ⊎_elim
          (λ same. Contains-append_left told found f ((each f).1 (w.0, same)))
          (λ low. Contains-append_right told found f ((h.exact f).1 (w.0, low)))
          (passed_cases b q f.group next parent h.place w.0.above w.1),
    );
    ascend = all_pairs_append StandsBefore told found up h.ascend
        (λ x y first later.
        let at = ((each x).0 first).1 in
        inl (ap (λ p. path_cmp p y.group) at ∙ below_later q y.group ((h.exact y).0 later).1));
  })
    where
      placed : (next : Option Path) → IsParent q next → IsNextAbove b next
      placed None root = tt
      placed (Some r) (n, at) = below_trans r q b (n, [], at) h.place

  -- of a group without a block that reads nothing is told
  pub found_same : (q : Path) (next : Option Path) (found : List Finding) → IsParent q next → IsGoodBlock s v q None → AreFoundBelow s v b (Some q) found → AreFoundBelow s v b next found
  found_same q next found parent none h = found_more q next [] found found parent
      (λ f. (
        λ in'. absurd (omega (arith, in'.1)),
        λ w. absurd (none w.0.metadata w.0.block (subst (λ g. meaning s v g ≡ node w.0.metadata) w.1 w.0.means) (subst (λ g. block_read s g w.0.metadata ≡ Some (Ok w.0.block)) w.1 w.0.reads)),
      ))
      (λ i j d l m. absurd (omega (arith, m))) refl h

  -- where no group is left, all is told
  pub found_all_above : (found : List Finding) → AreFoundBelow s v b None found → AreAboveFindings s v b found
  found_all_above found h = record { exact = λ f. (λ in'. ((h.exact f).0 in').0, λ w. (h.exact f).1 (w, tt)); ascend = h.ascend }

  -- ---- of the block of one group

  module _ (q : Path) (low : IsBelow q b) (part : PartOfStore) (known : IsPartOf s v b part) where
    -- the nodes of the part stand behind a group above the path
    pub part_behind : StandBehind q part.nodes.items
    part_behind e in' = ⊎_elim
        (λ w. subst (λ p. path_cmp q p ≡ Less) (sym w.0) (below_later q b low))
        (λ w. let under = w.0.below in below_later q e.0 (below_trans q b e.0 low (under.0, under.1, under.2)))
        ((known.nodes e).0 in').0

    module _ (block : ConsolidatedMetadata) (good : IsGoodBlock s v q (Some block)) (told : List Finding)
        (are : ArePartFindings (Entries block.metadata q) (Contains part.nodes.items) (HasBad part.bad) (HasNodeKey s) q b told) where
      -- a finding by the part is one by the store
      by_store : (p : Path) (k : FindingKind) → IsPathFinding (Entries block.metadata q) (Contains part.nodes.items) (HasBad part.bad) (HasNodeKey s) q p k → IsPathFinding (Entries block.metadata q) (HasNodeFrom s v b) (HasBadFrom s v b) (HasNodeKey s) q p k
      by_store p k h = spoilt_same (Entries block.metadata q) (HasNodeFrom s v b) (HasBad part.bad) (HasBadFrom s v b) (HasNodeKey s) q known.spoilt p k
          (nodes_same block.metadata (Contains part.nodes.items) (HasNodeFrom s v b) (HasBad part.bad) (HasNodeKey s) q known.nodes p k h)

      -- and the other way round
      by_part : (p : Path) (k : FindingKind) → IsPathFinding (Entries block.metadata q) (HasNodeFrom s v b) (HasBadFrom s v b) (HasNodeKey s) q p k → IsPathFinding (Entries block.metadata q) (Contains part.nodes.items) (HasBad part.bad) (HasNodeKey s) q p k
      by_part p k h = spoilt_same (Entries block.metadata q) (Contains part.nodes.items) (HasBadFrom s v b) (HasBad part.bad) (HasNodeKey s) q (λ r. ((known.spoilt r).1, (known.spoilt r).0)) p k
          (nodes_same block.metadata (HasNodeFrom s v b) (Contains part.nodes.items) (HasBadFrom s v b) (HasNodeKey s) q (λ d. ((known.nodes d).1, (known.nodes d).0)) p k h)

      -- what is told of the block is what there is to tell of it
      pub told_at : (f : Finding) → Contains told f ↔ IsFoundAt q f
      told_at f = (
        λ in'.
            let w = (are.exact f).0 in' in (
              record {
                above = subst (λ g. IsBelow g b) (sym w.0) low;
                metadata = good.0;
                means = subst (λ g. meaning s v g ≡ node good.0) (sym w.0) good.1;
                block = block.metadata;
                reads = subst (λ g. block_read s g good.0 ≡ Some (Ok block.metadata)) (sym w.0) good.2;
                finding = subst (λ g. IsPathFinding (Entries block.metadata g) (HasNodeFrom s v b) (HasBadFrom s v b) (HasNodeKey s) g f.path f.kind) (sym w.0) (by_store f.path f.kind w.1);
                place = w.2;
              },
              w.0,
            ),
        λ w.
            let m = w.0.metadata in
            let B = w.0.block in
            let same : m ≡ good.0 = node_same m good.0 (sym (subst (λ g. meaning s v g ≡ node m) w.1 w.0.means) ∙ good.1) in
            let reads : block_read s q m ≡ Some (Ok B) = subst (λ g. block_read s g m ≡ Some (Ok B)) w.1 w.0.reads in
            let one : B ≡ block.metadata = ap (block_or B) (sym reads ∙ ap (block_read s q) same ∙ good.2) in
            let here : IsPathFinding (Entries B q) (HasNodeFrom s v b) (HasBadFrom s v b) (HasNodeKey s) q f.path f.kind = subst (λ g. IsPathFinding (Entries B g) (HasNodeFrom s v b) (HasBadFrom s v b) (HasNodeKey s) g f.path f.kind) w.1 w.0.finding in
            (are.exact f).1 (
              w.1,
              by_part f.path f.kind (subst (λ C. IsPathFinding (Entries C q) (HasNodeFrom s v b) (HasBadFrom s v b) (HasNodeKey s) q f.path f.kind) one here),
              w.0.place,
            ),
      )

      -- it stands in its order
      pub told_before : AllPairs StandsBefore told
      told_before i j d l m = inr (at (get_or told i d) (Contains-get_or told i d (omega (arith, l, m))) ∙ sym (at (get_or told j d) (Contains-get_or told j d m)), are.ascend i j d l m)
        where
          at : (f : Finding) → Contains told f → f.group ≡ q
          at f in' = ((are.exact f).0 in').0

-- above the root there is nothing
pub nothing_is_above_root : NothingIsAboveRoot
nothing_is_above_root s v = record {
  exact = λ f. (λ in'. absurd (omega (arith, in'.1)), λ w. absurd (none_above_root f.group w.above));
  ascend = λ i j d l m. absurd (omega (arith, m));
}
