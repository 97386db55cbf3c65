-- What a check has of nodes in the order of their paths: their number, and their blocks, each compared with the nodes below its group.
use Rattle.std.proofs.Common.{◌≡◌, ◌≢◌, ◌<◌, ◌+◌, ℕ, ◌↔◌, inl, inr, ⊎_elim, Bool, true, List, [], ◌∷◌, ◌++◌, get_or, length, refl, sym, ap, subst, ◌∙◌, arith, append-nil, append_assoc, Contains, AllPairs, Less, Option, Some, None, Ok, Err}
use Rattle.std.specs.Prelude.{IfErr}
use Rattle.std.proofs.lemmas.Bool.Decides.{eqb_tells}
use Rattle.std.proofs.lemmas.List.{length_push, length-append, get_or_push, get_or_append_left}
use Rattle.std.proofs.lemmas.List.Elements.{Contains-append_left, Contains-append_right, Contains-append_cases, Contains-push, Contains-push_cases, Contains-get_or}
use Rattle.std.proofs.lemmas.List.Quantifiers.{all_pairs_push}
use Rattle.zarrs_store.specs.Contents.{Contents}
use Rattle.zarrs_store.specs.Faults.{IsStoreError}
use Rattle.zarrs_path.specs.Paths.{Path, path_cmp, IsBelow}
use Rattle.zarrs_path.specs.PathOrder.{path_total}
use Rattle.zarrs_meta.specs.declared.node.NodeMetadata.{NodeMetadata}
use Rattle.zarrs_config.specs.declared.version.MetadataRetrieveVersion.{MetadataRetrieveVersion}
use Rattle.zarrs_block.specs.Block.{Block, Entries, IsAscending}
use Rattle.zarrs_meaning.specs.Meaning.{Meaning, meaning, node, nothing, bad}
use Rattle.zarrs_node.specs.Forest.{pairs}
use Rattle.zarrs_node.specs.Nodes.{Nodes}
use Rattle.zarrs_node.specs.Order.{Ascend}
use Rattle.zarrs_node.specs.Sinks.{TakesAll, TakesForest}
use Rattle.zarrs_node.proofs.walk.SubtreesApart.{all_pairs_front}
use Rattle.zarrs_node.proofs.walk.Child.{node_same}
use Rattle.zarrs_node.proofs.walk.SinkSteps.{took_more}
use Rattle.zarrs_node.proofs.ListedItems.{all_pairs_append, all_pairs_first, all_pairs_tail, listed_each, lists_from}
use Rattle.zarrs_node.proofs.ForestsBeside.{Contains-first, Contains-cons}
use Rattle.zarrs_node.proofs.KeptOfLists.{all_pairs_across, below_later, between_below, not_below_itself}
use Rattle.zarrs_node.proofs.Order.{contains_cases, shown_ascend}
use Rattle.zarrs_node.proofs.Unique.{names_irrefl}
use Rattle.zarrs_check.specs.declared.base.Base.{Base}
use Rattle.zarrs_check.specs.declared.base.Base.TheVariants.{Node, Refused}
use Rattle.zarrs_check.specs.Checks.{fault_of_block, HasNode, IsBaseFault, IsCount}
use Rattle.zarrs_meaning.specs.Meaning.{Pair}
use Rattle.zarrs_check.specs.StepsOfChecks.{BlockOrFault, ReadBlock, GroupsAscend, block_with_own}
use Rattle.zarrs_check.specs.StepsOfComparing.{AreBelow, own_findings}
use Rattle.zarrs_check.specs.StepsOfMerging.{HoldsUpTo}
use Rattle.zarrs_check.specs.StepsOfComparisons.{NoneBad, NoDocument, IsUnderWay, IsStart, IsOnly, IsNext, IsNextBelow, IsNextOf}
use Rattle.zarrs_check.specs.StepsOfTaking.{AreCompared, IsAboveAt, IsBegun, IsNew, MayPutBlock, PlacesAscend, Takes, TakesNode, named_block, blocks_of, places_after, base_nodes, base_fault}
use Rattle.zarrs_check.specs.Surveys.{IsBase}
use Rattle.zarrs_check.specs.declared.comparison.Comparison.{Comparison}
use Rattle.zarrs_check.specs.declared.comparisons.Comparisons.{Comparisons}
use Rattle.zarrs_check.proofs.ComparisonSteps.{holds_none}
use Rattle.zarrs_check.proofs.Places.{in_or_not}

-- ---- the blocks of nodes

-- the node at a path has what was read as its block
abbrev pub HasBlock : Contents → List Pair → ReadBlock → Type 0
HasBlock s es b = (m : NodeMetadata) × Contains es (b.0, m) × (block_with_own s b.0 m ≡ Some b.1)

-- what was read of one node stands with its path
at_path : (p : Path) (o : Option BlockOrFault) (b : ReadBlock) → Contains (named_block p o) b → (p ≡ b.0) × (o ≡ Some b.1)
at_path p None b h = absurd (omega (arith, h.1))
at_path p (Some r) b h = ⊎_elim
    (λ same. (ap (λ x. x.0) same, ap (λ x. Some x.1) same))
    (λ none. absurd (omega (arith, none.1)))
    (contains_cases (p, r) [] b h)

-- what was read of one node is there, with its path
path_at : (p : Path) (o : Option BlockOrFault) (r : BlockOrFault) → o ≡ Some r → Contains (named_block p o) (p, r)
path_at p o r is = subst (λ x. Contains (named_block p x) (p, r)) (sym is) (Contains-first (p, r) [])

-- the blocks of nodes are those that their nodes have
block_in : (s : Contents) (es : List Pair) (b : ReadBlock) → Contains (blocks_of s es) b → HasBlock s es b
block_in s [] b h = absurd (omega (arith, h.1))
block_in s (e ∷ es) b h = ⊎_elim
    (λ here.
    let w = at_path e.0 (block_with_own s e.0 e.1) b here in
    (e.1, subst (λ p. Contains (e ∷ es) (p, e.1)) w.0 (Contains-first e es), subst (λ p. block_with_own s p e.1 ≡ Some b.1) w.0 w.1))
    (λ later. let w = block_in s es b later in (w.0, Contains-cons e es (b.0, w.0) w.1, w.2))
    (Contains-append_cases (named_block e.0 (block_with_own s e.0 e.1)) (blocks_of s es) b h)

-- what was read as the block of one of the nodes is among their blocks
in_blocks : (s : Contents) (es : List Pair) (b : ReadBlock) → HasBlock s es b → Contains (blocks_of s es) b
in_blocks s [] b h = absurd (omega (arith, h.1.1))
in_blocks s (e ∷ es) b h = ⊎_elim
    (λ same.
    let at : e.0 ≡ b.0 = ap (λ (x : Pair). x.0) same in
    let is : block_with_own s e.0 e.1 ≡ Some b.1 = ap (λ (x : Pair). block_with_own s x.0 x.1) same ∙ h.2 in
    Contains-append_left (named_block e.0 (block_with_own s e.0 e.1)) (blocks_of s es) b (subst (λ p. Contains (named_block e.0 (block_with_own s e.0 e.1)) (p, b.1)) at (path_at e.0 (block_with_own s e.0 e.1) b.1 is)))
    (λ later. Contains-append_right (named_block e.0 (block_with_own s e.0 e.1)) (blocks_of s es) b (in_blocks s es b (h.0, later, h.2)))
    (contains_cases e es (b.0, h.0) h.1)

-- the blocks of nodes are just what was read as the block of one of them
pub each_block : (s : Contents) (es : List Pair) (b : ReadBlock) → Contains (blocks_of s es) b ↔ HasBlock s es b
each_block s es b = (block_in s es b, in_blocks s es b)

-- of one node at most one
one_block : (p : Path) (o : Option BlockOrFault) → GroupsAscend (named_block p o)
one_block p None = λ i j d l m. absurd (omega (arith, m))
one_block p (Some r) = λ i j d l m. absurd (omega (arith, l, m))

-- they ascend as the nodes do
pub blocks_ascend : (s : Contents) (es : List Pair) → Ascend es → GroupsAscend (blocks_of s es)
blocks_ascend s [] up = λ i j d l m. absurd (omega (arith, m))
blocks_ascend s (e ∷ es) up = all_pairs_append (λ (b c : ReadBlock). path_cmp b.0 c.0 ≡ Less) (named_block e.0 (block_with_own s e.0 e.1)) (blocks_of s es)
    (one_block e.0 (block_with_own s e.0 e.1))
    (blocks_ascend s es (all_pairs_tail (λ (d x : Pair). path_cmp d.0 x.0 ≡ Less) e es up))
    (λ b c first second.
    let at = (at_path e.0 (block_with_own s e.0 e.1) b first).0 in
    let w = block_in s es c second in
    subst (λ p. path_cmp p c.0 ≡ Less) at (all_pairs_first (λ (d x : Pair). path_cmp d.0 x.0 ≡ Less) e es up (c.0, w.0) w.1))

-- those of one node more come last
blocks_more : (s : Contents) (es : List Pair) (e : Pair) → blocks_of s (es ++ e ∷ []) ≡ blocks_of s es ++ named_block e.0 (block_with_own s e.0 e.1)
blocks_more s [] e = append-nil (named_block e.0 (block_with_own s e.0 e.1))
blocks_more s (d ∷ es) e =
    ap (λ x. named_block d.0 (block_with_own s d.0 d.1) ++ x) (blocks_more s es e)
    ∙ sym (append_assoc (named_block d.0 (block_with_own s d.0 d.1)) (blocks_of s es) (named_block e.0 (block_with_own s e.0 e.1)))

-- ---- one node after another

-- x stands behind all of them
abbrev IsBehind : List Pair → Path → Type 0
IsBehind es x = (d : Pair) → Contains es d → path_cmp d.0 x ≡ Less

-- a block reads
abbrev Reads : BlockOrFault → Type 0
Reads (Ok w) = Unit {0}
Reads (Err fault) = ⊥

-- the block B of g, whose document has other attributes of g or has not, was compared with those of the nodes that are below it
pub record HasCompared (done : List Pair) (g : Path) (B : Block) (other : Bool) (c : Comparison) : Type 0 where
  pub group : c.group ≡ g
  pub of_block : c.of_block.items ≡ own_findings g B other
  pub ascending : IsAscending B
  pub all : List Pair
  pub entries : (d : Pair) → Contains all d ↔ Entries B g d
  pub under : List Pair
  pub each_under : (d : Pair) → Contains under d ↔ (Contains done d × IsBelow g d.0)
  pub under_ascend : Ascend done → Ascend under
  pub told : (rest : List Pair) → Ascend (under ++ rest) → AreBelow g rest → IsUnderWay all (under ++ rest) c.entries.items rest c

-- and so was what was read as a block; of one that does not read there is its fault alone to tell
abbrev pub IsAt : List Pair → ReadBlock → Comparison → Type 0
IsAt done (g, Ok w) c = HasCompared done g w.0 w.1 c
IsAt done (g, Err fault) c = IsOnly (fault_of_block g fault) c

-- what hangs on a block that reads
reads_of : (done : List Pair) (b : ReadBlock) (c : Comparison) → Reads b.1 → IsAt done b c → (w : Block × Bool) × (b.1 ≡ Ok w) × HasCompared done b.0 w.0 w.1 c
reads_of done (g, Ok w) c reads at = (w, refl, at)
reads_of done (g, Err fault) c reads at = absurd reads

module _ (done : List Pair) (e : Pair) (g : Path) where
  module _ (B : Block) (other : Bool) (c : Comparison) (h : HasCompared done g B other c) where
    -- after a node below the group it was compared with that too
    compared_next : (c' : Comparison) → IsBelow g e.0 → IsNext c e c' → HasCompared (done ++ e ∷ []) g B other c'
    compared_next c' low next = record {
      group = next.one.group ∙ h.group;
      of_block = next.one.of_block ∙ h.of_block;
      ascending = h.ascending;
      all = h.all;
      entries = h.entries;
      under = h.under ++ e ∷ [];
      each_under = λ d. (
        λ in'. ⊎_elim
            (λ old. let w = (h.each_under d).0 old in (Contains-append_left done (e ∷ []) d w.0, w.1))
            (λ same. (subst (Contains (done ++ e ∷ [])) same (Contains-push done e), subst (λ (x : Pair). IsBelow g x.0) same low))
            (Contains-push_cases h.under e d in'),
        λ both. ⊎_elim
            (λ old. Contains-append_left h.under (e ∷ []) d ((h.each_under d).1 (old, both.1)))
            (λ same. subst (Contains (h.under ++ e ∷ [])) same (Contains-push h.under e))
            (Contains-push_cases done e d both.0),
      );
      under_ascend = λ up.
          all_pairs_push (λ (d x : Pair). path_cmp d.0 x.0 ≡ Less) h.under e (h.under_ascend (all_pairs_front (λ (d x : Pair). path_cmp d.0 x.0 ≡ Less) done e up))
          (λ k d lt. all_pairs_across (λ (d x : Pair). path_cmp d.0 x.0 ≡ Less) done (e ∷ []) up (get_or h.under k d) e
          ((h.each_under (get_or h.under k d)).0 (Contains-get_or h.under k d lt)).0 (Contains-first e []));
      told = λ rest up under.
          let is : (h.under ++ e ∷ []) ++ rest ≡ h.under ++ e ∷ rest = append_assoc h.under (e ∷ []) rest in
          subst (λ xs. IsUnderWay h.all xs c'.entries.items rest c') (sym is)
          (next.told h.all (h.under ++ e ∷ rest) rest
          (h.told (e ∷ rest) (subst Ascend is up) (λ d in'. ⊎_elim (λ same. subst (λ (x : Pair). IsBelow g x.0) same low) (under d) (contains_cases e rest d in'))));
    }

    -- another node changes nothing
    compared_same : (IsBelow g e.0 → ⊥) → HasCompared (done ++ e ∷ []) g B other c
    compared_same out = record {
      group = h.group;
      of_block = h.of_block;
      ascending = h.ascending;
      all = h.all;
      entries = h.entries;
      under = h.under;
      each_under = λ d. (
        λ in'. let w = (h.each_under d).0 in' in (Contains-append_left done (e ∷ []) d w.0, w.1),
        λ both. ⊎_elim
            (λ old. (h.each_under d).1 (old, both.1))
            (λ same. absurd (out (subst (λ (x : Pair). IsBelow g x.0) (sym same) both.1)))
            (Contains-push_cases done e d both.0),
      );
      under_ascend = λ up. h.under_ascend (all_pairs_front (λ (d x : Pair). path_cmp d.0 x.0 ≡ Less) done e up);
      told = h.told;
    }

    -- both
    compared_more : (c' : Comparison) → IsNextBelow c e c' → HasCompared (done ++ e ∷ []) g B other c'
    compared_more c' = ⊎_elim
        (λ w. compared_next c' (subst (λ p. IsBelow p e.0) h.group w.0) w.1)
        (λ w. subst (HasCompared (done ++ e ∷ []) g B other) (sym w.1) (compared_same (λ low. w.0 (subst (λ p. IsBelow p e.0) (sym h.group) low))))

-- nodes one after another
pub compared_all : (done rest : List Pair) (g : Path) (B : Block) (other : Bool) (c c' : Comparison) → HasCompared done g B other c → IsNextOf c rest c' → HasCompared (done ++ rest) g B other c'
compared_all done [] g B other c c' h next = subst (λ xs. HasCompared xs g B other c') (sym (append-nil done)) (subst (HasCompared done g B other) (sym next) h)
compared_all done (e ∷ rest) g B other c c' h next =
    subst (λ xs. HasCompared xs g B other c') (append_assoc done (e ∷ []) rest)
    (compared_all (done ++ e ∷ []) rest g B other next.0 c' (compared_more done e g B other c h next.0 next.1) next.2)

-- where no node is below its path a block begins
pub compared_first : (done : List Pair) (p : Path) (B : Block) (other : Bool) (c : Comparison) → ((d : Pair) → Contains done d → IsBelow p d.0 → ⊥) → IsStart B other p c → HasCompared done p B other c
compared_first done p B other c none start = record {
  group = start.group;
  of_block = start.of_block;
  ascending = start.ascending;
  all = c.entries.items;
  entries = start.entries;
  under = [];
  each_under = λ d. (λ in'. absurd (omega (arith, in'.1)), λ both. absurd (none d both.0 both.1));
  under_ascend = λ up i j d l m. absurd (omega (arith, m));
  told = λ rest up under. record {
    low = λ d in'. let is = (start.entries d).0 in' in subst (λ q. IsBelow q d.0) (sym start.group) (is.0, is.1, is.3);
    under = λ d in'. subst (λ q. IsBelow q d.0) (sym start.group) (under d in');
    holds = subst (λ q. HoldsUpTo (Contains c.entries.items) (Contains rest) NoneBad NoDocument q c.entries.items rest c.last c.found.items) (sym start.group)
        (subst (λ q. HoldsUpTo (Contains c.entries.items) (Contains rest) NoneBad NoDocument p c.entries.items rest q c.found.items) (sym start.last)
        (subst (HoldsUpTo (Contains c.entries.items) (Contains rest) NoneBad NoDocument p c.entries.items rest p) (sym start.found) (holds_none p c.entries.items rest start.ascend up)));
  };
}

-- and so does what was read as its block
begun_at : (done : List Pair) (p : Path) (read : BlockOrFault) (c : Comparison) → ((d : Pair) → Contains done d → IsBelow p d.0 → ⊥) → IsBegun p read c → IsAt done (p, read) c
begun_at done p (Ok w) c none begun = compared_first done p w.0 w.1 c none begun
begun_at done p (Err fault) c none begun = begun

-- places before one that went on keep ascending
ascend_front : (js gone all : List ℕ) → all ≡ js ++ gone → PlacesAscend all → PlacesAscend js
ascend_front js gone all is up = λ i j d lt within.
    let long = length-append js gone in
    let up' : PlacesAscend (js ++ gone) = subst PlacesAscend is up in
    let less = up' i j d lt (omega (arith, within, long)) in
    subst (λ x. x < get_or js j d) (get_or_append_left js gone d i (omega (arith, lt, within))) (subst (λ x. get_or (js ++ gone) i d < x) (get_or_append_left js gone d j within) less)

-- of the blocks of the nodes `done`, what was read of them, the comparisons with them, and the places of those that may be above the next node
pub record AreTaken (done : List Pair) (reads : List ReadBlock) (cs : List Comparison) (js : List ℕ) : Type 0 where
  pub size : length cs ≡ length reads
  pub each : (j : ℕ) (c : Comparison) (b : ReadBlock) → j < length cs → IsAt done (get_or reads j b) (get_or cs j c)
  pub ascend : PlacesAscend js
  pub inside : (j : ℕ) → Contains js j → j < length cs
  pub good : (j : ℕ) (b : ReadBlock) → Contains js j → Reads (get_or reads j b).1
  pub cover : (j : ℕ) (b : ReadBlock) → j < length cs → Reads (get_or reads j b).1 → (x : Path) → IsBelow (get_or reads j b).0 x → IsBehind done x → Contains js j

-- of no nodes there are none
are_taken_none : AreTaken [] [] [] []
are_taken_none = record {
  size = refl;
  each = λ j c b lt. absurd (omega (arith, lt));
  ascend = λ i j d l m. absurd (omega (arith, m));
  inside = λ j in'. absurd (omega (arith, in'.1));
  good = λ j b in'. absurd (omega (arith, in'.1));
  cover = λ j b lt. absurd (omega (arith, lt));
}

-- some item of a list that has one
some_item : {A : Type 0} → (xs : List A) → 0 < length xs → A
some_item [] some = absurd (omega (arith, some))
some_item (x ∷ xs) some = x

-- a node behind all others, with which the blocks that stay above it were compared
module _ (done : List Pair) (reads : List ReadBlock) (cs : List Comparison) (js : List ℕ) (h : AreTaken done reads cs js) (e : Pair) (behind : IsBehind done e.0)
    (of_nodes : (j : ℕ) (b : ReadBlock) → j < length cs → path_cmp (get_or reads j b).0 e.0 ≡ Less) (left gone : List ℕ) (closes : js ≡ left ++ gone) (not_above : (j : ℕ) → Contains gone j → IsAboveAt cs j e.0 → ⊥)
    (news : List Comparison) (compared : AreCompared left e cs news) where
  -- the places that are left are of those before
  was_place : (j : ℕ) → Contains left j → Contains js j
  was_place j in' = subst (λ xs. Contains xs j) (sym closes) (Contains-append_left left gone j in')

  -- a block at a place that went is not above the node
  gone_out : (j : ℕ) (b : ReadBlock) → j < length cs → Reads (get_or reads j b).1 → Contains gone j → IsBelow (get_or reads j b).0 e.0 → ⊥
  gone_out j b lt good went low =
      let c = some_item cs (omega (arith, lt)) in
      let w = reads_of done (get_or reads j b) (get_or cs j c) good (h.each j c b lt) in
      not_above j went (c, lt, subst (λ p. IsBelow p e.0) (sym w.2.group) low)

  -- one that stands above a path behind the node has its place left
  is_left : (j : ℕ) (b : ReadBlock) → j < length cs → Reads (get_or reads j b).1 → (x : Path) → IsBelow (get_or reads j b).0 x → IsBehind done x → ((IsBelow (get_or reads j b).0 e.0 → ⊥) → ⊥) → Contains left j
  is_left j b lt good x low late not_out = ⊎_elim
      (λ first. first)
      (λ went. absurd (not_out (gone_out j b lt good went)))
      (Contains-append_cases left gone j (subst (λ xs. Contains xs j) closes (h.cover j b lt good x low late)))

  -- each block was compared with the node
  each_next : (j : ℕ) (c : Comparison) (b b' : ReadBlock) → j < length cs → get_or reads j b ≡ b' → IsAt done b' (get_or cs j c) → IsAt (done ++ e ∷ []) b' (get_or news j c)
  each_next j c b (g, Err fault) lt is at = subst (IsOnly (fault_of_block g fault)) (sym (compared.others j c (λ in'. subst (λ (x : ReadBlock). Reads x.1) is (h.good j b (was_place j in'))))) at
  each_next j c b (g, Ok w) lt is at = ⊎_elim
      (λ in'. compared_more done e g w.0 w.1 (get_or cs j c) at (get_or news j c) (compared.at_places j c in' lt))
      (λ none. subst (HasCompared (done ++ e ∷ []) g w.0 w.1) (sym (compared.others j c none))
      (compared_same done e g w.0 w.1 (get_or cs j c) at (λ low.
      let low' : IsBelow (get_or reads j b).0 e.0 = subst (λ (x : ReadBlock). IsBelow x.0 e.0) (sym is) low in
      none (is_left j b lt (subst (λ (x : ReadBlock). Reads x.1) (sym is) tt) e.0 low' behind (λ out. out low')))))
      (in_or_not left j)

  -- what was read, and the new comparisons, are taken of the nodes with this one more
  pub are_taken_next : AreTaken (done ++ e ∷ []) reads news left
  are_taken_next =
      let size = compared.size in
      record {
        size = compared.size ∙ h.size;
        each = λ j c b lt. let lt' : j < length cs = omega (arith, lt, size) in each_next j c b (get_or reads j b) lt' refl (h.each j c b lt');
        ascend = ascend_front left gone js closes h.ascend;
        inside = λ j in'. let lt = h.inside j (was_place j in') in omega (arith, lt, size);
        good = λ j b in'. h.good j b (was_place j in');
        cover = λ j b lt good x low late.
            let lt' : j < length cs = omega (arith, lt, size) in
            is_left j b lt' good x low (λ d in'. late d (Contains-append_left done (e ∷ []) d in'))
            (λ out. out (between_below (get_or reads j b).0 e.0 x (of_nodes j b lt') (late e (Contains-push done e)) low));
      }

-- a block behind the others, of a node that has nothing below it yet
module _ (done : List Pair) (reads : List ReadBlock) (cs : List Comparison) (js : List ℕ) (h : AreTaken done reads cs js) (p : Path) (none : (d : Pair) → Contains done d → IsBelow p d.0 → ⊥) (c0 : Comparison) where
  -- what stands at a place, when there is one block more
  each_put : (read : BlockOrFault) → IsBegun p read c0 → (j : ℕ) (c : Comparison) (b : ReadBlock) → j < length (cs ++ c0 ∷ []) → IsAt done (get_or (reads ++ (p, read) ∷ []) j b) (get_or (cs ++ c0 ∷ []) j c)
  each_put read begun j c b lt =
      let size = h.size in
      let long = length_push cs c0 in
      ⊎_elim
      (λ same.
      let at = same.1 in
      subst (λ x. IsAt done x (get_or (cs ++ c0 ∷ []) j c)) (sym (get_or_push reads (p, read) b j (omega (arith, at, size))))
      (subst (IsAt done (p, read)) (sym (get_or_push cs c0 c j (omega (arith, at)))) (begun_at done p read c0 none begun)))
      (λ other.
      let not = other.1 in
      let lt' : j < length cs = omega (arith, lt, long, not) in
      subst (λ x. IsAt done x (get_or (cs ++ c0 ∷ []) j c)) (sym (get_or_append_left reads ((p, read) ∷ []) b j (omega (arith, lt', size))))
      (subst (IsAt done (get_or reads j b)) (sym (get_or_append_left cs (c0 ∷ []) c j lt')) (h.each j c b lt')))
      (eqb_tells j (length cs))

  -- what was read at a place before
  read_before : (read : BlockOrFault) (j : ℕ) (b : ReadBlock) → j < length cs → get_or (reads ++ (p, read) ∷ []) j b ≡ get_or reads j b
  read_before read j b lt = let size = h.size in get_or_append_left reads ((p, read) ∷ []) b j (omega (arith, lt, size))

  -- there are as many comparisons as blocks that were read
  put_size : (read : BlockOrFault) → length (cs ++ c0 ∷ []) ≡ length (reads ++ (p, read) ∷ [])
  put_size read = length_push cs c0 ∙ (ap (λ n. n + 1) h.size ∙ sym (length_push reads (p, read)))

  -- the places of before still cover those before
  cover_before : (read : BlockOrFault) (j : ℕ) (b : ReadBlock) → j < length cs → Reads (get_or (reads ++ (p, read) ∷ []) j b).1 → (x : Path) → IsBelow (get_or (reads ++ (p, read) ∷ []) j b).0 x → IsBehind done x → Contains js j
  cover_before read j b lt good x low late =
      let is = read_before read j b lt in
      h.cover j b lt (subst (λ (y : ReadBlock). Reads y.1) is good) x (subst (λ (y : ReadBlock). IsBelow y.0 x) is low) late

  -- with the block more, what was read and the comparisons are taken of the same nodes
  are_taken_put : (read : BlockOrFault) → IsBegun p read c0 → AreTaken done (reads ++ (p, read) ∷ []) (cs ++ c0 ∷ []) (places_after js (length cs) read)
  are_taken_put (Err fault) begun =
      let long = length_push cs c0 in
      record {
        size = put_size (Err fault);
        each = each_put (Err fault) begun;
        ascend = h.ascend;
        inside = λ j in'. let lt = h.inside j in' in omega (arith, lt, long);
        good = λ j b in'. subst (λ (y : ReadBlock). Reads y.1) (sym (read_before (Err fault) j b (h.inside j in'))) (h.good j b in');
        cover = λ j b lt good x low late. ⊎_elim
            (λ same. absurd (let at = same.1 in let size = h.size in subst (λ (y : ReadBlock). Reads y.1) (get_or_push reads (p, Err fault) b j (omega (arith, at, size))) good))
            (λ other. let not = other.1 in cover_before (Err fault) j b (omega (arith, lt, long, not)) good x low late)
            (eqb_tells j (length cs));
      }
  are_taken_put (Ok w) begun =
      let long = length_push cs c0 in
      let size = h.size in
      record {
        size = put_size (Ok w);
        each = each_put (Ok w) begun;
        ascend = all_pairs_push (λ (i j : ℕ). i < j) js (length cs) h.ascend (λ i d lt. h.inside (get_or js i d) (Contains-get_or js i d lt));
        inside = λ j in'. ⊎_elim (λ old. let lt = h.inside j old in omega (arith, lt, long)) (λ same. omega (arith, same, long)) (Contains-push_cases js (length cs) j in');
        good = λ j b in'. ⊎_elim
            (λ old. subst (λ (y : ReadBlock). Reads y.1) (sym (read_before (Ok w) j b (h.inside j old))) (h.good j b old))
            (λ same. subst (λ (y : ReadBlock). Reads y.1) (sym (get_or_push reads (p, Ok w) b j (omega (arith, same, size)))) tt)
            (Contains-push_cases js (length cs) j in');
        cover = λ j b lt good x low late. ⊎_elim
            (λ same. subst (Contains (js ++ length cs ∷ [])) (sym same.1) (Contains-push js (length cs)))
            (λ other. let not = other.1 in Contains-append_left js (length cs ∷ []) j (cover_before (Ok w) j b (omega (arith, lt, long, not)) good x low late))
            (eqb_tells j (length cs));
      }

-- what a check has of the nodes that were taken
module _ {S : Type 0} (s : Contents) where
  -- the number of these nodes, and the comparisons of their blocks
  pub record HasTaken (done : List Pair) (k : Comparisons S) : Type 0 where
    pub count : k.count ≡ length done
    pub taken : AreTaken done (blocks_of s done) k.blocks.items k.above.items

  -- of none nothing
  pub taken_none : (k : Comparisons S) → IsNew k → HasTaken [] k
  taken_none k new = record { count = new.count; taken = subst (λ cs. AreTaken [] [] cs k.above.items) (sym new.blocks) (subst (AreTaken [] [] []) (sym new.above) are_taken_none) }

  module _ (done : List Pair) (k z : Comparisons S) (e : Pair) (h : HasTaken done k) (behind : IsBehind done e.0) (step : TakesNode s k e z) where
    -- a block before is that of a node before
    before_node : (j : ℕ) (b : ReadBlock) → j < length k.blocks.items → path_cmp (get_or (blocks_of s done) j b).0 e.0 ≡ Less
    before_node j b lt =
        let size = h.taken.size in
        let w = block_in s done (get_or (blocks_of s done) j b) (Contains-get_or (blocks_of s done) j b (omega (arith, lt, size))) in
        behind ((get_or (blocks_of s done) j b).0, w.0) w.1

    -- after the comparison with the node
    next : AreTaken (done ++ e ∷ []) (blocks_of s done) step.blocks step.above
    next = are_taken_next done (blocks_of s done) k.blocks.items k.above.items h.taken e behind before_node step.above step.gone step.closes step.not_above step.blocks
        (step.compared (ascend_front step.above step.gone k.above.items step.closes h.taken.ascend))

    -- no node stands below it yet
    none_below_it : (d : Pair) → Contains (done ++ e ∷ []) d → IsBelow e.0 d.0 → ⊥
    none_below_it d in' low = ⊎_elim
        (λ old. names_irrefl e.0 (path_total.trans e.0 d.0 e.0 (below_later e.0 d.0 low) (behind d old)))
        (λ same. not_below_itself e.0 (subst (λ (x : Pair). IsBelow e.0 x.0) (sym same) low))
        (Contains-push_cases done e d in')

    -- and with its own block
    with_own : (o : Option BlockOrFault) → MayPutBlock step.blocks step.above e.0 o z.blocks.items z.above.items → AreTaken (done ++ e ∷ []) (blocks_of s done ++ named_block e.0 o) z.blocks.items z.above.items
    with_own None puts = subst (λ bs. AreTaken (done ++ e ∷ []) bs z.blocks.items z.above.items) (sym (append-nil (blocks_of s done)))
        (subst (λ cs. AreTaken (done ++ e ∷ []) (blocks_of s done) cs z.above.items) (sym puts.0) (subst (AreTaken (done ++ e ∷ []) (blocks_of s done) step.blocks) (sym puts.1) next))
    with_own (Some read) puts =
        subst (λ cs. AreTaken (done ++ e ∷ []) (blocks_of s done ++ (e.0, read) ∷ []) cs z.above.items) (sym puts.items)
        (subst (AreTaken (done ++ e ∷ []) (blocks_of s done ++ (e.0, read) ∷ []) (step.blocks ++ puts.block ∷ [])) (sym puts.places_are)
        (are_taken_put (done ++ e ∷ []) (blocks_of s done) step.blocks step.above next e.0 none_below_it puts.block read puts.begun))

    pub taken_more : HasTaken (done ++ e ∷ []) z
    taken_more = record {
      count = let long = length_push done e in let one = step.count in let old = h.count in omega (arith, long, one, old);
      taken = subst (λ bs. AreTaken (done ++ e ∷ []) bs z.blocks.items z.above.items) (sym (blocks_more s done e)) (with_own (block_with_own s e.0 e.1) step.puts);
    }

-- ---- all of them

-- pairs that ascend are different
apart_once : (es : List Pair) → Ascend es → AllPairs (λ x y. x ≢ y) es
apart_once es up = λ i j d l m same. names_irrefl (get_or es j d).0 (subst (λ (x : Pair). path_cmp x.0 (get_or es j d).0 ≡ Less) same (up i j d l m))

-- the metadata of a base that is a node
abbrev pub given_or : NodeMetadata → Base → NodeMetadata
given_or d (Node x) = x
given_or d (Refused e) = d

-- what a meaning is, a node
abbrev pub IsNode : Meaning → Type 0
IsNode (node m) = Unit {0}
IsNode nothing = ⊥
IsNode (bad e) = ⊥

-- the base alone ascends
pub one_base : (b : Path) (r : Base) → Ascend (base_nodes b r)
one_base b (Node n) = λ i j d l m. absurd (omega (arith, l, m))
one_base b (Refused e) = λ i j d l m. absurd (omega (arith, m))

-- what is taken as the base is the base
pub base_path : (b : Path) (r : Base) (d : Pair) → Contains (base_nodes b r) d → (b ≡ d.0) × (r ≡ Node d.1)
base_path b (Node n) d in' = ⊎_elim (λ same. (ap (λ (x : Pair). x.0) same, ap (λ (x : Pair). Node x.1) same)) (λ none. absurd (omega (arith, none.1))) (contains_cases (b, n) [] d in')
base_path b (Refused e) d in' = absurd (omega (arith, in'.1))

module _ (s : Contents) (v : MetadataRetrieveVersion) (b : Path) where
  -- the base that is taken means a node
  pub base_out : (r : Base) → IsBase s v b r → (d : Pair) → Contains (base_nodes b r) d → (d.0 ≡ b) × (meaning s v b ≡ node d.1)
  base_out (Refused e) means d in' = absurd (omega (arith, in'.1))
  base_out (Node n) means d in' = let w = base_path b (Node n) d in' in (sym w.0, means ∙ ap (λ x. node (given_or n x)) w.1)

  -- and the base that means a node is taken
  pub base_in : (r : Base) → IsBase s v b r → (d : Pair) → (d.0 ≡ b) × (meaning s v b ≡ node d.1) → Contains (base_nodes b r) d
  base_in (Node n) means d w = subst (λ (x : Pair). Contains ((b, n) ∷ []) x) (ap (λ p. (p, n)) (sym w.0) ∙ ap (λ m. (d.0, m)) (node_same n d.1 (sym means ∙ w.1))) (Contains-first (b, n) [])
  base_in (Refused e) refused d w = absurd (⊎_elim (λ h. subst IsNode (sym w.1 ∙ h.0) tt) (λ h. subst IsNode (sym w.1 ∙ h) tt) refused)

-- of the base, where it is a node, and the nodes below it a check has what it needs
pub record HasAll {S : Type 0} (s : Contents) (v : MetadataRetrieveVersion) (b : Path) (z : Comparisons S) : Type 0 where
  pub all : List Pair
  pub ascend : Ascend all
  pub taken : HasTaken s all z
  pub each : (d : Pair) → Contains all d ↔ HasNode s v b d

-- so many were counted
pub nodes_counted : {S : Type 0} (s : Contents) (v : MetadataRetrieveVersion) (b : Path) (z : Comparisons S) → HasAll s v b z → IsCount (HasNode s v b) z.count
nodes_counted s v b z h = (h.all, lists_from h.all h.each (apart_once h.all h.ascend), h.taken.count)

module _ {S : Type 0} (contents : S → Contents) (can_fail : S → Bool) where
  -- where nothing failed at last, nothing had failed
  none_failed : (k : Comparisons S) (es : List Pair) (z : Comparisons S) → TakesAll (Takes contents can_fail) k es z → z.outcome ≡ Ok tt → k.outcome ≡ Ok tt
  none_failed k [] z t ok = ap (λ x. x.outcome) (sym t) ∙ ok
  none_failed k (e ∷ es) z t ok = (t.1.taken (none_failed t.0 es z t.2 ok)).0

  -- what had failed by the store, has
  pub failed_so : (k : Comparisons S) (es : List Pair) (z : Comparisons S) → TakesAll (Takes contents can_fail) k es z → IfErr k.outcome (IsStoreError (can_fail k.storage.now)) → IfErr z.outcome (IsStoreError (can_fail k.storage.now))
  failed_so k [] z t h = subst (λ (x : Comparisons S). IfErr x.outcome (IsStoreError (can_fail k.storage.now))) (sym t) h
  failed_so k (e ∷ es) z t h =
      subst (λ x. IfErr z.outcome (IsStoreError (can_fail x))) t.1.storage
      (failed_so t.0 es z t.2 (subst (λ x. IfErr t.0.outcome (IsStoreError (can_fail x))) (sym t.1.storage) (t.1.fault h)))

  -- of nodes in their order all are taken
  taken_all : (s : Contents) (done : List Pair) (k : Comparisons S) (es : List Pair) (z : Comparisons S) → contents k.storage.now ≡ s → Ascend (done ++ es) → TakesAll (Takes contents can_fail) k es z → z.outcome ≡ Ok tt → HasTaken s done k → HasTaken s (done ++ es) z
  taken_all s done k [] z at up t ok h = subst (λ x. HasTaken s x z) (sym (append-nil done)) (subst (HasTaken s done) (sym t) h)
  taken_all s done k (e ∷ es) z at up t ok h =
      let step = (t.1.taken (none_failed t.0 es z t.2 ok)).1 in
      let up' : Ascend ((done ++ e ∷ []) ++ es) = subst Ascend (sym (append_assoc done (e ∷ []) es)) up in
      let behind : IsBehind done e.0 = λ d in'. all_pairs_across (λ (d x : Pair). path_cmp d.0 x.0 ≡ Less) done (e ∷ es) up d e in' (Contains-first e es) in
      let next = taken_more s done k t.0 e h behind (subst (λ x. TakesNode x k e t.0) at step) in
      subst (λ x. HasTaken s x z) (append_assoc done (e ∷ []) es)
      (taken_all s (done ++ e ∷ []) t.0 es z (ap contents t.1.storage ∙ at) up' t.2 ok next)

  -- the base and the nodes below it are taken one after another
  module _ (k m z : Comparisons S) (s : Contents) (v : MetadataRetrieveVersion) (b p : Path) (base : Base) (at : p ≡ b) (same : contents k.storage.now ≡ s)
      (first : TakesAll (Takes contents can_fail) k (base_nodes p base) m) (walk : TakesForest (Takes contents can_fail) m z b (Nodes s v true b)) where
    -- the base and the nodes
    abbrev pub all_nodes : List Pair
    all_nodes = base_nodes b base ++ pairs walk.trees

    took_all : TakesAll (Takes contents can_fail) k all_nodes z
    took_all = took_more (Takes contents can_fail) k (base_nodes b base) m (pairs walk.trees) z (subst (λ q. TakesAll (Takes contents can_fail) k (base_nodes q base) m) at first) walk.took

    node_below : (d : Pair) → Contains (pairs walk.trees) d → IsBelow b d.0
    node_below d in' = let w = ((listed_each walk.shows.shown d).0 in').0.below in (w.0, w.1, w.2)

    -- they ascend
    pub all_ascend : Ascend all_nodes
    all_ascend = all_pairs_append (λ (d x : Pair). path_cmp d.0 x.0 ≡ Less) (base_nodes b base) (pairs walk.trees) (one_base b base) (shown_ascend b (Nodes s v true b) walk.trees walk.shows)
        (λ x y one other. subst (λ q. path_cmp q y.0 ≡ Less) (base_path b base x one).0 (below_later b y.0 (node_below y other)))

    -- they are the base, where it is a node, and the nodes below it
    pub each_node : IsBase s v b base → (d : Pair) → Contains all_nodes d ↔ HasNode s v b d
    each_node is d = (
      λ in'. ⊎_elim
          (λ one. inl (base_out s v b base is d one))
          (λ other. inr ((listed_each walk.shows.shown d).0 other))
          (Contains-append_cases (base_nodes b base) (pairs walk.trees) d in'),
      ⊎_elim
          (λ w. Contains-append_left (base_nodes b base) (pairs walk.trees) d (base_in s v b base is d w))
          (λ low. Contains-append_right (base_nodes b base) (pairs walk.trees) d ((listed_each walk.shows.shown d).1 low)),
    )

    -- all of them are taken
    pub has_all : IsNew k → z.outcome ≡ Ok tt → IsBase s v b base → HasAll s v b z
    has_all new ok is = record {
      all = all_nodes;
      ascend = all_ascend;
      taken = taken_all s [] k all_nodes z same all_ascend took_all ok (taken_none s k new);
      each = each_node is;
    }

    -- what the store refused, it may
    pub refused_so : IsNew k → IfErr z.outcome (IsStoreError (can_fail k.storage.now))
    refused_so new = failed_so k all_nodes z took_all (subst (λ o. IfErr o (IsStoreError (can_fail k.storage.now))) (sym new.outcome) tt)

-- why the base is none
pub base_faulted : (s : Contents) (v : MetadataRetrieveVersion) (b : Path) (r : Base) → IsBase s v b r → IsBaseFault s v b (base_fault r)
base_faulted s v b (Node n) means = (n, means)
base_faulted s v b (Refused e) refused = refused
