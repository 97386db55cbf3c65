-- What is told of blocks, one after another, is what there is to tell of all blocks.
use Rattle.std.proofs.Common.{◌≡◌, ◌↔◌, ◌<◌, ℕ, suc, length, append-nil, append_assoc, inl, inr, ⊎_elim, Bool, true, false, true≢false, IsTrue, List, [], ◌∷◌, ◌++◌, get_or, refl, sym, ap, subst, ◌∙◌, arith, Contains, Less, Option, Some, None, Result, Ok, Err}
use Rattle.std.specs.Prelude.{option_map, unwrap_or}
use Rattle.std.proofs.lemmas.List.Elements.{Contains-append_left, Contains-append_right, Contains-append_cases, Contains-get_or}
use Rattle.zarrs_fault.specs.declared.fault.MetadataFault.{MetadataFault}
use Rattle.zarrs_store.specs.Contents.{Contents, Lists}
use Rattle.zarrs_path.specs.Paths.{Path, IsBelow, path_cmp}
use Rattle.zarrs_path.specs.PathOrder.{path_total}
use Rattle.zarrs_meta.specs.declared.node.NodeMetadata.{NodeMetadata}
use Rattle.zarrs_config.specs.declared.version.MetadataRetrieveVersion.{MetadataRetrieveVersion}
use Rattle.zarrs_block.specs.Block.{Block}
use Rattle.zarrs_meaning.specs.Meaning.{meaning, node}
use Rattle.zarrs_meaning.specs.declared.node_create_error.NodeCreateError.{NodeCreateError}
use Rattle.zarrs_node.specs.Nodes.{Nodes}
use Rattle.zarrs_node.specs.Order.{Ascend}
use Rattle.zarrs_node.proofs.ListedItems.{listed_each, all_pairs_append, all_pairs_first, all_pairs_tail}
use Rattle.zarrs_node.proofs.ForestsBeside.{Contains-first, Contains-cons}
use Rattle.zarrs_node.proofs.KeptOfLists.{below_later}
use Rattle.zarrs_node.proofs.Order.{contains_cases}
use Rattle.zarrs_node.proofs.Unique.{names_irrefl}
use Rattle.zarrs_node.proofs.walk.Child.{node_same}
use Rattle.zarrs_check.specs.declared.base.Base.{Base}
use Rattle.zarrs_check.specs.declared.base.Base.TheVariants.{Node, Refused}
use Rattle.zarrs_check.specs.Checks.{block_read, own_read, node_attributes, HasOtherAttributes, HasNode, HasBadPath, fault_of_block, IsToldOf, StandsBefore, AreBlockFindings}
use Rattle.zarrs_meaning.specs.Exists.{HasNodeKey}
use Rattle.zarrs_check.specs.Findings.{AreFindings, IsPathFinding}
use Rattle.zarrs_meaning.specs.Meaning.{Pair}
use Rattle.zarrs_check.specs.StepsOfChecks.{BlockOrFault, ReadBlock, GroupsAscend, IsToldWith, AreTold, HasBad, AreFindingsOf, block_with, block_with_own}
use Rattle.zarrs_check.specs.StepsOfOwnAttributes.{is_other}
use Rattle.zarrs_check.specs.StepsOfComparing.{ArePathFindings}
use Rattle.zarrs_check.specs.StepsOfMerging.{HoldsUpTo}
use Rattle.zarrs_check.specs.StepsOfComparisons.{NoneBad, NoDocument, IsUnderWay, IsOnly, IsEnd}
use Rattle.zarrs_check.specs.StepsOfTaking.{AreEnds, blocks_of}
use Rattle.zarrs_check.specs.Surveys.{IsBase, BadDocuments, IsSurveyOf}
use Rattle.zarrs_check.specs.declared.finding.Finding.{Finding}
use Rattle.zarrs_check.specs.declared.finding.FindingKind.{FindingKind}
use Rattle.zarrs_check.specs.declared.finding.FindingKind.TheVariants.{BlockFault, BadKey, Shadowed, OwnKey, OwnAttributes, Unreachable, Stale, Unreached, Differs, Missing}
use Rattle.zarrs_check.specs.declared.comparison.Comparison.{Comparison}
use Rattle.zarrs_check.specs.declared.survey.Survey.{Survey}
use Rattle.zarrs_check.proofs.Blocks.{findings_same, found_all}
use Rattle.zarrs_check.proofs.ComparisonSteps.{holds_none}
use Rattle.zarrs_check.proofs.OwnAttributes.{other_says}
use Rattle.zarrs_check.proofs.TakenNodes.{HasBlock, IsAt, IsNode, each_block, given_or}

-- ---- of one block

-- what is told of a block is told of its group
told_group : (r : BlockOrFault) (N : Pair → Type 0) (F D : Path → Type 0) (g : Path) (f : Finding) → IsToldWith r N F D g f → f.group ≡ g
told_group (Err fault) N F D g f h = ap (λ x. x.group) h
told_group (Ok w) N F D g f h = ⊎_elim (λ is. is.0) (λ own. ap (λ x. x.group) own.1) h

-- it turns on which nodes there are below the group, and which bad documents, alone
told_same : (r : BlockOrFault) (N N' : Pair → Type 0) (F F' D : Path → Type 0) (g : Path) → ((d : Pair) → IsBelow g d.0 → N d ↔ N' d) → ((q : Path) → F q ↔ F' q) → (f : Finding) → IsToldWith r N F D g f → IsToldWith r N' F' D g f
told_same (Err fault) N N' F F' D g n q f h = h
told_same (Ok w) N N' F F' D g n q f h = ⊎_elim (λ is. inl (findings_same w.0 N N' F F' D g n q f is)) inr h

-- what was read and is seen as it is tells the same
told_as : (o : Option (Result Block MetadataFault)) (other : Bool) (O : Type 0) (r : BlockOrFault) (N : Pair → Type 0) (F D : Path → Type 0) (g : Path) (f : Finding) → (IsTrue other ↔ O) → option_map (block_with other) o ≡ Some r
    → IsToldWith r N F D g f ↔ IsToldOf o O N F D g f
told_as None other O r N F D g f says is = cc
told_as (Some (Err fault)) other O r N F D g f says is = subst (λ x. IsToldWith x N F D g f ↔ IsToldOf (Some (Err fault)) O N F D g f) (ap (λ o. unwrap_or o r) is) (λ h. h, λ h. h)
told_as (Some (Ok B)) other O r N F D g f says is = subst (λ x. IsToldWith x N F D g f ↔ IsToldOf (Some (Ok B)) O N F D g f) (ap (λ o. unwrap_or o r) is)
    (⊎_elim inl (λ own. inr (says.0 own.0, own.1)), ⊎_elim inl (λ own. inr (says.1 own.0, own.1)))

module _ (N : Pair → Type 0) (F D : Path → Type 0) (g : Path) where
  -- of a block whose document has no other attributes its findings are told
  pub found_told : (B : Block) (found : List Finding) → AreTold (Ok (B, false)) N F D g found → AreFindings B N F D g found
  found_told B found h = record {
    exact = λ f. (λ in'. ⊎_elim (λ is. is) (λ own. absurd (true≢false (sym own.0))) ((h.exact f).0 in'), λ is. (h.exact f).1 (inl is));
    ascend = h.ascend;
  }

  -- and of a block that does not read its fault
  told_fault : (fault : MetadataFault) → AreTold (Err fault) N F D g (fault_of_block g fault ∷ [])
  told_fault fault = record {
    exact = λ f. (
      λ in'. ⊎_elim (λ same. sym same) (λ none. absurd (omega (arith, none.1))) (contains_cases (fault_of_block g fault) [] f in'),
      λ h. subst (Contains (fault_of_block g fault ∷ [])) (sym h) (Contains-first (fault_of_block g fault) []),
    );
    ascend = λ i j d l m. absurd (omega (arith, l, m));
  }

-- ---- of one comparison

-- a comparison with nothing to compare is under way
only_under_way : (f : Finding) (c : Comparison) → IsOnly f c → IsUnderWay [] [] c.entries.items [] c
only_under_way f c is = record {
  low = λ d in'. absurd (omega (arith, in'.1));
  under = λ d in'. absurd (omega (arith, in'.1));
  holds = subst (λ es. HoldsUpTo (Contains []) (Contains []) NoneBad NoDocument c.group es [] c.last c.found.items) (sym is.entries)
      (subst (λ p. HoldsUpTo (Contains []) (Contains []) NoneBad NoDocument c.group [] [] p c.found.items) (is.group ∙ sym is.last)
      (subst (HoldsUpTo (Contains []) (Contains []) NoneBad NoDocument c.group [] [] c.group) (sym is.found) (holds_none c.group [] [] none none)));
}
  where
    none : Ascend []
    none i j d l m = absurd (omega (arith, m))

-- of no entries and no nodes nothing is told
none_told : (F D : Path → Type 0) (g : Path) (told : List Finding) → ArePathFindings (Contains []) (Contains []) F D g told → told ≡ []
none_told F D g [] are = refl
none_told F D g (f ∷ fs) are = absurd (nothing_there f.path f.kind ((are.exact f).0 (Contains-first f fs)).1)
  where
    nothing_there : (p : Path) (k : FindingKind) → IsPathFinding (Contains []) (Contains []) F D g p k → ⊥
    nothing_there p Unreachable h = omega (arith, h.0.1.1)
    nothing_there p Stale h = omega (arith, h.0.1.1)
    nothing_there p Unreached h = omega (arith, h.0.1.1)
    nothing_there p Differs h = omega (arith, h.2.1)
    nothing_there p Missing h = omega (arith, h.0.1.1)
    nothing_there p (BlockFault fault) h = h
    nothing_there p (BadKey t) h = h
    nothing_there p (Shadowed t) h = h
    nothing_there p (OwnKey t) h = h
    nothing_there p OwnAttributes h = h

-- what is told at the end of a comparison with the nodes `done` is what there is to tell of its block
module _ (done : List Pair) (up : Ascend done) (bad : List (Path × NodeCreateError)) (D : Path → Type 0) (g : Path) (c : Comparison) (found : List Finding) (end : IsEnd D c bad found) where
  -- what is told of what was read as a block at the end is what there is to tell of it
  pub told_end : (r : BlockOrFault) → IsAt done (g, r) c → AreTold r (Contains done) (HasBad bad) D g found
  told_end (Err fault) is =
      let w = end [] [] (only_under_way (fault_of_block g fault) c is) in
      let whole : found ≡ fault_of_block g fault ∷ [] = w.1 ∙ (ap (λ xs. xs ++ w.0) is.of_block ∙ ap (λ xs. fault_of_block g fault ∷ xs) (none_told (HasBad bad) D c.group w.0 w.2)) in
      subst (AreTold (Err fault) (Contains done) (HasBad bad) D g) (sym whole) (told_fault (Contains done) (HasBad bad) D g fault)
  told_end (Ok (B, other)) is =
      let nodes : List Pair = is.under ++ [] in
      let same : nodes ≡ is.under = append-nil is.under in
      let w = end is.all nodes (is.told [] (subst Ascend (sym same) (is.under_ascend up)) (λ d in'. absurd (omega (arith, in'.1)))) in
      let told : ArePathFindings (Contains is.all) (Contains is.under) (HasBad bad) D g w.0 =
      subst (λ (ns : List Pair). ArePathFindings (Contains is.all) (Contains ns) (HasBad bad) D g w.0) same (subst (λ p. ArePathFindings (Contains is.all) (Contains nodes) (HasBad bad) D p w.0) is.group w.2) in
      found_all g B done is.under is.each_under (HasBad bad) D is.all w.0 is.ascending is.entries told other c.of_block.items found is.of_block w.1

-- ---- one block after another

module _ (nodes : List Pair) (bad : List (Path × NodeCreateError)) (D : Path → Type 0) where
  -- the findings of no blocks are none
  of_none : (found : List Finding) → found ≡ [] → AreFindingsOf [] nodes bad D found
  of_none found is = subst (AreFindingsOf [] nodes bad D) (sym is) (record {
    exact = λ f. (λ in'. absurd (omega (arith, in'.1)), λ h. absurd (omega (arith, h.1.1)));
    ascend = λ i j d l m. absurd (omega (arith, m));
  })

  -- with one block more, before all others, what is told of it comes first
  of_first : (b : ReadBlock) (bs : List ReadBlock) (found rest whole : List Finding) → ((c : ReadBlock) → Contains bs c → path_cmp b.0 c.0 ≡ Less)
      → whole ≡ found ++ rest → AreTold b.1 (Contains nodes) (HasBad bad) D b.0 found → AreFindingsOf bs nodes bad D rest → AreFindingsOf (b ∷ bs) nodes bad D whole
  of_first b bs found rest whole before is told h = subst (AreFindingsOf (b ∷ bs) nodes bad D) (sym is) (record {
    exact = λ f. (
      λ in'. ⊎_elim
          (λ first.
          let w = (told.exact f).0 first in
          let at = of_group f first in
          (b.1, subst (λ x. Contains (b ∷ bs) (x, b.1)) (sym at) (Contains-first b bs), subst (λ x. IsToldWith b.1 (Contains nodes) (HasBad bad) D x f) (sym at) w))
          (λ second. let w = (h.exact f).0 second in (w.0, Contains-cons b bs (f.group, w.0) w.1, w.2))
          (Contains-append_cases found rest f in'),
      λ w. ⊎_elim
          (λ new. Contains-append_left found rest f ((told.exact f).1 (subst (λ (d : ReadBlock). IsToldWith d.1 (Contains nodes) (HasBad bad) D d.0 f) (sym new) w.2)))
          (λ old. Contains-append_right found rest f ((h.exact f).1 (w.0, old, w.2)))
          (contains_cases b bs (f.group, w.0) w.1),
    );
    ascend = all_pairs_append StandsBefore found rest
        (λ i j d l k. inr (
          of_group (get_or found i d) (Contains-get_or found i d (omega (arith, l, k))) ∙ sym (of_group (get_or found j d) (Contains-get_or found j d k)),
          told.ascend i j d l k,
        ))
        h.ascend
        (λ x y first second.
        let w = (h.exact y).0 second in
        inl (ap (λ p. path_cmp p y.group) (of_group x first) ∙ before (y.group, w.0) w.1));
  })
    where
      of_group : (f : Finding) → Contains found f → f.group ≡ b.0
      of_group f in' = told_group b.1 (Contains nodes) (HasBad bad) D b.0 f ((told.exact f).0 in')

  -- the ends of comparisons with blocks, one after another
  pub of_ends : Ascend nodes → (cs : List Comparison) (bs : List ReadBlock) (whole : List Finding) → length cs ≡ length bs
      → ((j : ℕ) (c : Comparison) (b : ReadBlock) → j < length cs → IsAt nodes (get_or bs j b) (get_or cs j c)) → GroupsAscend bs → AreEnds D cs bad whole → AreFindingsOf bs nodes bad D whole
  of_ends up [] [] whole size each ascend is = of_none whole is
  of_ends up [] (b ∷ bs) whole size each ascend is = absurd (omega (arith, size))
  of_ends up (c ∷ cs) [] whole size each ascend is = absurd (omega (arith, size))
  of_ends up (c ∷ cs) (b ∷ bs) whole size each ascend is =
      of_first b bs is.0 is.1 whole (all_pairs_first (λ (d e : ReadBlock). path_cmp d.0 e.0 ≡ Less) b bs ascend) is.2
      (told_end nodes up bad D b.0 c is.0 is.3 b.1 (each 0 c b (omega (arith))))
      (of_ends up cs bs is.1 (omega (arith, size)) (λ j d e lt. each (suc j) d e (omega (arith, lt))) (all_pairs_tail (λ (d e : ReadBlock). path_cmp d.0 e.0 ≡ Less) b bs ascend) is.4)

-- one end more comes last
pub ends_more : (D : Path → Type 0) (cs : List Comparison) (c : Comparison) (bad : List (Path × NodeCreateError)) (told found whole : List Finding) → whole ≡ told ++ found → AreEnds D cs bad told → IsEnd D c bad found → AreEnds D (cs ++ c ∷ []) bad whole
ends_more D [] c bad told found whole is are end = (found, [], is ∙ (ap (λ xs. xs ++ found) are ∙ sym (append-nil found)), end, refl)
ends_more D (d ∷ cs) c bad told found whole is are end = (are.0, are.1 ++ found, is ∙ (ap (λ xs. xs ++ found) are.2 ∙ append_assoc are.0 are.1 found), are.3, ends_more D cs c bad are.1 found (are.1 ++ found) refl are.4 end)

-- ---- by what a survey is

-- a base is a node
abbrev IsGiven : Base → Type 0
IsGiven (Node x) = Unit {0}
IsGiven (Refused e) = ⊥

-- the base of a survey that means a node is that node
pub base_means : (s : Contents) (v : MetadataRetrieveVersion) (b : Path) (survey : Survey) → IsSurveyOf s v b survey → (m : NodeMetadata) → (survey.base ≡ Node m) ↔ (meaning s v b ≡ node m)
base_means s v b survey h m = by survey.base refl h.base
  where
    by : (r : Base) → survey.base ≡ r → IsBase s v b r → (survey.base ≡ Node m) ↔ (meaning s v b ≡ node m)
    by (Node k) is means = (
      λ e. subst (λ x. meaning s v b ≡ node x) (ap (given_or k) (sym is ∙ e)) means,
      λ e. is ∙ ap (λ x. Node x) (node_same k m (sym means ∙ e)),
    )
    by (Refused e) is refused = (
      λ g. absurd (subst IsGiven (sym g ∙ is) tt),
      λ means. absurd (⊎_elim (λ w. subst IsNode (sym means ∙ w.0) tt) (λ w. subst IsNode (sym means ∙ w) tt) refused),
    )

-- ---- by what a check has taken

module _ (s : Contents) (v : MetadataRetrieveVersion) (b : Path) (all : List Pair) (each : (d : Pair) → Contains all d ↔ HasNode s v b d) (bad : List (Path × NodeCreateError)) (listed : Lists (BadDocuments s v b) bad) where
  -- no group is above the base
  not_above : (d : Pair) → HasNode s v b d → IsBelow d.0 b → ⊥
  not_above d has low = ⊎_elim
      (λ w. names_irrefl b (subst (λ p. path_cmp p b ≡ Less) w.0 (below_later d.0 b low)))
      (λ w.
      let under = w.0.below in
      names_irrefl b (path_total.trans b d.0 b (below_later b d.0 (under.0, under.1, under.2)) (below_later d.0 b low)))
      has

  -- below a node those that were taken are the nodes
  taken_below : (g : Path) (m : NodeMetadata) → Contains all (g, m) → (d : Pair) → IsBelow g d.0 → Contains all d ↔ Nodes s v true b d
  taken_below g m in' d low = (
    λ x. ⊎_elim
        (λ w. absurd (not_above (g, m) ((each (g, m)).0 in') (subst (IsBelow g) w.0 low)))
        (λ w. w)
        ((each d).0 x),
    λ x. (each d).1 (inr x),
  )

  -- the bad documents are those that the store has
  bad_same : (q : Path) → HasBad bad q ↔ HasBadPath s v b q
  bad_same q = (λ w. (w.0, (listed_each listed (q, w.0)).0 w.1), λ w. (w.0, (listed_each listed (q, w.0)).1 w.1))

  -- what is told of one block is what there is to tell of it
  told_each : (g : Path) (m : NodeMetadata) (r : BlockOrFault) → Contains all (g, m) → block_with_own s g m ≡ Some r → (f : Finding)
      → IsToldWith r (Contains all) (HasBad bad) (HasNodeKey s) g f ↔ IsToldOf (block_read s g m) (HasOtherAttributes s g m) (Nodes s v true b) (HasBadPath s v b) (HasNodeKey s) g f
  told_each g m r in' is f =
      let own = other_says (node_attributes m) (own_read s g m) in
      let same = told_as (block_read s g m) (is_other (node_attributes m) (own_read s g m)) (HasOtherAttributes s g m) r (Nodes s v true b) (HasBadPath s v b) (HasNodeKey s) g f own is in (
        λ h. same.0 (told_same r (Contains all) (Nodes s v true b) (HasBad bad) (HasBadPath s v b) (HasNodeKey s) g (taken_below g m in') bad_same f h),
        λ h. told_same r (Nodes s v true b) (Contains all) (HasBadPath s v b) (HasBad bad) (HasNodeKey s) g
            (λ d low. let w = taken_below g m in' d low in (w.1, w.0)) (λ q. ((bad_same q).1, (bad_same q).0)) f (same.1 h),
      )

  -- what was read, where something is told of it
  read_some : (o : Option (Result Block MetadataFault)) (other : Bool) (O : Type 0) (N : Pair → Type 0) (F D : Path → Type 0) (g : Path) (f : Finding) → IsToldOf o O N F D g f → (r : BlockOrFault) × (option_map (block_with other) o ≡ Some r)
  read_some None other O N F D g f h = absurd h
  read_some (Some r) other O N F D g f h = (block_with other r, refl)

  -- what is told of the blocks of all nodes is what there is to tell of all blocks
  pub of_taken : (found : List Finding) → AreFindingsOf (blocks_of s all) all bad (HasNodeKey s) found → AreBlockFindings s v b found
  of_taken found told = record {
    exact = λ f. (
      λ in'.
          let w = (told.exact f).0 in' in
          let has : HasBlock s all (f.group, w.0) = (each_block s all (f.group, w.0)).0 w.1 in
          (has.0, (each (f.group, has.0)).0 has.1, (told_each f.group has.0 w.0 has.1 has.2 f).0 w.2),
      λ w.
          let r = read_some (block_read s f.group w.0) (is_other (node_attributes w.0) (own_read s f.group w.0)) (HasOtherAttributes s f.group w.0) (Nodes s v true b) (HasBadPath s v b) (HasNodeKey s) f.group f w.2 in
          let in' = (each (f.group, w.0)).1 w.1 in
          (told.exact f).1 (r.0, (each_block s all (f.group, r.0)).1 (w.0, in', r.1), (told_each f.group w.0 r.0 in' r.1 f).1 w.2),
    );
    ascend = told.ascend;
  }
