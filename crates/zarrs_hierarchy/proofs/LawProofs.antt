-- The laws of hierarchies.
use Rattle.std.proofs.Common.{◌≡◌, ◌↔◌, inr, ⊎_elim, ℕ, true, List, [], ◌∷◌, ◌++◌, refl, sym, ap, subst, ◌∙◌, append_assoc, Contains, IsTrue, codes, true≢false}
use Rattle.zarrs_store.specs.Contents.{Contents}
use Rattle.zarrs_path.specs.Paths.{Path, IsPath, IsBelow, path_text}
use Rattle.zarrs_path.proofs.PathTexts.{segments_of-path_text}
use Rattle.zarrs_store.specs.Segments.{segments_of}
use Rattle.zarrs_meta.specs.Node.{is_group}
use Rattle.zarrs_meta.specs.declared.node.NodeMetadata.{NodeMetadata}
use Rattle.zarrs_meta.specs.declared.node.NodeMetadata.TheVariants.{Group, Array}
use Rattle.zarrs_config.specs.declared.version.MetadataRetrieveVersion.{MetadataRetrieveVersion}
use Rattle.zarrs_config.specs.declared.version.UseConsolidatedMetadata.{UseConsolidatedMetadata}
use Rattle.zarrs_block.specs.Block.{Entries}
use Rattle.zarrs_block.specs.Policy.{Choice, use_block, list_store, refuse}
use Rattle.zarrs_node.specs.Forest.{Forest, Shows}
use Rattle.zarrs_node.specs.Order.{Ascend}
use Rattle.zarrs_node.specs.Lines.{lines, preorder, tree_text}
use Rattle.zarrs_meaning.specs.Meaning.{meaning}
use Rattle.zarrs_node.specs.OpeningNodes.{choice, ShowsBelow, ShowsChosen}
use Rattle.zarrs_node.proofs.ListedItems.{listed_each}
use Rattle.zarrs_node.proofs.KeptPairs.{closed_is_kept}
use Rattle.zarrs_node.proofs.LawProofs.{placed_lines, lines_unique}
use Rattle.zarrs_hierarchy.specs.PairsOfHierarchies.{Pairs, Holds, WithBase}
use Rattle.zarrs_hierarchy.specs.OpeningHierarchies.{PairsChosen, PairsOf}
use Rattle.zarrs_hierarchy.specs.Tree.{IsTreeOf, pairs_below, shown_text}
use Rattle.zarrs_hierarchy.specs.Laws.{IsClosedChoice, PrintingAgrees, ShownIsTree}
use Rattle.zarrs_hierarchy.proofs.Maps.{lists_same}
use Rattle.zarrs_hierarchy.proofs.Below.{below_is_lines}
use Rattle.zarrs_hierarchy.proofs.OpenedPairs.{not_itself, node_one}

-- a text that is shown is the tree from the root on
pub shown_tree : (h : Pairs) (text : List ℕ) → Ascend h → text ≡ shown_text h → IsTreeOf h [] text
shown_tree h text up is = record { below = lines [] (pairs_below [] h); is = is; lines_below = below_is_lines [] h up }

-- a path, a newline and the lines of the pairs below it are the tree from it on
pub written_tree : (h : Pairs) (b : Path) (empty named lined text : List ℕ) → Ascend h → empty ≡ [] → named ≡ empty ++ path_text b → lined ≡ named ++ 10 ∷ [] → text ≡ lined ++ lines b (pairs_below b h) → IsTreeOf h b text
written_tree h b empty named lined text up e n l t = record {
  below = lines b (pairs_below b h);
  is = t ∙ ap (λ x. x ++ lines b (pairs_below b h)) (l ∙ ap (λ x. x ++ 10 ∷ []) (n ∙ ap (λ x. x ++ path_text b) e)) ∙ append_assoc (path_text b) (10 ∷ []) (lines b (pairs_below b h));
  lines_below = below_is_lines b h up;
}

-- what is shown is the tree from the root on
pub shown_is_tree : ShownIsTree
shown_is_tree h up = shown_tree h (shown_text h) up refl

-- paths with one text are the same
pub one_path : (p q : Path) → IsPath p → IsPath q → path_text p ≡ path_text q → p ≡ q
one_path p q h k e = sym (segments_of-path_text p h) ∙ ap segments_of e ∙ segments_of-path_text q k

-- a forest that shows N, and a hierarchy that holds a base and N below it, print the same behind the first line
agree : (b : Path) (m : NodeMetadata) (N : Path × NodeMetadata → Type 0) (f : Forest) (h : Pairs) (u : List ℕ)
    → Shows f b N → Holds h (WithBase b m N) → (tree : IsTreeOf h b u) → tree.below ≡ preorder 1 f
agree b m N f h u shows holds tree =
    let ours = placed_lines N b f shows.placed (λ e low. listed_each shows.shown e) in
    let same : (e : Path × NodeMetadata) → IsBelow b e.0 → Contains h e ↔ N e =
    λ e low. (
      λ in'. ⊎_elim (λ is. absurd (not_itself b (subst (λ x. IsBelow b x.0) is low))) (λ l. l) ((listed_each holds.held e).0 in'),
      λ is. (listed_each holds.held e).1 (inr is),
    ) in
    lines_unique (Contains h) N b tree.below (preorder 1 f) same tree.lines_below ours

module _ (s : Contents) (v : MetadataRetrieveVersion) where
  -- by a listing or by a closed block the tree shows all pairs
  shows_all : (c : Choice) (b : Path) (f : Forest) → IsClosedChoice c b → ShowsChosen s v c true b f → Shows f b (PairsChosen s v c b)
  shows_all (use_block B) b f closed h = record {
    shown = lists_same h.shown (closed_is_kept (Entries B b) b closed);
    placed = h.placed;
  }
  shows_all list_store b f closed h = h
  shows_all refuse b f closed h = absurd h

  -- of a group both texts are the same behind their first lines
  group_agrees : (policy : UseConsolidatedMetadata) (b : Path) (m : NodeMetadata) (f : Forest) (h : Pairs) (t u : List ℕ)
      → IsTrue (is_group m) → IsClosedChoice (choice s policy b m) b → ShowsBelow s v policy b m f → t ≡ tree_text m f
      → Holds h (WithBase b m (PairsOf s v policy b m)) → IsTreeOf h b u
      → (below : List ℕ) × (t ≡ codes "/\n" ++ below) × (u ≡ path_text b ++ 10 ∷ below)
  group_agrees policy b (Array a) f h t u group closed shows text holds tree = absurd (true≢false (sym group))
  group_agrees policy b (Group g) f h t u group closed shows text holds tree =
      let all = shows_all (choice s policy b (Group g)) b f closed shows in
      let same = agree b (Group g) (PairsChosen s v (choice s policy b (Group g)) b) f h u all holds tree in
      (preorder 1 f, text, tree.is ∙ ap (λ x. path_text b ++ 10 ∷ x) same)

-- both printings of one group agree behind their first lines
pub printing_agrees : PrintingAgrees
printing_agrees s v policy b m f h t u valid means group closed shows text opened tree =
    let path : opened.base ≡ b = one_path opened.base b opened.valid valid opened.path in
    let same : opened.metadata ≡ m = node_one opened.metadata m (sym opened.means ∙ ap (meaning s v) path ∙ means) in
    let holds : Holds h (WithBase b m (PairsOf s v policy b m)) = subst (λ k. Holds h (WithBase b k (PairsOf s v policy b k))) same (subst (λ p. Holds h (WithBase p opened.metadata (PairsOf s v policy p opened.metadata))) path opened.holds) in
    group_agrees s v policy b m f h t u group closed shows text holds tree
