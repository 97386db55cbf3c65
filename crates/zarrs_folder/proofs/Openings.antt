-- What a store answers in the place of the one that it was loaded from.
use Rattle.std.proofs.Common.{◌≡◌, ◌↔◌, ◌⊎◌, inl, inr, ⊎_elim, true, true≢false, List, [], ◌∷◌, ◌++◌, refl, sym, ap, subst, ◌∙◌}
use Rattle.std.specs.Prelude.{option_and_then}
use Rattle.std.specs.FinMap as map
use Rattle.std.specs.Result.{result_ok}
use Rattle.zarrs_store.specs.Contents.{Contents, Lists}
use Rattle.zarrs_path.specs.Keys.{zmetadata}
use Rattle.zarrs_path.specs.Paths.{Path, IsPath, path_text}
use Rattle.zarrs_path.proofs.LawProofs.{texts_differ}
use Rattle.zarrs_form.specs.Documents.{of_bytes}
use Rattle.zarrs_meta.specs.Node.{is_group}
use Rattle.zarrs_meta.specs.declared.node.GroupMetadata.{GroupMetadata}
use Rattle.zarrs_meta.specs.declared.node.GroupMetadata.TheVariants.{V2, V3}
use Rattle.zarrs_meta.specs.declared.node.NodeMetadata.{NodeMetadata}
use Rattle.zarrs_meta.specs.declared.node.NodeMetadata.TheVariants.{Group, Array}
use Rattle.zarrs_config.specs.declared.version.MetadataRetrieveVersion.TheVariants.{Default}
use Rattle.zarrs_config.specs.declared.version.UseConsolidatedMetadata.{UseConsolidatedMetadata}
use Rattle.zarrs_block.specs.Block.{Block, IsBlockOf}
use Rattle.zarrs_meaning.specs.Meaning.{meaning, node}
use Rattle.zarrs_block.specs.Policy.{Choice, use_block, list_store, refuse, block_to_use, node_block}
use Rattle.zarrs_block.specs.Zmetadata.{zmetadata_in}
use Rattle.zarrs_meaning.specs.declared.node_create_error.NodeCreateError.{NodeCreateError}
use Rattle.zarrs_node.specs.BlocksBelow.{block_at}
use Rattle.zarrs_node.specs.Forest.{Forest, Shows, pairs}
use Rattle.zarrs_node.specs.Nodes.{StandsFrom, NodesFrom}
use Rattle.zarrs_node.specs.Nodes.{Bad, HasBadDocument, Nodes}
use Rattle.zarrs_node.specs.OpeningNodes.{choice, ShowsChosen, IsCleanChosen, RefusesChosen, RefusesBelow, RefusesNode}
use Rattle.zarrs_node.proofs.ListedItems.{lists_from, listed_each}
use Rattle.zarrs_meaning.proofs.Meanings.{same_node}
use Rattle.zarrs_folder.specs.PrunedStores.{HasBaseOf, IsArrayAt}
use Rattle.zarrs_folder.specs.Laws.{ShowSame, ShowSameNodes}
use Rattle.zarrs_folder.specs.Openings.{ListSame, OpenSame, ShowBelowSame, ShownListSame, ListedBlockIsSame, ShownOpenSame, LoadedOpensSame, BaseOpensSame, BlockOpensSame, OpenedAnswerSame}
use Rattle.zarrs_folder.proofs.PrunedListings.{base_shows_same, pruned_shows_nodes}

-- ---- sets

-- what lists some things lists whatever set has the same
pub lists_over : {A : Type 0} (N M : A → Type 0) (xs : List A) → ((x : A) → N x ↔ M x) → Lists N xs → Lists M xs
lists_over N M xs same h = lists_from xs (λ x. (λ in'. (same x).0 ((listed_each h x).0 in'), λ is. (listed_each h x).1 ((same x).1 is))) h.each_once

-- a forest that shows some pairs shows whatever set has the same
pub shows_over : (N M : Path × NodeMetadata → Type 0) (f : Forest) (b : Path) → ((e : Path × NodeMetadata) → N e ↔ M e) → Shows f b N → Shows f b M
shows_over N M f b same h = record { shown = lists_over N M (pairs f) same h.shown; placed = h.placed }

-- a block of some pairs is the block of whatever set has the same
block_over : (N M : Path × NodeMetadata → Type 0) (b : Path) (B : Block) → ((e : Path × NodeMetadata) → N e ↔ M e) → IsBlockOf N b B → IsBlockOf M b B
block_over N M b B same h t m = (
  λ has. let w = (h t m).0 has in (w.0, w.1, w.2, (same (b ++ w.0 ∷ w.1, m)).0 w.3),
  λ w. (h t m).1 (w.0, w.1, w.2, (same (b ++ w.0 ∷ w.1, m)).1 w.3),
)

-- what holds both ways does so the other way round
pub turned : {A B : Type 0} → A ↔ B → B ↔ A
turned h = (h.1, h.0)

-- ---- what stands at a path

-- where a path has the same document beside its own, and both stores have the same numbers, its block is the same
pub block_at_same : (S L : Contents) (p : Path) → L.numbers ≡ S.numbers → map.get L.values (p ++ zmetadata ∷ []) ≡ map.get S.values (p ++ zmetadata ∷ [])
    → (m : NodeMetadata) → block_at L p m ≡ block_at S p m
block_at_same S L p numbers beside (Group (V2 g)) = λ i. option_and_then (λ bytes. result_ok (of_bytes (zmetadata_in (numbers i)) bytes)) (beside i)
block_at_same S L p numbers beside (Group (V3 g)) = ap (λ n. node_block n (Group (V3 g))) numbers
block_at_same S L p numbers beside (Array a) = ap (λ n. node_block n (Array a)) numbers

-- a path that means the same is refused for the same
node_over : (S L : Contents) (b : Path) → meaning L Default b ≡ meaning S Default b → (e : NodeCreateError) → RefusesNode L Default b e → RefusesNode S Default b e
node_over S L b same e h = ⊎_elim (λ w. inl (sym same ∙ w.0, w.1)) (λ is. inr (sym same ∙ is)) h

-- ---- what is listed

module _ (S L : Contents) (b : Path) (same : ShowSameNodes S L b) where
  -- a reached path with a bad document is one of both
  pub bad_documents_same : (e : NodeCreateError) → HasBadDocument (meaning L Default) true b e ↔ HasBadDocument (meaning S Default) true b e
  bad_documents_same e = (
    λ h. let r = (same.reached h.0).0 h.1 in (h.0, r, sym (same.meanings h.0 (inr r)) ∙ h.2),
    λ h. (h.0, (same.reached h.0).1 h.1, same.meanings h.0 (inr h.1) ∙ h.2),
  )

  -- something is bad in both or in neither
  pub bad_same : Bad L Default true b ↔ Bad S Default true b
  bad_same = (
    λ h. ⊎_elim (λ d. inl (d.0, (bad_documents_same d.0).0 d.1)) (λ d. inr (d.0, (same.bad_names d.0).0 d.1)) h,
    λ h. ⊎_elim (λ d. inl (d.0, (bad_documents_same d.0).1 d.1)) (λ d. inr (d.0, (same.bad_names d.0).1 d.1)) h,
  )

  -- both stores list the same
  pub list_same : ListSame S L b
  list_same = record {
    nodes = same.nodes;
    clean = (λ good h. good (bad_same.1 h), λ good h. good (bad_same.0 h));
    refusals = same.refusals;
  }

  -- the base and what is reached from it are the same paths
  pub stands_same : (p : Path) → StandsFrom L Default b p ↔ StandsFrom S Default b p
  stands_same p = (⊎_elim inl (λ r. inr ((same.reached p).0 r)), ⊎_elim inl (λ r. inr ((same.reached p).1 r)))

  -- with the same nodes
  pub nodes_from_same : (e : Path × NodeMetadata) → NodesFrom L Default b e ↔ NodesFrom S Default b e
  nodes_from_same e = (
    λ h. let stands = (stands_same e.0).0 h.0 in (stands, sym (same.meanings e.0 stands) ∙ h.1),
    λ h. ((stands_same e.0).1 h.0, same.meanings e.0 h.0 ∙ h.1),
  )

-- stores that show the same open the same, by any policy
open_same : (S L : Contents) (b : Path) → ShowSame S L b → (policy : UseConsolidatedMetadata) → OpenSame S L policy b
open_same S L b same policy = record {
  means = same.0.meanings b (inl refl);
  choices = λ m. ap (λ o. block_to_use o policy) (block_at_same S L b same.0.numbers (same.1 b (inl refl)) m);
  listed = λ g is none. list_same S L b same.0;
}

-- stores that show the same nodes list the same
pub shown_list_same : ShownListSame
shown_list_same S L b same = (list_same S L b same, nodes_from_same S L b same)

-- stores that list the same have the same listed block
pub listed_block_is_same : ListedBlockIsSame
listed_block_is_same S L b B same = (
  λ h. record { exact = block_over (Nodes L Default true b) (Nodes S Default true b) b B same.nodes h.exact; ascending = h.ascending; clean = same.clean.0 h.clean },
  λ h. record { exact = block_over (Nodes S Default true b) (Nodes L Default true b) b B (λ e. turned (same.nodes e)) h.exact; ascending = h.ascending; clean = same.clean.1 h.clean },
)

-- ---- what opens the same

-- stores that show the same open the same
pub shown_open_same : ShownOpenSame
shown_open_same S L b same policy = open_same S L b same policy

-- a group is no array
group_at : (S : Contents) (b : Path) (g : GroupMetadata) → meaning S Default b ≡ node (Group g) → IsArrayAt S b → ⊥
group_at S b g is array = true≢false (ap is_group (same_node (Group g) array.0 (sym is ∙ array.1)) ∙ array.2)

module _ (S L : Contents) (b : Path) (base : HasBaseOf S L b) (policy : UseConsolidatedMetadata) where
  -- the choice at the base is the same
  choice_same : (m : NodeMetadata) → choice L policy b m ≡ choice S policy b m
  choice_same m = ap (λ o. block_to_use o policy) ((base_shows_same S L b base).1 m)

  -- what has the same base opens the same, except for groups that are listed
  base_with : ((g : GroupMetadata) → meaning S Default b ≡ node (Group g) → choice S policy b (Group g) ≡ list_store → ListSame S L b) → OpenSame S L policy b
  base_with listed = record { means = (base_shows_same S L b base).0 Default; choices = choice_same; listed = listed }

-- a loaded store opens the same
pub loaded_opens_same : LoadedOpensSame
loaded_opens_same ds S L b loaded policy = base_with S L b loaded.base policy
    (λ g is none. list_same S L b (pruned_shows_nodes ds S L b (loaded.below (group_at S b g is))))

-- the same base opens the same where no group is listed
pub base_opens_same : BaseOpensSame
base_opens_same S L b base policy never = base_with S L b base policy
    (λ g is none. absurd (never g ((base_shows_same S L b base).0 Default ∙ is) (choice_same S L b base policy (Group g) ∙ none)))

-- where a block is used, no group is listed
pub block_opens_same : BlockOpensSame
block_opens_same S L b base policy m B means chosen = base_opens_same S L b base policy
    (λ g is none.
    let same : m ≡ Group g = same_node m (Group g) (sym means ∙ is) in
    let two : use_block B ≡ list_store = sym (subst (λ x. choice L policy b x ≡ use_block B) same chosen) ∙ none in
    cc)

-- ---- answers

-- what is shown by a choice is the same where a listing is
shown_chosen : (S L : Contents) (b : Path) (f : Forest) (c : Choice) → (c ≡ list_store → ListSame S L b) → ShowsChosen L Default c true b f ↔ ShowsChosen S Default c true b f
shown_chosen S L b f (use_block B) same = (λ h. h, λ h. h)
shown_chosen S L b f list_store same = (
  shows_over (Nodes L Default true b) (Nodes S Default true b) f b (same refl).nodes,
  shows_over (Nodes S Default true b) (Nodes L Default true b) f b (λ e. turned ((same refl).nodes e)),
)
shown_chosen S L b f refuse same = (λ h. h, λ h. h)

-- and so is whether it is refused
clean_chosen : (S L : Contents) (b : Path) (c : Choice) → (c ≡ list_store → ListSame S L b) → IsCleanChosen L Default c true b ↔ IsCleanChosen S Default c true b
clean_chosen S L b (use_block B) same = (λ h. h, λ h. h)
clean_chosen S L b list_store same = (same refl).clean
clean_chosen S L b refuse same = (λ h. h, λ h. h)

-- and for what
refused_chosen : (S L : Contents) (b : Path) (e : NodeCreateError) (c : Choice) → (c ≡ list_store → ListSame S L b) → RefusesChosen L Default c true b e ↔ RefusesChosen S Default c true b e
refused_chosen S L b e (use_block B) same = (λ h. h, λ h. h)
refused_chosen S L b e list_store same = (same refl).refusals e
refused_chosen S L b e refuse same = (λ h. h, λ h. h)

-- what holds both ways of a choice does so of one that it is
by_choice : (P : Choice → Type 0) (Q : Type 0) (c d : Choice) → c ≡ d → P d ↔ Q → P c ↔ Q
by_choice P Q c d same h = (λ p. h.0 (subst P same p), λ q. subst P (sym same) (h.1 q))

module _ (S L : Contents) (policy : UseConsolidatedMetadata) (b : Path) (same : OpenSame S L policy b) where
  -- what stands below the base
  pub below_same : (m : NodeMetadata) → meaning S Default b ≡ node m → ShowBelowSame S L policy b m
  below_same (Array a) is = record { shown = λ f. (λ h. h, λ h. h); clean = (λ h. h, λ h. h); refused = λ e. (λ h. h, λ h. h) }
  below_same (Group g) is =
      let c : Choice = choice S policy b (Group g) in
      record {
        shown = λ f. by_choice (λ d. ShowsChosen L Default d true b f) (ShowsChosen S Default c true b f) (choice L policy b (Group g)) c (same.choices (Group g)) (shown_chosen S L b f c (same.listed g is));
        clean = by_choice (λ d. IsCleanChosen L Default d true b) (IsCleanChosen S Default c true b) (choice L policy b (Group g)) c (same.choices (Group g)) (clean_chosen S L b c (same.listed g is));
        refused = λ e. by_choice (λ d. RefusesChosen L Default d true b e) (RefusesChosen S Default c true b e) (choice L policy b (Group g)) c (same.choices (Group g)) (refused_chosen S L b e c (same.listed g is));
      }

-- b itself is refused, or what stands below it
abbrev RefusesAt : Contents → UseConsolidatedMetadata → NodeCreateError → Path → Type 0
RefusesAt s policy e b = RefusesNode s Default b e ⊎ ((m : NodeMetadata) × (meaning s Default b ≡ node m) × RefusesBelow s Default policy b m e)

-- of a text that is b's what refuses is at b
opening_at : (s : Contents) (policy : UseConsolidatedMetadata) (b : Path) → IsPath b → (e : NodeCreateError) (X : Type 0) → (RefusesAt s policy e b → X)
    → (p : Path) → IsPath p → path_text p ≡ path_text b → RefusesAt s policy e p → X
opening_at s policy b valid e X then p names text why = then (subst (RefusesAt s policy e) (texts_differ p b names valid text) why)

-- stores that open the same answer the same
pub opened_answer_same : OpenedAnswerSame
opened_answer_same S L policy b same = record {
  refused_node = λ e. (node_over S L b same.means e, node_over L S b (sym same.means) e);
  below = below_same S L policy b same;
  refused = λ valid e. (
    λ h. ⊎_elim inl (λ w. inr (b, valid, refl, opening_at L policy b valid e (RefusesAt S policy e b) (over e) w.0 w.1 w.2 w.3)) h,
    λ h. ⊎_elim inl (λ w. inr (b, valid, refl, opening_at S policy b valid e (RefusesAt L policy e b) (back e) w.0 w.1 w.2 w.3)) h,
  );
}
  where
    over : (e : NodeCreateError) → RefusesAt L policy e b → RefusesAt S policy e b
    over e h = ⊎_elim
        (λ itself. inl (node_over S L b same.means e itself))
        (λ w. let is = sym same.means ∙ w.1 in inr (w.0, is, ((below_same S L policy b same w.0 is).refused e).0 w.2))
        h

    back : (e : NodeCreateError) → RefusesAt S policy e b → RefusesAt L policy e b
    back e h = ⊎_elim
        (λ itself. inl (node_over L S b (sym same.means) e itself))
        (λ w. inr (w.0, same.means ∙ w.1, ((below_same S L policy b same w.0 w.1).refused e).1 w.2))
        h
