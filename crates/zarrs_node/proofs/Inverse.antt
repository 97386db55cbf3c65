-- A forest and its block are inverse.
use Rattle.std.proofs.Common.{◌≡◌, ℕ, ◌⊎◌, inl, inr, ⊎_elim, ◌↔◌, true, List, [], ◌∷◌, ◌++◌, Some, None, IsSome, Ok, refl, sym, ap, subst, ◌∙◌, Contains, IsTrue, true≢false}
use Rattle.std.specs.Prelude.{All}
use Rattle.std.specs.List.{AllByRecursion}
use Rattle.std.proofs.lemmas.List.{append_cancel_left}
use Rattle.std.proofs.lemmas.List.Elements.{All-nil, All-cons}
use Rattle.zarrs_store.specs.Segments.{key_text}
use Rattle.zarrs_path.specs.Paths.{Path, IsPath}
use Rattle.zarrs_fault.specs.declared.numbers.Numbers.{Numbers}
use Rattle.zarrs_meta.specs.Node.{is_plain_node_in}
use Rattle.zarrs_meta.specs.declared.node.NodeMetadata.{NodeMetadata}
use Rattle.zarrs_block.specs.Block.{Block, Entries, HasValidKeys, IsAscending, IsBlockOf, IsValidKey, block_of_in, block_tree, entry, first_some, node_at_key}
use Rattle.zarrs_block.proofs.BlockReads.{block_again_in}
use Rattle.zarrs_block.proofs.Expansion.{found_all}
use Rattle.zarrs_node.specs.Forest.{Forest, pairs, IsPlaced}
use Rattle.zarrs_node.specs.Reach.{Closed, Kept}
use Rattle.zarrs_node.specs.Inverse.{HasNames, BlockGivesBack, ListingGivesBack}
use Rattle.zarrs_node.proofs.ListedItems.{listed_each}
use Rattle.zarrs_node.proofs.KeptPairs.{kept_same, placed_between}
use Rattle.zarrs_node.proofs.Unique.{one_forest}
use Rattle.zarrs_block.proofs.KeyLaws.{one_text, slash_apart}

-- what the two keys of a path have
entry_cases : (B : Block) (ns : Path) (m : NodeMetadata) → entry B ns ≡ Some m → (node_at_key B (key_text ns) ≡ Some m) ⊎ (node_at_key B (47 ∷ key_text ns) ≡ Some m)
entry_cases B ns m e = elim (node_at_key B (key_text ns)) as (λ o. node_at_key B (key_text ns) ≡ o → first_some o (node_at_key B (47 ∷ key_text ns)) ≡ Some m
    → (node_at_key B (key_text ns) ≡ Some m) ⊎ (node_at_key B (47 ∷ key_text ns) ≡ Some m)) [
      | Some k ↦ λ is h. inl (is ∙ h)
      | None ↦ λ is h. inr h
    ] refl e

-- what stands at the key without a slash is the entry
entry_plain : (B : Block) (ns : Path) (m : NodeMetadata) → node_at_key B (key_text ns) ≡ Some m → entry B ns ≡ Some m
entry_plain B ns m e = ap (λ o. first_some o (node_at_key B (47 ∷ key_text ns))) e

module _ (N : Path × NodeMetadata → Type 0) (b : Path) (B : Block) (names : (e : Path × NodeMetadata) → N e → (n : List ℕ) × (ns : Path) × (e.0 ≡ b ++ n ∷ ns) × IsPath (n ∷ ns)) (is : IsBlockOf N b B) where
  -- the names of a pair beyond b are those that its key holds
  own_names : (n : List ℕ) (ns : Path) (m : NodeMetadata) → N (b ++ n ∷ ns, m) → IsPath (n ∷ ns)
  own_names n ns m here =
      let w = names (b ++ n ∷ ns, m) here in
      subst IsPath (sym (append_cancel_left b (n ∷ ns) (w.0 ∷ w.1) w.2)) w.3

  -- the entries of the block are the pairs
  pub entries_are : (e : Path × NodeMetadata) → Entries B b e ↔ N e
  entries_are e = (
    λ h. ⊎_elim
        (λ plain.
        let w = (is (key_text (h.0 ∷ h.1)) e.1).0 plain in
        let same = one_text (h.0 ∷ h.1) (w.0 ∷ w.1) h.2 (own_names w.0 w.1 e.1 w.3) w.2 in
        subst (λ p. N (p, e.1)) (ap (λ x. b ++ x) (sym same) ∙ sym h.3) w.3)
        (λ slashed.
        let w = (is (47 ∷ key_text (h.0 ∷ h.1)) e.1).0 slashed in
        absurd (slash_apart (h.0 ∷ h.1) (w.0 ∷ w.1) (own_names w.0 w.1 e.1 w.3) w.2))
        (entry_cases B (h.0 ∷ h.1) e.1 h.4),
    λ here.
        let w = names e here in
        (w.0, w.1, w.3, w.2, entry_plain B (w.0 ∷ w.1) e.1 ((is (key_text (w.0 ∷ w.1)) e.1).1 (w.0, w.1, refl, subst (λ p. N (p, e.1)) w.2 here))),
  )

  -- each key is the text of names
  pub keys_valid : HasValidKeys B
  keys_valid t some = elim (node_at_key B t) as (λ o. node_at_key B t ≡ o → IsSome o → IsValidKey t) [
    | Some m ↦ λ at _. let w = (is t m).0 at in (w.0 ∷ w.1, own_names w.0 w.1 m w.3, inl w.2)
    | None ↦ λ at none. absurd (true≢false (sym none))
  ] refl some

  -- each node of the block is that of a pair, so it is plain where those are
  pub nodes_plain : (numbers : Numbers) → ((e : Path × NodeMetadata) → N e → IsTrue (is_plain_node_in numbers e.1)) → (es : Block) → AllByRecursion (λ e. node_at_key B e.0 ≡ Some e.1) es
      → All (λ e. IsTrue (is_plain_node_in numbers e.1)) es
  nodes_plain numbers plain [] at = All-nil (λ e. IsTrue (is_plain_node_in numbers e.1))
  nodes_plain numbers plain (e ∷ es) at =
      let w = (is e.0 e.1).0 at.0 in
      All-cons (λ e. IsTrue (is_plain_node_in numbers e.1)) e es (plain (b ++ w.0 ∷ w.1, e.1) w.3) (nodes_plain numbers plain es at.1)

-- a block of exactly the nodes that are kept reads back, where their metadata are plain
pub kept_reads_back : (numbers : Numbers) (N : Path × NodeMetadata → Type 0) (b : Path) (B : Block) → ((e : Path × NodeMetadata) → Kept N true b e → IsTrue (is_plain_node_in numbers e.1)) → IsAscending B
    → IsBlockOf (Kept N true b) b B → block_of_in numbers (block_tree B) ≡ Ok B
kept_reads_back numbers N b B plain up is = block_again_in numbers B (nodes_plain (Kept N true b) b B (λ e k. k.0.below) is numbers plain B (found_all B up))

-- the pairs of a placed forest are closed
pairs_closed : (b : Path) (f : Forest) → HasNames b (pairs f) → IsPlaced b f → Closed (Contains (pairs f)) b
pairs_closed b f names placed e in' = (record { below = names e in'; between = λ q low up. (refl, placed_between b f placed e in' q low up) }, in')

-- a block of exactly the pairs of a placed forest gives the forest back
pub block_gives_back : BlockGivesBack
block_gives_back numbers b f B placed names plain up is =
    let same = entries_are (Contains (pairs f)) b B names is in
    let closed = pairs_closed b f names placed in
    let kept = kept_same (Entries B b) (Contains (pairs f)) true b (λ e low. same e) in
    let nodes = nodes_plain (Contains (pairs f)) b B names is numbers plain B (found_all B up) in
    record {
      plain = nodes;
      read_back = block_again_in numbers B nodes;
      valid = keys_valid (Contains (pairs f)) b B names is;
      entries = same;
      closed = closed;
      one_forest = λ g shows. one_forest b g f shows.placed placed (λ e. (
        λ in'. (same e).0 ((listed_each shows.shown e).0 in').1,
        λ in'. (listed_each shows.shown e).1 ((kept e).1 (closed e in')),
      ));
    }

-- so does a block of exactly the nodes of a meaning
pub listing_gives_back : ListingGivesBack
listing_gives_back numbers of b f B shows plain up is =
    block_gives_back numbers b f B shows.placed (λ e in'. ((listed_each shows.shown e).0 in').0.below) plain up (λ t m. (
      λ h. let w = (is t m).0 h in (w.0, w.1, w.2, (listed_each shows.shown (b ++ w.0 ∷ w.1, m)).1 w.3),
      λ w. (is t m).1 (w.0, w.1, w.2, (listed_each shows.shown (b ++ w.0 ∷ w.1, m)).0 w.3),
    ))
