-- What stands below a base in the small store of a document `.zmetadata`, and what its block shows.
use Rattle.std.proofs.Common.{◌≡◌, ℕ, Bool, true, false, true≢false, cond, not, ◌&&◌, inl, inr, ⊎_elim, List, [], ◌∷◌, ◌++◌, Option, Some, None, is_some, is_eq, IsTrue, All, refl, sym, ap, subst, append_assoc, append-nil, ◌∙◌}
use Rattle.std.specs.List.{list_all}
use Rattle.std.specs.FinMap.{get, find}
use Rattle.std.proofs.lemmas.Bool.{and_parts}
use Rattle.std.proofs.lemmas.List.Elements.{All-head, All-tail}
use Rattle.std.proofs.lemmas.List.Folds.{list_all-append}
use Rattle.serde_json.specs.Data.{Data, Members}
use Rattle.zarrs_store.specs.Segments.{Segments, key_cmp, is_nonempty, has_no_slash, is_reserved}
use Rattle.zarrs_store.specs.Contents.{HasBelow}
use Rattle.zarrs_fault.specs.declared.numbers.Numbers.{Numbers}
use Rattle.zarrs_path.specs.Names.{is_name, is_all_periods}
use Rattle.zarrs_path.specs.Paths.{Path, IsPath, IsBelow}
use Rattle.zarrs_path.proofs.NameLemmas.{name_head}
use Rattle.zarrs_meta.specs.declared.node.NodeMetadata.{NodeMetadata}
use Rattle.zarrs_block.specs.Block.{Block, Entries, IsBlockOf}
use Rattle.zarrs_meaning.specs.Meaning.{Means, node, bad}
use Rattle.zarrs_meaning.specs.Small.{small_meaning_in, small, counted_members}
use Rattle.zarrs_block.specs.Zmetadata.{HoldsStoreIn, IsCleanIn, before_last}
use Rattle.zarrs_block.proofs.SmallStores.{as_read, before_last-child, same_key, get_based, based_read}
use Rattle.zarrs_block.proofs.SmallBlocks.{document_or_none, store_law}
use Rattle.zarrs_node.specs.Small.{SmallBad, ShowsSmall, ZmetadataShows}
use Rattle.zarrs_node.proofs.Inverse.{entries_are, keys_valid}
use Rattle.zarrs_node.proofs.KeptPairs.{kept_same}

-- ---- names

-- a document that is found stands below names
found_named : (es : List (Segments × Data)) (k : Segments) (d : Data) → All (λ e. IsPath (before_last e.0)) es → find key_cmp k es ≡ Some d → IsPath (before_last k)
found_named [] k d all e = cc
found_named (x ∷ es) k d all e = by (is_eq (key_cmp k x.0)) refl (found_named es k d (All-tail (λ e. IsPath (before_last e.0)) x es all)) e
  where
    by : (c : Bool) → is_eq (key_cmp k x.0) ≡ c → (find key_cmp k es ≡ Some d → IsPath (before_last k)) → cond c (Some x.1) (find key_cmp k es) ≡ Some d → IsPath (before_last k)
    by true at again g = subst (λ j. IsPath (before_last j)) (sym (same_key k x.0 at)) (All-head (λ e. IsPath (before_last e.0)) x es all)
    by false at again g = again g

-- without the last of some segments behind others, these stay
before_last-append : (gs : Segments) (n first : List ℕ) (rest : Segments) → before_last (gs ++ n ∷ first ∷ rest) ≡ gs ++ n ∷ before_last (first ∷ rest)
before_last-append [] n first rest = refl
before_last-append (g ∷ []) n first rest = refl
before_last-append (g ∷ h ∷ gs) n first rest = ap (λ p. g ∷ p) (before_last-append (h ∷ gs) n first rest)

-- a name is not made of periods only
not_periods : (n : List ℕ) → IsTrue (is_name n) → IsTrue (is_all_periods n) → ⊥
not_periods n name periods =
    let parts = and_parts (is_nonempty n) (has_no_slash n && (not (is_all_periods n) && not (is_reserved n))) name in
    let more = and_parts (has_no_slash n) (not (is_all_periods n) && not (is_reserved n)) parts.1 in
    let last = and_parts (not (is_all_periods n)) (not (is_reserved n)) more.1 in
    true≢false (sym last.0 ∙ ap not periods)

-- behind names, a segment that is followed by another is a name where all before the last are
middle_name : (gs : Segments) (n first : List ℕ) (rest : Segments) → IsPath (before_last (gs ++ n ∷ first ∷ rest)) → IsTrue (is_name n)
middle_name gs n first rest path =
    let split = subst IsPath (before_last-append gs n first rest) path in
    let both = and_parts (list_all is_name gs) (list_all is_name (n ∷ before_last (first ∷ rest))) (sym (list_all-append is_name gs (n ∷ before_last (first ∷ rest))) ∙ split) in
    name_head n (before_last (first ∷ rest)) both.1

-- ---- below a base

module _ (numbers : Numbers) (b : Path) (ms : Members) (clean : IsCleanIn numbers ms) where
  -- a path below the base that means a node is of names
  small_path : (n : List ℕ) (ns : Path) (m : NodeMetadata) → small_meaning_in numbers (small b ms) (b ++ n ∷ ns) ≡ node m → IsPath (n ∷ ns)
  small_path n ns m is =
      ⊎_elim
      (λ has. subst IsPath (before_last-child (n ∷ ns) has.0) (found_named (counted_members ms) ((n ∷ ns) ++ has.0 ∷ []) has.1 clean.named has.2))
      (λ empty. let both : Some (Some m) ≡ Some None = sym (ap as_read is) ∙ based_read numbers b (n ∷ ns) ms ∙ empty in cc)
      (document_or_none numbers ms (n ∷ ns))

  -- a key behind the base and other segments has a name among them, where two follow
  key_named : (gs : Segments) (n first : List ℕ) (rest : Segments) → IsTrue (is_some (find key_cmp (gs ++ n ∷ first ∷ rest) (counted_members ms))) → IsTrue (is_name n)
  key_named gs n first rest some = by (find key_cmp (gs ++ n ∷ first ∷ rest) (counted_members ms)) refl some
    where
      by : (o : Option Data) → find key_cmp (gs ++ n ∷ first ∷ rest) (counted_members ms) ≡ o → IsTrue (is_some o) → IsTrue (is_name n)
      by None is none = absurd (true≢false (sym none))
      by (Some d) is _ = middle_name gs n first rest (found_named (counted_members ms) (gs ++ n ∷ first ∷ rest) d clean.named is)

  -- no segment of periods only stands below a path behind the base and before another
  no_periods : (gs : Path) (n : List ℕ) → IsTrue (is_all_periods n) → HasBelow (small b ms) ((b ++ gs) ++ n ∷ []) → ⊥
  no_periods gs n periods h =
      let key : ((b ++ gs) ++ n ∷ []) ++ h.0 ∷ h.1 ≡ b ++ (gs ++ n ∷ h.0 ∷ h.1) =
      append_assoc (b ++ gs) (n ∷ []) (h.0 ∷ h.1) ∙ append_assoc b gs (n ∷ h.0 ∷ h.1) in
      let found : IsTrue (is_some (find key_cmp (gs ++ n ∷ h.0 ∷ h.1) (counted_members ms))) =
      ap is_some (sym (get_based b (gs ++ n ∷ h.0 ∷ h.1) ms) ∙ ap (λ k. get (small b ms) k) (sym key)) ∙ h.2 in
      not_periods n (key_named gs n h.0 h.1 found) periods

  -- nothing below the base is bad
  small_clean : SmallBad numbers (small b ms) b → ⊥
  small_clean (inl h) =
      let low = h.1.1.below in
      clean.means b low.0 low.1 h.0 (subst (λ q. small_meaning_in numbers (small b ms) q ≡ bad h.0) low.2 h.1.2)
  small_clean (inr h) =
      let name = h.1 in
      ⊎_elim
      (λ at. no_periods [] name.1 name.3 (subst (λ q. HasBelow (small b ms) (q ++ name.1 ∷ [])) (at ∙ sym (append-nil b)) name.4))
      (λ more.
      let low = more.0.below in
      no_periods (low.0 ∷ low.1) name.1 name.3 (subst (λ q. HasBelow (small b ms) (q ++ name.1 ∷ [])) low.2 name.4))
      name.2

  module _ (B : Block) (holds : HoldsStoreIn numbers ms B) where
    -- the pairs below the base that the small store means
    abbrev BelowBase : Path × NodeMetadata → Type 0
    BelowBase e = Means (small_meaning_in numbers (small b ms)) e × IsBelow b e.0

    -- each is the base and names
    below_named : (e : Path × NodeMetadata) → BelowBase e → (n : List ℕ) × (ns : Path) × (e.0 ≡ b ++ n ∷ ns) × IsPath (n ∷ ns)
    below_named e h = (h.1.0, h.1.1, h.1.2, small_path h.1.0 h.1.1 e.1 (subst (λ p. small_meaning_in numbers (small b ms) p ≡ node e.1) h.1.2 h.0))

    -- the block holds exactly these
    holds_below : IsBlockOf BelowBase b B
    holds_below t m = (
      λ h. let w = (holds b t m).0 h in (w.0, w.1, w.2, (w.3, (w.0, w.1, refl))),
      λ w. (holds b t m).1 (w.0, w.1, w.2, w.3.0),
    )

    -- so it shows them
    shows_small : ShowsSmall numbers b (small b ms) B
    shows_small = record {
      clean = small_clean;
      valid = keys_valid BelowBase b B below_named holds_below;
      kept = kept_same (Entries B b) (Means (small_meaning_in numbers (small b ms))) true b (λ e low. (
        λ h. ((entries_are BelowBase b B below_named holds_below e).0 h).0,
        λ h. (entries_are BelowBase b B below_named holds_below e).1 (h, low),
      ));
    }

-- the block that a document is shows what a listing would find in its small store
pub zmetadata_shows : ZmetadataShows
zmetadata_shows numbers d B is = let law = store_law numbers d B is in (law.0, law.1, λ b. shows_small numbers b law.0 law.3 B law.2)
