-- Where no orphan is told, and nothing is hidden, no path with a document of a node is lost.
use Rattle.std.specs.Prelude.{is_some}
use Rattle.std.proofs.Common.{◌≡◌, inl, inr, ⊎_elim, ℕ, ◌<◌, Bool, true, false, true≢false, All, List, [], ◌∷◌, ◌++◌, length, get_or, refl, sym, ap, subst, ◌∙◌, append_assoc, arith, length-append, Contains, Option, Some, None, Result, Ok, Err}
use Rattle.std.specs.FinMap.{get}
use Rattle.zarrs_fault.specs.declared.fault.MetadataFault.{MetadataFault}
use Rattle.zarrs_store.specs.Contents.{Contents, HasKey, HasBelow}
use Rattle.zarrs_store.specs.Segments.{Segments}
use Rattle.zarrs_store.specs.declared.storage_error.StorageError.{StorageError}
use Rattle.zarrs_path.specs.Paths.{Path, IsPath, IsBelow}
use Rattle.zarrs_path.proofs.NameLemmas.{name_head}
use Rattle.zarrs_path.proofs.PathTexts.{IsPath-parts}
use Rattle.zarrs_config.specs.declared.version.MetadataRetrieveVersion.{MetadataRetrieveVersion}
use Rattle.zarrs_config.specs.declared.version.MetadataRetrieveVersion.TheVariants.{Default}
use Rattle.zarrs_meta.specs.Node.{is_group}
use Rattle.zarrs_meta.specs.declared.attributes.AttributesDocument.{AttributesDocument}
use Rattle.zarrs_meta.specs.declared.node.NodeMetadata.{NodeMetadata}
use Rattle.zarrs_meta.specs.declared.node.ZarrJson.{ZarrJson}
use Rattle.zarrs_meta.specs.declared.node.ZarrJson.TheVariants.{Node as node_json, Version2}
use Rattle.zarrs_meaning.specs.DocumentsAtKeys.{in_bytes, document_at, document_from, document_or_fault, attributes_at}
use Rattle.zarrs_meaning.specs.Meaning.{Meaning, meaning, node, nothing, bad, version_3_line, version_2_line, zarray_line, zgroup_line}
use Rattle.zarrs_meaning.specs.declared.node_create_error.NodeCreateError.{NodeCreateError}
use Rattle.zarrs_meaning.specs.Exists.{HasNodeKey}
use Rattle.zarrs_node.specs.Nodes.{MeansNode, Ignored, IsListed}
use Rattle.zarrs_node.specs.Reach.{Reached}
use Rattle.zarrs_node.proofs.ListedItems.{listed_each}
use Rattle.zarrs_node.proofs.blocks.Leads.{same_or_above, names_beyond}
use Rattle.zarrs_meaning.proofs.Meanings.{default_is, zarr_json_line_is, zarray_line_is, zgroup_line_is}
use Rattle.zarrs_node.proofs.walk.WalkSteps.{reached_deeper}
use Rattle.zarrs_check.specs.Checks.{IsCheckOf}
use Rattle.zarrs_check.specs.Laws.{IsBelowArrayNode, IsFoundBy, NothingIsLost}
use Rattle.zarrs_check.specs.Orphans.{IsNodeBelow, IsCountBelow}
use Rattle.zarrs_check.specs.Surveys.{BadDocuments}
use Rattle.zarrs_check.specs.declared.check.Check.{Check}
use Rattle.zarrs_check.proofs.DocumentCounts.{some_document}
use Rattle.zarrs_check.proofs.SomeCount.{some_count}

-- ---- what means nothing has no document

-- what is read at a key that the store has is some document, or its fault
unread : {D : Type 0} (read : Result D MetadataFault) (key : Segments) → document_or_fault key read ≡ Ok None → ⊥
unread (Ok d) key e = cc
unread (Err fault) key e = cc

module _ {D : Type 0} (reading : List ℕ → Result D MetadataFault) (s : Contents) (key : Segments) where
  -- where no document is at a key, the store does not have it
  no_key : document_at reading s.values key ≡ Ok None → HasKey s.values key → ⊥
  unfolding document_at
  no_key none = by (get s.values key) refl
    where
      by : (o : Option (List ℕ)) → get s.values key ≡ o → HasKey s.values key → ⊥
      by None is has = true≢false (sym has ∙ ap is_some is)
      by (Some x) is has = unread (reading x) key (ap (document_from reading key) (sym is) ∙ none)

-- where `zarr.json` and what follows say nothing, there is none, and what follows says nothing
silent_3 : (r : Result (Option ZarrJson) StorageError) (after : Meaning) → version_3_line r after ≡ nothing → (r ≡ Ok None) × (after ≡ nothing)
silent_3 (Ok None) after e = (refl, e)
silent_3 (Ok (Some (node_json m))) after e = cc
silent_3 (Ok (Some Version2)) after e = cc
silent_3 (Err x) after e = cc

-- so where a document of version 2 and what follows say nothing
silent_2 : {D : Type 0} (kind : D → NodeMetadata) (with : AttributesDocument → D → D) (r : Result (Option D) StorageError) (a : Result (Option AttributesDocument) StorageError) (after : Meaning)
    → version_2_line kind with r a after ≡ nothing → (r ≡ Ok None) × (after ≡ nothing)
silent_2 kind with (Ok None) a after e = (refl, e)
silent_2 kind with (Ok (Some d)) (Ok None) after e = cc
silent_2 kind with (Ok (Some d)) (Ok (Some x)) after e = cc
silent_2 kind with (Ok (Some d)) (Err x) after e = cc
silent_2 kind with (Err x) a after e = cc

-- a path with a document of a node means something by default
nothing_stands : (s : Contents) (p : Path) → meaning s Default p ≡ nothing → HasNodeKey s p → ⊥
nothing_stands s p means =
    let two = zarray_line (in_bytes s.numbers) s.values p (zgroup_line (in_bytes s.numbers) s.values p nothing) in
    let one = silent_3 _ two (sym (zarr_json_line_is s p _ refl _ refl two) ∙ sym (default_is s p) ∙ means) in
    let array = silent_2 _ _ _ _ (zgroup_line (in_bytes s.numbers) s.values p nothing) (sym (zarray_line_is s p _ refl _ refl (attributes_at s p) refl _) ∙ one.1) in
    let group = silent_2 _ _ _ _ nothing (sym (zgroup_line_is s p _ refl _ refl (attributes_at s p) refl _) ∙ array.1) in
    ⊎_elim (no_key _ s _ one.0) (⊎_elim (no_key _ s _ array.0) (no_key _ s _ group.0))

-- ---- one name after another

-- nothing is below itself
not_below_itself : (b : Path) → IsBelow b b → ⊥
not_below_itself b low =
    let long = ap length low.2 in
    let more = length-append b (low.0 ∷ low.1) in
    omega (arith, long, more)

-- nothing is below what is below it
not_below_back : (b q : Path) → IsBelow b q → IsBelow q b → ⊥
not_below_back b q low up =
    let long = ap length low.2 in
    let more = length-append b (low.0 ∷ low.1) in
    let back = ap length up.2 in
    let less = length-append q (up.0 ∷ up.1) in
    omega (arith, long, more, back, less)

-- a listed path and one name is reached
child_of_listed : (s : Contents) (v : MetadataRetrieveVersion) (b g : Path) (n : List ℕ) (c : Path) → IsListed (meaning s v) true b g → IsPath (n ∷ []) → c ≡ g ++ n ∷ [] → Reached (MeansNode s v) true b c
child_of_listed s v b g n c h name is = ⊎_elim
    (λ same. record {
      below = (n, [], is ∙ ap (λ x. x ++ n ∷ []) same, name);
      between = λ q low up. absurd (⊎_elim
          (λ at. not_below_itself b (subst (IsBelow b) (at ∙ same) low))
          (λ above. not_below_back b q low (subst (IsBelow q) same above))
          (same_or_above g q n up.0 up.1 (sym is ∙ up.2)));
    })
    (λ w. reached_deeper (MeansNode s v) true b g c n w.0 w.1 (name_head n [] name) is)
    h

-- where no path below q has a document of a node, p is none
none_counted : (s : Contents) (q p : Path) (n : ℕ) → IsCountBelow s q n → n ≡ 0 → IsNodeBelow s q p → ⊥
none_counted s q p n count none at =
    let in' = (listed_each count.1 p).1 at in
    omega (arith, in'.1, count.2, none)

module _ (s : Contents) (v : MetadataRetrieveVersion) (b : Path) (c : Check) (is : IsCheckOf s v b c) (none : c.orphans.items ≡ []) (zeros : All (λ n. n ≡ 0) c.hidden.items)
    (p : Path) (valid : IsPath p) (key : HasNodeKey s p) (far : IsBelowArrayNode s v b p → ⊥) where
  -- p is below no ignored path
  not_ignored : (q : Path) → Ignored s v true b q → IsBelow q p → ⊥
  not_ignored q ignored low =
      let count = some_count s q in
      let told = is.orphans.complete (q, count.0) (ignored, count.1, λ zero. none_counted s q p count.0 count.1 zero (valid, low, key)) in
      omega (arith, (subst (λ xs. Contains xs (q, count.0)) none told).1)

  -- nor below one whose document is bad
  not_hidden : (q : Path) (e : NodeCreateError) → BadDocuments s v b (q, e) → IsBelow q p → ⊥
  not_hidden q e broken low =
      let in' = is.bad_documents.complete (q, e) broken in
      let size = is.hidden.size in
      let within : in'.0 < length c.hidden.items = omega (arith, in'.1, size) in
      let at : q ≡ (get_or c.bad_documents in'.0 (q, e)).0 = ap (λ (d : Path × NodeCreateError). d.0) (sym in'.2) in
      none_counted s (get_or c.bad_documents in'.0 (q, e)).0 p (get_or c.hidden.items in'.0 0) (is.hidden.each in'.0 (q, e) 0 in'.1) (zeros in'.0 0 within) (valid, subst (λ x. IsBelow x p) at low, key)

  -- a key is below each path that is p or above it
  key_below : HasBelow s.values p
  key_below = let d = some_document s p key in (d.0, [], d.2)

  -- a key is below each path that p is below
  key_beyond : (q : Path) → IsBelow q p → HasBelow s.values q
  key_beyond q low = let d = some_document s p key in
      (low.0, low.1 ++ d.0 ∷ [], subst (HasKey s.values) (ap (λ x. x ++ d.0 ∷ []) low.2 ∙ append_assoc q (low.0 ∷ low.1) (d.0 ∷ [])) d.2)

  -- p itself, where it is reached
  at_end : Reached (MeansNode s v) true b p → (mean : Meaning) → meaning s v p ≡ mean → IsFoundBy s v b c p
  at_end reached (node m) means = inl (m, (reached, means))
  at_end reached (bad e) means = inr (inl (e, is.bad_documents.complete (p, e) (reached, means)))
  at_end reached nothing means = inr (inr (
    λ default. nothing_stands s p (ap (λ w. meaning s w p) (sym default) ∙ means) key,
    is.ignored.complete p (reached, means, key_below),
  ))

  -- below a listed path, by the names beyond it
  beyond : (g : Path) → IsListed (meaning s v) true b g → (y : List ℕ) (ys : Path) → p ≡ g ++ y ∷ ys → IsPath (y ∷ ys) → IsFoundBy s v b c p
  beyond g listed y [] e names = at_end (child_of_listed s v b g y p listed names e) (meaning s v p) refl
  beyond g listed y (z ∷ zs) e names =
      let parts = IsPath-parts (y ∷ []) (z ∷ zs) names in
      let reached = child_of_listed s v b g y (g ++ y ∷ []) listed parts.0 refl in
      let further = e ∙ sym (append_assoc g (y ∷ []) (z ∷ zs)) in
      by_meaning (g ++ y ∷ []) reached (z, zs, further)
      (λ listed'. beyond (g ++ y ∷ []) listed' z zs further parts.1)
      (meaning s v (g ++ y ∷ [])) refl
    where
      by_kind : (q : Path) → Reached (MeansNode s v) true b q → IsBelow q p → (IsListed (meaning s v) true b q → IsFoundBy s v b c p)
          → (m : NodeMetadata) → meaning s v q ≡ node m → (k : Bool) → is_group m ≡ k → IsFoundBy s v b c p
      by_kind q reached low deeper m means true kind = deeper (inr (reached, (refl, (m, means, kind))))
      by_kind q reached low deeper m means false kind = absurd (far ((q, m), (reached, means), kind, low))

      by_meaning : (q : Path) → Reached (MeansNode s v) true b q → IsBelow q p → (IsListed (meaning s v) true b q → IsFoundBy s v b c p)
          → (mean : Meaning) → meaning s v q ≡ mean → IsFoundBy s v b c p
      by_meaning q reached low deeper (node m) means = by_kind q reached low deeper m means (is_group m) refl
      by_meaning q reached low deeper nothing means = absurd (not_ignored q (reached, means, key_beyond q low) low)
      by_meaning q reached low deeper (bad error) means = absurd (not_hidden q error (reached, means) low)

-- where no orphan is told, and nothing is hidden, each path with a document of a node, below the base and no array, is found
pub nothing_is_lost : NothingIsLost
nothing_is_lost s v b c is none zeros p valid low key far = beyond s v b c is none zeros p valid key far b (inl refl) low.0 low.1 low.2 (names_beyond b p low.0 low.1 low.2 valid)
