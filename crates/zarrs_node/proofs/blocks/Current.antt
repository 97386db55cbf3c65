-- A block that follows a store whose documents change at one path after another.
use Rattle.std.proofs.Common.{◌≡◌, ◌≢◌, ◌↔◌, ◌⊎◌, inl, inr, ⊎_elim, ℕ, Bool, true, false, true≢false, List, [], ◌∷◌, ◌++◌, length, Result, refl, sym, ap, subst, ◌∙◌, append_assoc, length-append, arith, Contains}
use Rattle.std.specs.Prelude.{bytes_eq}
use Rattle.std.specs.FinMap.{get}
use Rattle.std.specs.List.{slice_split}
use Rattle.std.proofs.lemmas.List.{append_cancel_left, same_from_push}
use Rattle.std.proofs.lemmas.Slice.Eq.{bytes_eq-Decides}
use Rattle.zarrs_store.specs.Segments.{is_slash, key_text}
use Rattle.zarrs_store.specs.Contents.{Contents}
use Rattle.zarrs_fault.specs.declared.fault.MetadataFault.{MetadataFault}
use Rattle.zarrs_store.proofs.Cuts.{parts-append, parts-join, parts_some, segments_clean}
use Rattle.zarrs_path.specs.Paths.{Path, IsPath, IsBelow, without_leading_slash}
use Rattle.zarrs_path.specs.Keys.{zarr_json, zarray, zgroup, zattrs}
use Rattle.zarrs_path.proofs.PathTexts.{IsPath-append, IsPath-parts, segments_from_names}
use Rattle.zarrs_meta.specs.declared.node.NodeMetadata.{NodeMetadata}
use Rattle.zarrs_meta.specs.declared.node.NodeMetadata.TheVariants.{Group, Array}
use Rattle.zarrs_meta.specs.declared.node.ArrayMetadata.TheVariants.{V2 as array_v2}
use Rattle.zarrs_meta.specs.declared.node.GroupMetadata.TheVariants.{V2 as group_v2}
use Rattle.zarrs_config.specs.declared.version.MetadataRetrieveVersion.{MetadataRetrieveVersion}
use Rattle.zarrs_config.specs.declared.version.MetadataRetrieveVersion.TheVariants.{Default, V3, V2}
use Rattle.zarrs_meta.specs.ArrayV2.{array_v2_in}
use Rattle.zarrs_meta.specs.GroupV2.{group_v2_in}
use Rattle.zarrs_meta.specs.Attributes.{attributes_document_in}
use Rattle.zarrs_meta.specs.Node.{zarr_json_in, array_with, group_with}
use Rattle.zarrs_form.specs.Documents.{of_bytes}
use Rattle.zarrs_block.specs.Block.{Block, Entries, IsBlockOf}
use Rattle.zarrs_block.specs.KeysAboutAPath.{IsAbout}
use Rattle.zarrs_block.proofs.KeyLaws.{one_text, text_bare}
use Rattle.zarrs_meaning.specs.DocumentsAtKeys.{in_bytes, document_from, document_at}
use Rattle.zarrs_meaning.specs.Meaning.{Meaning, meaning, nothing, version_2_line, version_3_line, zarr_json_line, zarray_line, zgroup_line}
use Rattle.zarrs_node.specs.Reach.{HasGroup, Kept, Reached}
use Rattle.zarrs_node.specs.Nodes.{Means, Nodes}
use Rattle.zarrs_node.specs.Forest.{Forest, pairs, Shows}
use Rattle.zarrs_node.specs.BlocksOfNodes.{text_beyond}
use Rattle.zarrs_node.specs.CurrentBlocks.{LeadsTo, IsNewPair, IsFresh}
use Rattle.zarrs_node.specs.Changes.{document_files, AgreesOutside, last_of, FreshIsBlock, RefreshedIsBlock, RefreshedIsOpened}
use Rattle.zarrs_meaning.proofs.Meanings.{default_is, v3_is, v2_is}
use Rattle.zarrs_node.proofs.ListedItems.{listed_each}
use Rattle.zarrs_node.proofs.ForestsBeside.{Contains-first, Contains-cons}
use Rattle.zarrs_node.proofs.Reach.{head_same, rest_same}
use Rattle.zarrs_node.proofs.KeptPairs.{below_below, reached_between}
use Rattle.zarrs_node.proofs.blocks.BlockTexts.{text_is}
use Rattle.zarrs_block.proofs.SameBlocks.{one_block}
use Rattle.zarrs_node.proofs.Inverse.{entries_are}
use Rattle.zarrs_node.proofs.blocks.Leads.{names_beyond}
use Rattle.zarrs_node.proofs.blocks.MeaningsAnew.{about_of}

-- ---- paths that are, or stand below, another

-- q is p, or stands below it
abbrev pub AtOrBelow : Path → Path → Type 0
AtOrBelow p q = (q ≡ p) ⊎ IsBelow p q

-- no path is below itself
pub not_below_itself : (p : Path) → IsBelow p p → ⊥
not_below_itself p low =
    let long = ap length low.2 in
    let more = length-append p (low.0 ∷ low.1) in
    omega (arith, long, more)

-- a name in front of both
cons_below : (x : List ℕ) (p q : Path) → AtOrBelow p q → AtOrBelow (x ∷ p) (x ∷ q)
cons_below x p q h = ⊎_elim (λ same. inl (ap (λ l. x ∷ l) same)) (λ low. inr (low.0, low.1, ap (λ l. x ∷ l) low.2)) h

-- and taken away from both
tail_below : (x y : List ℕ) (p q : Path) → AtOrBelow (x ∷ p) (y ∷ q) → (y ≡ x) × AtOrBelow p q
tail_below x y p q h = ⊎_elim
    (λ same. (head_same y x q p same, inl (rest_same y x q p same)))
    (λ low. (head_same y x q (p ++ low.0 ∷ low.1) low.2, inr (low.0, low.1, rest_same y x q (p ++ low.0 ∷ low.1) low.2)))
    h

-- of two paths it is told whether one is the other or stands below it
pub decided : (p q : Path) → AtOrBelow p q ⊎ (AtOrBelow p q → ⊥)
decided [] [] = inl (inl refl)
decided [] (n ∷ q) = inl (inr (n, q, refl))
decided (m ∷ p) [] = inr (λ h. ⊎_elim (λ same. let long = ap length same in omega (arith, long)) (λ low. let long = ap length low.2 in omega (arith, long)) h)
decided (m ∷ p) (n ∷ q) = by (bytes_eq n m) refl (decided p q)
  where
    by : (t : Bool) → bytes_eq n m ≡ t → AtOrBelow p q ⊎ (AtOrBelow p q → ⊥) → AtOrBelow (m ∷ p) (n ∷ q) ⊎ (AtOrBelow (m ∷ p) (n ∷ q) → ⊥)
    by true is again = ⊎_elim
        (λ at. inl (subst (λ x. AtOrBelow (m ∷ p) (x ∷ q)) (sym ((bytes_eq-Decides n m).0 is)) (cons_below m p q at)))
        (λ far. inr (λ h. far (tail_below m n p q h).1))
        again
    by false is again = inr (λ h. true≢false (sym ((bytes_eq-Decides n m).1 (tail_below m n p q h).0) ∙ is))

-- of two proper beginnings of a path one is, or is above, the other
beginnings : (p r q : Path) → IsBelow p q → IsBelow r q → AtOrBelow p r ⊎ IsBelow r p
beginnings [] [] q low up = inl (inl refl)
beginnings [] (x ∷ r) q low up = inl (inr (x, r, refl))
beginnings (y ∷ p) [] q low up = inr (y, p, refl)
beginnings (y ∷ p) (x ∷ r) [] low up = let long = ap length low.2 in absurd (omega (arith, long))
beginnings (y ∷ p) (x ∷ r) (z ∷ q) low up =
    let one : z ≡ y = head_same z y q (p ++ low.0 ∷ low.1) low.2 in
    let two : z ≡ x = head_same z x q (r ++ up.0 ∷ up.1) up.2 in
    let again = beginnings p r q (low.0, low.1, rest_same z y q (p ++ low.0 ∷ low.1) low.2) (up.0, up.1, rest_same z x q (r ++ up.0 ∷ up.1) up.2) in
    let same : x ≡ y = sym two ∙ one in
    ⊎_elim
    (λ at. inl (subst (λ w. AtOrBelow (y ∷ p) (w ∷ r)) (sym same) (cons_below y p r at)))
    (λ above. inr (subst (λ w. IsBelow (w ∷ r) (y ∷ p)) (sym same) (above.0, above.1, ap (λ l. y ∷ l) above.2)))
    again

-- ---- what two stores mean alike

module _ (S T : Contents) (q : Path) (alike : T.numbers ≡ S.numbers) (same : (file : List ℕ) → Contains document_files file → get T.values (q ++ file ∷ []) ≡ get S.values (q ++ file ∷ [])) where
  -- a document that is the same in both
  document_same : {D : Type 0} (reading : List ℕ → Result D MetadataFault) (file : List ℕ) → Contains document_files file → document_at reading T.values (q ++ file ∷ []) ≡ document_at reading S.values (q ++ file ∷ [])
  unfolding document_at
  document_same reading file in' = ap (document_from reading (q ++ file ∷ [])) (same file in')

  -- `zarr.json` is one of the files
  first : Contains document_files zarr_json
  first = Contains-first zarr_json (zarray ∷ zgroup ∷ zattrs ∷ [])

  -- `.zarray` is one of the files
  second : Contains document_files zarray
  second = Contains-cons zarr_json (zarray ∷ zgroup ∷ zattrs ∷ []) zarray (Contains-first zarray (zgroup ∷ zattrs ∷ []))

  -- `.zgroup` is one of the files
  third : Contains document_files zgroup
  third = Contains-cons zarr_json (zarray ∷ zgroup ∷ zattrs ∷ []) zgroup (Contains-cons zarray (zgroup ∷ zattrs ∷ []) zgroup (Contains-first zgroup (zattrs ∷ [])))

  -- `.zattrs` is one of the files
  fourth : Contains document_files zattrs
  fourth = Contains-cons zarr_json (zarray ∷ zgroup ∷ zattrs ∷ []) zattrs
      (Contains-cons zarray (zgroup ∷ zattrs ∷ []) zattrs (Contains-cons zgroup (zattrs ∷ []) zattrs (Contains-first zattrs [])))

  -- the lines say the same
  json_same : (after : Meaning) → zarr_json_line (in_bytes T.numbers) T.values q after ≡ zarr_json_line (in_bytes S.numbers) S.values q after
  unfolding zarr_json_line
  json_same after = λ i. version_3_line (document_same (of_bytes (zarr_json_in (alike i))) zarr_json first i) after

  -- the line of `.zarray` says the same
  array_same : (after : Meaning) → zarray_line (in_bytes T.numbers) T.values q after ≡ zarray_line (in_bytes S.numbers) S.values q after
  unfolding zarray_line
  array_same after = (λ i. version_2_line (λ m. Array (array_v2 m)) array_with (document_same (of_bytes (array_v2_in (alike i))) zarray second i) (document_same (of_bytes (attributes_document_in (alike i))) zattrs fourth i) after)

  -- the line of `.zgroup` says the same
  group_same : (after : Meaning) → zgroup_line (in_bytes T.numbers) T.values q after ≡ zgroup_line (in_bytes S.numbers) S.values q after
  unfolding zgroup_line
  group_same after = (λ i. version_2_line (λ m. Group (group_v2 m)) group_with (document_same (of_bytes (group_v2_in (alike i))) zgroup third i) (document_same (of_bytes (attributes_document_in (alike i))) zattrs fourth i) after)

  -- so does the path
  pub meaning_same : (v : MetadataRetrieveVersion) → meaning T v q ≡ meaning S v q
  meaning_same Default =
      default_is T q ∙ json_same (zarray_line (in_bytes T.numbers) T.values q (zgroup_line (in_bytes T.numbers) T.values q nothing))
      ∙ ap (zarr_json_line (in_bytes S.numbers) S.values q) (array_same (zgroup_line (in_bytes T.numbers) T.values q nothing) ∙ ap (zarray_line (in_bytes S.numbers) S.values q) (group_same nothing)) ∙ sym (default_is S q)
  meaning_same V3 = v3_is T q ∙ json_same nothing ∙ sym (v3_is S q)
  meaning_same V2 = v2_is T q ∙ array_same (zgroup_line (in_bytes T.numbers) T.values q nothing) ∙ ap (zarray_line (in_bytes S.numbers) S.values q) (group_same nothing) ∙ sym (v2_is S q)

-- stores that agree outside the documents of a path mean the same at each other path
pub elsewhere_same : (S T : Contents) (v : MetadataRetrieveVersion) (p : Path) → AgreesOutside p S T → (q : Path) → q ≢ p → meaning T v q ≡ meaning S v q
elsewhere_same S T v p agrees q other = meaning_same S T q agrees.0 (λ file in'. agrees.1 (q ++ file ∷ []) (λ d. other (same_from_push q p file d.0 d.2).0)) v

-- ---- texts about a path

-- a text with a slash is not that of names behind a slash
pub bare_text : (ns : Path) (u : List ℕ) → IsPath ns → key_text ns ≡ 47 ∷ u → ⊥
bare_text ns u valid e =
    let long = ap length (sym (ap without_leading_slash e) ∙ text_bare ns valid ∙ e) in
    omega (arith, long)

-- names whose text begins with that of others and a slash begin with these
begins_with : (xs ns : Path) (x n : List ℕ) (rest : List ℕ) → IsPath (x ∷ xs) → IsPath (n ∷ ns) → key_text (n ∷ ns) ≡ key_text (x ∷ xs) ++ 47 ∷ rest
    → (k : List ℕ) × (ks : Path) × (n ∷ ns ≡ (x ∷ xs) ++ k ∷ ks)
begins_with xs ns x n rest one two e =
    let cut : n ∷ ns ≡ (x ∷ xs) ++ slice_split is_slash rest =
    sym (parts-join (n ∷ ns) (λ z. cc) (segments_clean (n ∷ ns) (segments_from_names (n ∷ ns) two))) ∙ ap (slice_split is_slash) e ∙ parts-append (key_text (x ∷ xs)) rest
    ∙ ap (λ l. l ++ slice_split is_slash rest) (parts-join (x ∷ xs) (λ z. cc) (segments_clean (x ∷ xs) (segments_from_names (x ∷ xs) one))) in
    by (slice_split is_slash rest) (parts_some rest) cut
  where
    by : (ps : List (List ℕ)) → ps ≢ [] → n ∷ ns ≡ (x ∷ xs) ++ ps → (k : List ℕ) × (ks : Path) × (n ∷ ns ≡ (x ∷ xs) ++ k ∷ ks)
    by [] some is = absurd (some refl)
    by (k ∷ ks) some is = (k, ks, is)

-- a path whose text is about p is p or stands below it
pub about_from : (b p q : Path) (n : List ℕ) (ns : Path) → IsBelow b p → IsPath p → q ≡ b ++ n ∷ ns → IsPath (n ∷ ns) → IsAbout (text_beyond b p) (key_text (n ∷ ns)) → AtOrBelow p q
about_from b p q n ns (x, xs, low) valid is names about = ⊎_elim
    (λ at. ⊎_elim
    (λ same. inl (is ∙ ap (λ l. b ++ l) (one_text (n ∷ ns) (x ∷ xs) names own (same ∙ text)) ∙ sym low))
    (λ deep.
    let w = begins_with xs ns x n deep.0 own names (deep.1 ∙ ap (λ t. t ++ 47 ∷ deep.0) text) in
    inr (w.0, w.1, is ∙ ap (λ l. b ++ l) w.2 ∙ sym (append_assoc b (x ∷ xs) (w.0 ∷ w.1)) ∙ ap (λ l. l ++ w.0 ∷ w.1) (sym low)))
    at)
    (λ rooted. absurd (bare_text (n ∷ ns) rooted.0 names rooted.1))
    about
  where
    text : text_beyond b p ≡ key_text (x ∷ xs)
    text = text_is b p x xs low

    own : IsPath (x ∷ xs)
    own = names_beyond b p x xs low valid

-- ---- one change

-- what is neither p nor below it is kept alike
module _ (from to : Path → Meaning) (b p : Path) (same : (q : Path) → q ≢ p → to q ≡ from q) where
  -- a group elsewhere
  pub group_elsewhere : (r : Path) → r ≢ p → HasGroup (Means from) r → HasGroup (Means to) r
  group_elsewhere r other g = (g.0, same r other ∙ g.1, g.2)

  -- what is reached elsewhere
  pub reached_elsewhere : (q : Path) → (AtOrBelow p q → ⊥) → Reached (Means from) true b q → Reached (Means to) true b q
  reached_elsewhere q far h = record {
    below = h.below;
    between = λ r low up. (refl, group_elsewhere r (λ is. far (inr (subst (λ x. IsBelow x q) is up))) (h.between r low up).1);
  }

  -- a pair that is kept elsewhere stays kept
  kept_elsewhere : (e : Path × NodeMetadata) → (AtOrBelow p e.0 → ⊥) → Kept (Means from) true b e → Kept (Means to) true b e
  kept_elsewhere e far h = (reached_elsewhere e.0 far h.0, same e.0 (λ is. far (inl is)) ∙ h.1)

-- what is reached from what is reached is reached
pub reached_further : (N : Path × NodeMetadata → Type 0) (b p q : Path) → Reached N true b p → HasGroup N p → Reached N true p q → Reached N true b q
reached_further N b p q one group two = record {
  below = (one.below.0, one.below.1 ++ two.below.0 ∷ two.below.1, is, IsPath-append (one.below.0 ∷ one.below.1) (two.below.0 ∷ two.below.1) one.below.3 two.below.3);
  between = λ r low up. ⊎_elim
      (λ at. ⊎_elim (λ same. (refl, subst (HasGroup N) (sym same) group)) (λ deep. two.between r deep up) at)
      (λ above. one.between r low above)
      (beginnings p r q (two.below.0, two.below.1, two.below.2) up);
}
  where
    is : q ≡ b ++ one.below.0 ∷ (one.below.1 ++ two.below.0 ∷ two.below.1)
    is = two.below.2 ∙ ap (λ x. x ++ two.below.0 ∷ two.below.1) one.below.2 ∙ append_assoc b (one.below.0 ∷ one.below.1) (two.below.0 ∷ two.below.1)

-- and what is reached beyond a path is reached from it
pub reached_from : (N : Path × NodeMetadata → Type 0) (b p q : Path) → Reached N true b q → IsBelow b p → (deep : IsBelow p q) → IsPath (deep.0 ∷ deep.1) → Reached N true p q
reached_from N b p q h low deep names = record {
  below = (deep.0, deep.1, deep.2, names);
  between = λ r in' up. h.between r (below_below b p r low in') up;
}

module _ (from to : Path → Meaning) (b p : Path) (low : IsBelow b p) (valid : IsPath p) (same : (q : Path) → q ≢ p → to q ≡ from q)
    (B C : Block) (is : IsBlockOf (Kept (Means from) true b) b B) (fresh : IsFresh to b B p C) where
  -- the entries of the block are what was kept
  entries_kept : (e : Path × NodeMetadata) → Entries B b e ↔ Kept (Means from) true b e
  entries_kept = entries_are (Kept (Means from) true b) b B (λ e h. h.0.below) is

  -- a path above p is neither p nor below it
  above_far : (r : Path) → IsBelow r p → AtOrBelow p r → ⊥
  above_far r up at = ⊎_elim (λ eq. not_below_itself p (subst (λ x. IsBelow x p) eq up)) (λ deep. not_below_itself p (below_below p r p deep up)) at

  -- where the block leads to p it is reached
  led_reached : LeadsTo B b p → Reached (Means to) true b p
  led_reached led = record {
    below = led.below;
    between = λ r in' up.
        let g = (led.between r in' up).1 in
        let old = (entries_kept (r, g.0)).0 g.1 in
        (refl, (g.0, same r (λ eq. above_far r up (inl eq)) ∙ old.1, g.2));
  }

  -- where p is reached, or something below it, the block leads to p
  pub reached_led : (q : Path) → AtOrBelow p q → Reached (Means to) true b q → LeadsTo B b p
  reached_led q at h = record {
    below = (low.0, low.1, low.2, names_beyond b p low.0 low.1 low.2 valid);
    between = λ r in' up.
        let deeper : IsBelow r q = ⊎_elim (λ eq. subst (IsBelow r) (sym eq) up) (λ deep. below_below r p q up deep) at in
        let g = (h.between r in' deeper).1 in
        let kept : Kept (Means to) true b (r, g.0) = (reached_between (Means to) true b q h r in' deeper, g.1) in
        (refl, (g.0, (entries_kept (r, g.0)).1 (kept_elsewhere to from b p (λ x other. sym (same x other)) (r, g.0) (above_far r up) kept), g.2));
  }

  -- the names beyond p of a path that is reached
  pub deep_names : (q : Path) → Reached (Means to) true b q → (deep : IsBelow p q) → IsPath (deep.0 ∷ deep.1)
  deep_names q h deep =
      let cut : h.below.0 ∷ h.below.1 ≡ (low.0 ∷ low.1) ++ deep.0 ∷ deep.1 =
      append_cancel_left b (h.below.0 ∷ h.below.1) ((low.0 ∷ low.1) ++ deep.0 ∷ deep.1)
      (sym h.below.2 ∙ deep.2 ∙ ap (λ x. x ++ deep.0 ∷ deep.1) low.2 ∙ append_assoc b (low.0 ∷ low.1) (deep.0 ∷ deep.1)) in
      (IsPath-parts (low.0 ∷ low.1) (deep.0 ∷ deep.1) (subst IsPath cut h.below.3)).1

  -- what is renewed is kept
  renewed_kept : LeadsTo B b p → (e : Path × NodeMetadata) → IsNewPair to p e → Kept (Means to) true b e
  renewed_kept led e new = (
    ⊎_elim (λ eq. subst (Reached (Means to) true b) (sym eq) (led_reached led)) (λ w. reached_further (Means to) b p e.0 (led_reached led) w.0 w.1) new.1,
    new.0,
  )

  -- and what is kept at p or below it is renewed
  kept_renewed : (e : Path × NodeMetadata) → AtOrBelow p e.0 → Kept (Means to) true b e → IsNewPair to p e
  kept_renewed e at h = (
    h.1,
    ⊎_elim inl (λ deep. inr ((h.0.between p low deep).1, reached_from (Means to) b p e.0 h.0 low deep (deep_names e.0 h.0 deep))) at,
  )

  -- the fresh block is the block of what the paths mean now
  pub fresh_block : IsBlockOf (Kept (Means to) true b) b C
  fresh_block t m = (
    λ h. ⊎_elim
        (λ old.
        let w = (is t m).0 old.1 in
        let far : AtOrBelow p (b ++ w.0 ∷ w.1) → ⊥ = λ at. old.0 (subst (IsAbout (text_beyond b p)) (sym w.2) (about_of b p (b ++ w.0 ∷ w.1) w.0 w.1 low refl at)) in
        (w.0, w.1, w.2, kept_elsewhere from to b p same (b ++ w.0 ∷ w.1, m) far w.3))
        (λ new. (new.1.0, new.1.1, new.1.2, renewed_kept new.0 (b ++ new.1.0 ∷ new.1.1, m) new.1.3))
        ((fresh t m).0 h),
    λ w. ⊎_elim
        (λ at. (fresh t m).1 (inr (reached_led (b ++ w.0 ∷ w.1) at w.3.0, (w.0, w.1, w.2, kept_renewed (b ++ w.0 ∷ w.1, m) at w.3))))
        (λ far. (fresh t m).1 (inl (
          λ about. far (about_from b p (b ++ w.0 ∷ w.1) w.0 w.1 low valid refl (own w) (subst (IsAbout (text_beyond b p)) w.2 about)),
          (is t m).1 (w.0, w.1, w.2, kept_elsewhere to from b p (λ x other. sym (same x other)) (b ++ w.0 ∷ w.1, m) far w.3),
        )))
        (decided p (b ++ w.0 ∷ w.1)),
  )
    where
      own : (w : (n : List ℕ) × (ns : Path) × (t ≡ key_text (n ∷ ns)) × Kept (Means to) true b (b ++ n ∷ ns, m)) → IsPath (w.0 ∷ w.1)
      own w = let v = w.3.0.below in subst IsPath (sym (append_cancel_left b (w.0 ∷ w.1) (v.0 ∷ v.1) v.2)) v.3

-- where the documents of one path changed, the block made current there is the block of the store
pub fresh_is_block : FreshIsBlock
fresh_is_block S T v b p B C valid low agrees is fresh = fresh_block (meaning S v) (meaning T v) b p low valid (elsewhere_same S T v p agrees) B C is fresh

-- ---- changes one after another

-- the block made current after each of them is the block of the last store
pub refreshed_is_block : RefreshedIsBlock
refreshed_is_block S v b [] B C changes is h = subst (IsBlockOf (Nodes S v true b) b) h is
refreshed_is_block S v b (c ∷ cs) B C changes is h =
    refreshed_is_block c.0 v b cs h.0 C changes.3 (fresh_is_block S c.0 v b c.1 B h.0 changes.0 changes.1 changes.2 is h.1) h.2

-- ---- blocks with the same entries

-- the block of the pairs of a forest that shows nodes is the block of these
shown_block : (N : Path × NodeMetadata → Type 0) (b : Path) (f : Forest) (B : Block) → Shows f b N → IsBlockOf (Contains (pairs f)) b B → IsBlockOf N b B
shown_block N b f B shows is t m = (
  λ h. let w = (is t m).0 h in (w.0, w.1, w.2, (listed_each shows.shown (b ++ w.0 ∷ w.1, m)).0 w.3),
  λ w. (is t m).1 (w.0, w.1, w.2, (listed_each shows.shown (b ++ w.0 ∷ w.1, m)).1 w.3),
)

-- the block of the first store, made current after each change, is that of the last store opened anew
pub refreshed_is_opened : RefreshedIsOpened
refreshed_is_opened S v b cs g h e f B C D changes first one refreshed up last two high =
    let old = shown_block (Nodes S v true b) b e B first (one first.placed) in
    let new = shown_block (Nodes (last_of S cs) v true b) b f D last (two last.placed) in
    let current = refreshed_is_block S v b cs B C changes old refreshed in
    one_block C D up high (λ t m. (λ x. (new t m).1 ((current t m).0 x), λ x. (current t m).1 ((new t m).0 x)))
