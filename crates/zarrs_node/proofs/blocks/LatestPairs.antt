-- The block of pairs that were put into it one after another: of two with one path the later stays.
use Rattle.std.proofs.Common.{◌≡◌, ◌≢◌, ℕ, ⊎_elim, Bool, true, false, cond, List, [], ◌∷◌, ◌++◌, get_or, refl, sym, ap, subst, ◌∙◌, append_assoc, append-nil, Some, unwrap_or, Contains, AllPairs, is_eq, true≢false}
use Rattle.std.proofs.lemmas.List.Elements.{Contains-append_left, Contains-append_right}
use Rattle.zarrs_store.specs.Segments.{bytes_cmp, key_text}
use Rattle.zarrs_path.specs.Paths.{Path, IsPath, path_cmp, path_eq}
use Rattle.zarrs_path.specs.PathOrder.{path_decides}
use Rattle.zarrs_meta.specs.declared.node.NodeMetadata.{NodeMetadata}
use Rattle.zarrs_block.specs.Block.{Block, IsBlockOf, node_at_key}
use Rattle.zarrs_node.specs.Forest.{Forest, pairs, IsPlaced}
use Rattle.zarrs_node.specs.LastOfEqualPaths.{IsLatest}
use Rattle.zarrs_node.specs.BlocksOfNodes.{text_beyond}
use Rattle.zarrs_node.specs.StepsOfBlocks.{put_all}
use Rattle.zarrs_node.specs.Inverse.{HasNames}
use Rattle.zarrs_node.proofs.ForestsBeside.{Contains-first}
use Rattle.zarrs_node.proofs.Order.{pairs_ascend}
use Rattle.zarrs_node.proofs.Unique.{lt_irrefl}
use Rattle.zarrs_node.proofs.blocks.Latest.{latest_last, latest_keep, latest_push, latest_in, own_latest, no_push}
use Rattle.zarrs_block.proofs.CutOut.{none_some}
use Rattle.zarrs_block.proofs.Expansion.{at_itself, same_text}
use Rattle.zarrs_node.proofs.blocks.PairsInBlocks.{found_put, put_all-append}
use Rattle.zarrs_block.proofs.KeyLaws.{one_text}
use Rattle.zarrs_node.proofs.blocks.BlockTexts.{text_is}

module _ (b : Path) where
  -- the pairs done, and one more
  module _ (done : List (Path × NodeMetadata)) (e : Path × NodeMetadata) (names : HasNames b (done ++ e ∷ [])) (is : IsBlockOf (IsLatest done) b (put_all b [] done)) where
    own : (n : List ℕ) × (ns : Path) × (e.0 ≡ b ++ n ∷ ns) × IsPath (n ∷ ns)
    own = names e (Contains-append_right done (e ∷ []) e (Contains-first e []))

    -- what the block has at a text with one pair more
    more : (t : List ℕ) → node_at_key (put_all b [] (done ++ e ∷ [])) t ≡ cond (is_eq (bytes_cmp t (text_beyond b e.0))) (Some e.1) (node_at_key (put_all b [] done) t)
    more t = ap (λ B. node_at_key B t) (put_all-append b [] done (e ∷ [])) ∙ found_put t (text_beyond b e.0) e.1 (put_all b [] done)

    -- a pair with the path of e is at the text of e
    at_own : (n : List ℕ) (ns : Path) (t : List ℕ) → e.0 ≡ b ++ n ∷ ns → t ≡ key_text (n ∷ ns) → is_eq (bytes_cmp t (text_beyond b e.0)) ≡ true
    at_own n ns t path text = ap (λ s. is_eq (bytes_cmp t s)) (text_is b e.0 n ns path ∙ sym text) ∙ at_itself t

    taken : (t : List ℕ) (m : NodeMetadata) → node_at_key (put_all b [] (done ++ e ∷ [])) t ≡ Some m
        → (n : List ℕ) × (ns : Path) × (t ≡ key_text (n ∷ ns)) × IsLatest (done ++ e ∷ []) (b ++ n ∷ ns, m)
    taken t m h = elim (is_eq (bytes_cmp t (text_beyond b e.0))) as (λ x. is_eq (bytes_cmp t (text_beyond b e.0)) ≡ x → cond x (Some e.1) (node_at_key (put_all b [] done) t) ≡ Some m
        → (n : List ℕ) × (ns : Path) × (t ≡ key_text (n ∷ ns)) × IsLatest (done ++ e ∷ []) (b ++ n ∷ ns, m)) [
          | true ↦ λ at g.
              let value : e.1 ≡ m = ap (λ o. unwrap_or o e.1) g in
              (own.0, own.1, same_text t (text_beyond b e.0) at ∙ text_is b e.0 own.0 own.1 own.2, subst (IsLatest (done ++ e ∷ [])) (λ i. (own.2 i, value i)) (latest_last done e))
          | false ↦ λ off g.
              let w = (is t m).0 g in
              let other : (x : Bool) → path_eq e.0 (b ++ w.0 ∷ w.1) ≡ x → x ≡ false = elim [
                | true ↦ λ same. absurd (true≢false (sym (at_own w.0 w.1 t ((path_decides e.0 (b ++ w.0 ∷ w.1)).0 same) w.2) ∙ off))
                | false ↦ λ same. refl
              ] in
              (w.0, w.1, w.2, latest_keep done e (b ++ w.0 ∷ w.1, m) (other (path_eq e.0 (b ++ w.0 ∷ w.1)) refl) w.3)
        ] refl (sym (more t) ∙ h)

    given : (t : List ℕ) (m : NodeMetadata) → (n : List ℕ) × (ns : Path) × (t ≡ key_text (n ∷ ns)) × IsLatest (done ++ e ∷ []) (b ++ n ∷ ns, m)
        → node_at_key (put_all b [] (done ++ e ∷ [])) t ≡ Some m
    given t m w = more t ∙ ⊎_elim
        (λ same. ap (λ x. cond x (Some e.1) (node_at_key (put_all b [] done) t)) (at_own w.0 w.1 t (ap (λ d. d.0) same) w.2) ∙ ap (λ d. Some d.1) same)
        (λ old.
        let v = names (b ++ w.0 ∷ w.1, m) (Contains-append_left done (e ∷ []) (b ++ w.0 ∷ w.1, m) (latest_in done (b ++ w.0 ∷ w.1, m) old.1)) in
        let off : (x : Bool) → is_eq (bytes_cmp t (text_beyond b e.0)) ≡ x → x ≡ false = elim [
          | true ↦ λ at.
              let texts : key_text (own.0 ∷ own.1) ≡ key_text (v.0 ∷ v.1) =
              sym (text_is b e.0 own.0 own.1 own.2) ∙ sym (same_text t (text_beyond b e.0) at) ∙ w.2 ∙ sym (text_is b (b ++ w.0 ∷ w.1) w.0 w.1 refl) ∙ text_is b (b ++ w.0 ∷ w.1) v.0 v.1 v.2 in
              let same : e.0 ≡ b ++ w.0 ∷ w.1 = own.2 ∙ ap (λ l. b ++ l) (one_text (own.0 ∷ own.1) (v.0 ∷ v.1) own.3 v.3 texts) ∙ sym v.2 in
              absurd (true≢false (sym ((path_decides e.0 (b ++ w.0 ∷ w.1)).1 same) ∙ old.0))
          | false ↦ λ at. refl
        ] in
        ap (λ x. cond x (Some e.1) (node_at_key (put_all b [] done) t)) (off (is_eq (bytes_cmp t (text_beyond b e.0))) refl) ∙ (is t m).1 (w.0, w.1, w.2, old.1))
        (latest_push done e (b ++ w.0 ∷ w.1, m) w.3)

    -- one pair more in the block
    pub one_more : IsBlockOf (IsLatest (done ++ e ∷ [])) b (put_all b [] (done ++ e ∷ []))
    one_more t m = (taken t m, given t m)

  -- the pairs done, and those that are left
  all_more : (done left : List (Path × NodeMetadata)) → HasNames b (done ++ left) → IsBlockOf (IsLatest done) b (put_all b [] done) → IsBlockOf (IsLatest (done ++ left)) b (put_all b [] (done ++ left))
  all_more done [] names is = subst (λ l. IsBlockOf (IsLatest l) b (put_all b [] l)) (sym (append-nil done)) is
  all_more done (e ∷ left) names is =
      let all : HasNames b ((done ++ e ∷ []) ++ left) = subst (HasNames b) (sym (append_assoc done (e ∷ []) left)) names in
      subst (λ l. IsBlockOf (IsLatest l) b (put_all b [] l)) (append_assoc done (e ∷ []) left)
      (all_more (done ++ e ∷ []) left all (one_more done e (λ d h. all d (Contains-append_left (done ++ e ∷ []) left d h)) is))

  -- the block into which pairs were put holds those that are the last with their path
  pub latest_block : (es : List (Path × NodeMetadata)) (B : Block) → HasNames b es → B ≡ put_all b [] es → IsBlockOf (IsLatest es) b B
  latest_block es B names same =
      subst (IsBlockOf (IsLatest es) b) (sym same) (all_more [] es names (λ t m. (λ h. absurd (none_some m h), λ h. absurd (no_push h.3.0 (b ++ h.0 ∷ h.1, m) h.3.1))))

  -- the paths of a placed forest differ
  paths_apart : (f : Forest) → IsPlaced b f → AllPairs (λ d e. d.0 ≢ e.0) (pairs f)
  paths_apart f placed i j d l m same =
      lt_irrefl (get_or (pairs f) i d) (ap (path_cmp (get_or (pairs f) i d).0) same ∙ pairs_ascend b f placed i j d l m)

  -- of a placed forest it holds all pairs
  pub exact_block : (f : Forest) (B : Block) → IsPlaced b f → IsBlockOf (IsLatest (pairs f)) b B → IsBlockOf (Contains (pairs f)) b B
  exact_block f B placed is t m = (
    λ h. let w = (is t m).0 h in (w.0, w.1, w.2, latest_in (pairs f) (b ++ w.0 ∷ w.1, m) w.3),
    λ w. (is t m).1 (w.0, w.1, w.2, own_latest (pairs f) (paths_apart f placed) (b ++ w.0 ∷ w.1, m) w.3),
  )
