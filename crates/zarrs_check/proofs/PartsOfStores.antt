-- What a store has from a path on: the base, and what a walk found below it.
use Rattle.std.proofs.Common.{◌≡◌, ℕ, length, ◌↔◌, inl, inr, ⊎_elim, Bool, true, false, true≢false, if◌then◌else◌, List, [], ◌∷◌, ◌++◌, refl, sym, ap, subst, ◌∙◌, arith, Contains, Less}
use Rattle.std.specs.Bool.{◌==◌}
use Rattle.std.proofs.lemmas.List.Elements.{Contains-append_left, Contains-append_right, Contains-append_cases}
use Rattle.zarrs_store.specs.Contents.{Contents, Lists}
use Rattle.zarrs_path.specs.Paths.{Path, path_cmp, IsBelow}
use Rattle.zarrs_config.specs.declared.version.MetadataRetrieveVersion.{MetadataRetrieveVersion}
use Rattle.zarrs_meta.specs.declared.node.NodeMetadata.TheVariants.{Group, Array}
use Rattle.zarrs_meaning.specs.Meaning.{Meaning, meaning, node, nothing, bad}
use Rattle.zarrs_meaning.specs.Refusals.{IsMissing}
use Rattle.zarrs_meaning.specs.declared.node_create_error.NodeCreateError.{NodeCreateError}
use Rattle.zarrs_meaning.specs.declared.node_create_error.NodeCreateError.TheVariants.{NodePathError, StorePrefixError, StorageError, MetadataVersionMismatch, MissingMetadata, OutOfMemory}
use Rattle.zarrs_node.specs.Nodes.{Nodes}
use Rattle.zarrs_node.specs.Order.{Ascend}
use Rattle.zarrs_node.proofs.walk.BadDocuments.{IsOfDocument, bad_by_document}
use Rattle.zarrs_node.proofs.walk.Child.{node_same}
use Rattle.zarrs_node.proofs.ListedItems.{all_pairs_append, listed_each}
use Rattle.zarrs_node.proofs.ForestsBeside.{Contains-first}
use Rattle.zarrs_node.proofs.KeptOfLists.{below_later, not_below_itself}
use Rattle.zarrs_node.proofs.Order.{contains_cases}
use Rattle.zarrs_check.specs.declared.base.Base.{Base}
use Rattle.zarrs_check.specs.declared.base.Base.TheVariants.{Node, Refused}
use Rattle.zarrs_check.specs.BlocksAbove.{HasNodeFrom, MeansNoArray}
use Rattle.zarrs_check.specs.Findings.{IsAtOrAbove}
use Rattle.zarrs_meaning.specs.Meaning.{Pair}
use Rattle.zarrs_check.specs.StepsOfBlocksAbove.{IsPartOf, bad_base, is_array_base, is_missing}
use Rattle.zarrs_check.specs.StepsOfChecks.{HasBad}
use Rattle.zarrs_check.specs.StepsOfTaking.{base_nodes}
use Rattle.zarrs_check.specs.Surveys.{BadDocuments, IsBase}
use Rattle.zarrs_check.specs.declared.blocks_above.PartOfStore.{PartOfStore}
use Rattle.zarrs_check.proofs.Above.{above_up}
use Rattle.zarrs_check.proofs.TakenNodes.{IsNode, base_in, base_out, base_path, one_base}

-- a path with its bad document
abbrev PathError : Type 0
PathError = Path × NodeCreateError

-- ---- the error of a base

-- an error that says that there are no metadata does so
missing_is : (b : Path) (e : NodeCreateError) → IsMissing b e → is_missing e ≡ true
missing_is b (MissingMetadata text) h = refl
missing_is b (StorageError e) h = absurd h
missing_is b MetadataVersionMismatch h = absurd h
missing_is b (NodePathError e) h = absurd h
missing_is b (StorePrefixError e) h = absurd h
missing_is b OutOfMemory h = absurd h

-- the error of a document does not
document_is : (e : NodeCreateError) → IsOfDocument e → is_missing e ≡ false
document_is (MissingMetadata text) h = absurd h
document_is (StorageError e) h = refl
document_is MetadataVersionMismatch h = refl
document_is (NodePathError e) h = refl
document_is (StorePrefixError e) h = refl
document_is OutOfMemory h = refl

-- the error of a meaning
abbrev error_or : NodeCreateError → Meaning → NodeCreateError
error_or d (bad e) = e
error_or d nothing = d
error_or d (node m) = d

-- what a meaning is, a bad document
abbrev IsBadMeaning : Meaning → Type 0
IsBadMeaning (bad e) = Unit {0}
IsBadMeaning nothing = ⊥
IsBadMeaning (node m) = ⊥

-- what is empty has no length
pub empty_or_not : {A : Type 0} (xs : List A) (n : ℕ) → n ≡ length xs → xs ≡ [] → false ≡ (n == 0) → ⊥
empty_or_not xs n is none some = true≢false (sym (subst (λ k. false ≡ (k == 0)) (is ∙ ap length none) some))

module _ (s : Contents) (v : MetadataRetrieveVersion) (b : Path) where
  -- the error that is kept is that of a bad document
  bad_out : (r : Base) → IsBase s v b r → (d : PathError) → Contains (bad_base b r) d → (d.0 ≡ b) × (meaning s v b ≡ bad d.1)
  bad_out (Node m) is d in' = absurd (omega (arith, in'.1))
  bad_out (Refused e) is d in' = by (is_missing e) refl in'
    where
      by : (t : Bool) → is_missing e ≡ t → Contains (if t then [] else (b, e) ∷ []) d → (d.0 ≡ b) × (meaning s v b ≡ bad d.1)
      by true missing none = absurd (omega (arith, none.1))
      by false other one = ⊎_elim
          (λ same. (
            sym (ap (λ (x : PathError). x.0) same),
            ⊎_elim (λ w. absurd (true≢false (sym (missing_is b e w.1) ∙ other))) (λ w. w) is ∙ ap (λ (x : PathError). bad x.1) same,
          ))
          (λ none. absurd (omega (arith, none.1)))
          (contains_cases (b, e) [] d one)

  -- and of a bad document it is kept
  bad_in : (r : Base) → IsBase s v b r → (e : NodeCreateError) → meaning s v b ≡ bad e → Contains (bad_base b r) (b, e)
  bad_in (Node m) is e means = absurd (subst IsNode (sym is ∙ means) tt)
  bad_in (Refused k) is e means = ⊎_elim
      (λ w. absurd (subst IsBadMeaning (sym means ∙ w.0) tt))
      (λ w.
      let same : k ≡ e = ap (error_or k) (sym w ∙ means) in
      let other : is_missing k ≡ false = document_is k (bad_by_document s v b k w) in
      subst (λ t. Contains {X = PathError} (if t then [] else (b, k) ∷ []) (b, e)) (sym other) (subst (λ x. Contains {X = PathError} ((b, k) ∷ []) (b, x)) same (Contains-first (b, k) [])))
      is

  -- a base that is an array means one
  array_means : (r : Base) → IsBase s v b r → is_array_base r ≡ true → MeansNoArray s v b → ⊥
  array_means (Node (Array a)) is array none = none a is
  array_means (Node (Group g)) is array none = absurd (true≢false (sym array))
  array_means (Refused e) is array none = absurd (true≢false (sym array))

  -- one that is none means none
  means_no_array : (r : Base) → IsBase s v b r → is_array_base r ≡ false → MeansNoArray s v b
  means_no_array (Node m) is other a means = absurd (true≢false (subst (λ x. is_array_base (Node x) ≡ false) (node_same m (Array a) (sym is ∙ means)) other))
  means_no_array (Refused e) is other a means = absurd (⊎_elim (λ w. subst IsNode (sym means ∙ w.0) tt) (λ w. subst IsNode (sym means ∙ w) tt) is)

  -- a node below is not the path itself
  not_itself : (e : Pair) → Nodes s v true b e → e.0 ≡ b → ⊥
  not_itself e low at = let under = low.0.below in not_below_itself b (subst (IsBelow b) at (under.0, under.1, under.2))

  -- of an array there is it alone
  pub part_of_array : (r : Base) (part : PartOfStore) → IsBase s v b r → is_array_base r ≡ true → part.nodes.items ≡ base_nodes b r → part.bad ≡ bad_base b r → IsPartOf s v b part
  part_of_array r part is array nodes bads = record {
    nodes = λ e. (
      λ in'. let w = base_out s v b r is e (subst (λ xs. Contains xs e) nodes in') in (inl w, inl w.0),
      λ w. ⊎_elim
          (λ at. subst (λ xs. Contains xs e) (sym nodes) (⊎_elim (base_in s v b r is e) (λ low. absurd (not_itself e low at)) w.0))
          (λ none. absurd (array_means r is array none))
          w.1,
    );
    ascend = subst Ascend (sym nodes) (one_base b r);
    spoilt = λ p. (
      λ w.
          let x = bad_out r is (w.0, w.1.0) (subst (λ ds. Contains ds (w.0, w.1.0)) bads w.1.1) in
          (w.0, inl (x.0, (w.1.0, x.1)), w.2),
      λ w. ⊎_elim
          (λ x. (b, (x.1.0, subst (λ ds. Contains ds (b, x.1.0)) (sym bads) (bad_in r is x.1.0 x.1.1)), subst (λ q. IsAtOrAbove q p) x.0 w.2))
          (λ x. absurd (array_means r is array x.0))
          w.1,
    );
  }

  module _ (r : Base) (is : IsBase s v b r) (other : is_array_base r ≡ false) (below : List Pair) (listed : Lists (Nodes s v true b) below) (up : Ascend below) where
    -- of another path there are the nodes below it too
    walked_nodes : (e : Pair) → Contains (base_nodes b r ++ below) e ↔ HasNodeFrom s v b e
    walked_nodes e = (
      λ in'. (
        ⊎_elim
            (λ one. inl (base_out s v b r is e one))
            (λ low. inr ((listed_each listed e).0 low))
            (Contains-append_cases (base_nodes b r) below e in'),
        inr (means_no_array r is other),
      ),
      λ w. ⊎_elim
          (λ at. Contains-append_left (base_nodes b r) below e (base_in s v b r is e at))
          (λ low. Contains-append_right (base_nodes b r) below e ((listed_each listed e).1 low))
          w.0,
    )

    -- in the order of paths
    walked_ascend : Ascend (base_nodes b r ++ below)
    walked_ascend = all_pairs_append (λ (d x : Pair). path_cmp d.0 x.0 ≡ Less) (base_nodes b r) below (one_base b r) up
        (λ x y one low.
        let under = ((listed_each listed y).0 low).0.below in
        subst (λ q. path_cmp q y.0 ≡ Less) (base_path b r x one).0 (below_later b y.0 (under.0, under.1, under.2)))

    -- where the path is bad, it is the only bad one
    pub part_of_bad : (part : PartOfStore) → part.nodes.items ≡ base_nodes b r ++ below → part.bad ≡ bad_base b r → (bad_base b r ≡ [] → ⊥) → IsPartOf s v b part
    part_of_bad part nodes bads some = record {
      nodes = λ e. subst (λ xs. Contains xs e ↔ HasNodeFrom s v b e) (sym nodes) (walked_nodes e);
      ascend = subst Ascend (sym nodes) walked_ascend;
      spoilt = λ p. (
        λ w.
            let x = bad_out r is (w.0, w.1.0) (subst (λ ds. Contains ds (w.0, w.1.0)) bads w.1.1) in
            (w.0, inl (x.0, (w.1.0, x.1)), w.2),
        λ w.
            let k = first (bad_base b r) refl some in
            let has : HasBad part.bad b = (k.0, subst (λ ds. Contains ds (b, k.0)) (sym bads) k.1) in
            ⊎_elim
            (λ x. (b, has, subst (λ q. IsAtOrAbove q p) x.0 w.2))
            (λ x. let under = x.1.1.0.below in (b, has, above_up b w.0 p (under.0, under.1, under.2) w.2))
            w.1,
      );
    }
      where
        -- some error is kept
        first : (ds : List PathError) → bad_base b r ≡ ds → (ds ≡ [] → ⊥) → (e : NodeCreateError) × Contains (bad_base b r) (b, e)
        first [] same not = absurd (not refl)
        first (d ∷ ds) same not =
            let in' : Contains (bad_base b r) d = subst (λ xs. Contains xs d) (sym same) (Contains-first d ds) in
            (d.1, subst (λ q. Contains (bad_base b r) (q, d.1)) (bad_out r is d in').0 in')

    -- and else there are the bad ones below it
    pub part_of_walk : (part : PartOfStore) → part.nodes.items ≡ base_nodes b r ++ below → Lists (BadDocuments s v b) part.bad → bad_base b r ≡ [] → IsPartOf s v b part
    part_of_walk part nodes bads none = record {
      nodes = λ e. subst (λ xs. Contains xs e ↔ HasNodeFrom s v b e) (sym nodes) (walked_nodes e);
      ascend = subst Ascend (sym nodes) walked_ascend;
      spoilt = λ p. (
        λ w. (w.0, inr (means_no_array r is other, (w.1.0, (listed_each bads (w.0, w.1.0)).0 w.1.1)), w.2),
        λ w. ⊎_elim
            (λ x. let in' : Contains [] (b, x.1.0) = subst (λ ds. Contains ds (b, x.1.0)) none (bad_in r is x.1.0 x.1.1) in absurd (omega (arith, in'.1)))
            (λ x. (w.0, (x.1.0, (listed_each bads (w.0, x.1.0)).1 x.1.1), w.2))
            w.1,
      );
    }
