-- A hierarchy that is converted node by node, and its old documents erased.
use Rattle.std.proofs.Common.{◌≡◌, ◌≢◌, ◌<◌, ◌+◌, ◌↔◌, ⊎_elim, ℕ, suc, Bool, true, false, true≢false, List, [], ◌∷◌, ◌++◌, length, take, drop, get_or, arith, Option, Some, None, Result, Ok, Err, refl, sym, ap, subst, ◌∙◌, add-one, Contains}
use Rattle.std.specs.FinMap as map
use Rattle.std.specs.List.{insert}
use Rattle.std.specs.Global.{Vec}
use Rattle.std.specs.declared.cmp.Ordering.TheVariants.{Less}
use Rattle.std.proofs.Math.Seq.{take-suc, drop-cons}
use Rattle.std.proofs.lemmas.List.{take-append-drop}
use Rattle.std.proofs.lemmas.List.Elements.{Contains-append_left, Contains-append_right, Contains-push_cases}
use Rattle.zarrs_store.specs.Segments.{Segments}
use Rattle.zarrs_store.specs.Contents.{Contents, Lists, with_key, without_key}
use Rattle.zarrs_path.specs.Paths.{Path, path_cmp}
use Rattle.zarrs_meta.specs.NodeDocuments.{is_version_3, IsNotWritten}
use Rattle.zarrs_meta.specs.Node.{is_group, is_plain_node}
use Rattle.zarrs_meta.specs.declared.array_v3.ArrayMetadataV3.{ArrayMetadataV3}
use Rattle.zarrs_meta.specs.declared.node.ArrayMetadata.TheVariants as array
use Rattle.zarrs_meta.specs.declared.node.GroupMetadata.TheVariants as group
use Rattle.zarrs_meta.specs.declared.node.NodeMetadata.{NodeMetadata}
use Rattle.zarrs_meta.specs.declared.node.NodeMetadata.TheVariants as metadata
use Rattle.zarrs_config.specs.declared.version.MetadataRetrieveVersion.{MetadataRetrieveVersion}
use Rattle.zarrs_config.specs.declared.version.MetadataRetrieveVersion.TheVariants.{Default, V3}
use Rattle.zarrs_meaning.specs.Meaning.{meaning, node}
use Rattle.zarrs_convert.specs.Arrays.{array_v3}
use Rattle.zarrs_convert.specs.Refusals.{Refusal}
use Rattle.zarrs_node.specs.Nodes.{NodesFrom}
use Rattle.zarrs_examples.specs.MapsOfNodes.{AreDocumentsOf, BaseInFront, DocumentsAreShown, EarlierStandsBefore, ErasedAreAbsent, ErasedShowSame, StandsBeside, IsDocumentFor, IsToVersion3, KeysStandBeside, OthersAreKept, ShowsMapped, keys_beside, version_2_files, with_documents, without_keys}
use Rattle.zarrs_node.specs.Nodes.{HasNothingBad, Nodes}
use Rattle.zarrs_node.specs.Order.{Ascend}
use Rattle.zarrs_examples.specs.Conversions.{node_v3, made_array_of, KeepsOthers, NestsTooDeep, RefusesConverting, RefusesNodes}
use Rattle.zarrs_examples.specs.StepsOfConversions.{HasDocument, RefusesMetadataAt}
use Rattle.zarrs_examples.specs.declared.converter.ConvertError.{ConvertError}
use Rattle.zarrs_examples.specs.declared.converter.ConvertError.TheVariants.{Node, Array, Depth, Fraction, Storage, OutOfMemory}

-- ---- lists, item by item

module _ {A : Type 0} (xs : List A) (i : ℕ) (x : A) (here : x ≡ get_or xs i x) (within : i < length xs) where
  -- one more of the first items
  pub next : take (i + 1) xs ≡ take i xs ++ x ∷ []
  next = ap (λ n. take n xs) (add-one i) ∙ take-suc xs i x within ∙ ap (λ y. take i xs ++ y ∷ []) (sym here)

  -- the first items, the next, and the rest
  pub split : xs ≡ take i xs ++ x ∷ drop (suc i) xs
  split = sym (take-append-drop i xs) ∙ ap (λ ys. take i xs ++ ys) (drop-cons xs i x within ∙ ap (λ y. y ∷ drop (suc i) xs) (sym here))

-- one of the first items is an item
pub of_first : {A : Type 0} (xs : List A) (i : ℕ) (x : A) → Contains (take i xs) x → Contains xs x
of_first xs i x h = subst (λ l. Contains l x) (take-append-drop i xs) (Contains-append_left (take i xs) (drop i xs) x h)

-- the last item is an item
last : {A : Type 0} (xs : List A) (x : A) → Contains (xs ++ x ∷ []) x
last xs x = Contains-append_right xs (x ∷ []) x (0, omega arith, refl)

-- ---- documents set and keys erased, one after another

-- a store that has what another has with these bytes at a key, and the numbers of it, is that store with these bytes
pub inserted_is : (S T : Contents) (key : Segments) (bytes : List ℕ) → T.values ≡ map.insert S.values key bytes → T.numbers ≡ S.numbers → T ≡ with_key S key bytes
inserted_is S T key bytes values numbers = λ i. record { values = values i; numbers = numbers i }

-- a store that has what another has without a key, and the numbers of it, is that store without the key
pub removed_is : (S T : Contents) (key : Segments) → T.values ≡ map.remove S.values key → T.numbers ≡ S.numbers → T ≡ without_key S key
removed_is S T key values numbers = λ i. record { values = values i; numbers = numbers i }

-- setting documents does not change the numbers
numbers_set : (S : Contents) (ds : List (Segments × Vec ℕ)) → (with_documents S ds).numbers ≡ S.numbers
numbers_set S [] = refl
numbers_set S (d ∷ ds) = numbers_set (with_key S d.0 d.1.items) ds

-- nor does erasing keys
numbers_erased : (S : Contents) (ks : List Segments) → (without_keys S ks).numbers ≡ S.numbers
numbers_erased S [] = refl
numbers_erased S (k ∷ ks) = numbers_erased (without_key S k) ks

module _ (kept : OthersAreKept) (S T : Contents) (i : ℕ) where
  module _ (ds : List (Segments × Vec ℕ)) (done : T ≡ with_documents S (take i ds)) where
    -- the first documents are set, and the next
    pub set_more : (d : Segments × Vec ℕ) (v : List ℕ) → v ≡ d.1.items → d ≡ get_or ds i d → i < length ds → with_key T d.0 v ≡ with_documents S (take (i + 1) ds)
    set_more d v is here within = ap (with_key T d.0) is ∙ ap (λ s. with_key s d.0 d.1.items) done ∙ push S (take i ds) ∙ ap (with_documents S) (sym (next ds i d here within))
      where
        push : (R : Contents) (es : List (Segments × Vec ℕ)) → with_key (with_documents R es) d.0 d.1.items ≡ with_documents R (es ++ d ∷ [])
        push R [] = refl
        push R (e ∷ es) = push (with_key R e.0 e.1.items) es

    -- at other keys stands what stood there
    pub set_others : (key : Segments) → ((d : Segments × Vec ℕ) → Contains ds d → d.0 ≢ key) → map.get T.values key ≡ map.get S.values key
    set_others key far = ap (λ (s : Contents). map.get s.values key) done ∙ (kept S key).0 (take i ds) (λ d in'. far d (of_first ds i d in'))

    -- the numbers are as they were
    pub set_numbers : T.numbers ≡ S.numbers
    set_numbers = ap (λ (s : Contents). s.numbers) done ∙ numbers_set S (take i ds)

  module _ (ks : List Segments) (done : T ≡ without_keys S (take i ks)) where
    -- the first keys are erased, and the next
    pub erase_more : (k : Segments) → k ≡ get_or ks i k → i < length ks → without_key T k ≡ without_keys S (take (i + 1) ks)
    erase_more k here within = ap (λ s. without_key s k) done ∙ push S (take i ks) ∙ ap (without_keys S) (sym (next ks i k here within))
      where
        push : (R : Contents) (js : List Segments) → without_key (without_keys R js) k ≡ without_keys R (js ++ k ∷ [])
        push R [] = refl
        push R (j ∷ js) = push (without_key R j) js

    -- at other keys stands what stood there
    pub erase_others : (key : Segments) → (Contains ks key → ⊥) → map.get T.values key ≡ map.get S.values key
    erase_others key far = ap (λ (s : Contents). map.get s.values key) done ∙ (kept S key).1 (take i ks) (λ in'. far (of_first ks i key in'))

    -- the numbers are as they were
    pub erase_numbers : T.numbers ≡ S.numbers
    erase_numbers = ap (λ (s : Contents). s.numbers) done ∙ numbers_erased S (take i ks)

-- ---- metadata as version 3

-- what is made is of version 3, and an array
made_array_is : (r : Result ArrayMetadataV3 Refusal) (c : NodeMetadata) → made_array_of r ≡ Some c → (is_version_3 c ≡ true) × (is_group c ≡ false)
made_array_is (Ok a) c e = let same : metadata.Array (array.V3 a) ≡ c = cc in (ap is_version_3 (sym same), ap is_group (sym same))
made_array_is (Err r) c e = cc

-- what is there is what is found
same_found : (m c : NodeMetadata) → Some m ≡ Some c → c ≡ m
same_found m c e = cc

-- groups become groups and arrays arrays, of version 3, and what is of version 3 stays
pub to_version_3 : IsToVersion3 node_v3
to_version_3 = record { kinds = kinds; version = version; stays = stays }
  where
    kinds : (m c : NodeMetadata) → node_v3 m ≡ Some c → is_group c ≡ is_group m
    kinds (metadata.Group (group.V3 m)) c e = ap is_group (same_found _ c e)
    kinds (metadata.Group (group.V2 m)) c e = ap is_group (same_found _ c e)
    kinds (metadata.Array (array.V3 m)) c e = ap is_group (same_found _ c e)
    kinds (metadata.Array (array.V2 m)) c e = (made_array_is (array_v3 m) c e).1

    version : (m c : NodeMetadata) → node_v3 m ≡ Some c → is_version_3 c ≡ true
    version (metadata.Group (group.V3 m)) c e = ap is_version_3 (same_found _ c e)
    version (metadata.Group (group.V2 m)) c e = ap is_version_3 (same_found _ c e)
    version (metadata.Array (array.V3 m)) c e = ap is_version_3 (same_found _ c e)
    version (metadata.Array (array.V2 m)) c e = (made_array_is (array_v3 m) c e).0

    stays : (m : NodeMetadata) → is_version_3 m ≡ true → node_v3 m ≡ Some m
    stays (metadata.Group (group.V3 m)) e = refl
    stays (metadata.Group (group.V2 m)) e = absurd (true≢false (sym e))
    stays (metadata.Array (array.V3 m)) e = refl
    stays (metadata.Array (array.V2 m)) e = absurd (true≢false (sym e))

-- ---- documents of nodes

module _ (xs : List (Path × NodeMetadata)) (x : Path × NodeMetadata) (ds : List (Segments × Vec ℕ)) (are : AreDocumentsOf node_v3 (Contains xs) ds) where
  -- a node of version 3 has no document more
  pub kept_next : is_version_3 x.1 ≡ true → AreDocumentsOf node_v3 (Contains (xs ++ x ∷ [])) ds
  kept_next three = record {
    each = λ e in' two. ⊎_elim
        (λ first. are.each e first two)
        (λ same. absurd (true≢false (sym three ∙ ap (λ y. is_version_3 y.1) same ∙ two)))
        (Contains-push_cases xs x e in');
    only = λ d in'. let w = are.only d in' in (w.0, Contains-append_left xs (x ∷ []) w.0 w.1, w.2, w.3);
  }

  -- one of version 2 has one more
  pub set_next : (d : Segments × Vec ℕ) → is_version_3 x.1 ≡ false → IsDocumentFor node_v3 x d → AreDocumentsOf node_v3 (Contains (xs ++ x ∷ [])) (ds ++ d ∷ [])
  set_next d two is = record {
    each = λ e in' again. ⊎_elim
        (λ first. let w = are.each e first again in (w.0, Contains-append_left ds (d ∷ []) w.0 w.1, w.2))
        (λ same. (d, last ds d, subst (λ y. IsDocumentFor node_v3 y d) same is))
        (Contains-push_cases xs x e in');
    only = λ f in'. ⊎_elim
        (λ first. let w = are.only f first in (w.0, Contains-append_left xs (x ∷ []) w.0 w.1, w.2, w.3))
        (λ same. (x, last xs x, two, subst (λ g. IsDocumentFor node_v3 x g) same is))
        (Contains-push_cases ds d f in');
  }

  -- the pairs that have documents have a form of version 3
  pub all_convert : (e : Path × NodeMetadata) → Contains xs e → (c : NodeMetadata) × (node_v3 e.1 ≡ Some c)
  all_convert e in' = by (is_version_3 e.1) refl
    where
      by : (t : Bool) → is_version_3 e.1 ≡ t → (c : NodeMetadata) × (node_v3 e.1 ≡ Some c)
      by true three = (e.1, to_version_3.stays e.1 three)
      by false two = let w = are.each e in' two in (w.2.0, w.2.1)

-- at first no node is looked at
pub none_yet : (ds : List (Segments × Vec ℕ)) → ds ≡ [] → AreDocumentsOf node_v3 (Contains []) ds
none_yet ds none = record {
  each = λ e in' two. absurd (omega (arith, in'.1));
  only = λ d in'. let h = subst (λ l. Contains l d) none in' in absurd (omega (arith, h.1));
}

-- the documents, and one behind them where there is one
abbrev pub pushed : List (Segments × Vec ℕ) → Option (Segments × Vec ℕ) → List (Segments × Vec ℕ)
pushed ds None = ds
pushed ds (Some d) = ds ++ d ∷ []

-- one node more
pub one_more : (nodes : List (Path × NodeMetadata)) (i : ℕ) (x : Path × NodeMetadata) → x ≡ get_or nodes i x → i < length nodes
    → (ds es : List (Segments × Vec ℕ)) → AreDocumentsOf node_v3 (Contains (take i nodes)) ds → (o : Option (Segments × Vec ℕ)) → HasDocument x o → es ≡ pushed ds o → AreDocumentsOf node_v3 (Contains (take (i + 1) nodes)) es
one_more nodes i x here within ds es are o has is = subst (λ l. AreDocumentsOf node_v3 (Contains l) es) (sym (next nodes i x here within)) (subst (AreDocumentsOf node_v3 (Contains (take i nodes ++ x ∷ []))) (sym is) (by o has))
  where
    by : (q : Option (Segments × Vec ℕ)) → HasDocument x q → AreDocumentsOf node_v3 (Contains (take i nodes ++ x ∷ [])) (pushed ds q)
    by None three = kept_next (take i nodes) x ds are three
    by (Some d) (two, is') = set_next (take i nodes) x ds are d two is'

-- a pair that does not convert is the first of a list
pub first_refused : EarlierStandsBefore → (nodes before after : List (Path × NodeMetadata)) (x : Path × NodeMetadata) (ds : List (Segments × Vec ℕ)) (e : ConvertError)
    → Ascend nodes → nodes ≡ before ++ x ∷ after → AreDocumentsOf node_v3 (Contains before) ds → Contains nodes x → RefusesMetadataAt x.0 x.1 e → RefusesNodes (Contains nodes) e
first_refused earlier nodes before after x ds (Node e) ascends is are in' h = h
first_refused earlier nodes before after x ds (Array q e) ascends is are in' h = (
  h.1,
  subst (Contains nodes) (λ i. (sym h.0 i, h.2 i)) in',
  h.3,
  λ d there less. all_convert before x ds are d
      (earlier before after x d (subst Ascend is ascends) (subst (λ l. Contains l d) is there) (subst (λ p. path_cmp d.0 p ≡ Less) h.0 less)),
)
first_refused earlier nodes before after x ds (Depth q) ascends is are in' h = (x.1, h.1, subst (λ r. Contains nodes (r, x.1)) (sym h.0) in', h.2, h.3)
first_refused earlier nodes before after x ds (Fraction q) ascends is are in' h = (x.1, h.1, subst (λ r. Contains nodes (r, x.1)) (sym h.0) in', h.2, h.3)
first_refused earlier nodes before after x ds (Storage e) ascends is are in' h = h
first_refused earlier nodes before after x ds OutOfMemory ascends is are in' h = tt

-- plain metadata that are not written nest too deep
pub too_deep : (m : NodeMetadata) → true ≡ is_plain_node m → IsNotWritten m → NestsTooDeep m
too_deep m plain none = ⊎_elim (λ not_plain. absurd (true≢false (plain ∙ not_plain))) (λ deep. deep) none

-- ---- the whole hierarchy

-- a node in front of those below it
pub in_front : BaseInFront → (s : Contents) (v : MetadataRetrieveVersion) (b c : Path) (m : NodeMetadata) (es ns : List (Path × NodeMetadata)) → meaning s v b ≡ node m → Lists (Nodes s v true b) es → Ascend es → c ≡ b → ns ≡ insert es 0 (c, m)
    → ((e : Path × NodeMetadata) → Contains ns e ↔ NodesFrom s v b e) × Ascend ns
in_front law s v b c m es ns means lists ascends same is =
    subst (λ l. ((e : Path × NodeMetadata) → Contains l e ↔ NodesFrom s v b e) × Ascend l) (sym (is ∙ ap (λ p. (p, m) ∷ es) same)) (law s v b m es means lists ascends)

-- what a list has, a slice of it has
pub in_slice : (N : Path × NodeMetadata → Type 0) (listed nodes : List (Path × NodeMetadata)) → nodes ≡ listed → ((e : Path × NodeMetadata) → Contains listed e ↔ N e) → (e : Path × NodeMetadata) → Contains nodes e ↔ N e
in_slice N listed nodes slice found = subst (λ l. (e : Path × NodeMetadata) → Contains l e ↔ N e) (sym slice) found

module _ (S : Contents) (b : Path) (nodes : List (Path × NodeMetadata)) (same : (e : Path × NodeMetadata) → Contains nodes e ↔ NodesFrom S Default b e) where
  -- documents of the list are documents of the nodes
  pub documents_from : (ds : List (Segments × Vec ℕ)) → AreDocumentsOf node_v3 (Contains nodes) ds → AreDocumentsOf node_v3 (NodesFrom S Default b) ds
  documents_from ds are = record {
    each = λ e is two. are.each e ((same e).1 is) two;
    only = λ d in'. let w = are.only d in' in (w.0, (same w.0).0 w.1, w.2, w.3);
  }

  -- a refusal of the list is one of the nodes
  pub refused_from : (can_fail : Bool) (e : ConvertError) → RefusesNodes (Contains nodes) e → RefusesConverting can_fail b S S e
  refused_from can_fail (Node e) h = absurd h
  refused_from can_fail (Array p e) h = (refl, (h.0, (same _).0 h.1, h.2, λ d is less. h.3 d ((same d).1 is) less))
  refused_from can_fail (Depth p) h = (refl, (h.0, h.1, (same _).0 h.2, h.3, h.4))
  refused_from can_fail (Fraction p) h = (refl, (h.0, h.1, (same _).0 h.2, h.3, h.4))
  refused_from can_fail (Storage e) h = absurd h
  refused_from can_fail OutOfMemory h = refl

  module _ (T : Contents) (ds es : List (Segments × Vec ℕ)) (slice : es ≡ ds) (are : AreDocumentsOf node_v3 (Contains nodes) ds) where
    -- where only keys of the documents are set, only those of the nodes are
    pub keeps_others : T.numbers ≡ S.numbers → ((key : Segments) → ((d : Segments × Vec ℕ) → Contains es d → d.0 ≢ key) → map.get T.values key ≡ map.get S.values key) → KeepsOthers b S T
    keeps_others numbers others =
        (numbers, λ key far. others key (λ d in' at. let w = are.only d (subst (λ l. Contains l d) slice in') in far w.0 ((same w.0).0 w.1) w.2 (sym at ∙ w.3.2)))

    -- and once they are set, a listing shows the nodes as version 3
    pub converted_shows : DocumentsAreShown → HasNothingBad S Default true b → T ≡ with_documents S es → ShowsMapped node_v3 b S Default T V3 × ShowsMapped node_v3 b S Default T Default
    converted_shows law good set =
        subst (λ R. ShowsMapped node_v3 b S Default R V3 × ShowsMapped node_v3 b S Default R Default) (sym (set ∙ ap (with_documents S) slice)) (law node_v3 to_version_3 S b ds good (documents_from ds are))

module _ (S T : Contents) (b : Path) (nodes : List (Path × NodeMetadata)) (ks : List Segments) (same : (e : Path × NodeMetadata) → Contains nodes e ↔ NodesFrom S V3 b e) (keys : ks ≡ keys_beside nodes) where
  -- the keys that are erased stand beside a `zarr.json`
  pub stand_beside : KeysStandBeside → (key : Segments) → Contains ks key → StandsBeside S key
  stand_beside law key in' = law S nodes (λ e there. ((same e).0 there).1) key (subst (λ l. Contains l key) keys in')

  -- once they are erased none of the old documents is there
  pub erased_absent : ErasedAreAbsent → T ≡ without_keys S ks → (e : Path × NodeMetadata) (file : List ℕ) → NodesFrom S V3 b e → Contains version_2_files file → map.get T.values (e.0 ++ file ∷ []) ≡ None
  erased_absent law done e file from known = ap (λ (R : Contents). map.get R.values (e.0 ++ file ∷ [])) (done ∙ ap (without_keys S) keys) ∙ law S nodes e file ((same e).1 from) known

  -- and a listing by default shows what it showed
  pub erased_shows : KeysStandBeside → ErasedShowSame → T ≡ without_keys S ks → HasNothingBad S Default true b → ShowsMapped Some b S Default T Default
  erased_shows beside law done good = subst (λ R. ShowsMapped Some b S Default R Default) (sym done) (law S ks (stand_beside beside) b good)

  -- no other key is touched
  pub others_beside : KeysStandBeside → ((key : Segments) → (Contains ks key → ⊥) → map.get T.values key ≡ map.get S.values key) → (key : Segments) → (StandsBeside S key → ⊥) → map.get T.values key ≡ map.get S.values key
  others_beside law others key far = others key (λ in'. far (stand_beside law key in'))
