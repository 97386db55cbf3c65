-- What a path means anew, and the block in which it stands.
use Rattle.std.proofs.Common.{◌≡◌, ◌≢◌, ◌⊎◌, inl, inr, ⊎_elim, ℕ, Bool, true, false, cond, List, [], ◌∷◌, ◌++◌, Option, Some, None, IsTrue, refl, sym, ap, subst, ◌∙◌, arith, Contains, AllPairs, is_eq, append_assoc, zero, suc, get_or}
use Rattle.std.proofs.lemmas.List.{append_cancel_left}
use Rattle.std.proofs.lemmas.List.Elements.{Contains-get_or}
use Rattle.zarrs_store.specs.Segments.{bytes_cmp, key_text}
use Rattle.zarrs_store.specs.Contents.{Lists}
use Rattle.zarrs_path.specs.Paths.{Path, IsPath, IsBelow}
use Rattle.zarrs_store.proofs.Cuts.{prefix_text-key}
use Rattle.zarrs_store.proofs.BelowLemmas.{key_text-below}
use Rattle.zarrs_path.proofs.PathTexts.{IsPath-append}
use Rattle.zarrs_meta.specs.Node.{is_group}
use Rattle.zarrs_meta.specs.declared.node.NodeMetadata.{NodeMetadata}
use Rattle.zarrs_block.specs.Block.{Block, IsBlockOf, first_some, node_at_key, put}
use Rattle.zarrs_block.specs.KeysAboutAPath.{IsAbout, IsWithout}
use Rattle.zarrs_meaning.specs.Meaning.{Meaning, node}
use Rattle.zarrs_node.specs.Reach.{Kept, Reached}
use Rattle.zarrs_node.specs.Nodes.{Means}
use Rattle.zarrs_node.specs.Forest.{Forest, pairs, Shows}
use Rattle.zarrs_node.specs.BlocksOfNodes.{text_beyond}
use Rattle.zarrs_node.specs.StepsOfBlocks.{ArePairsBelow, put_all}
use Rattle.zarrs_node.specs.CurrentBlocks.{LeadsTo, IsNewPair, HoldsAt, IsFresh}
use Rattle.zarrs_node.proofs.ListedItems.{listed_each, lists_from}
use Rattle.zarrs_node.proofs.ForestsBeside.{Contains-first, Contains-cons}
use Rattle.zarrs_node.proofs.Order.{contains_cases}
use Rattle.zarrs_node.proofs.Reach.{not_itself}
use Rattle.zarrs_node.proofs.blocks.Latest.{latest_in, own_latest}
use Rattle.zarrs_node.proofs.blocks.PairsInBlocks.{found_put}
use Rattle.zarrs_node.proofs.blocks.BlockTexts.{text_is}
use Rattle.zarrs_node.proofs.blocks.Leads.{names_beyond}
use Rattle.zarrs_node.proofs.blocks.LatestPairs.{latest_block}

-- ---- what is read

-- the metadata that a path means
means_one : (of : Path → Meaning) (p : Path) (m n : NodeMetadata) → of p ≡ node m → of p ≡ node n → m ≡ n
means_one of p m n e f = ap taken (sym e ∙ f)
  where
    taken : Meaning → NodeMetadata
    taken (node x) = x
    taken other = m

module _ (of : Path → Meaning) (p : Path) where
  module _ (m : NodeMetadata) (is : of p ≡ node m) where
    -- of a path that means no group it alone is
    pub renewed_one : (xs : List (Path × NodeMetadata)) → xs ≡ (p, m) ∷ [] → (IsTrue (is_group m) → ⊥) → Lists (IsNewPair of p) xs
    renewed_one xs all other = subst (Lists (IsNewPair of p)) (sym all) (lists_from ((p, m) ∷ [])
        (λ e. (
          λ in'. ⊎_elim
              (λ same. subst (IsNewPair of p) same (is, inl refl))
              (λ rest. absurd (omega (arith, rest.1)))
              (contains_cases (p, m) [] e in'),
          λ h. ⊎_elim
              (λ same. subst (Contains ((p, m) ∷ [])) (λ i. (sym same i, means_one of p m e.1 is (ap of (sym same) ∙ h.0) i)) (Contains-first (p, m) []))
              (λ w. absurd (other (subst (λ x. IsTrue (is_group x)) (means_one of p w.0.0 m w.0.1 is) w.0.2)))
              h.1,
        ))
        (λ i j d l k. absurd (omega (arith, l, k))))

    -- of a group it and what is reached below it are
    pub renewed_all : (f : Forest) (xs : List (Path × NodeMetadata)) → xs ≡ (p, m) ∷ pairs f → IsTrue (is_group m) → Shows f p (Kept (Means of) true p) → Lists (IsNewPair of p) xs
    renewed_all f xs all group shows = subst (Lists (IsNewPair of p)) (sym all) (lists_from ((p, m) ∷ pairs f)
        (λ e. (
          λ in'. ⊎_elim
              (λ same. subst (IsNewPair of p) same (is, inl refl))
              (λ rest. let w = (listed_each shows.shown e).0 rest in (w.1, inr ((m, is, group), w.0)))
              (contains_cases (p, m) (pairs f) e in'),
          λ h. ⊎_elim
              (λ same. subst (Contains ((p, m) ∷ pairs f)) (λ i. (sym same i, means_one of p m e.1 is (ap of (sym same) ∙ h.0) i)) (Contains-first (p, m) (pairs f)))
              (λ w. Contains-cons (p, m) (pairs f) e ((listed_each shows.shown e).1 (w.1, h.0)))
              h.1,
        ))
        (apart_first (p, m) (pairs f) shows.shown.each_once (λ e in' same. not_itself (Means of) true p (subst (λ d. Reached (Means of) true p d.0) (sym same) ((listed_each shows.shown e).0 in').0))))
      where
        -- a pair in front of others that differ from it and from one another
        apart_first : (x : Path × NodeMetadata) (es : List (Path × NodeMetadata)) → AllPairs (λ d e. d ≢ e) es → ((e : Path × NodeMetadata) → Contains es e → x ≢ e) → AllPairs (λ d e. d ≢ e) (x ∷ es)
        apart_first x es once other zero zero d l k = absurd (omega (arith, l))
        apart_first x es once other zero (suc j) d l k = other (get_or es j d) (Contains-get_or es j d (omega (arith, k)))
        apart_first x es once other (suc i) zero d l k = absurd (omega (arith, l))
        apart_first x es once other (suc i) (suc j) d l k = once i j d (omega (arith, l)) (omega (arith, k))

-- ---- what is put over a block

-- the first of three
first_of_three : (x y z : Option NodeMetadata) → first_some (first_some x y) z ≡ first_some x (first_some y z)
first_of_three (Some m) y z = refl
first_of_three None y z = refl

-- metadata put at a text stand over what was there
put_over : (t k : List ℕ) (m : NodeMetadata) (B : Block) → node_at_key (put k m B) t ≡ first_some (node_at_key (put k m []) t) (node_at_key B t)
put_over t k m B = found_put t k m B ∙ by (is_eq (bytes_cmp t k))
  where
    by : (x : Bool) → cond x (Some m) (node_at_key B t) ≡ first_some (cond x (Some m) None) (node_at_key B t)
    by true = refl
    by false = refl

-- so do pairs, one after another
puts_over : (b : Path) (B : Block) (es : List (Path × NodeMetadata)) (t : List ℕ) → node_at_key (put_all b B es) t ≡ first_some (node_at_key (put_all b [] es) t) (node_at_key B t)
puts_over b B [] t = refl
puts_over b B (e ∷ es) t =
    puts_over b (put (text_beyond b e.0) e.1 B) es t
    ∙ ap (first_some (node_at_key (put_all b [] es) t)) (put_over t (text_beyond b e.0) e.1 B)
    ∙ sym (first_of_three (node_at_key (put_all b [] es) t) (node_at_key (put (text_beyond b e.0) e.1 []) t) (node_at_key B t))
    ∙ ap (λ o. first_some o (node_at_key B t)) (sym (puts_over b (put (text_beyond b e.0) e.1 []) es t))

-- ---- texts about a path

-- the text of a path that is p or below it is about p
pub about_of : (b p q : Path) (n : List ℕ) (ns : Path) → IsBelow b p → q ≡ b ++ n ∷ ns → (q ≡ p) ⊎ IsBelow p q → IsAbout (text_beyond b p) (key_text (n ∷ ns))
about_of b p q n ns (x, xs, low) is at = ⊎_elim
    (λ same. inl (inl (ap key_text (append_cancel_left b (n ∷ ns) (x ∷ xs) (sym is ∙ same ∙ low)) ∙ sym text)))
    (λ deep.
    let longer : n ∷ ns ≡ (x ∷ xs) ++ deep.0 ∷ deep.1 = append_cancel_left b (n ∷ ns) ((x ∷ xs) ++ deep.0 ∷ deep.1)
    (sym is ∙ deep.2 ∙ ap (λ y. y ++ deep.0 ∷ deep.1) low ∙ append_assoc b (x ∷ xs) (deep.0 ∷ deep.1)) in
    inl (inr (
      key_text (deep.0 ∷ deep.1),
      ap key_text longer ∙ key_text-below (x ∷ xs) deep.0 deep.1 ∙ ap (λ y. y ++ key_text (deep.0 ∷ deep.1)) (prefix_text-key x xs)
          ∙ append_assoc (key_text (x ∷ xs)) (47 ∷ []) (key_text (deep.0 ∷ deep.1)) ∙ ap (λ y. y ++ 47 ∷ key_text (deep.0 ∷ deep.1)) (sym text),
    )))
    at
  where
    text : text_beyond b p ≡ key_text (x ∷ xs)
    text = text_is b p x xs low

-- ---- the fresh block

module _ (of : Path → Meaning) (b p : Path) (low : IsBelow b p) (valid : IsPath p) where
  -- what is renewed stands at p or below it
  pub renewed_at : (e : Path × NodeMetadata) → IsNewPair of p e → (e.0 ≡ p) ⊎ IsBelow p e.0
  renewed_at e h = ⊎_elim inl (λ w. inr (w.1.below.0, w.1.below.1, w.1.below.2)) h.1

  -- and has names beyond the base
  renewed_names : (e : Path × NodeMetadata) → IsNewPair of p e → (n : List ℕ) × (ns : Path) × (e.0 ≡ b ++ n ∷ ns) × IsPath (n ∷ ns)
  renewed_names e h = ⊎_elim
      (λ same. (low.0, low.1, same ∙ low.2, names_beyond b p low.0 low.1 low.2 valid))
      (λ w.
      let v = w.1.below in
      (low.0, low.1 ++ v.0 ∷ v.1, v.2 ∙ ap (λ x. x ++ v.0 ∷ v.1) low.2 ∙ append_assoc b (low.0 ∷ low.1) (v.0 ∷ v.1), IsPath-append (low.0 ∷ low.1) (v.0 ∷ v.1) (names_beyond b p low.0 low.1 low.2 valid) v.3))
      h.1

  module _ (es : List (Path × NodeMetadata)) (lists : Lists (IsNewPair of p) es) where
    -- its paths stand below the base
    pub listed_below : ArePairsBelow b es
    listed_below e in' = let w = renewed_names e ((listed_each lists e).0 in') in (w.0, w.1, w.2)

    -- the paths of what is renewed differ
    paths_differ : AllPairs (λ d e. d.0 ≢ e.0) es
    paths_differ i j d l k same =
        let one = lists.sound i d (omega (arith, l, k)) in
        let two = lists.sound j d k in
        lists.each_once i j d l k (λ x. (same x, means_one of (get_or es i d).0 (get_or es i d).1 (get_or es j d).1 one.0 (ap of same ∙ two.0) x))

    -- put into no block they are its block
    renewed_block : IsBlockOf (IsNewPair of p) b (put_all b [] es)
    renewed_block t m =
        let is = latest_block b es (put_all b [] es) (λ e in'. renewed_names e ((listed_each lists e).0 in')) (λ i. put_all b [] es) in (
          λ h. let w = (is t m).0 h in (w.0, w.1, w.2, (listed_each lists (b ++ w.0 ∷ w.1, m)).0 (latest_in es (b ++ w.0 ∷ w.1, m) w.3)),
          λ h. (is t m).1 (h.0, h.1, h.2, own_latest es paths_differ (b ++ h.0 ∷ h.1, m) ((listed_each lists (b ++ h.0 ∷ h.1, m)).1 h.3)),
        )

    -- put over what is left of a block that leads to p they make it fresh
    pub fresh_led : (B old C : Block) → LeadsTo B b p → IsWithout (text_beyond b p) B old → C ≡ put_all b old es → IsFresh of b B p C
    fresh_led B old C led without puts t m = (
      λ h. by (node_at_key (put_all b [] es) t) refl (sym over ∙ h),
      λ h. over ∙ ⊎_elim
          (λ kept. apart kept.0 (node_at_key (put_all b [] es) t) refl ∙ (without t m).1 kept)
          (λ new. ap (λ o. first_some o (node_at_key old t)) ((renewed_block t m).1 new.1))
          h,
    )
      where
        over : node_at_key C t ≡ first_some (node_at_key (put_all b [] es) t) (node_at_key old t)
        over = ap (λ D. node_at_key D t) puts ∙ puts_over b old es t

        by : (o : Option NodeMetadata) → node_at_key (put_all b [] es) t ≡ o → first_some o (node_at_key old t) ≡ Some m → ((IsAbout (text_beyond b p) t → ⊥) × (node_at_key B t ≡ Some m)) ⊎ (LeadsTo B b p × HoldsAt (IsNewPair of p) b t m)
        by None is h = inl ((without t m).0 h)
        by (Some x) is h = inr (led, (renewed_block t m).0 (is ∙ h))

        apart : (IsAbout (text_beyond b p) t → ⊥) → (o : Option NodeMetadata) → node_at_key (put_all b [] es) t ≡ o → first_some o (node_at_key old t) ≡ node_at_key old t
        apart far None is = refl
        apart far (Some x) is =
            let w = (renewed_block t x).0 is in
            absurd (far (subst (IsAbout (text_beyond b p)) (sym w.2) (about_of b p (b ++ w.0 ∷ w.1) w.0 w.1 low refl (renewed_at (b ++ w.0 ∷ w.1, x) w.3))))

  -- where a block does not lead to p, what is left of it is fresh
  pub fresh_kept : (B old C : Block) → (LeadsTo B b p → ⊥) → IsWithout (text_beyond b p) B old → C ≡ old → IsFresh of b B p C
  fresh_kept B old C other without same t m = (
    λ h. inl ((without t m).0 (subst (λ D. node_at_key D t ≡ Some m) same h)),
    λ h. ⊎_elim (λ kept. subst (λ D. node_at_key D t ≡ Some m) (sym same) ((without t m).1 kept)) (λ new. absurd (other new.0)) h,
  )

-- ---- pairs put into a block one after another

-- the pairs that are left, put into the block, make what all make of it, and they stand below the base
abbrev pub IsInserting : Path → Block → List (Path × NodeMetadata) → Block → Type 0
IsInserting b now left whole = (put_all b now left ≡ whole) × ArePairsBelow b left

-- the first of them stands below the base
pub insert_low : (b : Path) (now whole : Block) (left es : List (Path × NodeMetadata)) (e : Path × NodeMetadata) → left ≡ e ∷ es → IsInserting b now left whole → IsBelow b e.0
insert_low b now whole left es e is h = h.1 e (subst (λ l. Contains l e) (sym is) (Contains-first e es))

-- one more is put
pub insert_next : (b : Path) (now new whole : Block) (left es : List (Path × NodeMetadata)) (e : Path × NodeMetadata) (k : List ℕ) → left ≡ e ∷ es → k ≡ text_beyond b e.0 → new ≡ put k e.1 now
    → IsInserting b now left whole → IsInserting b new es whole
insert_next b now new whole left es e k is key put' h = (
  ap (λ D. put_all b D es) (put' ∙ ap (λ t. put t e.1 now) key) ∙ ap (put_all b now) (sym is) ∙ h.0,
  λ d in'. h.1 d (subst (λ l. Contains l d) (sym is) (Contains-cons e es d in')),
)

-- where none is left, all are put
pub insert_end : (b : Path) (now whole : Block) (left : List (Path × NodeMetadata)) → left ≡ [] → IsInserting b now left whole → now ≡ whole
insert_end b now whole left is h = ap (put_all b now) (sym is) ∙ h.0

-- at first all are left
pub insert_start : (b : Path) (now : Block) (left all : List (Path × NodeMetadata)) → left ≡ all → ArePairsBelow b all → IsInserting b now left (put_all b now all)
insert_start b now left all is below = (ap (put_all b now) is, λ e in'. below e (subst (λ l. Contains l e) is in'))
