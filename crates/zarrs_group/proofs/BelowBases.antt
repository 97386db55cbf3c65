-- What stands below a base stays where one key directly behind the base changed.
use Rattle.std.proofs.Common.{◌≡◌, ◌≤◌, ◌+◌, inl, inr, ⊎_elim, ℕ, true, List, [], ◌∷◌, ◌++◌, length, is_some, refl, sym, ap, ◌∙◌, length-append, arith}
use Rattle.std.specs.FinMap as map
use Rattle.zarrs_store.specs.Segments.{Segments}
use Rattle.zarrs_store.specs.Contents.{Contents, HasBelow, with_key}
use Rattle.zarrs_store.proofs.ContentsLemmas.{AgreesExceptAt-insert}
use Rattle.zarrs_path.specs.Paths.{Path, IsBelow}
use Rattle.zarrs_config.specs.declared.version.MetadataRetrieveVersion.{MetadataRetrieveVersion}
use Rattle.zarrs_block.specs.Block.{Block}
use Rattle.zarrs_meaning.specs.Meaning.{meaning}
use Rattle.zarrs_node.specs.Reach.{Reached}
use Rattle.zarrs_node.specs.Nodes.{MeansNode, IsListed, Bad}
use Rattle.zarrs_node.specs.ListedBlocks.{IsListedBlock}
use Rattle.zarrs_node.proofs.blocks.Current.{AtOrBelow, meaning_same}
use Rattle.zarrs_node.proofs.KeptPairs.{nodes_same, reached_more}

-- what is at or below a base has at least as many names
long_below : (b g : Path) → AtOrBelow b g → length b ≤ length g
long_below b g at = ⊎_elim
    (λ same. let long = ap length same in omega (arith, long))
    (λ low. let long = ap length low.2 in let more = length-append b (low.0 ∷ low.1) in omega (arith, long, more))
    at

-- what is below a base has more
longer_below : (b q : Path) → IsBelow b q → length b + 1 ≤ length q
longer_below b q low = let long = ap length low.2 in let more = length-append b (low.0 ∷ low.1) in omega (arith, long, more)

module _ (S : Contents) (v : MetadataRetrieveVersion) (b : Path) (file bytes : List ℕ) where
  -- the store with these bytes at a key directly behind the base
  abbrev T : Contents
  T = with_key S (b ++ file ∷ []) bytes

  -- a longer key has what it had
  long_same : (key : Segments) → length b + 2 ≤ length key → map.get T.values key ≡ map.get S.values key
  long_same key long = AgreesExceptAt-insert S.values (b ++ file ∷ []) bytes key
      (λ e. let one = ap length e in let two = length-append b (file ∷ []) in omega (arith, one, two, long))

  -- what is below the base means the same
  below_same : (q : Path) → IsBelow b q → meaning T v q ≡ meaning S v q
  below_same q low = meaning_same S T q refl
      (λ f in'. long_same (q ++ f ∷ []) (let more = length-append q (f ∷ []) in let long = longer_below b q low in omega (arith, more, long))) v

  -- what is reached was reached
  reached_back : (q : Path) → Reached (MeansNode T v) true b q → Reached (MeansNode S v) true b q
  reached_back = reached_more (MeansNode T v) (MeansNode S v) true b (λ e low h. sym (below_same e.0 low) ∙ h)

  -- what is listed was listed
  listed_back : (g : Path) → IsListed (meaning T v) true b g → IsListed (meaning S v) true b g
  listed_back g from = ⊎_elim inl
      (λ w. inr (reached_back g w.0, (refl, (w.1.1.0, sym (below_same g (w.0.below.0, w.0.below.1, w.0.below.2)) ∙ w.1.1.1, w.1.1.2))))
      from

  -- a listed path is the base or below it
  listed_low : (g : Path) → IsListed (meaning T v) true b g → AtOrBelow b g
  listed_low g from = ⊎_elim inl (λ w. inr (w.0.below.0, w.0.below.1, w.0.below.2)) from

  -- what stands further below a name behind a listed path stood there
  has_back : (g : Path) (n : List ℕ) → AtOrBelow b g → HasBelow T.values (g ++ n ∷ []) → HasBelow S.values (g ++ n ∷ [])
  has_back g n at (first, rest, here) = (first, rest, ap is_some (sym (long_same ((g ++ n ∷ []) ++ first ∷ rest) deep)) ∙ here)
    where
      deep : length b + 2 ≤ length ((g ++ n ∷ []) ++ first ∷ rest)
      deep =
          let one = length-append (g ++ n ∷ []) (first ∷ rest) in
          let two = length-append g (n ∷ []) in
          let long = long_below b g at in
          omega (arith, one, two, long)

  -- what is bad was bad
  bad_back : Bad T v true b → Bad S v true b
  bad_back worse = ⊎_elim
      (λ w. let h = w.1.1 in inl (w.0, (w.1.0, reached_back w.1.0 h, sym (below_same w.1.0 (h.below.0, h.below.1, h.below.2)) ∙ w.1.2)))
      (λ w. inr (w.0, (w.1.0, w.1.1, listed_back w.1.0 w.1.2, w.1.3, has_back w.1.0 w.1.1 (listed_low w.1.0 w.1.2) w.1.4, w.1.5, w.1.6)))
      worse

  -- the listed block stays
  pub listed_stays : (B : Block) → IsListedBlock S v b B → IsListedBlock T v b B
  listed_stays B listed = record {
    exact = λ t m.
        let same = nodes_same (meaning T v) (meaning S v) true b below_same in (
          λ h. let w = (listed.exact t m).0 h in (w.0, w.1, w.2, (same (b ++ w.0 ∷ w.1, m)).1 w.3),
          λ w. (listed.exact t m).1 (w.0, w.1, w.2, (same (b ++ w.0 ∷ w.1, m)).0 w.3),
        );
    ascending = listed.ascending;
    clean = λ worse. listed.clean (bad_back worse);
  }
