-- When a loaded store has enough for a check.
use Rattle.std.proofs.Common.{◌≡◌, ⊎_elim, Bool, true, false, true≢false, List, [], ◌∷◌, ◌++◌, refl, sym, ap, subst, ◌∙◌, Contains, ◌||◌, not, nat_lt, length, arith, lt-ltb}
use Rattle.std.specs.List.{filter}
use Rattle.std.specs.Prelude.{map as mapped}
use Rattle.std.proofs.lemmas.List.Elements.{Contains-append_left, Contains-append_right}
use Rattle.zarrs_store.specs.Contents.{Contents}
use Rattle.zarrs_path.specs.Paths.{Path}
use Rattle.zarrs_form.specs.Forms.{is_nil}
use Rattle.zarrs_config.specs.declared.version.MetadataRetrieveVersion.TheVariants.{Default}
use Rattle.zarrs_meaning.specs.Exists.{HasNodeKey}
use Rattle.zarrs_node.proofs.FlatForests.{contains_map, filter_keeps}
use Rattle.zarrs_node.proofs.ListedItems.{listed_each}
use Rattle.zarrs_check.specs.BlocksAbove.{IsAboveFinding}
use Rattle.zarrs_check.specs.Checks.{IsBlockFinding}
use Rattle.zarrs_check.specs.PathChecks.{IsCheckedFrom, IsPathCheckOf}
use Rattle.zarrs_check.specs.declared.finding.Finding.{Finding}
use Rattle.zarrs_check.specs.declared.finding.FindingKind.TheVariants.{Stale}
use Rattle.zarrs_check.specs.declared.path_check.CheckedFrom.{CheckedFrom}
use Rattle.zarrs_check.specs.declared.path_check.CheckedFrom.TheVariants.{Array, Tree}
use Rattle.zarrs_check.specs.declared.path_check.PathCheck.{PathCheck}
use Rattle.zarrs_folder.specs.declared.documents.Documents.TheVariants.{All}
use Rattle.zarrs_folder.specs.PrunedStores.{Grows, IsArrayAt, IsLoadedFrom}
use Rattle.zarrs_folder.specs.PassedPaths.{HoldsBelow, HoldsFilesOf, IsPassed}
use Rattle.zarrs_folder.proofs.PrunedListings.{base_shows_same, pruned_shows_same}
use Rattle.zarrs_cli.specs.StepsOfRuns.{HoldsAbove, IsCheckable, has_more, has_more_from, is_stale, passed_from, stale_among, stale_from, stale_of, stale_paths}
use Rattle.zarrs_cli.proofs.LoadedAbove.{lone_above, stale_above}
use Rattle.zarrs_cli.proofs.LoadedReports.{documents_over_key, node_key_back, node_key_over, passed_back, stale_lone, told_stale}

-- ---- what a check tells that has to be looked at

-- the path of a stale finding is one of those
stale_listed : (fs : List Finding) (f : Finding) → Contains fs f → f.kind ≡ Stale → Contains (stale_paths fs) f.path
stale_listed fs f in' is = contains_map (λ x. x.path) (filter (λ x. is_stale x.kind) fs) f (filter_keeps (λ x. is_stale x.kind) fs f (ap is_stale is) in')

module _ (s : Contents) (b : Path) (c : PathCheck) (h : IsPathCheckOf s Default b c) where
  -- of the blocks above
  stale_upper : (f : Finding) → IsAboveFinding s Default b f → f.kind ≡ Stale → Contains (stale_of c) f.path
  stale_upper f told is = Contains-append_left (stale_paths c.above.items) (stale_from c.from) f.path (stale_listed c.above.items f ((h.above.exact f).1 told) is)

  -- of those from b on, where it means no array
  stale_lower : (IsArrayAt s b → ⊥) → (f : Finding) → IsBlockFinding s Default b f → f.kind ≡ Stale → Contains (stale_of c) f.path
  stale_lower none f told is = Contains-append_right (stale_paths c.above.items) (stale_from c.from) f.path (by c.from h.from)
    where
      by : (from : CheckedFrom) → IsCheckedFrom s Default b from → Contains (stale_from from) f.path
      by (Array found) (m, means, kind, are) = absurd (none (m, means, kind))
      by (Tree check) (other, checked, findings) = stale_listed check.findings.items f ((findings.exact f).1 told) is

  -- the paths that are passed
  passed_lower : (IsArrayAt s b → ⊥) → (p : Path) → IsPassed s b p → Contains (passed_from c.from) p
  passed_lower none p is = by c.from h.from
    where
      by : (from : CheckedFrom) → IsCheckedFrom s Default b from → Contains (passed_from from) p
      by (Array found) (m, means, kind, are) = absurd (none (m, means, kind))
      by (Tree check) (other, checked, findings) = ⊎_elim
          (λ ignored. Contains-append_left check.ignored.items (mapped (λ d. d.0) check.bad_documents) p ((listed_each checked.ignored p).1 ignored))
          (λ w. Contains-append_right check.ignored.items (mapped (λ d. d.0) check.bad_documents) p
          (contains_map (λ d. d.0) check.bad_documents (p, w.1.0) ((listed_each checked.bad_documents (p, w.1.0)).1 (w.0, w.1.1))))
          is

-- ---- a store of which more was loaded

module _ (S L K M : Contents) (b : Path) (old : IsLoadedFrom All S L b) (upper : HoldsAbove S L b) (new : IsLoadedFrom All S M b) (first : Grows S.values L.values K.values) (then : Grows S.values K.values M.values) where
  -- it has the files above too
  still_above : HoldsAbove S M b
  still_above g low file in' = then.same (g ++ file ∷ []) (first.same (g ++ file ∷ []) (upper g low file in'))

  -- where it has no document, the first part had none
  none_before : (p : Path) → (HasNodeKey M p → ⊥) → HasNodeKey L p → ⊥
  none_before p none k = none (node_key_back M L p (λ key in'. then.keeps key (first.keeps key in')) k)

  module _ (c : PathCheck) (checked : IsPathCheckOf L Default b c) (below : HoldsBelow S.values K.values (passed_from c.from)) (at : HoldsFilesOf S.values M.values (stale_of c)) where
    -- b means no array in the part either
    no_array_back : (IsArrayAt S b → ⊥) → IsArrayAt L b → ⊥
    no_array_back none (m, is, kind) = none (m, sym ((base_shows_same S L b old.base).0 Default) ∙ is, kind)

    -- it has enough
    pub all_settled : IsCheckable S M b
    all_settled = record {
      loaded = new;
      from = λ none.
          let o = old.below none in
          let n = new.below none in (
            λ f told is has.
                let w = stale_lone S M b (pruned_shows_same S M b n) n.keys n.documents f told is in
                let stale = told_stale S L b (pruned_shows_same S L b o) o.keys o.documents f.group f.path w.0 w.1 w.2 w.3 w.4 (none_before f.path w.5) in
                w.5 (node_key_over S M f.path (at f.path (stale_lower L b c checked (no_array_back none) (record { group = f.group; path = f.path; kind = Stale }) stale refl)) has),
            λ p q is low has. node_key_back M K q then.keeps
                (documents_over_key S K q (below p q (passed_lower L b c checked (no_array_back none) p (passed_back S L b (pruned_shows_same S L b o) o.keys o.documents p is)) low) has),
          );
      above = still_above;
      settled = λ f told is has.
          let w = lone_above S M b new still_above f told is in
          let stale = stale_above S L b old upper f.group f.path w.0 (none_before f.path w.1) in
          w.1 (node_key_over S M f.path (at f.path (stale_upper L b c checked (record { group = f.group; path = f.path; kind = Stale }) stale refl)) has);
    }

-- ---- a check of what was loaded first

-- nothing is in no list
none_in : {A : Type 0} (xs : List A) (x : A) → xs ≡ [] → Contains xs x → ⊥
none_in xs x is h = let l = subst (λ ys. Contains ys x) is h in omega (arith, l.1)

-- of two tests that one holds, neither does
neither : (s t : Bool) → s || t ≡ false → (s ≡ false) × (t ≡ false)
neither false t h = (refl, h)
neither true t h = absurd (true≢false h)

-- a list that has nothing
no_length : {A : Type 0} (xs : List A) → nat_lt 0 (length xs) ≡ false → xs ≡ []
no_length [] h = refl
no_length (x ∷ xs) h = let t : nat_lt 0 (length (x ∷ xs)) ≡ true = lt-ltb 0 (length (x ∷ xs)) (omega arith) in absurd (true≢false (sym t ∙ h))

-- a list of which it is false that it is not empty is empty
no_nil : {A : Type 0} (xs : List A) → not (is_nil xs) ≡ false → xs ≡ []
no_nil [] h = refl
no_nil (x ∷ xs) h = absurd (true≢false h)

-- where nothing more is asked for, there are no such paths
none_passed : (from : CheckedFrom) → has_more_from from ≡ false → (passed_from from ≡ []) × (stale_from from ≡ [])
none_passed (Array found) h = (refl, refl)
none_passed (Tree c) h =
    let w = neither (not (is_nil c.ignored.items)) (not (is_nil c.bad_documents) || nat_lt 0 (stale_among c.findings.items)) h in
    let v = neither (not (is_nil c.bad_documents)) (nat_lt 0 (stale_among c.findings.items)) w.1 in (
      ap (λ xs. xs ++ mapped (λ d. d.0) c.bad_documents) (no_nil c.ignored.items w.0) ∙ ap (mapped (λ d. d.0)) (no_nil c.bad_documents v.0),
      ap (mapped (λ f. f.path)) (no_length (filter (λ f. is_stale f.kind) c.findings.items) v.1),
    )

-- where a check asks for nothing more, no path is passed and none is stale
none_more : (c : PathCheck) → has_more c ≡ false → (passed_from c.from ≡ []) × (stale_of c ≡ [])
none_more c h =
    let w = neither (nat_lt 0 (stale_among c.above.items)) (has_more_from c.from) h in
    let v = none_passed c.from w.1 in (
      v.0,
      ap (λ xs. xs ++ stale_from c.from) (ap (mapped (λ f. f.path)) (no_length (filter (λ f. is_stale f.kind) c.above.items) w.0)) ∙ v.1,
    )

-- where a check of a loaded store has no more, the store is enough for it
pub whole_settled : (S L : Contents) (b : Path) (c : PathCheck) → IsLoadedFrom All S L b → HoldsAbove S L b → IsPathCheckOf L Default b c → has_more c ≡ false → IsCheckable S L b
whole_settled S L b c loaded upper checked done =
    let none = none_more c done in
    record {
      loaded = loaded;
      from = λ other.
          let below = loaded.below other in
          let other' : IsArrayAt L b → ⊥ = λ (m, is, kind). other (m, sym ((base_shows_same S L b loaded.base).0 Default) ∙ is, kind) in (
            λ f told is has. none_in (stale_of c) f.path none.1 (stale_lower L b c checked other' f told is),
            λ p q is low has. absurd (none_in (passed_from c.from) p none.0 (passed_lower L b c checked other' p (passed_back S L b (pruned_shows_same S L b below) below.keys below.documents p is))),
          );
      above = upper;
      settled = λ f told is has. none_in (stale_of c) f.path none.1 (stale_upper L b c checked f told is);
    }
