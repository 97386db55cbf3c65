-- Which paths the groups of a block lead to.
use Rattle.std.proofs.Common.{◌≡◌, ◌≢◌, ◌<◌, ◌==◌, ◌↔◌, ◌⊎◌, inl, inr, ⊎_elim, ℕ, Bool, true, false, true≢false, List, [], ◌∷◌, ◌++◌, length, Option, Some, None, IsTrue, refl, sym, ap, subst, ◌∙◌, append_assoc, length-append, arith}
use Rattle.std.proofs.lemmas.Bool.{eqb-true}
use Rattle.std.proofs.lemmas.List.{append_cancel_left}
use Rattle.zarrs_store.specs.Segments.{has_no_slash, key_text}
use Rattle.zarrs_path.specs.Paths.{Path, IsPath, IsBelow, names_text, without_leading_slash}
use Rattle.zarrs_path.proofs.ByteTests.{nonempty_from_test}
use Rattle.zarrs_path.proofs.PathTexts.{IsCutAt, IsPath-parts, cut_last, slashed-cons, slashed_nil}
use Rattle.zarrs_meta.specs.Node.{is_group}
use Rattle.zarrs_meta.specs.declared.node.NodeMetadata.{NodeMetadata}
use Rattle.zarrs_block.specs.Block.{Block, Entries, entry, first_some, node_at_key}
use Rattle.zarrs_node.specs.Reach.{HasGroup, Reached}
use Rattle.zarrs_node.specs.BlocksOfNodes.{text_beyond}
use Rattle.zarrs_node.specs.CurrentBlocks.{LeadsTo}
use Rattle.zarrs_node.proofs.blocks.LastNames.{IsCutText, has_slash}
use Rattle.zarrs_node.proofs.walk.WalkPrefixes.{length_zero}
use Rattle.zarrs_node.proofs.blocks.BlockTexts.{text_is}
use Rattle.zarrs_node.proofs.Reach.{head_same, rest_same, no_room}
use Rattle.zarrs_node.proofs.KeptPairs.{reached_between}

-- ---- beginnings of a path

-- a name in front of both leaves what is below
below_head : (x : List ℕ) (r q : Path) → IsBelow r q → IsBelow (x ∷ r) (x ∷ q)
below_head x r q (n, ns, e) = (n, ns, ap (λ l. x ∷ l) e)

-- a proper beginning of a path and one name is that path, or a proper beginning of it
pub same_or_above : (q r : Path) (n j : List ℕ) (js : Path) → q ++ n ∷ [] ≡ r ++ j ∷ js → (r ≡ q) ⊎ IsBelow r q
same_or_above [] [] n j js e = inl refl
same_or_above [] (x ∷ r) n j js e =
    let long = ap length e in
    let more = length-append r (j ∷ js) in
    absurd (omega (arith, long, more))
same_or_above (y ∷ q) [] n j js e = inr (y, q, refl)
same_or_above (y ∷ q) (x ∷ r) n j js e =
    let head : y ≡ x = head_same y x (q ++ n ∷ []) (r ++ j ∷ js) e in
    let rest : q ++ n ∷ [] ≡ r ++ j ∷ js = rest_same y x (q ++ n ∷ []) (r ++ j ∷ js) e in
    ⊎_elim (λ same. inl (λ i. sym head i ∷ same i)) (λ low. inr (subst (λ h. IsBelow (x ∷ r) (h ∷ q)) (sym head) (below_head x r q low))) (same_or_above q r n j js rest)

-- names beyond a base are names
pub names_beyond : (b p : Path) (n : List ℕ) (ns : Path) → p ≡ b ++ n ∷ ns → IsPath p → IsPath (n ∷ ns)
names_beyond b p n ns is valid = (IsPath-parts b (n ∷ ns) (subst IsPath is valid)).1

-- ---- the way to a path

module _ (N : Path × NodeMetadata → Type 0) (b q p : Path) (n : List ℕ) (child : p ≡ q ++ n ∷ []) (valid : IsPath p) where
  -- a path is led to where its parent is a group, and is led to
  pub by_parent : IsBelow b q → Reached N true b p ↔ (HasGroup N q × Reached N true b q)
  by_parent low = (
    λ h. ((h.between q low (n, [], child)).1, reached_between N true b p h q low (n, [], child)),
    λ h.
        let is : p ≡ b ++ low.0 ∷ (low.1 ++ n ∷ []) = child ∙ ap (λ x. x ++ n ∷ []) low.2 ∙ append_assoc b (low.0 ∷ low.1) (n ∷ []) in
        record {
          below = (low.0, low.1 ++ n ∷ [], is, names_beyond b p low.0 (low.1 ++ n ∷ []) is valid);
          between = λ r in' up. ⊎_elim (λ same. (refl, subst (HasGroup N) (sym same) h.0)) (λ above. h.1.between r in' above) (same_or_above q r n up.0 up.1 (sym child ∙ up.2));
        },
  )

  -- and where nothing stands between
  pub at_once : IsBelow b p → (IsBelow b q → ⊥) → Reached N true b p
  at_once low apart = record {
    below = (low.0, low.1, low.2, names_beyond b p low.0 low.1 low.2 valid);
    between = λ r in' up. ⊎_elim
        (λ same. absurd (no_room b in'.1 up.1 n in'.0 up.0 (ap (λ x. x ++ n ∷ []) same ∙ sym child ∙ up.2 ∙ ap (λ x. x ++ up.0 ∷ up.1) in'.2)))
        (λ above. absurd (apart above))
        (same_or_above q b n low.0 low.1 (sym child ∙ low.2));
  }

-- ---- entries that are groups

-- the metadata are a group's
abbrev pub some_group : Option NodeMetadata → Bool
some_group None = false
some_group (Some m) = is_group m

-- what is some group's metadata is a group
group_of : (o : Option NodeMetadata) → IsTrue (some_group o) → (m : NodeMetadata) × (o ≡ Some m) × IsTrue (is_group m)
group_of None h = absurd (true≢false (sym h))
group_of (Some m) h = (m, refl, h)

module _ (B : Block) (b p : Path) (low : IsBelow b p) (valid : IsPath p) where
  -- a path has a group where its entry is one
  has_group_by : (o : Option NodeMetadata) → entry B (low.0 ∷ low.1) ≡ o → IsTrue (some_group o) ↔ HasGroup (Entries B b) p
  has_group_by o is = (
    λ t. let w = group_of o t in (w.0, (low.0, low.1, names_beyond b p low.0 low.1 low.2 valid, low.2, is ∙ w.1), w.2),
    λ h.
        let same : h.1.0 ∷ h.1.1 ≡ low.0 ∷ low.1 = append_cancel_left b (h.1.0 ∷ h.1.1) (low.0 ∷ low.1) (sym h.1.3 ∙ low.2) in
        let some : o ≡ Some h.0 = sym is ∙ ap (entry B) (sym same) ∙ h.1.4 in
        ap some_group some ∙ h.2,
  )

  -- the text of its names is its key
  key_is : (key : List ℕ) → key ≡ text_beyond b p → key ≡ key_text (low.0 ∷ low.1)
  key_is key text = text ∙ text_is b p low.0 low.1 low.2

  -- by what stands at the key
  pub group_at_key : (key : List ℕ) (o : Option NodeMetadata) (m : NodeMetadata) (x : Bool) → key ≡ text_beyond b p → o ≡ node_at_key B key → o ≡ Some m → x ≡ is_group m → IsTrue x ↔ HasGroup (Entries B b) p
  group_at_key key o m x text at some group =
      subst (λ y. IsTrue y ↔ HasGroup (Entries B b) p) (sym group)
      (has_group_by (Some m) (ap (λ f. first_some f (node_at_key B (47 ∷ key_text (low.0 ∷ low.1)))) (ap (node_at_key B) (sym (key_is key text)) ∙ sym at ∙ some)))

  -- by what stands behind a slash, where nothing stands at the key
  pub group_rooted : (key rooted : List ℕ) (o r : Option NodeMetadata) (x : Bool) → key ≡ text_beyond b p → o ≡ node_at_key B key → o ≡ None → rooted ≡ 47 ∷ key → r ≡ node_at_key B rooted → x ≡ some_group r
      → IsTrue x ↔ HasGroup (Entries B b) p
  group_rooted key rooted o r x text at none slash behind group =
      let first : node_at_key B (key_text (low.0 ∷ low.1)) ≡ None = ap (node_at_key B) (sym (key_is key text)) ∙ sym at ∙ none in
      let second : node_at_key B (47 ∷ key_text (low.0 ∷ low.1)) ≡ r = ap (λ k. node_at_key B (47 ∷ k)) (sym (key_is key text)) ∙ ap (node_at_key B) (sym slash) ∙ sym behind in
      subst (λ y. IsTrue y ↔ HasGroup (Entries B b) p) (sym group) (has_group_by r (ap (λ f. first_some f (node_at_key B (47 ∷ key_text (low.0 ∷ low.1)))) first ∙ second))

-- a text behind a slash, without it
pub bare_is : (rooted key text : List ℕ) → key ≡ without_leading_slash rooted → rooted ≡ 47 ∷ text → key ≡ text
bare_is rooted key text is e = is ∙ ap without_leading_slash e

-- ---- name by name, from the last on

-- left is the text of names beyond b, a slash before each, and to these the block leads where it leads to p
pub record IsOnTheWay (B : Block) (b p : Path) (left : List ℕ) : Type 0 where
  pub name : List ℕ
  pub rest : Path
  pub valid : IsPath (b ++ name ∷ rest)
  pub text : left ≡ names_text (name ∷ rest)
  pub same : LeadsTo B b p ↔ LeadsTo B b (b ++ name ∷ rest)

-- at first they are all names of p
pub way_start : (B : Block) (b p : Path) → IsBelow b p → IsPath p → (key left : List ℕ) → key ≡ text_beyond b p → left ≡ 47 ∷ key → IsOnTheWay B b p left
way_start B b p low valid key left at slash = record {
  name = low.0;
  rest = low.1;
  valid = subst IsPath low.2 valid;
  text = slash ∙ ap (λ t. 47 ∷ t) (at ∙ text_is b p low.0 low.1 low.2) ∙ sym (slashed-cons low.0 low.1);
  same = subst (λ q. LeadsTo B b p ↔ LeadsTo B b q) low.2 (λ h. h, λ h. h);
}

-- nothing is below itself
not_below_itself : (b : Path) → IsBelow b b → ⊥
not_below_itself b (n, ns, e) =
    let long = ap length e in
    let more = length-append b (n ∷ ns) in
    absurd (omega (arith, long, more))

-- names with a text that is not empty are some
some_names : (q : Path) (front : List ℕ) → names_text q ≡ front → front ≢ [] → (n : List ℕ) × (ns : Path) × (q ≡ n ∷ ns)
some_names [] front e some = absurd (some (sym e))
some_names (n ∷ ns) front e some = (n, ns, refl)

module _ {B : Block} {b p : Path} {left above last : List ℕ} (h : IsOnTheWay B b p left) (t : IsCutText left above last) where
  -- the names without the last of them
  cut : IsCutAt (h.name ∷ h.rest) above
  cut = cut_last (h.name ∷ h.rest) above last (IsPath-parts b (h.name ∷ h.rest) h.valid).1 (λ e. cc) (sym h.text ∙ t.cut) t.clean

  -- the last of them stands behind the others
  child : b ++ h.name ∷ h.rest ≡ (b ++ cut.upper) ++ cut.name ∷ []
  child = ap (λ q. b ++ q) cut.whole ∙ sym (append_assoc b cut.upper (cut.name ∷ []))

  -- where there are no others, it is led to
  pub way_done : {empty : Bool} → empty ≡ (length above == 0) → empty ≡ true → IsTrue true ↔ LeadsTo B b p
  way_done is none_left =
      let root : cut.upper ≡ [] = slashed_nil cut.upper (cut.text ∙ length_zero above (eqb-true (length above) 0 (sym is ∙ none_left))) in
      let one : b ++ h.name ∷ h.rest ≡ b ++ cut.name ∷ [] = ap (λ q. b ++ q) (cut.whole ∙ ap (λ q. q ++ cut.name ∷ []) root) in
      (λ _. h.same.1 (at_once (Entries B b) b b (b ++ h.name ∷ h.rest) cut.name one h.valid (h.name, h.rest, refl) (not_below_itself b)), λ _. refl)

  module _ {empty : Bool} (is : empty ≡ (length above == 0)) (some : empty ≡ false) where
    -- else there are names before it
    front : (n : List ℕ) × (ns : Path) × (cut.upper ≡ n ∷ ns)
    front = some_names cut.upper above cut.text (nonempty_from_test above (sym is ∙ some))

    -- below b
    low : IsBelow b (b ++ cut.upper)
    low = (front.0, front.1, ap (λ q. b ++ q) front.2)

    -- whose text is what stands above
    text_above : above ≡ 47 ∷ text_beyond b (b ++ cut.upper)
    unfolding front low
    text_above = sym cut.text ∙ ap names_text front.2 ∙ slashed-cons front.0 front.1 ∙ ap (λ x. 47 ∷ x) (sym (text_is b (b ++ cut.upper) front.0 front.1 low.2))

    -- a path
    valid_above : IsPath (b ++ cut.upper)
    valid_above = (IsPath-parts (b ++ cut.upper) (cut.name ∷ []) (subst IsPath child h.valid)).0

    module _ {group : Bool} (asked : (q r : Path) → IsPath r → IsBelow q r → above ≡ 47 ∷ text_beyond q r → IsTrue group ↔ HasGroup (Entries B q) r) where
      -- which leads on where it is a group
      step : LeadsTo B b (b ++ h.name ∷ h.rest) ↔ (HasGroup (Entries B b) (b ++ cut.upper) × LeadsTo B b (b ++ cut.upper))
      step = by_parent (Entries B b) b (b ++ cut.upper) (b ++ h.name ∷ h.rest) cut.name child h.valid low

      -- and it is asked whether it is
      answer : IsTrue group ↔ HasGroup (Entries B b) (b ++ cut.upper)
      answer = asked b (b ++ cut.upper) valid_above low text_above

      -- what is no group leads no further
      pub way_shut : group ≡ false → IsTrue false ↔ LeadsTo B b p
      way_shut shut = (λ f. absurd (true≢false (sym f)), λ led. absurd (true≢false (sym (answer.1 (step.0 (h.same.0 led)).0) ∙ shut)))

      -- a group leads on
      pub way_on : group ≡ true → IsOnTheWay B b p above
      way_on open_to = record {
        name = front.0;
        rest = front.1;
        valid = subst (λ q. IsPath (b ++ q)) front.2 valid_above;
        text = sym cut.text ∙ ap names_text front.2;
        same = subst (λ q. LeadsTo B b p ↔ LeadsTo B b (b ++ q)) front.2 (λ led. (step.0 (h.same.0 led)).1, λ led. h.same.1 (step.1 (answer.0 open_to, led)));
      }

-- less is left
pub way_shorter : {left above last : List ℕ} → IsCutText left above last → length above < length left
way_shorter {left} {above} {last} t =
    let long = ap length t.cut in
    let more = length-append above (47 ∷ last) in
    omega (arith, long, more)

-- there is always a slash
pub way_none : {A : Type 0} {B : Block} {b p : Path} {left : List ℕ} → IsOnTheWay B b p left → IsTrue (has_no_slash left) → A
way_none h clean = absurd (has_slash (h.name ∷ h.rest) (subst (λ t. IsTrue (has_no_slash t)) h.text clean))
