use Rattle.std.proofs.Common.{◌≡◌, List, ℕ, [], ◌∷◌, ◌++◌, sym, ◌∙◌, ap, subst, Some, None, lit<, not, take, drop, IsTrue}
use Rattle.std.proofs.lemmas.Bool.{ne_eqb}
use Rattle.std.proofs.lemmas.List.{get_or_default, take-append-drop}
use Rattle.std.proofs.lemmas.List.Sums.{list_all-from_AllPass}
use Rattle.std.proofs.lemmas.Str.Pattern.{strip_suffix_char, NoCharPasses-char, drop_at_char}
use Rattle.std.specs.Str.{NoCharPasses}
use Rattle.std.specs.Str.Pattern.{HasCharAt}
use Rattle.std.proofs.Common.{eqb}
use Rattle.zarrs_store.specs.Segments.{last_segment, segments_of, is_slash, has_no_slash, IsKeyText, IsPrefixText}
use Rattle.zarrs_store.proofs.Cuts.{last_segment-after, last_segment-whole, segments_of-slash, segments_of-nil, key_from_prefix, prefix_open}
use Rattle.zarrs_store.proofs.prefix.StorePrefix.name.Goals as goal

-- a text in which no `/` was found has none
clean : (s : List ℕ) → NoCharPasses (λ d. eqb d 47) s → IsTrue (has_no_slash s)
clean s h = list_all-from_AllPass (λ b. not (is_slash b)) s (λ k d l. ap not (ne_eqb _ _ (λ e. NoCharPasses-char 47 s k h (lit< tt) l (get_or_default s k 0 d l ∙ e))))

-- what stands behind the last `/` of a key's text is its last segment
after_last : (bs name : List ℕ) (i j : ℕ) → IsKeyText bs → NoCharPasses (λ d. eqb d 47) (drop j bs) → HasCharAt 47 bs i j → name ≡ drop j bs → last_segment (segments_of bs) ≡ name
after_last bs name i j t h at is =
    let whole : bs ≡ take i bs ++ 47 ∷ drop j bs = sym (take-append-drop i bs) ∙ ap (λ r. take i bs ++ r) (drop_at_char 47 bs i j at (lit< tt)) in
    ap (λ x. last_segment (segments_of x)) whole ∙ last_segment-after (take i bs) (drop j bs) (subst IsKeyText whole t) (clean (drop j bs) h) ∙ sym is

module _ (inner text : List ℕ) (is : text ≡ inner ++ 47 ∷ []) (t : IsPrefixText text) where
  -- what stands before the slash at the end is a key's text
  key : IsKeyText inner
  key = key_from_prefix inner (subst IsPrefixText is t)

  -- the slash at the end adds no segment
  same : last_segment (segments_of inner) ≡ last_segment (segments_of text)
  same = sym (ap last_segment (ap segments_of is ∙ segments_of-slash inner))

pub returns-in-Some-rsplit_once : goal.returns-in-Some-rsplit_once
returns-in-Some-rsplit_once c =
    let h = c.in-Some-rsplit_once.ensures.cases in
    let bare = strip_suffix_char 47 _ (Some c.in-Some.inner) c.in-Some.ensures.cases (lit< tt) in
    let text = sym c.as_str-text.ensures.value ∙ bare in
    sym (after_last c.in-Some.inner.now c.in-Some-rsplit_once.name.now h.0 h.1 (key _ _ text c.self.invariant) h.2.0 h.2.1 h.4)
    ∙ same _ _ text c.self.invariant ∙ ap last_segment c.self.view_is

pub returns-in-None-rsplit_once : goal.returns-in-None-rsplit_once
returns-in-None-rsplit_once c =
    let bare = strip_suffix_char 47 _ (Some c.in-Some.inner) c.in-Some.ensures.cases (lit< tt) in
    let text = sym c.as_str-text.ensures.value ∙ bare in
    sym (last_segment-whole c.in-Some.inner.now (key _ _ text c.self.invariant) (clean c.in-Some.inner.now c.in-None-rsplit_once.ensures.cases))
    ∙ same _ _ text c.self.invariant ∙ ap last_segment c.self.view_is

pub returns-in-None : goal.returns-in-None
returns-in-None c =
    let not_slash = strip_suffix_char 47 _ None c.in-None.ensures.cases (lit< tt) in
    let empty = prefix_open _ c.self.invariant (λ u e. not_slash u (c.as_str-text.ensures.value ∙ e)) in
    sym (ap last_segment (ap segments_of empty ∙ segments_of-nil)) ∙ ap last_segment c.self.view_is
