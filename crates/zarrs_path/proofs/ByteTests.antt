-- Tests of texts.
use Rattle.std.proofs.Common.{◌++◌, ◌+◌, take, drop, suc, IsTrue, MatchOption, unwrap_or, subst, add-one, drop-cons, length-drop, ◌≡◌, ◌≢◌, ℕ, ◌<◌, Bool, true, false, not, List, [], ◌∷◌, refl, sym, ap, ◌∙◌, get_or, length, ne_eqb, Option, Some, None, is_some, is_none, option_copied, Bor, arith, ◌==◌}
use Rattle.std.proofs.lemmas.Bool.{eqb-false, not-true, not-false}
use Rattle.std.proofs.lemmas.List.Folds.{list_all_at}
use Rattle.std.proofs.lemmas.List.Sums.{list_all-from_AllPass}
use Rattle.std.proofs.lemmas.List.{get_or_default, get_or-drop, take-append-drop}
use Rattle.zarrs_path.specs.Paths.{without_leading_slash}
use Rattle.zarrs_store.specs.Segments.{is_slash, has_no_slash}

-- what `contains('/')` answers
pub has_slash_is : (bs : List ℕ) (r : Bool) → (r ≡ true → (k : ℕ) × (k < length bs) × (get_or bs k 0 ≡ 47)) × ((k : ℕ) → k < length bs → get_or bs k 0 ≡ 47 → r ≡ true) → r ≡ not (has_no_slash bs)
has_slash_is bs true h =
    let found = h.0 refl in
    ap not (sym (list_all_at (λ b. not (is_slash b)) bs found.0 0 found.1 (ap (λ b. not (is_slash b)) found.2)))
has_slash_is bs false h =
    ap not (sym (list_all-from_AllPass (λ b. not (is_slash b)) bs (λ k d lt.
    let ne : get_or bs k d ≡ 47 → ⊥ = λ e.
    let same : get_or bs k 0 ≡ get_or bs k d = get_or_default bs k 0 d lt in
    let never = h.1 k lt (same ∙ e) in cc in
    ap not (ne_eqb (get_or bs k d) 47 ne))))

-- what `is_none` answers
pub none_is : (o : Option (Bor (List ℕ))) (r : Bool) (f : Option (List ℕ)) → is_some o ≡ not r → option_copied o ≡ f → r ≡ is_none f
none_is None r f is e = not-false r (sym is) ∙ ap is_none e
none_is (Some x) r f is e = not-true r (sym is) ∙ ap is_none e

-- a text that `is_empty` refuses is not empty
pub nonempty_from_test : (bs : List ℕ) → (length bs == 0) ≡ false → bs ≢ []
nonempty_from_test bs h e = eqb-false (length bs) 0 h (ap length e)

-- what `strip_prefix('/').unwrap_or(text)` gives
pub without_slash_is : (bs : List ℕ) (o : Option (Bor (List ℕ))) (t r : Bor (List ℕ)) → MatchOption o ((rest : List ℕ) → bs ≢ 47 ∷ rest) (λ x. bs ≡ 47 ∷ x.now) → t.now ≡ bs → r ≡ unwrap_or o t → r.now ≡ without_leading_slash bs
without_slash_is bs (Some x) t r m same is = ap (λ b. b.now) is ∙ ap without_leading_slash (sym m)
without_slash_is [] None t r m same is = ap (λ b. b.now) is ∙ same
without_slash_is (b ∷ bs) None t r m same is =
    let no : is_slash b ≡ false = ne_eqb b 47 (λ e. m bs (ap (λ x. x ∷ bs) e)) in
    ap (λ b. b.now) is ∙ (same ∙ rw no refl)

-- the text is cut at its last slash, which `rfind('/').unwrap_or(0)` finds where it begins with one
pub record IsLastSlash (bs : List ℕ) (at : ℕ) : Type 0 where
  pub cut : bs ≡ take at bs ++ 47 ∷ drop (at + 1) bs
  pub clean : IsTrue (has_no_slash (drop (at + 1) bs))
  pub within : at < length bs

-- what `rfind('/').unwrap_or(0)` finds in a text that begins with a slash is its last slash
pub last_slash_is : (bs rest : List ℕ) (r : Option ℕ) (at : ℕ) → bs ≡ 47 ∷ rest → MatchOption r ((i : ℕ) → i < length bs → get_or bs i 0 ≢ 47) (λ k. (k < length bs) × (get_or bs k 0 ≡ 47) × ((i : ℕ) → k < i → i < length bs → get_or bs i 0 ≢ 47)) → at ≡ unwrap_or r 0 → IsLastSlash bs at
last_slash_is bs rest None at e m is =
    let P : List ℕ → Type 0 = λ bs. ((i : ℕ) → i < length bs → get_or bs i 0 ≢ 47) → ⊥ in
    let none : P (47 ∷ rest) = λ never. never 0 (omega arith) refl in
    absurd (subst P (sym e) none m)
last_slash_is bs rest (Some k) at e m is =
    let P : ℕ → Type 0 = λ at. IsLastSlash bs at in
    subst P (sym is) (record {
      cut = sym (take-append-drop k bs) ∙ ap (λ t. take k bs ++ t) (rw (add-one) (drop-cons bs k 0 m.0 ∙ ap (λ b. b ∷ drop (suc k) bs) m.1));
      clean = list_all-from_AllPass (λ b. not (is_slash b)) (drop (k + 1) bs) (λ i d lt.
          let inside : k + 1 + i < length bs = omega (arith, length-drop (k + 1) bs) in
          let there : get_or (drop (k + 1) bs) i d ≡ get_or bs (k + 1 + i) 0 = get_or-drop (k + 1) bs i d ∙ get_or_default bs (k + 1 + i) d 0 inside in
          ap not (ne_eqb (get_or (drop (k + 1) bs) i d) 47 (λ f. m.2 (k + 1 + i) (omega arith) inside (sym there ∙ f))));
      within = m.0;
    })
