-- A text cut at its last slash, as `rsplit_once` cuts it.
use Rattle.std.proofs.Common.{◌≡◌, ℕ, ◌<◌, not, ◌==◌, List, ◌∷◌, ◌++◌, length, take, drop, get_or, sym, ap, ◌∙◌, subst, IsTrue, Option, Some, None, MatchOption, Bor, ne_eqb, lit<}
use Rattle.std.specs.Str.{NoCharPasses}
use Rattle.std.specs.Str.Pattern.{RFindsChar, SplitsAroundMatch}
use Rattle.std.proofs.lemmas.Str.Pattern.{NoCharPasses-char, drop_at_char}
use Rattle.std.proofs.lemmas.List.{take-append-drop, get_or_default}
use Rattle.std.proofs.lemmas.List.Sums.{list_all-from_AllPass}
use Rattle.zarrs_store.specs.Segments.{is_slash, has_no_slash}

-- a text is cut at its last slash
pub record IsCutText (text front last : List ℕ) : Type 0 where
  pub cut : text ≡ front ++ 47 ∷ last
  pub clean : IsTrue (has_no_slash last)

-- no slash passes through a text: it has none
clean_text : (bs : List ℕ) → NoCharPasses (λ d. d == 47) bs → IsTrue (has_no_slash bs)
clean_text bs h = list_all-from_AllPass (λ b. not (is_slash b)) bs (λ i d lt. ap not (ne_eqb (get_or bs i d) 47 (λ e. NoCharPasses-char 47 bs i h (lit< tt) lt (same bs i d lt ∙ e))))
  where
    same : (bs : List ℕ) (i d : ℕ) → i < length bs → get_or bs i 0 ≡ get_or bs i d
    same bs i d lt = get_or_default bs i 0 d lt

-- the parts that `rsplit_once('/')` gives
pub split_of : (bs : List ℕ) (r : Option (Bor (List ℕ) × Bor (List ℕ))) → MatchOption r (RFindsChar 47 bs None) (λ x. SplitsAroundMatch (RFindsChar 47) bs x.0.now x.1.now)
    → MatchOption r (IsTrue (has_no_slash bs)) (λ x. IsCutText bs x.0.now x.1.now)
split_of bs None h = clean_text bs h
split_of bs (Some x) h = record {
  cut = sym (take-append-drop h.0 bs) ∙ ap (λ t. take h.0 bs ++ t) (drop_at_char 47 bs h.0 h.1 h.2.1 (lit< tt)) ∙ ap (λ t. t ++ 47 ∷ drop h.1 bs) (sym h.3) ∙ ap (λ t. x.0.now ++ 47 ∷ t) (sym h.4);
  clean = subst (λ t. IsTrue (has_no_slash t)) (sym h.4) (clean_text (drop h.1 bs) h.2.0);
}
