-- Lists of edits.
use Rattle.std.proofs.Math.Seq.{take-suc, drop-cons}
use Rattle.std.proofs.lemmas.List.{take-append-drop, map-append}
use Rattle.std.proofs.Common.{get_or, add-one, suc, ◌≡◌, ℕ, ◌+◌, ◌<◌, List, [], ◌∷◌, ◌++◌, refl, sym, ap, ◌∙◌, subst, map, take, drop, length}
use Rattle.zarrs_store.specs.Contents.{Contents}
use Rattle.zarrs_group.specs.Edits.{AgreesOutsideKey, Edit, after_edit, after, edit_key, IsCutShort}

-- an edit after a list of edits is the last
pub after-push : (S : Contents) (es : List Edit) (e : Edit) → after S (es ++ e ∷ []) ≡ after_edit (after S es) e
after-push S [] e = refl
after-push S (d ∷ es) e = after-push (after_edit S d) es e

-- one more of the edits of a list
module _ {X : Type 0} (f : X → Edit) (S : Contents) (xs : List X) (i : ℕ) (x : X) (here : x ≡ get_or xs i x) (within : i < length xs) where
  -- the first i + 1 items are the first i and the one at i
  at : take (i + 1) xs ≡ take i xs ++ x ∷ []
  at = ap (λ n. take n xs) (add-one i) ∙ take-suc xs i x within ∙ ap (λ y. take i xs ++ y ∷ []) (sym here)

  -- a list is its first items, the one at i and the rest
  split : xs ≡ take i xs ++ x ∷ drop (suc i) xs
  split = sym (take-append-drop i xs) ∙ ap (λ ys. take i xs ++ ys) (drop-cons xs i x within ∙ ap (λ y. y ∷ drop (suc i) xs) (sym here))

  -- one more edit, and the store is what one more of the edits leave
  pub after-next : (T : Contents) → T ≡ after S (map f (take i xs)) → after_edit T (f x) ≡ after S (map f (take (i + 1) xs))
  after-next T is =
      ap (λ t. after_edit t (f x)) is ∙ sym (after-push S (map f (take i xs)) (f x))
      ∙ ap (after S) (sym (map-append f (take i xs) (x ∷ []))) ∙ ap (λ ys. after S (map f ys)) (sym at)

  -- where the edit at i is refused, the list was cut short there
  pub cut-next : (T T' : Contents) → T ≡ after S (map f (take i xs)) → AgreesOutsideKey (edit_key (f x)) T T' → IsCutShort S (map f xs) T'
  cut-next T T' is others = record {
    done = map f (take i xs);
    next = f x;
    rest = map f (drop (suc i) xs);
    is = ap (map f) split ∙ map-append f (take i xs) (x ∷ drop (suc i) xs);
    others = subst (λ t. AgreesOutsideKey (edit_key (f x)) t T') is others;
  }
