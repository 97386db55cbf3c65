-- A store that has all answers and one more has that one, and had all before.
use Rattle.std.proofs.Common.{◌≡◌, ℕ, List, ◌∷◌, subst}
use Rattle.std.specs.Prelude.{Option, All}
use Rattle.std.specs.Global.{Vec}
use Rattle.std.proofs.lemmas.List.Elements.{All-head, All-tail}
use Rattle.zarrs_store.specs.Segments.{Segments}
use Rattle.zarrs_store.specs.Contents.{Values}
use Rattle.zarrs_folder.specs.Answers.{IsFoundAt, IncludesChildren, IsFoundBelow, HasAnswers}

module _ (found : List (Segments × Option (Vec ℕ))) (listed : List (Segments × Vec Segments)) (searched : List (Segments × Option Segments)) (V : Values) where
  -- with what was found at a key
  pub document_noted : (key : Segments) (value : Option (Vec ℕ)) (more : List (Segments × Option (Vec ℕ))) → more ≡ (key, value) ∷ found
      → HasAnswers more listed searched V → HasAnswers found listed searched V × IsFoundAt V key value
  document_noted key value more is has =
      let all = subst (All (λ a. IsFoundAt V a.0 a.1)) is has.documents in (
        record { documents = All-tail (λ a. IsFoundAt V a.0 a.1) (key, value) found all; listings = has.listings; searches = has.searches },
        All-head (λ a. IsFoundAt V a.0 a.1) (key, value) found all,
      )

  -- with the children of a prefix
  pub children_noted : (prefix : Segments) (children : Vec Segments) (more : List (Segments × Vec Segments)) → more ≡ (prefix, children) ∷ listed
      → HasAnswers found more searched V → HasAnswers found listed searched V × IncludesChildren V prefix children
  children_noted prefix children more is has =
      let all = subst (All (λ a. IncludesChildren V a.0 a.1)) is has.listings in (
        record { documents = has.documents; listings = All-tail (λ a. IncludesChildren V a.0 a.1) (prefix, children) listed all; searches = has.searches },
        All-head (λ a. IncludesChildren V a.0 a.1) (prefix, children) listed all,
      )

  -- with a search below a prefix
  pub search_noted : (prefix : Segments) (key : Option Segments) (more : List (Segments × Option Segments)) → more ≡ (prefix, key) ∷ searched
      → HasAnswers found listed more V → HasAnswers found listed searched V × IsFoundBelow V prefix key
  search_noted prefix key more is has =
      let all = subst (All (λ a. IsFoundBelow V a.0 a.1)) is has.searches in (
        record { documents = has.documents; listings = has.listings; searches = All-tail (λ a. IsFoundBelow V a.0 a.1) (prefix, key) searched all },
        All-head (λ a. IsFoundBelow V a.0 a.1) (prefix, key) searched all,
      )
