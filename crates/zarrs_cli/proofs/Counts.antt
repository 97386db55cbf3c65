-- The paths below a path that have documents of nodes, and the bad documents with their numbers.
use Rattle.std.proofs.Common.{◌≡◌, ◌≢◌, ⊎_elim, ℕ, suc, List, [], ◌∷◌, get_or, length, zip, AllPairs, Contains, subst, arith}
use Rattle.std.proofs.lemmas.List.Elements.{Contains-get_or}
use Rattle.std.proofs.lemmas.List.Kept.{AllPairs-cons}
use Rattle.zarrs_store.specs.Contents.{Contents}
use Rattle.zarrs_path.specs.Paths.{Path}
use Rattle.zarrs_meaning.specs.declared.node_create_error.NodeCreateError.{NodeCreateError}
use Rattle.zarrs_node.proofs.ListedItems.{all_pairs_first, all_pairs_tail}
use Rattle.zarrs_node.proofs.ForestsBeside.{Contains-cons, Contains-first}
use Rattle.zarrs_node.proofs.Order.{contains_cases}
use Rattle.zarrs_check.specs.Orphans.{AreHidden, IsCountBelow}

-- ---- bad documents with their numbers

-- the first, and those behind it
hidden_first : (s : Contents) (d : Path × NodeCreateError) (ds : List (Path × NodeCreateError)) (n : ℕ) (ns : List ℕ) → AreHidden s (d ∷ ds) (n ∷ ns) → IsCountBelow s d.0 n
hidden_first s d ds n ns h = h.each 0 d n (omega arith)

-- the numbers behind the first are those of the bad documents behind the first
hidden_rest : (s : Contents) (d : Path × NodeCreateError) (ds : List (Path × NodeCreateError)) (n : ℕ) (ns : List ℕ) → AreHidden s (d ∷ ds) (n ∷ ns) → AreHidden s ds ns
hidden_rest s d ds n ns h = let size : length (n ∷ ns) ≡ length (d ∷ ds) = h.size in record { size = omega (arith, size); each = λ i e m l. h.each (suc i) e m (omega (arith, l)) }

-- each pair is of a bad document and its number
pub pair_sound : (s : Contents) (ds : List (Path × NodeCreateError)) (ns : List ℕ) → AreHidden s ds ns → (e : (Path × NodeCreateError) × ℕ) → Contains (zip ds ns) e → Contains ds e.0 × IsCountBelow s e.0.0 e.1
pair_sound s [] ns h e in' = absurd (omega (arith, in'.1))
pair_sound s (d ∷ ds) [] h e in' = absurd (omega (arith, in'.1))
pair_sound s (d ∷ ds) (n ∷ ns) h e in' = ⊎_elim
    (λ same. (subst (λ x. Contains (d ∷ ds) x.0) same (Contains-first d ds), subst (λ x. IsCountBelow s x.0.0 x.1) same (hidden_first s d ds n ns h)))
    (λ later. let w = pair_sound s ds ns (hidden_rest s d ds n ns h) e later in (Contains-cons d ds e.0 w.0, w.1))
    (contains_cases (d, n) (zip ds ns) e in')

-- each bad document has a pair
pub pair_complete : (s : Contents) (ds : List (Path × NodeCreateError)) (ns : List ℕ) → AreHidden s ds ns → (d : Path × NodeCreateError) → Contains ds d → (n : ℕ) × Contains (zip ds ns) (d, n)
pair_complete s [] ns h d in' = absurd (omega (arith, in'.1))
pair_complete s (x ∷ ds) [] h d in' = let size : 0 ≡ length (x ∷ ds) = h.size in absurd (omega (arith, size))
pair_complete s (x ∷ ds) (n ∷ ns) h d in' = ⊎_elim
    (λ same. (n, subst (λ y. Contains ((x, n) ∷ zip ds ns) (y, n)) same (Contains-first (x, n) (zip ds ns))))
    (λ later. let w = pair_complete s ds ns (hidden_rest s x ds n ns h) d later in (w.0, Contains-cons (x, n) (zip ds ns) (d, w.0) w.1))
    (contains_cases x ds d in')

-- pairs of different documents
pub pairs_apart : (ds : List (Path × NodeCreateError)) (ns : List ℕ) → AllPairs (λ d e. d ≢ e) ds → AllPairs (λ x y. x.0 ≢ y.0) (zip ds ns)
pairs_apart [] ns apart = λ i j d l m. absurd (omega (arith, m))
pairs_apart (d ∷ ds) [] apart = λ i j d l m. absurd (omega (arith, m))
pairs_apart (d ∷ ds) (n ∷ ns) apart = AllPairs-cons (λ x y. x.0 ≢ y.0) (d, n) (zip ds ns)
    (λ k e l. all_pairs_first (λ x y. x ≢ y) d ds apart (get_or (zip ds ns) k e).0 (zipped ds ns (get_or (zip ds ns) k e) (Contains-get_or (zip ds ns) k e l)))
    (pairs_apart ds ns (all_pairs_tail (λ x y. x ≢ y) d ds apart))
  where
    zipped : (ds : List (Path × NodeCreateError)) (ns : List ℕ) (e : (Path × NodeCreateError) × ℕ) → Contains (zip ds ns) e → Contains ds e.0
    zipped [] ns e in' = absurd (omega (arith, in'.1))
    zipped (d ∷ ds) [] e in' = absurd (omega (arith, in'.1))
    zipped (d ∷ ds) (n ∷ ns) e in' = ⊎_elim (λ same. subst (λ x. Contains (d ∷ ds) x.0) same (Contains-first d ds)) (λ later. Contains-cons d ds e.0 (zipped ds ns e later)) (contains_cases (d, n) (zip ds ns) e in')
