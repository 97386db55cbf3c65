-- The pairs of a placed forest, in preorder, ascend in the order of paths.
use Rattle.std.proofs.Common.{◌≡◌, ℕ, ◌⊎◌, inl, inr, ⊎_elim, List, [], ◌∷◌, ◌++◌, refl, sym, ap, subst, ◌∙◌, append_assoc, append-nil, arith, Contains, Less, Equal, Greater, Ordering}
use Rattle.std.proofs.lemmas.List.Elements.{Contains-append_cases, Contains-push_cases}
use Rattle.std.specs.Cmp.Lexicographic.{nat_list_cmp_total}
use Rattle.std.specs.Ordering.{ordering_then}
use Rattle.zarrs_path.specs.Paths.{Path, path_cmp}
use Rattle.zarrs_store.specs.Segments.{bytes_cmp}
use Rattle.zarrs_meta.specs.declared.node.NodeMetadata.{NodeMetadata}
use Rattle.zarrs_node.specs.Forest.{Forest, none, tree, pairs, IsBefore, IsPlaced, Shows}
use Rattle.zarrs_node.specs.Order.{Ascend}
use Rattle.zarrs_node.proofs.ForestsBeside.{path_cmp-append}
use Rattle.zarrs_node.proofs.ListedItems.{all_pairs_append}

-- e is in a list by its head or its rest
pub contains_cases : {A : Type 0} (x : A) (xs : List A) (y : A) → Contains (x ∷ xs) y → (x ≡ y) ⊎ Contains xs y
contains_cases x xs y h = ⊎_elim (λ one. ⊎_elim (λ none. absurd (omega (arith, none.1))) inl (Contains-push_cases [] x y one)) inr (Contains-append_cases (x ∷ []) xs y h)

-- one pair ascends
pub one_ascends : (e : Path × NodeMetadata) → Ascend (e ∷ [])
one_ascends e i j d l m = absurd (omega (arith, l, m))

-- p ≡ b ++ k ∷ ks with its parts
pub record Begins (b : Path) (p : Path) : Type 0 where
  pub name : List ℕ
  pub rest : Path
  pub is : p ≡ b ++ name ∷ rest

-- what begins with b, a name and more begins with b and that name
pub deeper : (b p q : Path) (n : List ℕ) → p ≡ b ++ n ∷ [] → (h : Begins p q) → q ≡ b ++ n ∷ (h.name ∷ h.rest)
deeper b p q n e h = h.is ∙ ap (λ x. x ++ h.name ∷ h.rest) e ∙ append_assoc b (n ∷ []) (h.name ∷ h.rest)

-- each path of a placed forest is below its base
pub all_below : (b : Path) (f : Forest) → IsPlaced b f → (e : Path × NodeMetadata) → Contains (pairs f) e → Begins b e.0
all_below b none h e in' = absurd (omega (arith, in'.1))
all_below b (tree p m below after) h e in' = ⊎_elim
    (λ same. record { name = h.0.0; rest = []; is = ap (λ x. x.0) (sym same) ∙ h.0.1 })
    (λ rest. ⊎_elim
    (λ l. let w = all_below p below h.2 e l in record { name = h.0.0; rest = w.name ∷ w.rest; is = deeper b p e.0 h.0.0 h.0.1 w })
    (λ l. all_below b after h.4 e l)
    (Contains-append_cases (pairs below) (pairs after) e rest))
    (contains_cases (p, m) (pairs below ++ pairs after) e in')

-- and, where b and n stands before the first root, its name below b is after n
pub record After (b : Path) (n : List ℕ) (p : Path) : Type 0 where
  pub begins : Begins b p
  pub later : bytes_cmp n begins.name ≡ Less

-- an order that ends in equality is decided before
then_less : (o : Ordering) → ordering_then o (path_cmp [] []) ≡ Less → o ≡ Less
then_less Less h = refl
then_less Equal h = h
then_less Greater h = h

-- of two children of b the one with the later name is later, and the other way round
root_later : (b : Path) (n k : List ℕ) → path_cmp (b ++ n ∷ []) (b ++ k ∷ []) ≡ Less → bytes_cmp n k ≡ Less
root_later b n k h = then_less (bytes_cmp n k) (sym (path_cmp-append b (n ∷ []) (k ∷ [])) ∙ h)

-- each path of a placed forest is after a child of b that stands before its first root
pub all_after : (b : Path) (n : List ℕ) (f : Forest) → IsPlaced b f → IsBefore (b ++ n ∷ []) f → (e : Path × NodeMetadata) → Contains (pairs f) e → After b n e.0
all_after b n none h first e in' = absurd (omega (arith, in'.1))
all_after b n (tree p m below after) h first e in' =
    let later = root_later b n h.0.0 (subst (λ x. path_cmp (b ++ n ∷ []) x ≡ Less) h.0.1 first) in
    ⊎_elim
    (λ same. record { begins = record { name = h.0.0; rest = []; is = ap (λ x. x.0) (sym same) ∙ h.0.1 }; later = later })
    (λ rest. ⊎_elim
    (λ l. let w = all_below p below h.2 e l in record { begins = record { name = h.0.0; rest = w.name ∷ w.rest; is = deeper b p e.0 h.0.0 h.0.1 w }; later = later })
    (λ l. let w = all_after b h.0.0 after h.4 (subst (λ x. IsBefore x after) h.0.1 h.3) e l in record { begins = w.begins; later = nat_list_cmp_total.trans n h.0.0 w.begins.name later w.later })
    (Contains-append_cases (pairs below) (pairs after) e rest))
    (contains_cases (p, m) (pairs below ++ pairs after) e in')

-- of two paths below b the one with the earlier name there is earlier
pub later_less : (b p q : Path) (n k : List ℕ) (ns ks : Path) → p ≡ b ++ n ∷ ns → q ≡ b ++ k ∷ ks → bytes_cmp n k ≡ Less → path_cmp p q ≡ Less
later_less b p q n k ns ks e f less = ap (λ x. path_cmp x q) e ∙ ap (path_cmp (b ++ n ∷ ns)) f ∙ path_cmp-append b (n ∷ ns) (k ∷ ks) ∙ ap (λ o. ordering_then o (path_cmp ns ks)) less

-- a path is before each path below it
pub below_less : (p q : Path) → Begins p q → path_cmp p q ≡ Less
below_less p q h = ap (path_cmp p) h.is ∙ ap (λ x. path_cmp x (p ++ h.name ∷ h.rest)) (sym (append-nil p)) ∙ path_cmp-append p [] (h.name ∷ h.rest)

-- the pairs of a placed forest ascend
pub pairs_ascend : (b : Path) (f : Forest) → IsPlaced b f → Ascend (pairs f)
pairs_ascend b none h = λ i j d l m. absurd (omega (arith, m))
pairs_ascend b (tree p m below after) h =
    let Less' : Path × NodeMetadata → Path × NodeMetadata → Type 0 = λ d e. path_cmp d.0 e.0 ≡ Less in
    let first = subst (λ x. IsBefore x after) h.0.1 h.3 in
    let root : p ≡ b ++ h.0.0 ∷ [] = h.0.1 in
    all_pairs_append Less' ((p, m) ∷ []) (pairs below ++ pairs after) (one_ascends (p, m))
    (all_pairs_append Less' (pairs below) (pairs after) (pairs_ascend p below h.2) (pairs_ascend b after h.4)
    (λ x y hx hy. let w = all_below p below h.2 x hx in let v = all_after b h.0.0 after h.4 first y hy in
    later_less b x.0 y.0 h.0.0 v.begins.name (w.name ∷ w.rest) v.begins.rest (deeper b p x.0 h.0.0 root w) v.begins.is v.later))
    (λ x y hx hy. ⊎_elim (λ none. absurd (omega (arith, none.1)))
    (λ same. subst (λ z. path_cmp z.0 y.0 ≡ Less) same (⊎_elim
    (λ l. below_less p y.0 (all_below p below h.2 y l))
    (λ l. let v = all_after b h.0.0 after h.4 first y l in later_less b p y.0 h.0.0 v.begins.name [] v.begins.rest root v.begins.is v.later)
    (Contains-append_cases (pairs below) (pairs after) y hy)))
    (Contains-push_cases [] (p, m) x hx))

-- the pairs of a forest that shows nodes ascend, whatever the nodes; that each stands once is `shown.once`
pub shown_ascend : (b : Path) (N : Path × NodeMetadata → Type 0) (f : Forest) → Shows f b N → Ascend (pairs f)
shown_ascend b N f h = pairs_ascend b f h.placed
