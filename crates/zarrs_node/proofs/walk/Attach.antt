-- One pair more behind a placed forest, as a child of its base or of one of its groups.
use Rattle.std.proofs.Common.{◌≡◌, ⊎_elim, [], ◌∷◌, ◌++◌, refl, sym, ap, subst, ◌∙◌, append_assoc, append-nil, arith, Contains, Less, IsTrue}
use Rattle.std.proofs.lemmas.List.Elements.{Contains-append_left, Contains-append_right, Contains-append_cases}
use Rattle.zarrs_path.specs.Paths.{Path, path_cmp}
use Rattle.zarrs_meta.specs.declared.node.NodeMetadata.{NodeMetadata}
use Rattle.zarrs_meta.specs.declared.node.NodeMetadata.TheVariants.{Group, Array}
use Rattle.zarrs_meta.specs.Node.{is_group}
use Rattle.zarrs_node.specs.Forest.{Forest, none, tree, pairs, IsBefore, IsPlaced, MayHold, IsChildOf}
use Rattle.zarrs_node.specs.StepsOfTrees.{graft}
use Rattle.zarrs_node.proofs.ForestsBeside.{pairs-graft, placed_graft, Contains-first, Contains-cons}
use Rattle.zarrs_node.proofs.Order.{contains_cases, Begins, all_below, all_after, deeper, later_less}
use Rattle.zarrs_node.proofs.OpenForests.{holds_none, holds_group}
use Rattle.zarrs_node.proofs.Unique.{Pair, names_total, names_irrefl}

-- f with the pair of p and m behind its pairs
pub record Attached (b : Path) (f : Forest) (p : Path) (m : NodeMetadata) : Type 0 where
  pub whole : Forest
  pub placed : IsPlaced b whole
  pub are : pairs whole ≡ pairs f ++ (p, m) ∷ []
  pub first : (x : Path) → path_cmp x p ≡ Less → IsBefore x f → IsBefore x whole

-- what stands before p and before f stands before f and a tree of p
before_more : (f : Forest) (p : Path) (m : NodeMetadata) (x : Path) → path_cmp x p ≡ Less → IsBefore x f → IsBefore x (graft f (tree p m none none))
before_more none p m x less h = less
before_more (tree q k below after) p m x less h = h

-- a child of the base behind all that stands
pub attach_root : (b : Path) (f : Forest) (p : Path) (m : NodeMetadata) → IsPlaced b f → ((e : Pair) → Contains (pairs f) e → path_cmp e.0 p ≡ Less) → IsChildOf b p → Attached b f p m
attach_root b f p m placed less child = record {
  whole = graft f (tree p m none none);
  placed = placed_graft b p m none f placed (λ e in' n is. less e in') (child, holds_none m, tt, tt, tt);
  are = pairs-graft f (tree p m none none);
  first = before_more f p m;
}

-- a node that has children may have others
holds_other : (k : NodeMetadata) (f g : Forest) (e : Pair) → MayHold k f → Contains (pairs f) e → MayHold k g
holds_other (Group n) f g e h in' = tt
holds_other (Array n) f g e h in' = let empty : Contains [] e = subst (λ x. Contains (pairs x) e) h in' in absurd (omega (arith, empty.1))

-- where p is below q, and after all that stands after q, nothing stands after q
last_tree : (b q : Path) (after : Forest) (p : Path) → IsChildOf b q → IsPlaced b after → IsBefore q after → ((e : Pair) → Contains (pairs after) e → path_cmp e.0 p ≡ Less) → Begins q p → after ≡ none
last_tree b q none p child placed before less low = refl
last_tree b q (tree r l u x) p child placed before less low =
    let v = all_after b child.0 (tree r l u x) placed (subst (λ y. path_cmp y r ≡ Less) child.1 before) (r, l) (Contains-first (r, l) (pairs u ++ pairs x)) in
    let first = later_less b p r child.0 v.begins.name (low.name ∷ low.rest) v.begins.rest (deeper b q p child.0 child.1 low) v.begins.is v.later in
    absurd (names_irrefl p (names_total.trans p r p first (less (r, l) (Contains-first (r, l) (pairs u ++ pairs x)))))

-- one pair more below the last tree
in_last : (b q : Path) (k : NodeMetadata) (below after : Forest) (p : Path) (m : NodeMetadata) → IsChildOf b q → after ≡ none → (a : Attached q below p m) → ((g : Forest) → MayHold k g) → Attached b (tree q k below after) p m
in_last b q k below after p m child last a holds = subst (λ x. Attached b (tree q k below x) p m) (sym last) (record {
  whole = tree q k a.whole none;
  placed = (child, holds a.whole, a.placed, tt, tt);
  are = ap (λ ys. (q, k) ∷ (ys ++ [])) a.are ∙ ap (λ ys. (q, k) ∷ ys) (append-nil (pairs below ++ (p, m) ∷ [])) ∙ ap (λ ys. (q, k) ∷ (ys ++ (p, m) ∷ [])) (sym (append-nil (pairs below)));
  first = λ x _ h. h;
})

-- a child of a group of the forest, behind all that stands
pub attach_below : (b : Path) (f : Forest) (p : Path) (m : NodeMetadata) → IsPlaced b f → ((e : Pair) → Contains (pairs f) e → path_cmp e.0 p ≡ Less) → (e : Pair) → Contains (pairs f) e → IsTrue (is_group e.1) → IsChildOf e.0 p → Attached b f p m
attach_below b none p m placed less e in' group child = absurd (omega (arith, in'.1))
attach_below b (tree q k below after) p m placed less e in' group child =
    let inside : (d : Pair) → Contains (pairs below) d → path_cmp d.0 p ≡ Less = λ d i. less d (Contains-cons (q, k) (pairs below ++ pairs after) d (Contains-append_left (pairs below) (pairs after) d i)) in
    let outside : (d : Pair) → Contains (pairs after) d → path_cmp d.0 p ≡ Less = λ d i. less d (Contains-cons (q, k) (pairs below ++ pairs after) d (Contains-append_right (pairs below) (pairs after) d i)) in
    let last : Begins q p → after ≡ none = last_tree b q after p placed.0 placed.4 placed.3 outside in
    ⊎_elim
    (λ same. let here : IsChildOf q p = subst (λ (d : Pair). IsChildOf d.0 p) (sym same) child in
    in_last b q k below after p m placed.0 (last (record { name = here.0; rest = []; is = here.1 })) (attach_root q below p m placed.2 inside here)
    (λ g. holds_group k g (subst (λ (d : Pair). IsTrue (is_group d.1)) (sym same) group)))
    (λ rest. ⊎_elim
    (λ l. let low = all_below q below placed.2 e l in
    in_last b q k below after p m placed.0 (last (record { name = low.name; rest = low.rest ++ child.0 ∷ []; is = child.1 ∙ ap (λ y. y ++ child.0 ∷ []) low.is ∙ append_assoc q (low.name ∷ low.rest) (child.0 ∷ []) }))
    (attach_below q below p m placed.2 inside e l group child) (λ g. holds_other k below g e placed.1 l))
    (λ l. let a = attach_below b after p m placed.4 outside e l group child in record {
      whole = tree q k below a.whole;
      placed = (placed.0, placed.1, placed.2, a.first q (less (q, k) (Contains-first (q, k) (pairs below ++ pairs after))) placed.3, a.placed);
      are = ap (λ ys. (q, k) ∷ (pairs below ++ ys)) a.are ∙ ap (λ ys. (q, k) ∷ ys) (sym (append_assoc (pairs below) (pairs after) ((p, m) ∷ [])));
      first = λ y _ h. h;
    })
    (Contains-append_cases (pairs below) (pairs after) e rest))
    (contains_cases (q, k) (pairs below ++ pairs after) e in')
