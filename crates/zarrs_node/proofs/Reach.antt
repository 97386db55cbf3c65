-- What is reached from a base is reached through one child of it.
use Rattle.zarrs_meta.specs.declared.node.NodeMetadata.{NodeMetadata}
use Rattle.std.proofs.Common.{◌≡◌, ℕ, Bool, List, [], ◌∷◌, ◌++◌, length, drop, get_or, refl, sym, ap, subst, ◌∙◌, ◌⊎◌, inl, inr, append_assoc, arith, length-append}
use Rattle.std.proofs.lemmas.List.{append_cancel_left}
use Rattle.zarrs_path.specs.Paths.{Path, IsPath, IsBelow}
use Rattle.zarrs_path.proofs.NameLemmas.{IsName, name_head, name_tail, name_cons, name_one}
use Rattle.zarrs_node.specs.Reach.{Opens, Reached}

-- p is c, or is reached from c, below which the listing goes on
abbrev pub Through : (Path × NodeMetadata → Type 0) → Bool → Path → Path → Type 0
Through N r c p = (p ≡ c) ⊎ (Opens N r c × Reached N r c p)

-- equal lists have the same first name
pub head_same : (m n : List ℕ) (ms ns : Path) → m ∷ ms ≡ n ∷ ns → m ≡ n
head_same m n ms ns e = ap (λ l. get_or l 0 m) e

-- equal lists have the same names after the first
pub rest_same : (m n : List ℕ) (ms ns : Path) → m ∷ ms ≡ n ∷ ns → ms ≡ ns
rest_same m n ms ns e = ap (drop 1) e

-- one name more than b leaves no path between
pub no_room : (b ks js : Path) (n k j : List ℕ) → b ++ n ∷ [] ≡ (b ++ k ∷ ks) ++ j ∷ js → ⊥
no_room b ks js n k j e =
    let cut = append_cancel_left b (n ∷ []) ((k ∷ ks) ++ j ∷ js) (e ∙ append_assoc b (k ∷ ks) (j ∷ js)) in
    let long = ap length (rest_same _ _ _ _ cut) in
    let more = length-append ks (j ∷ js) in
    absurd (omega (arith, long, more))

-- what is below a child is below its parent
pub below_deeper : (b q : Path) (n : List ℕ) → IsBelow (b ++ n ∷ []) q → IsBelow b q
below_deeper b q n (m, ms, e) = (n, m ∷ ms, e ∙ append_assoc b (n ∷ []) (m ∷ ms))

module _ (N : Path × NodeMetadata → Type 0) (r : Bool) where
  -- a path below a base is its child on the way, or is reached from that child
  first_of : (b p : Path) (n : List ℕ) (ns : Path) → p ≡ b ++ n ∷ ns → IsPath (n ∷ ns) → ((q : Path) → IsBelow b q → IsBelow q p → Opens N r q) → Through N r (b ++ n ∷ []) p
  first_of b p n [] e names between = inl e
  first_of b p n (m ∷ ms) e names between =
      let deeper = e ∙ sym (append_assoc b (n ∷ []) (m ∷ ms)) in
      inr (
        between (b ++ n ∷ []) (n, [], refl) (m, ms, deeper),
        record {
          below = (m, ms, deeper, name_tail n (m ∷ ms) names);
          between = λ q low up. between q (below_deeper b q n low) up;
        },
      )

  -- what is reached is reached through the child of its first name
  pub reached_first : (b p : Path) → Reached N r b p → (n : List ℕ) × IsName n × Through N r (b ++ n ∷ []) p
  reached_first b p h = (h.below.0, name_head h.below.0 h.below.1 h.below.3, first_of b p h.below.0 h.below.1 h.below.2 h.below.3 h.between)

  -- q stands between b and p, and p begins with b and n
  through_between : (b p q : Path) (n m : List ℕ) (ms : Path) → p ≡ (b ++ n ∷ []) ++ m ∷ ms → Opens N r (b ++ n ∷ []) → Reached N r (b ++ n ∷ []) p
      → (k : List ℕ) (ks : Path) → q ≡ b ++ k ∷ ks → (j : List ℕ) (js : Path) → p ≡ q ++ j ∷ js → Opens N r q
  through_between b p q n m ms e open' h k ks is j js up =
      let joined = sym (append_assoc b (n ∷ []) (m ∷ ms)) ∙ sym e ∙ up ∙ ap (λ x. x ++ j ∷ js) is ∙ append_assoc b (k ∷ ks) (j ∷ js) in
      let cut = append_cancel_left b (n ∷ m ∷ ms) ((k ∷ ks) ++ j ∷ js) joined in
      let same = head_same _ _ _ _ cut in
      through_split b p q n open' h k ks is j js up same
    where
      through_split : (b p q : Path) (n : List ℕ) → Opens N r (b ++ n ∷ []) → Reached N r (b ++ n ∷ []) p → (k : List ℕ) (ks : Path) → q ≡ b ++ k ∷ ks → (j : List ℕ) (js : Path) → p ≡ q ++ j ∷ js → n ≡ k → Opens N r q
      through_split b p q n open' h k [] is j js up same = subst (Opens N r) (ap (λ x. b ++ x ∷ []) same ∙ sym is) open'
      through_split b p q n open' h k (l ∷ ls) is j js up same =
          h.between q (l, ls, is ∙ ap (λ x. b ++ x ∷ l ∷ ls) (sym same) ∙ sym (append_assoc b (n ∷ []) (l ∷ ls))) (j, js, up)

  -- what is a child, or is reached from one that is listed, is reached
  pub reached_through : (b p : Path) (n : List ℕ) → IsName n → Through N r (b ++ n ∷ []) p → Reached N r b p
  reached_through b p n name t = elim t as (λ _. Reached N r b p) [
    | inl e ↦ record {
      below = (n, [], e, name_one n name);
      between = λ q low up. absurd (no_room b low.1 up.1 n low.0 up.0 (sym e ∙ up.2 ∙ ap (λ x. x ++ up.0 ∷ up.1) low.2));
    }
    | inr (open', h) ↦ record {
      below = (n, h.below.0 ∷ h.below.1, h.below.2 ∙ append_assoc b (n ∷ []) (h.below.0 ∷ h.below.1), name_cons n (h.below.0 ∷ h.below.1) name h.below.3);
      between = λ q low up. through_between b p q n h.below.0 h.below.1 h.below.2 open' h low.0 low.1 low.2 up.0 up.1 up.2;
    }
  ]

  -- c itself is not reached from c
  pub not_itself : (c : Path) → Reached N r c c → ⊥
  not_itself c h =
      let long = ap length h.below.2 in
      let more = length-append c (h.below.0 ∷ h.below.1) in
      absurd (omega (arith, long, more))
