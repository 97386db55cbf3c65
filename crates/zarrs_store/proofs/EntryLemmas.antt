-- Entries in the order of the keys' texts, as a finite map in the order of their segments.
use Rattle.std.proofs.Common.{◌≡◌, Bool, true, false, cond, List, [], ◌∷◌, refl, sym, ap, subst, ◌∙◌, Some, None, Option, option_map}
use Rattle.std.specs.Prelude.{All, ◌&&◌, map}
use Rattle.std.specs.declared.cmp.Ordering.{Ordering}
use Rattle.std.specs.declared.cmp.Ordering.TheVariants.{Less, Equal, Greater}
use Rattle.std.specs.Ordering.{is_eq, eq_by_cmp}
use Rattle.std.specs.Cmp.{IsTotalOrder}
use Rattle.std.specs.FinMap as finite
use Rattle.std.specs.FinMap.{slice_cmp-IsAntisymmetric, nat_cmp-IsAntisymmetric}
use Rattle.std.specs.Map.{lookup}
use Rattle.std.proofs.lemmas.Cmp.{tied_itself, eq_by_cmp_equiv, nat_list_cmp_total, on_total}
use Rattle.std.proofs.lemmas.List.Elements.{All-head, All-tail}
use Rattle.zarrs_store.specs.Segments.{Segments, key_cmp, key_text, segments_of, IsKey}
use Rattle.zarrs_store.specs.Places.{text_cmp}
use Rattle.zarrs_store.proofs.ChildLemmas.{key_cmp_total, key_cmp-IsAntisymmetric}
use Rattle.zarrs_store.proofs.Cuts.{segments_of-key_text}

-- the order of keys by their texts is total
pub text_cmp_total : IsTotalOrder text_cmp
text_cmp_total = on_total key_text nat_list_cmp_total

-- an ordering that is a tie is `Equal`
pub equal_of : (r : Ordering) → is_eq r ≡ true → r ≡ Equal
equal_of Less e = cc
equal_of Equal e = refl
equal_of Greater e = cc

-- whether segments are those of their own text, as those of each key are
abbrev pub is_own : Segments → Bool
is_own q = eq_by_cmp key_cmp (segments_of (key_text q)) q

-- a key has the segments of its own text
pub is_own-key : (q : Segments) → IsKey q → is_own q ≡ true
is_own-key q h = ap is_eq (ap (λ p. key_cmp p q) (segments_of-key_text q h) ∙ tied_itself key_cmp_total q)

-- segments that are those of their own text, and are tied by text with a key, are that key
key_of_own : (q k : Segments) → IsKey k → is_own q ≡ true → eq_by_cmp text_cmp q k ≡ true → q ≡ k
key_of_own q k h own tie =
    sym (key_cmp-IsAntisymmetric (segments_of (key_text q)) q (equal_of _ own))
    ∙ ap segments_of (slice_cmp-IsAntisymmetric nat_cmp-IsAntisymmetric (key_text q) (key_text k) (equal_of _ tie))
    ∙ segments_of-key_text k h

-- segments that are not tied with a key are not those of their own text, or are not tied with the key by text
not_own : (q k : Segments) → IsKey k → eq_by_cmp key_cmp q k ≡ false → (a b : Bool) → is_own q ≡ a → eq_by_cmp text_cmp q k ≡ b → (a && b) ≡ false
not_own q k h apart true true e f =
    let same : eq_by_cmp key_cmp q k ≡ true = ap is_eq (ap (key_cmp q) (sym (key_of_own q k h e f)) ∙ tied_itself key_cmp_total q) in
    cc
not_own q k h apart true false e f = refl
not_own q k h apart false b e f = refl

-- segments that are tied with a key are those of their own text, and are tied with the key by text
own_tie : (q k : Segments) → IsKey k → eq_by_cmp key_cmp q k ≡ true → (is_own q && eq_by_cmp text_cmp q k) ≡ true
own_tie q k h tie =
    let same : q ≡ k = key_cmp-IsAntisymmetric q k (equal_of _ tie) in
    subst (λ x. (is_own x && eq_by_cmp text_cmp x k) ≡ true) (sym same)
    (ap (λ b. b && eq_by_cmp text_cmp k k) (is_own-key k h) ∙ ap is_eq (tied_itself text_cmp_total k))

-- a key is found by its segments just where it is found by its text
pub tie_by_text : (q k : Segments) → IsKey k → eq_by_cmp key_cmp q k ≡ (is_own q && eq_by_cmp text_cmp q k)
tie_by_text q k h =
    elim (eq_by_cmp key_cmp q k) as (λ b. eq_by_cmp key_cmp q k ≡ b → b ≡ (is_own q && eq_by_cmp text_cmp q k)) [
      | true ↦ λ e. sym (own_tie q k h e)
      | false ↦ λ e. sym (not_own q k h e (is_own q) (eq_by_cmp text_cmp q k) refl refl)
    ] refl

-- where nothing is found either way, nothing is chosen
none_either_way : {X : Type 0} (b : Bool) → ◌≡◌ {A = Option X} None (cond b None None)
none_either_way true = refl
none_either_way false = refl

-- each entry stands at a key
abbrev pub HoldsKeys : {X : Type 0} → List (Segments × X) → Type 0
HoldsKeys es = All (λ e. IsKey e.0) es

module _ {X Y : Type 0} (f : X → Y) where
  -- the entries with what f makes of their values
  abbrev pub shown : List (Segments × X) → List (Segments × Y)
  shown es = map (λ e. (e.0, f e.1)) es

  -- one entry more is found by both tests together just where it is found by one after the other
  step : (own tie : Bool) (v : X) (found : Option X) (rest : Option Y) → rest ≡ cond own (option_map f found) None
      → cond (own && tie) (Some (f v)) rest ≡ cond own (option_map f (cond tie (Some v) found)) None
  step true true v found rest e = refl
  step true false v found rest e = e
  step false tie v found rest e = e

  -- what is found by segments is what is found by their text, where they are its segments, and else nothing
  pub find-shown : (q : Segments) (es : List (Segments × X)) → HoldsKeys es
      → finite.find key_cmp q (shown es) ≡ cond (is_own q) (option_map f (lookup (eq_by_cmp text_cmp q) es)) None
  find-shown q [] keys = none_either_way {X = Y} (is_own q)
  find-shown q (e ∷ es) keys =
      ap (λ b. cond b (Some (f e.1)) (finite.find key_cmp q (shown es))) (tie_by_text q e.0 (All-head (λ x. IsKey x.0) e es keys))
      ∙ step (is_own q) (eq_by_cmp text_cmp q e.0) e.1 _ _ (find-shown q es (All-tail (λ x. IsKey x.0) e es keys))

  -- the map of these entries
  abbrev pub shown_map : List (Segments × X) → finite.FinMap key_cmp Y
  shown_map es = finite.from_entries (shown es)

  -- what the map has at segments is what is found by their text, where they are its segments, and else nothing
  pub get-shown : (es : List (Segments × X)) (q : Segments) → HoldsKeys es
      → finite.get (shown_map es) q ≡ cond (is_own q) (option_map f (lookup (eq_by_cmp text_cmp q) es)) None
  get-shown es q keys = finite.get-from_entries key_cmp_total (shown es) q ∙ find-shown q es keys

  -- a look-up
  pub get-shown_key : (es : List (Segments × X)) (q : Segments) → HoldsKeys es → IsKey q
      → finite.get (shown_map es) q ≡ option_map f (lookup (eq_by_cmp text_cmp q) es)
  get-shown_key es q keys h = get-shown es q keys ∙ ap (λ b. cond b (option_map f (lookup (eq_by_cmp text_cmp q) es)) None) (is_own-key q h)

  -- a change is seen by both tests together just as it is seen by one after the other
  swapped : (own tie : Bool) (v : Option X) (w : Option Y) (old : Option X) → option_map f v ≡ w
      → cond own (option_map f (cond tie v old)) None ≡ cond (own && tie) w (cond own (option_map f old) None)
  swapped true true v w old e = e
  swapped true false v w old e = refl
  swapped false tie v w old e = refl

  -- one change: the new entries have v at the key k, or nothing there
  changed : (es fs : List (Segments × X)) (k : Segments) (v : Option X) (w : Option Y) → HoldsKeys es → HoldsKeys fs → IsKey k → option_map f v ≡ w
      → ((q : Segments) → lookup (eq_by_cmp text_cmp q) fs ≡ cond (eq_by_cmp text_cmp k q) v (lookup (eq_by_cmp text_cmp q) es))
      → (q : Segments) → finite.get (shown_map fs) q ≡ cond (eq_by_cmp key_cmp q k) w (finite.get (shown_map es) q)
  changed es fs k v w old new h is says q =
      get-shown fs q new
      ∙ ap (λ o. cond (is_own q) (option_map f o) None) (says q)
      ∙ ap (λ b. cond (is_own q) (option_map f (cond b v (lookup (eq_by_cmp text_cmp q) es))) None) ((eq_by_cmp_equiv text_cmp_total).symm k q)
      ∙ swapped (is_own q) (eq_by_cmp text_cmp q k) v w (lookup (eq_by_cmp text_cmp q) es) is
      ∙ ap (λ b. cond b w (cond (is_own q) (option_map f (lookup (eq_by_cmp text_cmp q) es)) None)) (sym (tie_by_text q k h))
      ∙ ap (λ o. cond (eq_by_cmp key_cmp q k) w o) (sym (get-shown es q old))

  -- where the new entries have a value at the key, their map is the old one with the key inserted
  pub shown_insert : (es fs : List (Segments × X)) (k : Segments) (v : X) → HoldsKeys es → HoldsKeys fs → IsKey k
      → ((q : Segments) → lookup (eq_by_cmp text_cmp q) fs ≡ cond (eq_by_cmp text_cmp k q) (Some v) (lookup (eq_by_cmp text_cmp q) es))
      → shown_map fs ≡ finite.insert (shown_map es) k (f v)
  shown_insert es fs k v old new h says =
      finite.same_map key_cmp_total key_cmp-IsAntisymmetric _ _
      (λ q. changed es fs k (Some v) (Some (f v)) old new h refl says q ∙ sym (finite.get-insert key_cmp_total (shown_map es) k (f v) q))

  -- where the new entries have nothing at the key, their map is the old one with the key removed
  pub shown_remove : (es fs : List (Segments × X)) (k : Segments) → HoldsKeys es → HoldsKeys fs → IsKey k
      → ((q : Segments) → lookup (eq_by_cmp text_cmp q) fs ≡ cond (eq_by_cmp text_cmp k q) None (lookup (eq_by_cmp text_cmp q) es))
      → shown_map fs ≡ finite.remove (shown_map es) k
  shown_remove es fs k old new h says =
      finite.same_map key_cmp_total key_cmp-IsAntisymmetric _ _
      (λ q. changed es fs k None None old new h refl says q ∙ sym (finite.get-remove key_cmp_total (shown_map es) k q))
