-- The pretty text of a value is its text in the pretty layout at no depth.
use Rattle.std.proofs.Common.{◌≡◌, ℕ, ◌+◌, ◌-◌, ◌^◌, ◌≤◌, min, List, [], ◌∷◌, ◌++◌, Bool, true, false, refl, sym, ap, ◌∙◌, append_assoc, append-nil, arith}
use Rattle.std.proofs.Math.Nat.{min-eq_left}
use Rattle.json.specs.Layout.{Last, nothing, bracket, name, value, is_value, gap, line, pretty, pretty_from, piece}
use Rattle.json.specs.Print.{quoted, separator}
use Rattle.json.specs.Token.{Token}
use Rattle.json.specs.Tree.{json_tokens, items_tokens, members_tokens}
use Rattle.serde_json.specs.Data.{Data, null, boolean, number, string, array, object, Items, no_items, item, Members, no_members, member, depth, items_depth, members_depth}
use Rattle.serde_json.specs.Written.{comma_if, outline, items_outline, members_outline}
use Rattle.zarrs_form.specs.declared.layout.Layout.TheVariants.{Pretty}
use Rattle.zarrs_form.specs.Layouts.{text_in, items_in, members_in, pretty_text}

-- the greatest number of levels that is counted
abbrev most : ℕ
most = 2 ^ 64 - 1

-- what stands before a value, after what was last
abbrev lead : Last → ℕ → List ℕ
lead s n = separator (is_value s) Token.null ++ gap s true n

-- what was last within brackets
abbrev last_in : Bool → Last
last_in true = value
last_in false = bracket

-- the last part of a piece may be put to what follows the piece
regroup_piece : (a b c r : List ℕ) → (a ++ (b ++ c)) ++ r ≡ (a ++ b) ++ (c ++ r)
regroup_piece a b c r = simp append_assoc

-- the state after an opening bracket
deeper : (n : ℕ) → n + 1 ≤ most → min (n + 1) most ≡ n + 1
deeper n h = min-eq_left h

-- one level deeper and then one less is the level itself
outer : (n : ℕ) → n + 1 - 1 ≡ n
outer n = omega arith

-- within brackets, what stands before a value is a comma, where another stands before it, and a line
lead_in : (later : Bool) (n : ℕ) → lead (last_in later) n ≡ comma_if later ++ line n
lead_in true n = refl
lead_in false n = refl

-- within brackets, a key stands behind a comma, where another stands before it, and a line, quoted and with a colon
key_in : (later : Bool) (n : ℕ) (k : List ℕ) → piece (last_in later, n) (Token.key k) ≡ comma_if later ++ (line n ++ (quoted k ++ 58 ∷ []))
key_in true n k = refl
key_in false n k = refl

-- a comma, a line, an item and the items behind it stand together before what follows them
regroup_item : (c l t r rest : List ℕ) → (c ++ l) ++ (t ++ (r ++ rest)) ≡ (c ++ (l ++ (t ++ r))) ++ rest
regroup_item c l t r rest = simp append_assoc

-- a comma, a line, a key, its value and the members behind it stand together before what follows them
regroup_member : (c l q t r rest : List ℕ) → (c ++ (l ++ (q ++ 58 ∷ []))) ++ (32 ∷ (t ++ (r ++ rest))) ≡ ((c ++ (l ++ (q ++ 58 ∷ 32 ∷ []))) ++ (t ++ r)) ++ rest
regroup_member c l q t r rest = simp append_assoc

mutual
  unfolding pretty_from

  -- where a value is not too deep, its tokens are laid out as what stands before it and its text
  value_laid : (s : Last) (n : ℕ) (d : Data) (ts : List Token) → n + depth d ≤ most → pretty_from (s, n) (json_tokens (outline d) ++ ts) ≡ lead s n ++ (text_in (Pretty n) d ++ pretty_from (value, n) ts)
  value_laid s n null ts h = regroup_piece (separator (is_value s) Token.null) (gap s true n) _ _
  value_laid s n (boolean b) ts h = regroup_piece (separator (is_value s) Token.null) (gap s true n) _ _
  value_laid s n (number x) ts h = regroup_piece (separator (is_value s) Token.null) (gap s true n) _ _
  value_laid s n (string t) ts h = regroup_piece (separator (is_value s) Token.null) (gap s true n) _ _
  value_laid s n (array ds) ts h =
      regroup_piece (separator (is_value s) Token.null) (gap s true n) (91 ∷ []) _
      ∙ ap (λ m. lead s n ++ 91 ∷ pretty_from (bracket, m) (items_tokens (items_outline ds) ++ ts)) (deeper n (omega arith))
      ∙ ap (λ t. lead s n ++ 91 ∷ t) (items_laid false n ds ts (omega arith))
  value_laid s n (object ms) ts h =
      regroup_piece (separator (is_value s) Token.null) (gap s true n) (123 ∷ []) _
      ∙ ap (λ m. lead s n ++ 123 ∷ pretty_from (bracket, m) (members_tokens (members_outline ms) ++ ts)) (deeper n (omega arith))
      ∙ ap (λ t. lead s n ++ 123 ∷ t) (members_laid false n ms ts (omega arith))

  -- where they are not too deep, the tokens of the items that are left are laid out as their text
  items_laid : (later : Bool) (n : ℕ) (ds : Items) (ts : List Token) → n + 1 + items_depth ds ≤ most
      → pretty_from (last_in later, n + 1) (items_tokens (items_outline ds) ++ ts) ≡ items_in later (Pretty n) ds ++ pretty_from (value, n) ts
  items_laid true n no_items ts h = ap (λ m. (line m ++ 93 ∷ []) ++ pretty_from (value, m) ts) (outer n)
  items_laid false n no_items ts h = ap (λ m. 93 ∷ pretty_from (value, m) ts) (outer n)
  items_laid later n (item d ds) ts h =
      let rest = items_tokens (items_outline ds) in
      ap (pretty_from (last_in later, n + 1)) (append_assoc (json_tokens (outline d)) rest ts)
      ∙ value_laid (last_in later) (n + 1) d (rest ++ ts) (omega arith)
      ∙ ap (λ t. t ++ (text_in (Pretty (n + 1)) d ++ pretty_from (value, n + 1) (rest ++ ts))) (lead_in later (n + 1))
      ∙ ap (λ t. (comma_if later ++ line (n + 1)) ++ (text_in (Pretty (n + 1)) d ++ t)) (items_laid true n ds ts (omega arith))
      ∙ regroup_item (comma_if later) (line (n + 1)) (text_in (Pretty (n + 1)) d) (items_in true (Pretty n) ds) (pretty_from (value, n) ts)

  -- where they are not too deep, the tokens of the members that are left are laid out as their text
  members_laid : (later : Bool) (n : ℕ) (ms : Members) (ts : List Token) → n + 1 + members_depth ms ≤ most
      → pretty_from (last_in later, n + 1) (members_tokens (members_outline ms) ++ ts) ≡ members_in later (Pretty n) ms ++ pretty_from (value, n) ts
  members_laid true n no_members ts h = ap (λ m. (line m ++ 125 ∷ []) ++ pretty_from (value, m) ts) (outer n)
  members_laid false n no_members ts h = ap (λ m. 125 ∷ pretty_from (value, m) ts) (outer n)
  members_laid later n (member k d ms) ts h =
      let rest = members_tokens (members_outline ms) in
      ap (λ t. t ++ pretty_from (name, n + 1) ((json_tokens (outline d) ++ rest) ++ ts)) (key_in later (n + 1) k)
      ∙ ap (λ t. (comma_if later ++ (line (n + 1) ++ (quoted k ++ 58 ∷ []))) ++ t)
      (ap (pretty_from (name, n + 1)) (append_assoc (json_tokens (outline d)) rest ts)
      ∙ value_laid name (n + 1) d (rest ++ ts) (omega arith)
      ∙ ap (λ t. 32 ∷ (text_in (Pretty (n + 1)) d ++ t)) (members_laid true n ms ts (omega arith)))
      ∙ regroup_member (comma_if later) (line (n + 1)) (quoted k) (text_in (Pretty (n + 1)) d) (members_in true (Pretty n) ms) (pretty_from (value, n) ts)

-- the pretty text of a value is its text at no depth
pub pretty_text_is : (d : Data) → depth d ≤ most → pretty_text d ≡ text_in (Pretty 0) d
unfolding pretty_from
pretty_text_is d h = ap pretty (sym (append-nil (json_tokens (outline d)))) ∙ value_laid nothing 0 d [] (omega arith) ∙ append-nil (text_in (Pretty 0) d)
