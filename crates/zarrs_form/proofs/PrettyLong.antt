-- A text is longer than its value is deep, so the depth of a text that fits memory fits a `usize`.
use Rattle.std.proofs.Common.{ℕ, ◌+◌, ◌*◌, ◌≤◌, List, [], ◌∷◌, ◌++◌, Bool, true, false, length, length-append, arith}
use Rattle.json.specs.Layout.{line}
use Rattle.serde_json.specs.Data as tree
use Rattle.serde_json.specs.Data.{Data, Items, no_items, item, Members, no_members, member, depth, items_depth, members_depth}
use Rattle.serde_json.specs.Written.{comma_if}
use Rattle.zarrs_form.specs.declared.layout.Layout.TheVariants.{Pretty}
use Rattle.zarrs_form.specs.Layouts.{close_line, key_in, text_in, items_in, members_in}

-- a text that is long enough is long enough with another before it
no_less : (a rest : List ℕ) (m : ℕ) → m ≤ length rest → m ≤ length (a ++ rest)
no_less a rest m h = omega (arith, length-append a rest)

mutual
  -- the text of a value is at least twice as long as the value is deep
  pub text_longer : (n : ℕ) (d : Data) → 2 * depth d ≤ length (text_in (Pretty n) d)
  text_longer n tree.null = omega arith
  text_longer n (tree.boolean b) = omega arith
  text_longer n (tree.number x) = omega arith
  text_longer n (tree.string s) = omega arith
  text_longer n (tree.array ds) = let h = items_longer false n ds in omega arith
  text_longer n (tree.object ms) = let h = members_longer false n ms in omega arith

  -- the text of items is at least twice as long as they are deep, and one more
  items_longer : (later : Bool) (n : ℕ) (ds : Items) → 2 * items_depth ds + 1 ≤ length (items_in later (Pretty n) ds)
  items_longer later n no_items = omega (arith, length-append (close_line later (Pretty n)) (93 ∷ []))
  items_longer later n (item d ds) =
      let here = text_longer (n + 1) d in
      let there = items_longer true n ds in
      no_less (comma_if later) _ _ (no_less (line (n + 1)) _ _ (omega (arith, length-append (text_in (Pretty (n + 1)) d) (items_in true (Pretty n) ds))))

  -- the text of members is at least twice as long as they are deep, and one more
  pub members_longer : (later : Bool) (n : ℕ) (ms : Members) → 2 * members_depth ms + 1 ≤ length (members_in later (Pretty n) ms)
  members_longer later n no_members = omega (arith, length-append (close_line later (Pretty n)) (125 ∷ []))
  members_longer later n (member k d ms) =
      let here = text_longer (n + 1) d in
      let there = members_longer true n ms in
      no_less (key_in later (Pretty (n + 1)) k) _ _ (omega (arith, length-append (text_in (Pretty (n + 1)) d) (members_in true (Pretty n) ms)))
