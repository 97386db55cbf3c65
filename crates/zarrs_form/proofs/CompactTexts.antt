-- The text of a value in the compact layout is its compact text.
use Rattle.std.proofs.Common.{◌≡◌, ℕ, List, [], ◌∷◌, ◌++◌, Bool, true, false, refl, ap, ◌∙◌, append_assoc}
use Rattle.json.specs.Print.{quoted}
use Rattle.serde_json.specs.Data.{Data, null, boolean, number, string, array, object, Items, no_items, item, Members, no_members, member}
use Rattle.serde_json.specs.Written.{comma_if, compact_text, items_text, members_text}
use Rattle.zarrs_form.specs.declared.layout.Layout.TheVariants.{Compact}
use Rattle.zarrs_form.specs.Layouts.{items_in, members_in, text_in}

-- a key, its value and the members behind it, put to the right
regroup_member : (c q t r : List ℕ) → (c ++ (q ++ 58 ∷ [])) ++ (t ++ r) ≡ c ++ (q ++ 58 ∷ (t ++ r))
regroup_member c q t r = simp append_assoc

mutual
  pub compact_is : (d : Data) → text_in Compact d ≡ compact_text d
  compact_is null = refl
  compact_is (boolean b) = refl
  compact_is (number x) = refl
  compact_is (string s) = refl
  compact_is (array ds) = ap (λ t. 91 ∷ t) (items_are false ds)
  compact_is (object ms) = ap (λ t. 123 ∷ t) (members_are false ms)

  items_are : (later : Bool) (ds : Items) → items_in later Compact ds ≡ items_text later ds
  items_are true no_items = refl
  items_are false no_items = refl
  items_are later (item d ds) = ap (λ t. comma_if later ++ (t ++ items_in true Compact ds)) (compact_is d) ∙ ap (λ t. comma_if later ++ (compact_text d ++ t)) (items_are true ds)

  members_are : (later : Bool) (ms : Members) → members_in later Compact ms ≡ members_text later ms
  members_are true no_members = refl
  members_are false no_members = refl
  members_are later (member k d ms) =
      regroup_member (comma_if later) (quoted k) (text_in Compact d) (members_in true Compact ms)
      ∙ ap (λ t. comma_if later ++ (quoted k ++ 58 ∷ (t ++ members_in true Compact ms))) (compact_is d)
      ∙ ap (λ t. comma_if later ++ (quoted k ++ 58 ∷ (compact_text d ++ t))) (members_are true ms)
