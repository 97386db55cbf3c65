-- How the logic stores JSON data, as a list of steps that build it on a stack. `data_code` and `members_code` are for
-- the models of `src/`; nothing else reads this file.
-- <https://www.rfc-editor.org/rfc/rfc8259>
use Rattle.std.specs.Prelude.{◌≡◌, ◌⊎◌, ◌==◌, ℕ, ℤ, true, false, List, [], ◌∷◌, ◌++◌, cond, refl}
use Rattle.std.specs.Float.{Float}
use Rattle.std.specs.Coded.{Coded, code_by, coded⊎, coded_ℕ, coded_ℤ, coded_list}
use Rattle.std.proofs.Common.{inl, inr, ap, ◌∙◌}
use base.Stored.{coded_float}
use Rattle.serde_json.specs.Data.{Num, unsigned, negative, float, Data, null, boolean, number, string, array, object}
use Rattle.serde_json.specs.Data.{Items, no_items, item, Members, no_members, member}

abbrev AnyNumber : Type 0
AnyNumber = ℕ ⊎ (ℤ ⊎ Float)

abbrev parted : Num → AnyNumber
parted (unsigned n) = inl n
parted (negative z) = inr (inl z)
parted (float x) = inr (inr x)

abbrev joined : AnyNumber → Num
joined (inl n) = unsigned n
joined (inr (inl z)) = negative z
joined (inr (inr x)) = float x

joined-parted : (n : Num) → joined (parted n) ≡ n
joined-parted (unsigned n) = refl
joined-parted (negative z) = refl
joined-parted (float x) = refl

-- a number, a text, a member's name, or one of the rest by its number
abbrev Step : Type 0
Step = AnyNumber ⊎ (List ℕ ⊎ (List ℕ ⊎ ℕ))

abbrev rest : ℕ → Step
rest n = inr (inr (inr n))

abbrev mutual
  steps : Data → List Step
  steps null = rest 0 ∷ []
  steps (boolean false) = rest 1 ∷ []
  steps (boolean true) = rest 2 ∷ []
  steps (number n) = inl (parted n) ∷ []
  steps (string s) = inr (inl s) ∷ []
  steps (array ds) = items_steps ds
  steps (object ms) = members_steps ms

  items_steps : Items → List Step
  items_steps no_items = rest 3 ∷ []
  items_steps (item d ds) = rest 4 ∷ (steps d ++ items_steps ds)

  members_steps : Members → List Step
  members_steps no_members = rest 5 ∷ []
  members_steps (member k d ms) = inr (inr (inl k)) ∷ (steps d ++ members_steps ms)

-- the first two of the stack become one
abbrev inner_items : Data → Items
inner_items (array ds) = ds
inner_items _ = no_items

abbrev inner_members : Data → Members
inner_members (object ms) = ms
inner_members _ = no_members

abbrev with_item : List Data → List Data
with_item (d ∷ ds ∷ stack) = array (item d (inner_items ds)) ∷ stack
with_item _ = []

abbrev with_member : List ℕ → List Data → List Data
with_member k (d ∷ ms ∷ stack) = object (member k d (inner_members ms)) ∷ stack
with_member k _ = []

abbrev rest_built : ℕ → List Data → List Data
rest_built n stack =
    cond (n == 0) (null ∷ stack) (cond (n == 1) (boolean false ∷ stack) (cond (n == 2) (boolean true ∷ stack)
    (cond (n == 3) (array no_items ∷ stack) (cond (n == 4) (with_item stack) (object no_members ∷ stack)))))

abbrev built : Step → List Data → List Data
built (inl n) stack = number (joined n) ∷ stack
built (inr (inl s)) stack = string s ∷ stack
built (inr (inr (inl k))) stack = with_member k stack
built (inr (inr (inr n))) stack = rest_built n stack

-- from the last step to the first
abbrev all_built : List Step → List Data → List Data
all_built [] stack = stack
all_built (s ∷ ss) stack = built s (all_built ss stack)

all_built-append : (ss ts : List Step) (stack : List Data)
    → all_built (ss ++ ts) stack ≡ all_built ss (all_built ts stack)
all_built-append [] ts stack = refl
all_built-append (s ∷ ss) ts stack = ap (built s) (all_built-append ss ts stack)

mutual
  builds : (d : Data) (stack : List Data) → all_built (steps d) stack ≡ d ∷ stack
  builds null stack = refl
  builds (boolean false) stack = refl
  builds (boolean true) stack = refl
  builds (number n) stack = ap (λ m. number m ∷ stack) (joined-parted n)
  builds (string s) stack = refl
  builds (array ds) stack = builds_items ds stack
  builds (object ms) stack = builds_members ms stack

  builds_items : (ds : Items) (stack : List Data) → all_built (items_steps ds) stack ≡ array ds ∷ stack
  builds_items no_items stack = refl
  builds_items (item d ds) stack =
      ap with_item
      (all_built-append (steps d) (items_steps ds) stack ∙ ap (all_built (steps d)) (builds_items ds stack)
      ∙ builds d (array ds ∷ stack))

  builds_members : (ms : Members) (stack : List Data) → all_built (members_steps ms) stack ≡ object ms ∷ stack
  builds_members no_members stack = refl
  builds_members (member k d ms) stack =
      ap (with_member k)
      (all_built-append (steps d) (members_steps ms) stack ∙ ap (all_built (steps d)) (builds_members ms stack)
      ∙ builds d (object ms ∷ stack))

abbrev first_of_stack : List Data → Data
first_of_stack [] = null
first_of_stack (d ∷ stack) = d

abbrev rebuilt : List Step → Data
rebuilt ss = first_of_stack (all_built ss [])

-- data are rebuilt from their steps
pub rebuilt-steps : (d : Data) → rebuilt (steps d) ≡ d
rebuilt-steps d = ap first_of_stack (builds d [])

abbrev number_code : Coded AnyNumber
number_code = coded⊎ coded_ℕ (coded⊎ coded_ℤ coded_float)

abbrev step_code : Coded Step
step_code = coded⊎ number_code (coded⊎ (coded_list coded_ℕ) (coded⊎ (coded_list coded_ℕ) coded_ℕ))

-- how data are stored
abbrev pub data_code : Coded Data
data_code = code_by (List Step) (coded_list step_code) steps rebuilt rebuilt-steps

-- members are found in the object that has them
pub inner_members-object : (ms : Members) → inner_members (object ms) ≡ ms
inner_members-object ms = refl

-- how members are stored
abbrev pub members_code : Coded Members
members_code = code_by Data data_code object inner_members inner_members-object
