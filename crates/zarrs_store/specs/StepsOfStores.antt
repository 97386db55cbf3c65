-- Steps of a store in memory: the keys and children below a prefix as lists that a loop makes; no public contract
-- rests on them.
use Rattle.std.specs.Prelude.{ℕ, Bool, true, false, List, [], ◌∷◌, ◌++◌, Option, Some, None, map, filter_map, not}
use Rattle.std.specs.Prelude.{IsTrue}
use Rattle.std.specs.List.{dedup, list_all}
use Rattle.zarrs_store.specs.Segments.{Segments, bytes_eq, is_reserved, last_segment, is_segment}
use Rattle.zarrs_store.specs.Entries.{beyond}

-- there is just one segment
abbrev pub is_one : Option Segments → Bool
is_one None = false
is_one (Some []) = false
is_one (Some (name ∷ [])) = true
is_one (Some (name ∷ next ∷ rest)) = false

-- the key is the prefix and one segment more
abbrev pub is_child_key : Segments → Segments → Bool
is_child_key prefix key = is_one (beyond prefix key)

-- the first of two segments or more
abbrev pub first_of_more : Option Segments → Option (List ℕ)
first_of_more None = None
first_of_more (Some []) = None
first_of_more (Some (name ∷ [])) = None
first_of_more (Some (name ∷ next ∷ rest)) = Some name

-- the segment behind the prefix, where the key has at least one more behind that
abbrev pub child_name : Segments → Segments → Option (List ℕ)
child_name prefix key = first_of_more (beyond prefix key)

-- the child of this name: the prefix and one segment more
abbrev pub child_of : Segments → List ℕ → Segments
child_of prefix name = prefix ++ name ∷ []

-- the names of the children in which these keys stand: one for each stretch of keys that stand in the same
abbrev pub child_names : Segments → List Segments → List (List ℕ)
child_names prefix keys = dedup bytes_eq (filter_map (child_name prefix) keys)

-- the children in which these keys stand, one for each stretch of keys that stand in the same
abbrev pub child_prefixes : Segments → List Segments → List Segments
child_prefixes prefix keys = map (child_of prefix) (child_names prefix keys)

-- the last segment of a prefix does not begin with `__`
abbrev pub is_visible : Segments → Bool
is_visible child = not (is_reserved (last_segment child))

-- each of these texts is a segment
abbrev pub IsSegments : Segments → Type 0
IsSegments ss = IsTrue (list_all is_segment ss)
