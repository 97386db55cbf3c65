-- Zarr core specification 3.1, "Node names" and "Paths": names, paths and their order, by examples.
use Rattle.std.proofs.Common.{◌≡◌, true, false, [], ◌∷◌, codes, refl, Some, Less, Greater}
use Rattle.zarrs_path.specs.Names.{is_name, IsName, is_node_name}
use Rattle.zarrs_path.specs.Paths.{path_text, IsPathText, IsParent, path_cmp, relative_names, first_bad, IsBelow}

-- a letter is a name
a_is_a_name : IsName (codes "a")
a_is_a_name = refl

-- two underscores begin no name
reserved_is_none : is_name (codes "__a") ≡ false
reserved_is_none = refl

-- one may begin a name
one_underscore_is : IsName (codes "_a")
one_underscore_is = refl

-- two periods are no name
periods_are_none : is_name (codes "..") ≡ false
periods_are_none = refl

-- a period and a letter are a name
hidden_is : IsName (codes ".a")
hidden_is = refl

-- a slash is in no name
slash_is_none : is_name (codes "a/b") ≡ false
slash_is_none = refl

-- the empty text is no name
empty_is_none : is_name [] ≡ false
empty_is_none = refl

-- but it is that of the root
empty_is_roots : is_node_name [] ≡ true
empty_is_roots = refl

-- the text of the root
text_of_root : path_text [] ≡ codes "/"
text_of_root = refl

-- the text of a path of two names
text_of_two : path_text (codes "a" ∷ codes "b" ∷ []) ≡ codes "/a/b"
text_of_two = refl

-- a text is a path's
is_a_path : IsPathText (codes "/a/b")
is_a_path = record { path = codes "a" ∷ codes "b" ∷ []; valid = refl; text = refl }

-- by names `/a/x` stands before `/a-b`, though its bytes stand behind
below_before : path_cmp (codes "a" ∷ codes "x" ∷ []) (codes "a-b" ∷ []) ≡ Less
below_before = refl

-- siblings stand in the order of their names' bytes
siblings_ascend : path_cmp (codes "b" ∷ []) (codes "a" ∷ []) ≡ Greater
siblings_ascend = refl

-- what a relative text adds
relative : relative_names (codes "/a/b") ≡ codes "a" ∷ codes "b" ∷ []
relative = refl

-- a doubled slash has an empty part, which is the first bad one
doubled : first_bad (relative_names (codes "a//b")) ≡ Some []
doubled = refl

-- `/a/x` is below `/a`
is_below : IsBelow (codes "a" ∷ []) (codes "a" ∷ codes "x" ∷ [])
is_below = (codes "x", [], refl)

-- `/group2` is not below `/group`
not_below : IsBelow (codes "group" ∷ []) (codes "group2" ∷ []) → ⊥
not_below h = let e : codes "group2" ∷ [] ≡ codes "group" ∷ h.0 ∷ h.1 = h.2 in cc

-- the path above `/a/x` is `/a`
parent_is_a : IsParent (codes "a" ∷ codes "x" ∷ []) (Some (codes "a" ∷ []))
parent_is_a = (codes "x", refl)
