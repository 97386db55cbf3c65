-- Zarr core specification 3.1, "Paths" and "Hierarchy": paths of nodes, as lists of names.
-- <https://zarr-specs.readthedocs.io/en/latest/v3/core/index.html#path>
-- <https://zarr-specs.readthedocs.io/en/latest/v3/core/index.html#hierarchy>
--     Path, IsPath p      a path, and that each of its names is one
--     path_text p, IsPathText bs      `/`, or each name with a slash before it; and that a text is a path's
--     path_cmp, path_eq      the order of paths, and their equality
--     IsBelow base path      base is a proper beginning of path
--     IsParent p r      r is p without its last name, or nothing for the root
--     relative_names rel      the names that a relative text adds to a path
use Rattle.std.specs.Prelude.{◌≡◌, ℕ, Bool, not, List, [], ◌∷◌, ◌++◌, IsTrue, Option, Some, None, bytes_eq, cond}
use Rattle.std.specs.List.{list_all, flat_map, find}
use Rattle.std.specs.Ordering.{nat_cmp}
use Rattle.std.specs.declared.cmp.Ordering.{Ordering}
use Rattle.std.specs.Cmp.Lexicographic.{slice_cmp}
use lib.Pointwise.{pointwise}
use Rattle.zarrs_store.specs.Segments.{is_slash, stretches}
use Rattle.zarrs_path.specs.Names.{is_name}
use Rattle.zarrs_fault.specs.Bytes.{slash}

-- a path is a list of texts, from the root down
abbrev pub Path : Type 0
Path = List (List ℕ)

-- each text of the path is a name
abbrev pub IsPath : Path → Type 0
IsPath p = IsTrue (list_all is_name p)

-- each name with a slash before it
abbrev pub names_text : Path → List ℕ
names_text p = flat_map (λ n. slash ∷ n) p

-- the text of a path: `/` for the root, else each name with a slash before it
abbrev pub path_text : Path → List ℕ
path_text [] = slash ∷ []
path_text (n ∷ p) = names_text (n ∷ p)

-- a text is that of a path: some list of names has it as its text
pub record IsPathText (bs : List ℕ) : Type 0 where
  pub path : Path
  pub valid : IsPath path
  pub text : path_text path ≡ bs

-- the order of paths: of lists of names, names by bytes
abbrev pub path_cmp : Path → Path → Ordering
path_cmp = slice_cmp (slice_cmp nat_cmp)

-- paths are equal name by name
abbrev pub path_eq : Path → Path → Bool
path_eq = pointwise bytes_eq

-- a path is below a base where the base is a proper beginning of it
abbrev pub IsBelow : Path → Path → Type 0
IsBelow base path = (n : List ℕ) × (rest : Path) × (path ≡ base ++ n ∷ rest)

-- nothing for the root, else the path without its last name
abbrev pub IsParent : Path → Option Path → Type 0
IsParent p None = p ≡ []
IsParent p (Some q) = (n : List ℕ) × (p ≡ q ++ n ∷ [])

-- the text without one leading slash
abbrev pub without_leading_slash : List ℕ → List ℕ
without_leading_slash [] = []
without_leading_slash (b ∷ bs) = cond (is_slash b) bs (b ∷ bs)

-- the stretches of a text between its slashes, and of the empty text none
abbrev pub parts : List ℕ → List (List ℕ)
parts [] = []
parts (b ∷ bs) = stretches (b ∷ bs)

-- the parts of a relative text after one leading slash: where each of them is a name, they are what the text adds to
-- a path
abbrev pub relative_names : List ℕ → List (List ℕ)
relative_names rel = parts (without_leading_slash rel)

-- the first part that is no name
abbrev pub first_bad : List (List ℕ) → Option (List ℕ)
first_bad ps = find (λ n. not (is_name n)) ps
