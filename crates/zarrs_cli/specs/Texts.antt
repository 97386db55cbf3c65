-- The texts of what there is to tell of a bad name and of a consolidated block (Zarr core specification 3.1, "Node
-- names" and "Group metadata", with zarr-python's field `consolidated_metadata`).
-- <https://zarr-specs.readthedocs.io/en/latest/v3/core/index.html#node-names>
-- <https://zarr.readthedocs.io/en/stable/user-guide/consolidated_metadata/>
--     name_text p      the text which says that the last name of p is none
--     document_text e n, orphan_text n      what there is to tell of a bad document, and of a path without one, where
-- n paths below it have a document
--     alike_text o p      what there is to tell of p, where the name of o differs from its name in case alone
--     kind_text g kind      what there is to tell of the block of the group g
--     tally_text tally      how much a check looked at and found
use Rattle.std.specs.Prelude.{ℕ, ◌==◌, List, [], ◌++◌, Option, Some, None, if◌then◌else◌, codes, decimal}
use Rattle.zarrs_fault.specs.FaultTexts.{fault_text}
use Rattle.zarrs_store.specs.Segments.{last_segment}
use Rattle.zarrs_path.specs.Paths.{Path, path_text, without_leading_slash}
use Rattle.zarrs_meaning.specs.ErrorTexts.{error_text}
use Rattle.zarrs_meaning.specs.declared.node_create_error.NodeCreateError.{NodeCreateError}
use Rattle.zarrs_check.specs.declared.finding.FindingKind.{FindingKind}
use Rattle.zarrs_check.specs.declared.finding.FindingKind.TheVariants.{BlockFault, BadKey, Shadowed, OwnKey}
use Rattle.zarrs_check.specs.declared.finding.FindingKind.TheVariants.{OwnAttributes, Unreachable, Stale, Unreached}
use Rattle.zarrs_check.specs.declared.finding.FindingKind.TheVariants.{Differs, Missing}
use Rattle.zarrs_cli.specs.declared.report.Tally.{Tally}

-- the text which says that the last name of a path is none
abbrev pub name_text : Path → List ℕ
name_text p = codes "invalid node path " ++ path_text p

-- that so many documents below a bad one were not looked at, where there are any
abbrev pub hidden_text : ℕ → List ℕ
hidden_text n = if n == 0 then [] else codes "; " ++ (decimal n ++ codes " documents below it were not looked at")

-- why a document is bad, and how many below it were not looked at
abbrev pub document_text : NodeCreateError → ℕ → List ℕ
document_text e n = error_text e ++ hidden_text n

-- the text which says that a path has no document, and how many nodes below it are not reached
abbrev pub orphan_text : ℕ → List ℕ
orphan_text n = codes "orphaned: it has no document, and " ++ (decimal n ++ codes " nodes below it are not reached")

-- the text which says that the names of two paths differ in case alone
abbrev pub alike_text : Path → Path → List ℕ
alike_text o p =
    codes "alike: " ++ (last_segment o ++ (codes " and " ++ (last_segment p ++ codes " differ in case alone")))

-- the text which says that a key is no relative path
abbrev pub bad_key_text : Path → List ℕ → List ℕ
bad_key_text g key = codes "bad key: the block of " ++ (path_text g ++ (codes " has the key `" ++ (key ++ codes "`")))

-- the text which says that a key begins with a slash, and that the block has it without the slash too
abbrev pub shadowed_text : Path → List ℕ → List ℕ
shadowed_text g key =
    codes "shadowed: the block of "
    ++
    (path_text g
    ++ (codes " has the key `" ++ (key ++ (codes "` beside `" ++ (without_leading_slash key ++ codes "`")))))

-- the text which says that a key stands for the group itself
abbrev pub own_key_text : Path → List ℕ → List ℕ
own_key_text g key =
    codes "own key: the block of "
    ++ (path_text g ++ (codes " has the key `" ++ (key ++ (codes "`, which is " ++ (path_text g ++ codes " itself")))))

-- what there is to tell of the block of a group
abbrev pub kind_text : Path → FindingKind → List ℕ
kind_text g (BlockFault fault) =
    codes "bad block: the block of " ++ (path_text g ++ (codes " has the fault `" ++ (fault_text fault ++ codes "`")))
kind_text g (BadKey key) = bad_key_text g key
kind_text g (Shadowed key) = shadowed_text g key
kind_text g (OwnKey key) = own_key_text g key
kind_text g OwnAttributes =
    codes "differs: the block of " ++ (path_text g ++ codes " has other attributes of it than the store")
kind_text g Unreachable = codes "unreachable: the block of " ++ (path_text g ++ codes " has no group above it")
kind_text g Stale = codes "stale: the block of " ++ (path_text g ++ codes " has it, and the store has not")
kind_text g Unreached =
    codes "unreached: the block of " ++ (path_text g ++ codes " has it, and a listing does not reach it")
kind_text g Differs = codes "differs: the block of " ++ (path_text g ++ codes " has other metadata than the store")
kind_text g Missing = codes "missing: the block of " ++ (path_text g ++ codes " has no entry of it")

-- a number and what it counts: the one word of 1, and the other of all else
abbrev pub counted_text : ℕ → List ℕ → List ℕ → List ℕ
counted_text n one many = decimal n ++ (codes " " ++ (if n == 1 then one else many))

-- so many notes, where they are asked for
abbrev pub notes_text : Option ℕ → List ℕ
notes_text None = []
notes_text (Some n) = codes ", " ++ counted_text n (codes "note") (codes "notes")

-- how much a check looked at and found
abbrev pub tally_text : Tally → List ℕ
tally_text tally =
    counted_text tally.nodes (codes "node") (codes "nodes")
    ++ (codes ", " ++ (counted_text tally.findings (codes "finding") (codes "findings") ++ notes_text tally.notes))
