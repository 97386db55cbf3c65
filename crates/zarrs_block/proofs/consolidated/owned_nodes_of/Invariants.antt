use Rattle.std.proofs.Common.{◌≡◌, ◌++◌, IsTrue}
use Rattle.std.specs.List.Sorted.{IsStrictlySortedBy}
use Rattle.std.specs.Map.{keys_of}
use Rattle.serde_json.specs.Data.{object}
use Rattle.serde_json.specs.View.{members_view}
use Rattle.zarrs_store.specs.Segments.{bytes_cmp}
use Rattle.zarrs_form.specs.Forms.{fits_in}
use Rattle.zarrs_block.specs.Block.{nodes_in}
use Rattle.zarrs_block.proofs.BlockLaws.{texts, with_rest}
use Rattle.zarrs_block.proofs.consolidated.owned_nodes_of.Given as goal

-- what was read, with what is read of the members that are left behind it, is what all members are read as; and the numbers of those that are left are among these
abbrev pub invariant-loop-key : goal.invariant-loop-key
invariant-loop-key l =
    IsStrictlySortedBy bytes_cmp (keys_of l.all ++ texts l.key-iterator)
    × (with_rest l.fn.numbers l.all l.key-iterator ≡ nodes_in l.fn.numbers (members_view l.fn.documents.entries))
    × IsTrue (fits_in l.fn.numbers (object (members_view l.key-iterator)))
