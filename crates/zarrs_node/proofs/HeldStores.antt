-- The small store that a document `.zmetadata` is, of which its block is read.
use Rattle.std.proofs.Common.{◌≡◌, ℕ, List, [], ◌∷◌, ◌++◌, Option, Some, None, Result, Ok, Err, option_and_then, refl, ap}
use Rattle.std.specs.FinMap.{get}
use Rattle.std.specs.Result.{result_ok}
use Rattle.serde_json.specs.Data.{Data}
use Rattle.zarrs_store.specs.Contents.{Contents}
use Rattle.zarrs_fault.specs.declared.fault.MetadataFault.{MetadataFault}
use Rattle.zarrs_path.specs.Keys.{zmetadata}
use Rattle.zarrs_path.specs.Paths.{Path}
use Rattle.zarrs_form.specs.Documents.{◌>>=◌, json_of, of_bytes, tree_or_fault}
use Rattle.zarrs_block.specs.Block.{Block}
use Rattle.zarrs_block.specs.Zmetadata.{zmetadata_in}
use Rattle.zarrs_block.proofs.SmallBlocks.{store_law}
use Rattle.zarrs_node.specs.BlocksBelow.{zmetadata_at, HoldsZmetadata}

-- a reading that gives a block is one of it
gives_it : (r : Result Block MetadataFault) (B : Block) → result_ok r ≡ Some B → r ≡ Ok B
gives_it (Ok C) B e = let same : C ≡ B = cc in ap Ok same
gives_it (Err fault) B e = cc

-- the block that the document of a path is holds the store that the document is
pub holds_zmetadata : (s : Contents) (b : Path) (B : Block) → zmetadata_at s b ≡ Some B → HoldsZmetadata s b B
holds_zmetadata s b B e = at (get s.values (b ++ zmetadata ∷ [])) refl e
  where
    by_tree : (bytes : List ℕ) → get s.values (b ++ zmetadata ∷ []) ≡ Some bytes → (o : Option Data) → json_of bytes ≡ o → result_ok (tree_or_fault o >>= zmetadata_in s.numbers) ≡ Some B → HoldsZmetadata s b B
    by_tree bytes there None text e = cc
    by_tree bytes there (Some d) text e =
        let law = store_law s.numbers d B (gives_it (zmetadata_in s.numbers d) B e) in
        (bytes, d, law.0, there, text, law.1, law.2, law.3)

    at : (o : Option (List ℕ)) → get s.values (b ++ zmetadata ∷ []) ≡ o → option_and_then (λ bytes. result_ok (of_bytes (zmetadata_in s.numbers) bytes)) o ≡ Some B → HoldsZmetadata s b B
    at None there e = cc
    at (Some bytes) there e = by_tree bytes there (json_of bytes) refl e
