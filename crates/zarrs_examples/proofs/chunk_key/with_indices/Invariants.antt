use Rattle.std.proofs.Common.{◌≡◌, ◌++◌, string_bytes, take}
use Rattle.std.specs.Fmt.{decimal}
use Rattle.std.specs.List.{flat_map}
use Rattle.zarrs_examples.proofs.chunk_key.with_indices.Given as goal

-- the indices so far stand behind the text
abbrev pub invariant-loop-index : goal.invariant-loop-index
invariant-loop-index l = string_bytes l.text ≡ string_bytes l.initial.text ++ flat_map (λ n. l.between ++ decimal n) (take l.index-index l.indices)
