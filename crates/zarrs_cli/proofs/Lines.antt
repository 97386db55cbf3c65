-- The nodes of a hierarchy as lines.
use Rattle.std.proofs.Common.{◌≡◌, ◌<◌, ◌+◌, ◌-◌, ◌*◌, ℕ, List, [], ◌∷◌, ◌++◌, length, take, replicate, slice_index, sym, ap, ◌∙◌, append_assoc, arith}
use Rattle.std.proofs.lemmas.List.{length-append}
use Rattle.std.proofs.Math.Seq.{take-append_seam, get_or-append_seam}
use Rattle.zarrs_path.specs.Paths.{Path}
use Rattle.zarrs_meta.specs.declared.node.NodeMetadata.{NodeMetadata}
use Rattle.zarrs_node.specs.Lines.{node_text, named_line}
use Rattle.zarrs_cli.specs.NodeLines.{line_at, shown_name}

-- what is printed of a node ends in a newline behind its line
pub line_ends : (level : ℕ) (p : Path) (m : NodeMetadata) → replicate (2 * level) 32 ++ named_line (shown_name level p) m ≡ line_at level (p, m) ++ 10 ∷ []
line_ends level p m =
    let indent : List ℕ = replicate (2 * level) 32 in
    let name = shown_name level p in
    sym (append_assoc indent (name ++ node_text m) (10 ∷ []) ∙ ap (λ t. indent ++ t) (append_assoc name (node_text m) (10 ∷ [])))

-- what was written behind an indent is the line of the node and a newline
pub line_made : (level : ℕ) (p : Path) (m n : NodeMetadata) (start indented written name : List ℕ) → start ≡ [] → indented ≡ start ++ replicate (2 * level) 32 → name ≡ shown_name level p → n ≡ m
    → written ≡ indented ++ named_line name n → written ≡ line_at level (p, m) ++ 10 ∷ []
line_made level p m n start indented written name none spaces named same made =
    made
    ∙ (ap (λ t. t ++ named_line name n) (spaces ∙ ap (λ t. t ++ replicate (2 * level) 32) none)
    ∙ (ap (λ k. replicate (2 * level) 32 ++ named_line k n) named ∙ (ap (λ k. replicate (2 * level) 32 ++ named_line (shown_name level p) k) same ∙ line_ends level p m)))

-- what ends in a newline and lost its last byte is what stood before it
pub popped : (old new front : List ℕ) (n : ℕ) → n ≡ length old → old ≡ front ++ 10 ∷ [] → (0 < n → slice_index old (n - 1) < 128 → new ≡ take (n - 1) old) → new ≡ front
popped old new front n size is taken =
    let long : n ≡ length front + 1 = size ∙ (ap length is ∙ length-append front (10 ∷ [])) in
    let less : n - 1 ≡ length front = omega (arith, long) in
    let last : slice_index old (n - 1) ≡ 10 = ap (slice_index old) less ∙ (ap (λ t. slice_index t (length front)) is ∙ get_or-append_seam front 10 [] 0) in
    taken (omega (arith, long)) (omega (arith, last)) ∙ (ap (λ k. take k old) less ∙ (ap (take (length front)) is ∙ take-append_seam front (10 ∷ [])))
