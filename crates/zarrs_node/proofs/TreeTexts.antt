-- The text of nodes, as it is written line by line.
use Rattle.std.proofs.Debugs.{debug_list-Some}
use Rattle.std.proofs.lemmas.List.{replicate-append-replicate}
use Rattle.std.specs.Fmt.{◌++?◌, debug_list, decimal}
use Rattle.std.proofs.Common.{Some, arith, ◌≡◌, ℕ, ◌+◌, ◌*◌, replicate, ◌++◌, List, [], ◌∷◌, codes, refl, sym, ap, ◌∙◌, append_assoc}
use Rattle.zarrs_store.specs.Segments.{last_segment}
use Rattle.zarrs_node.specs.declared.node.Node.{Node}
use Rattle.zarrs_node.specs.Forest.{Forest, none, tree, forest, path_of, metadata_of, below_of}
use Rattle.zarrs_node.specs.StepsOfCounting.{children_of}
use Rattle.zarrs_node.specs.StepsOfPreorder.{Stop, stops, stop_of}
use Rattle.zarrs_node.specs.Lines.{shape_text, named_line, line, preorder, first_line, tree_text}

-- the lines of the nodes that a walk comes to
abbrev pub text_of : List Stop → List ℕ
text_of [] = []
text_of (s ∷ ss) = line s.level s.path s.metadata ++ text_of ss

-- those of two walks in a row
text_of-append : (xs ys : List Stop) → text_of (xs ++ ys) ≡ text_of xs ++ text_of ys
text_of-append [] ys = refl
text_of-append (x ∷ xs) ys = ap (λ t. line x.level x.path x.metadata ++ t) (text_of-append xs ys) ∙ sym (append_assoc (line x.level x.path x.metadata) (text_of xs) (text_of ys))

-- a walk over a forest has the lines of the forest
text_of-stops : (l : ℕ) (f : Forest) → text_of (stops l f) ≡ preorder l f
text_of-stops l none = refl
text_of-stops l (tree p m below after) =
    ap (λ t. line l p m ++ t)
    (text_of-append (stops (l + 1) below) (stops l after) ∙ ap (λ t. t ++ text_of (stops l after)) (text_of-stops (l + 1) below) ∙ ap (λ t. preorder (l + 1) below ++ t) (text_of-stops l after))

-- the first line was written, and all nodes below are ahead
pub first_written : (n : Node) (start written : List ℕ) (ss : List Stop) (below : List Node) → start ≡ [] → written ≡ start ++ (replicate (2 * 0) 32 ++ named_line (codes "/") (metadata_of n))
    → ss ≡ stops 1 (forest below) → below ≡ children_of n → written ++ text_of ss ≡ tree_text (metadata_of n) (below_of n)
first_written n start written ss below empty w all children =
    ap (λ x. x ++ text_of ss) (w ∙ ap (λ x. x ++ first_line (metadata_of n)) empty)
    ∙ ap (λ x. first_line (metadata_of n) ++ x) (ap text_of all ∙ text_of-stops 1 (forest below) ∙ ap (λ x. preorder 1 (forest x)) children)

-- a line was written: what is written and what is ahead make the same whole
pub line_written : (level : ℕ) (before written name : List ℕ) (whole : List ℕ) (n : Node) (was later : List Stop) → written ≡ before ++ (replicate (2 * level) 32 ++ named_line name (metadata_of n))
    → name ≡ last_segment (path_of n) → was ≡ stop_of level n ∷ later → before ++ text_of was ≡ whole → written ++ text_of later ≡ whole
line_written level before written name whole n was later w named e h =
    let here = line level (path_of n) (metadata_of n) in
    ap (λ x. x ++ text_of later) (w ∙ ap (λ x. before ++ (replicate (2 * level) 32 ++ named_line x (metadata_of n))) named)
    ∙ append_assoc before here (text_of later)
    ∙ ap (λ x. before ++ text_of x) (sym e)
    ∙ h

-- two spaces more are one level more
pub deeper_indent : (level : ℕ) (indent : List ℕ) → indent ≡ replicate (2 * level) 32 → indent ++ 32 ∷ 32 ∷ [] ≡ replicate (2 * (level + 1)) 32
deeper_indent level indent e =
    let more : 2 * level + 2 ≡ 2 * (level + 1) = omega arith in
    ap (λ t. t ++ 32 ∷ 32 ∷ []) e ∙ replicate-append-replicate (2 * level) 2 32 ∙ ap (λ n. replicate n 32) more

-- a shape between two spaces, as the list of its numbers is printed
pub shape_written : (shape : List ℕ) → Some (32 ∷ []) ++? (debug_list (λ n. Some (decimal n)) shape ++? Some (32 ∷ [])) ≡ Some (32 ∷ (shape_text shape ++ 32 ∷ []))
shape_written shape = ap (λ o. Some (32 ∷ []) ++? (o ++? Some (32 ∷ []))) (debug_list-Some decimal shape)
