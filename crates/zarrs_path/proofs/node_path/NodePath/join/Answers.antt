use Rattle.std.proofs.Common.{◌≡◌, ◌≢◌, ℕ, List, [], ◌∷◌, ◌++◌, ◌∙◌, sym, ap, string_bytes, None, option_copied}
use Rattle.std.specs.List.{slice_split}
use Rattle.zarrs_store.specs.Segments.{is_slash}
use Rattle.zarrs_path.specs.Paths.{names_text, parts, first_bad, without_leading_slash}
use Rattle.zarrs_path.specs.PathErrors.{bad_part_text}
use Rattle.zarrs_path.proofs.ByteTests.{nonempty_from_test}
use Rattle.zarrs_path.proofs.PathTexts.{parts_some_is, valid_of_text}
use Rattle.zarrs_path.proofs.Joins.{joined_is_text, joined_is_names}
use Rattle.zarrs_path.proofs.node_path.NodePath.join.Goals as goal

pub returns-in-Some-clause-err : goal.returns-in-Some-clause-err
returns-in-Some-clause-err c =
    let rest : List ℕ = c.without_leading_slash-rest.result.now in
    let is : rest ≡ without_leading_slash c.args.relative.now = c.without_leading_slash-rest.ensures in
    let some : rest ≢ [] = nonempty_from_test rest (sym c.is_empty.ensures ∙ c.if-is_empty.false) in
    let names : slice_split is_slash rest ≡ parts (without_leading_slash c.args.relative.now) = sym (parts_some_is rest some) ∙ ap parts is in
    (c.in-Some.part.now, ap first_bad (sym names) ∙ sym c.in-Some.ensures, c.in_ok-text.ensures.ok ∙ ap (λ r. bad_part_text c.in-Some.part.now r) is)

pub invariant_of-result : goal.invariant_of-result
invariant_of-result c =
    let rest : List ℕ = c.without_leading_slash-rest.result.now in
    let text : string_bytes c.in_ok-text-2.text ≡ names_text c.args.self.now ++ 47 ∷ rest = c.in_ok-text-2.ensures ∙ ap (λ t. t ++ 47 ∷ rest) c.slashed.ensures.text in
    let none : first_bad (slice_split is_slash rest) ≡ None = sym c.first_bad.ensures ∙ ap option_copied c.in_default.is in
    joined_is_text (string_bytes c.in_ok-text-2.text) rest c.args.self.now text c.slashed.ensures.valid none

pub returns-clause-ok : goal.returns-clause-ok
returns-clause-ok c =
    let rest : List ℕ = c.without_leading_slash-rest.result.now in
    let is : rest ≡ without_leading_slash c.args.relative.now = c.without_leading_slash-rest.ensures in
    let some : rest ≢ [] = nonempty_from_test rest (sym c.is_empty.ensures ∙ c.if-is_empty.false) in
    let text : string_bytes c.in_ok-text-2.text ≡ names_text c.args.self.now ++ 47 ∷ rest = c.in_ok-text-2.ensures ∙ ap (λ t. t ++ 47 ∷ rest) c.slashed.ensures.text in
    let none : first_bad (slice_split is_slash rest) ≡ None = sym c.first_bad.ensures ∙ ap option_copied c.in_default.is in
    joined_is_names (string_bytes c.in_ok-text-2.text) rest c.args.self.now text c.slashed.ensures.valid some none ∙ ap (λ r. c.args.self.now ++ parts r) is

pub returns-clause-valid : goal.returns-clause-valid
returns-clause-valid c =
    let rest : List ℕ = c.without_leading_slash-rest.result.now in
    let text : string_bytes c.in_ok-text-2.text ≡ names_text c.args.self.now ++ 47 ∷ rest = c.in_ok-text-2.ensures ∙ ap (λ t. t ++ 47 ∷ rest) c.slashed.ensures.text in
    let none : first_bad (slice_split is_slash rest) ≡ None = sym c.first_bad.ensures ∙ ap option_copied c.in_default.is in
    valid_of_text (string_bytes c.in_ok-text-2.text) (joined_is_text (string_bytes c.in_ok-text-2.text) rest c.args.self.now text c.slashed.ensures.valid none)
