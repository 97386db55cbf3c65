use Rattle.std.proofs.Common.{◌≡◌, [], ◌∷◌, ◌∙◌, sym, ap, string_bytes, Some, None, lit<}
use Rattle.std.proofs.lemmas.Str.Pattern.{strip_prefix_char}
use Rattle.zarrs_store.specs.Segments.{segments_of}
use Rattle.zarrs_store.proofs.Cuts.{segments_of-nil}
use Rattle.zarrs_path.specs.Paths.{names_text}
use Rattle.zarrs_path.proofs.KeyTexts.{root_names}
use Rattle.zarrs_path.proofs.Prefixes.{prefix_from_names, prefix_from_path, prefix_is_path}
use Rattle.zarrs_path.proofs.node_path.NodePath.to_prefix.Goals as goal

pub new_unchecked-requires : goal.new_unchecked-requires
new_unchecked-requires c =
    let is : names_text c.args.self.now ≡ 47 ∷ c.in-Some.names.now = sym c.slashed.ensures.text ∙ strip_prefix_char 47 c.slashed.result.now (Some c.in-Some.names) c.in-Some.ensures.cases (lit< tt) in
    prefix_from_path c.args.self.now _ c.slashed.ensures.valid (prefix_from_names c.args.self.now c.in-Some.names.now (string_bytes c.in_ok-text-in-Some.text) is c.in_ok-text-in-Some.ensures)

pub returns-in_ok-text-in-Some-clause-ok : goal.returns-in_ok-text-in-Some-clause-ok
returns-in_ok-text-in-Some-clause-ok c =
    let is : names_text c.args.self.now ≡ 47 ∷ c.in-Some.names.now = sym c.slashed.ensures.text ∙ strip_prefix_char 47 c.slashed.result.now (Some c.in-Some.names) c.in-Some.ensures.cases (lit< tt) in
    c.new_unchecked.ensures.segments ∙ prefix_is_path c.args.self.now (string_bytes c.in_ok-text-in-Some.text) c.slashed.ensures.valid (prefix_from_names c.args.self.now c.in-Some.names.now (string_bytes c.in_ok-text-in-Some.text) is c.in_ok-text-in-Some.ensures)

pub returns-in-None-clause-ok : goal.returns-in-None-clause-ok
returns-in-None-clause-ok c =
    let root : c.args.self.now ≡ [] = root_names c.args.self.now (λ rest e. strip_prefix_char 47 c.slashed.result.now None c.in-None.ensures.cases (lit< tt) rest (c.slashed.ensures.text ∙ e)) in
    c.new_unchecked-in-None.ensures.segments ∙ (ap segments_of c.new.ensures.bytes ∙ (segments_of-nil ∙ sym root))
