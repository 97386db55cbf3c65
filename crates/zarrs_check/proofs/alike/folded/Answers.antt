use Rattle.std.proofs.Common.{ap, subst, ◌∙◌, map}
use Rattle.std.specs.Char.{to_ascii_lowercase}
use Rattle.zarrs_store.specs.Segments.{last_segment}
use Rattle.zarrs_path.specs.Paths.{IsParent}
use Rattle.zarrs_check.proofs.AlikeNames.{folded_joined}
use Rattle.zarrs_check.proofs.alike.folded.Goals as goal

pub returns-in-Ok-join : goal.returns-in-Ok-join
returns-in-Ok-join c =
    folded_joined c.args.path.now c.in-Ok-join.folded c.in-Some.parent c.as_str.result.now c.parent.ensures.valid (subst (IsParent c.args.path.now) c.in-Some.is c.in-Ok.ensures.ok)
    (c.as_str.ensures.value ∙ (c.in_ok-name.ensures.ok ∙ ap (map to_ascii_lowercase) (c.name-2.ensures ∙ ap last_segment c.in_ok-to_prefix.ensures.ok))) c.in-Ok-join.ensures.ok
