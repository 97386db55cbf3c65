use Rattle.std.proofs.Common.{◌≡◌, ◌∙◌, subst, sym, true≢false}
use Rattle.zarrs_path.specs.Paths.{IsBelow}
use Rattle.zarrs_config.specs.declared.version.MetadataRetrieveVersion.TheVariants.{Default}
use Rattle.zarrs_meaning.specs.Meaning.{meaning, node}
use Rattle.zarrs_folder.specs.Folders.{in_any, values_of}
use Rattle.zarrs_folder.proofs.LoadingSteps.{alone_turn, group_turn, grows_itself, passed_over}
use Rattle.zarrs_folder.proofs.nodes.look_at.Goals as goal

pub returns-then-not-is_below-clause-ok : goal.returns-then-not-is_below-clause-ok
returns-then-not-is_below-clause-ok g c V agrees way =
    passed_over c.args.walk.documents V c.args.walk.base.now (values_of c.args.loaded.now.inner) (values_of c.args.loaded.now.inner) c.args.ahead.now.items c.args.prefix.now (grows_itself V (values_of c.args.loaded.now.inner)) way
    (λ low. true≢false (sym (c.is_below.ensures.below.1 (subst (IsBelow c.args.walk.base.now) (sym c.requires) low)) ∙ c.if-not-is_below.true))

pub returns-then-not-branch-clause-ok : goal.returns-then-not-branch-clause-ok
returns-then-not-branch-clause-ok g c V agrees way =
    alone_turn c.args.walk.documents V c.args.walk.base.now (values_of c.args.loaded.now.inner) (values_of c.load_at.new.loaded.inner) c.args.ahead.now.items c.args.prefix.now
    (c.in_ok-load_at.ensures.grows V agrees) (c.in_ok-load_at.ensures.below V agrees) (c.in_ok-load_at.ensures.got V agrees)
    (λ m is. c.in_ok-is_group_at.ensures c.if-not-branch.true m (subst (λ x. meaning (in_any (values_of c.load_at.new.loaded.inner)) Default x ≡ node m) (sym c.requires) is))
    way

pub returns-clause-ok : goal.returns-clause-ok
returns-clause-ok g c V agrees way =
    let before = c.in_ok-children.ensures.before V agrees in
    group_turn c.args.walk.documents V c.args.walk.base.now (values_of c.args.loaded.now.inner) (values_of c.load_at.new.loaded.inner) c.args.ahead.now.items c.append.new.self.items c.args.prefix.now
    (c.in_ok-load_at.ensures.grows V before) (c.in_ok-load_at.ensures.below V before) (c.in_ok-load_at.ensures.got V before)
    c.in_ok-children.children.items (c.in_ok-children.ensures.complete V agrees) c.in_ok-append.ensures.items way
