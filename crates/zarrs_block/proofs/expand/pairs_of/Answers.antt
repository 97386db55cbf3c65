use Rattle.std.proofs.Common.{◌≡◌, ℕ, List, ap, sym, subst, string_bytes, ◌∙◌, Vec, Global}
use Rattle.zarrs_path.specs.PathErrors.{RefusesJoin}
use Rattle.zarrs_path.specs.declared.node_path.NodePath.{NodePath}
use Rattle.zarrs_meta.specs.declared.node.NodeMetadata.{NodeMetadata}
use Rattle.zarrs_block.specs.Block.{IsValidKey}
use Rattle.zarrs_block.specs.BlockExpansion.{path_at}
use Rattle.zarrs_block.specs.StepsOfExpansion.{IsPlainKey}
use Rattle.zarrs_meaning.specs.declared.node_create_error.NodeCreateError.TheVariants.{NodePathError}
use Rattle.zarrs_block.proofs.BlockLaws.{shown}
use Rattle.zarrs_block.proofs.CoveredKeys.{path_asked}
use Rattle.zarrs_block.proofs.Expansion.{IsExpanding, all_expanded, expanded_none, expanded_some, is_there, keys_refused, map_ascends, refuses_key}
use Rattle.zarrs_block.proofs.PlainKeys.{plain_next, plain_pairs}
use Rattle.zarrs_block.proofs.expand.pairs_of.Goals.{in-Some-2+in_ok-push-in-Some-2, in-None-2}
use Rattle.zarrs_block.proofs.expand.pairs_of.Goals as goal

pub returns-in_err-path-clause-err : goal.returns-in_err-path-clause-err
returns-in_err-path-clause-err c =
    let b = c.args.path.now in
    let B = c.args.block.metadata in
    let l = c.loop-key in
    let error = c.in_err-path.field-0.0 in
    keys_refused B c.from_residual-in_err-path.result (NodePathError error) c.from_residual-in_err-path.ensures.1
    (refuses_key b B l.all.items (shown l.key-iterator) (string_bytes c.in-Some.key, c.in-Some.metadata) (shown c.next.new.self) (ap shown c.in-Some.ensures.steps) l.invariant.expanding error
    (subst (λ t. RefusesJoin t error) c.as_str-text.ensures.value c.in_err-path.ensures.err))

pub loop-key-preserved : goal.loop-key-preserved
loop-key-preserved c =
    let b = c.args.path.now in
    let B = c.args.block.metadata in
    let l = c.loop-key in
    let t = string_bytes c.in-Some.key in
    let e : List ℕ × NodeMetadata = (t, c.in-Some.metadata) in
    let is = ap shown c.in-Some.ensures.steps in
    let there = is_there b B l.all.items (shown l.key-iterator) e (shown c.next.new.self) is l.invariant.expanding in
    let path : c.in_ok-path.field-0 ≡ path_at b B t =
    path_asked b B c.in_ok-covered.covered t c.as_str-text.result.now c.in_ok-path.field-0 c.as_str-text.ensures.value c.in_ok-path.ensures.path (c.in_ok-covered.ensures t there) in
    let valid = subst IsValidKey c.as_str-text.ensures.value c.in_ok-path.ensures.valid in
    let stays = plain_next B (shown l.key-iterator) e (shown c.next.new.self) l.plain c.stay_plain-plain.result is (λ h. let both = c.stay_plain-plain.ensures h in (both.0, subst IsPlainKey c.as_str-text.ensures.value both.1)) l.invariant.plain in
    elim c.match-branch-3.branch [
      | in-Some-2+in_ok-push-in-Some-2 w ↦
          record {
            expanding = subst (λ (all : Vec (NodePath × NodeMetadata) Global). IsExpanding b B all.items (shown c.next.new.self)) (sym w.all-is)
                (expanded_some b B l.all.items (shown l.key-iterator) e (shown c.next.new.self) is l.invariant.expanding w.push.new.self.items w.in-Some-2.path (sym w.in-Some-2.is ∙ path) valid w.in_ok-push-in-Some-2.ensures.items);
            plain = stays;
          }
      | in-None-2 w ↦
          record {
            expanding = subst (λ (all : Vec (NodePath × NodeMetadata) Global). IsExpanding b B all.items (shown c.next.new.self)) (sym w.all-is)
                (expanded_none b B l.all.items (shown l.key-iterator) e (shown c.next.new.self) is l.invariant.expanding (sym w.in-None-2.is ∙ path) valid);
            plain = stays;
          }
    ]

pub returns-clause-keys : goal.returns-clause-keys
returns-clause-keys c =
    let l = c.loop-key in
    (all_expanded c.args.path.now c.args.block.metadata l.all.items (shown l.key-iterator) (ap shown c.in-None.ensures.steps.0) l.invariant.expanding).1

pub returns-clause-ordered : goal.returns-clause-ordered
returns-clause-ordered c = map_ascends c.args.block.metadata c.into_map-key-items.result.entries c.into_map-key-items.ensures c.into_iter-key-iterator.ensures.into_iter_gives.5

pub returns-clause-ascend : goal.returns-clause-ascend
returns-clause-ascend c plain =
    let b = c.args.path.now in
    let B = c.args.block.metadata in
    let l = c.loop-key in
    let none = ap shown c.in-None.ensures.steps.0 in
    plain_pairs b B (shown l.key-iterator) l.all.items none (all_expanded b B l.all.items (shown l.key-iterator) none l.invariant.expanding).0
    (map_ascends B c.into_map-key-items.result.entries c.into_map-key-items.ensures c.into_iter-key-iterator.ensures.into_iter_gives.5) (l.invariant.plain plain)
