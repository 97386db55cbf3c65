use Rattle.std.proofs.Common.{◌≡◌, ◌∙◌, ◌∷◌, ◌++◌, [], Ok, ap, sym, subst, true≢false}
use Rattle.zarrs_meaning.specs.Meaning.{meaning, node}
use Rattle.zarrs_node.specs.Forest.{pairs}
use Rattle.zarrs_meaning.specs.Refusals.{Finds}
use Rattle.zarrs_node.proofs.blocks.MeaningsAnew.{renewed_one, renewed_all}
use Rattle.zarrs_node.proofs.walk.SinkSteps.{kept_pairs}
use Rattle.zarrs_node.proofs.refresh.read_anew.Goals as goal

pub returns-then-not-deeper-clause-renewed : goal.returns-then-not-deeper-clause-renewed
returns-then-not-deeper-clause-renewed g c =
    let of = meaning (g.S.Store.contents c.args.storage.now) c.args.version.now in
    let p = c.args.path.now in
    let m = c.in-Some.metadata in
    let is : of p ≡ node m = subst (λ o. Finds (g.S.Store.can_fail c.args.storage.now) (Ok o) (of p)) c.in-Some.is c.in_ok-metadata.ensures.found in
    let one : c.push.new.self.items ≡ (p, m) ∷ [] =
    c.in_ok-push.ensures.items ∙ ap (λ xs. xs ++ (c.in_ok-try_clone.field-0, m) ∷ []) c.new-pairs.ensures.items ∙ ap (λ q. (q, m) ∷ []) c.in_ok-try_clone.ensures.ok in
    renewed_one of p m is c.push.new.self.items one (λ group. true≢false (sym group ∙ sym c.is_group-deeper.ensures ∙ c.if-not-deeper.true))

pub returns-clause-renewed : goal.returns-clause-renewed
returns-clause-renewed g c =
    let of = meaning (g.S.Store.contents c.args.storage.now) c.args.version.now in
    let p = c.args.path.now in
    let m = c.in-Some.metadata in
    let is : of p ≡ node m = subst (λ o. Finds (g.S.Store.can_fail c.args.storage.now) (Ok o) (of p)) c.in-Some.is c.in_ok-metadata.ensures.found in
    let one : c.push.new.self.items ≡ (p, m) ∷ [] =
    c.in_ok-push.ensures.items ∙ ap (λ xs. xs ++ (c.in_ok-try_clone.field-0, m) ∷ []) c.new-pairs.ensures.items ∙ ap (λ q. (q, m) ∷ []) c.in_ok-try_clone.ensures.ok in
    let t = c.in_ok-walk_nodes.ensures.takes in
    renewed_all of p m is t.trees c.walk_nodes.new.sink.items (kept_pairs c.push.new.self c.walk_nodes.new.sink p _ t ∙ ap (λ x. x ++ pairs t.trees) one) (sym c.is_group-deeper.ensures ∙ c.if-not-deeper.false) t.shows
