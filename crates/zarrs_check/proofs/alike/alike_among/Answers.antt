use Rattle.std.proofs.Common.{◌∷◌, [], ◌++◌, ◌+◌, Contains, sym, ap, subst, ◌∙◌, cond, take, Some}
use Rattle.std.specs.HashMap.{get}
use Rattle.zarrs_path.specs.Paths.{path_eq}
use Rattle.zarrs_check.specs.Alike.{AreAlikeAmong}
use Rattle.zarrs_check.specs.StepsOfAlike.{IsFolded, IsLastOf}
use Rattle.zarrs_check.proofs.AlikeNames.{next_more, next_root, next_same}
use Rattle.zarrs_check.proofs.alike.alike_among.Goals as goal
use Rattle.zarrs_check.proofs.alike.alike_among.Goals.{in-Some+in_ok-try_clone+in_ok-before+in-Some-before+in_ok-try_clone-2+in_ok-push, in-Some+in_ok-try_clone+in_ok-before+in_default-before, in_default}

pub loop-path-preserved : goal.loop-path-preserved
loop-path-preserved c =
    let l = c.loop-path in
    let i = l.path-index in
    let ps = c.args.paths.now in
    let q = c.path-item.result in
    let lt = c.loop-path-test.true in
    let is = c.path-item.is in
    let up = c.requires.ascending in
    let f = get path_eq l.last in
    let are = l.invariant.0 in
    let last = l.invariant.1 in
    elim c.match-branch-2.branch [
      | in-Some+in_ok-try_clone+in_ok-before+in-Some-before+in_ok-try_clone-2+in_ok-push w ↦
          let k = w.in-Some.folded in
          let p = w.in-Some-before.before in
          let old = w.in_ok-before.ensures in
          let next = next_more ps i q lt is up l.found.items f are last k (subst (IsFolded q) w.in-Some.is c.in_ok-folded.ensures) (get path_eq w.insert.new.self)
          (λ j. old.updates.0 j ∙ ap (λ v. cond (path_eq k j) (Some v) (f j)) w.in_ok-try_clone.ensures.ok) p (sym old.old ∙ w.in-Some-before.is) in
          let items = w.in_ok-push.ensures.items ∙ ap (λ x. l.found.items ++ (x, p) ∷ []) w.in_ok-try_clone-2.ensures.ok in (
            subst (λ v. AreAlikeAmong (Contains (take (i + 1) ps)) v.items) (sym w.found-is) (subst (AreAlikeAmong (Contains (take (i + 1) ps))) (sym items) next.0),
            λ j. subst (λ m. IsLastOf (take (i + 1) ps) j (get path_eq m j)) (sym w.last-is) (next.1 j),
          )
      | in-Some+in_ok-try_clone+in_ok-before+in_default-before w ↦
          let k = w.in-Some.folded in
          let old = w.in_ok-before.ensures in
          let next = next_same ps i q lt is up l.found.items f are last k (subst (IsFolded q) w.in-Some.is c.in_ok-folded.ensures) (get path_eq w.insert.new.self)
          (λ j. old.updates.0 j ∙ ap (λ v. cond (path_eq k j) (Some v) (f j)) w.in_ok-try_clone.ensures.ok) (sym old.old ∙ w.in_default-before.is) in (
            subst (λ v. AreAlikeAmong (Contains (take (i + 1) ps)) v.items) (sym w.found-is) next.0,
            λ j. subst (λ m. IsLastOf (take (i + 1) ps) j (get path_eq m j)) (sym w.last-is) (next.1 j),
          )
      | in_default w ↦
          let next = next_root ps i q lt is up l.found.items f are last (subst (IsFolded q) w.in_default.is c.in_ok-folded.ensures) in (
            subst (λ v. AreAlikeAmong (Contains (take (i + 1) ps)) v.items) (sym w.found-is) next.0,
            λ j. subst (λ m. IsLastOf (take (i + 1) ps) j (get path_eq m j)) (sym w.last-is) (next.1 j),
          )
    ]
