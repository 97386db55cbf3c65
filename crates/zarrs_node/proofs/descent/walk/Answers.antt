use Rattle.std.proofs.Common.{◌≡◌, ◌++◌, [], ◌∷◌, reverse, refl, sym, ap, subst, ◌∙◌, inl, inr, ⊎_elim, IsTrue, IsFalse, true≢false}
use Rattle.std.proofs.lemmas.Result.{err_from_is_err_and}
use Rattle.zarrs_store.specs.Children.{AreVisibleChildren}
use Rattle.zarrs_node.specs.StepsOfTrees.{own_node, paths_passed}
use Rattle.zarrs_node.specs.Sinks.{TakesAll}
use Rattle.zarrs_node.specs.StepsOfTheWalk.{IsReadOrTold}
use Rattle.zarrs_node.proofs.walk.ChildRefusals.{told_unread}
use Rattle.zarrs_node.proofs.walk.WalkTurns.{left_none, turn_above, turn_refused, falls_alone, falls_deeper}
use Rattle.zarrs_node.proofs.walk.SinkSteps.{HasFed, fed_start, fed_forest, fed_ignored, fed_faults, fed_fault, fed_alone, fed_deeper}
use Rattle.zarrs_node.proofs.descent.walk.Goals as goal
use Rattle.zarrs_node.proofs.descent.walk.Goals.{then-recursive+then-is_group+in_ok-push_children-2, else-recursive, else-recursive-via-then-recursive+else-is_group, else-recursive-via-else-recursive}

pub loop-prefix-init : goal.loop-prefix-init
loop-prefix-init g c =
    let p = c.in_ok-push_children.ensures.ok in (
      fed_start g.K.NodeSink.takes (g.S.Store.contents c.args.storage.now) c.args.version.now c.args.recursive c.args.path.now c.args.sink.now c.in_ok-base.ensures.valid p.children
          (subst (λ q. AreVisibleChildren (g.S.Store.contents c.args.storage.now).values q p.children) c.in_ok-base.ensures.ok p.discovered) _ _ _ c.new-ignored.ensures.items c.requires (p.stacked ∙ ap (λ x. x ++ reverse p.children) c.new-pending.ensures.items),
      refl,
      λ _. c.requires,
    )

pub read_or_tell-requires : goal.read_or_tell-requires
read_or_tell-requires g c =
    let s = g.S.Store.contents c.args.storage.now in
    let v = c.args.version.now in
    let r = c.args.recursive in
    let b = c.args.path.now in
    let ig = c.loop-prefix.ignored.items in
    let fs = c.loop-prefix.notes.faults.items in
    let at = subst (HasFed g.K.NodeSink.takes s v r b c.args.sink.now c.loop-prefix.sink ig fs) c.in-Some.ensures.items c.loop-prefix.invariant.0 in
    turn_above s v r b c.in-Some.prefix (g.S.Store.can_fail c.args.storage.now) at.nodes ig fs c.pop.new.self.items at.nodes ig at.walked c.in_ok-base.ensures.valid

pub returns-in_err-found-clause-refused : goal.returns-in_err-found-clause-refused
returns-in_err-found-clause-refused g c =
    let s = g.S.Store.contents c.args.storage.now in
    let v = c.args.version.now in
    let r = c.args.recursive in
    let b = c.args.path.now in
    let ig = c.loop-prefix.ignored.items in
    let fs = c.loop-prefix.notes.faults.items in
    let at = subst (HasFed g.K.NodeSink.takes s v r b c.args.sink.now c.loop-prefix.sink ig fs) c.in-Some.ensures.items c.loop-prefix.invariant.0 in
    let p = err_from_is_err_and c.from_residual-in_err-found.result c.from_residual-in_err-found.ensures.1 in
    rw (p.1, p.2) (⊎_elim inl
    (λ x. inr (subst IsFalse c.loop-prefix.invariant.1 x.0, turn_refused s v r b c.in-Some.prefix (g.S.Store.can_fail c.args.storage.now) at.nodes ig fs c.pop.new.self.items at.nodes ig at.walked _ c.in_ok-base.ensures.valid c.in_err-found.ensures.segments x.1))
    c.in_err-found.ensures.refused)

pub loop-prefix-preserved-in_default-2 : goal.loop-prefix-preserved-in_default-2
loop-prefix-preserved-in_default-2 g c =
    let s = g.S.Store.contents c.args.storage.now in
    let v = c.args.version.now in
    let r = c.args.recursive in
    let b = c.args.path.now in
    let child = c.in-Some.prefix in
    let can_fail = g.S.Store.can_fail c.args.storage.now in
    let ig = c.loop-prefix.ignored.items in
    let fs = c.loop-prefix.notes.faults.items in
    let gs = c.read_or_tell.new.notes.faults.items in
    let at = subst (HasFed g.K.NodeSink.takes s v r b c.args.sink.now c.loop-prefix.sink ig fs) c.in-Some.ensures.items c.loop-prefix.invariant.0 in
    let unread = told_unread c.in_ok-found.field-0 c.in_default-2.not-Read in
    let told = subst (λ o. IsReadOrTold can_fail s v child o fs gs) unread c.in_ok-found.ensures.read in (
      fed_fault g.K.NodeSink.takes s v r b c.args.sink.now child can_fail c.loop-prefix.sink ig fs c.pop.new.self.items at told.0 c.in_ok-found.ensures.segments told.1 gs told.2,
      c.in_ok-found.ensures.goes_on ∙ c.loop-prefix.invariant.1,
      λ stays. absurd (true≢false (sym (subst IsTrue c.loop-prefix.invariant.1 (c.in_ok-found.ensures.told unread)) ∙ stays)),
    )

pub loop-prefix-preserved : goal.loop-prefix-preserved
loop-prefix-preserved g c =
    let s = g.S.Store.contents c.args.storage.now in
    let v = c.args.version.now in
    let r = c.args.recursive in
    let b = c.args.path.now in
    let takes = g.K.NodeSink.takes in
    let a = c.args.sink.now in
    let z = c.loop-prefix.sink in
    let ps = c.pop.new.self.items in
    let child = c.in-Some.prefix in
    let can_fail = g.S.Store.can_fail c.args.storage.now in
    let ig = c.loop-prefix.ignored.items in
    let fs = c.loop-prefix.notes.faults.items in
    let gs = c.read_or_tell.new.notes.faults.items in
    let at = subst (HasFed takes s v r b a z ig fs) c.in-Some.ensures.items c.loop-prefix.invariant.0 in
    let found = c.in-Read.found in
    let read = subst (λ o. IsReadOrTold can_fail s v child o fs gs) c.in-Read.is c.in_ok-found.ensures.read in
    let told_all = subst (λ q. TakesAll takes z (own_node q found) c.tell.new.sink) c.in_ok-child.ensures c.in_ok-tell.ensures.nodes in
    let passed_all = c.in_ok-tell.ensures.ignored ∙ ap (λ q. ig ++ paths_passed q found []) c.in_ok-child.ensures in (
      subst (λ x. HasFed takes s v r b a c.tell.new.sink c.tell.new.ignored.items x c.if-recursive.pending.items) (sym read.2) (elim c.if-recursive.branch [
        | then-recursive+then-is_group+in_ok-push_children-2 w ↦
            let p = w.in_ok-push_children-2.ensures.ok in
            fed_deeper takes s v r b a child can_fail z ig fs ps at read.0 found read.1 c.tell.new.sink c.tell.new.ignored.items told_all passed_all
            w.if-recursive.true (sym w.if-is_group.true ∙ w.is_group.ensures) p.children p.discovered c.if-recursive.pending.items (ap (λ x. x.items) w.pending-is ∙ p.stacked)
        | else-recursive w ↦
            subst (HasFed takes s v r b a c.tell.new.sink c.tell.new.ignored.items fs) (sym (ap (λ x. x.items) w.pending-is))
            (fed_alone takes s v r b a child can_fail z ig fs ps at read.0 found read.1 c.tell.new.sink c.tell.new.ignored.items told_all passed_all
            (λ deep group. elim w.else-recursive.branch [
              | else-recursive-via-then-recursive+else-is_group w' ↦ true≢false (group ∙ sym w'.is_group.ensures ∙ w'.if-is_group.false)
              | else-recursive-via-else-recursive w' ↦ true≢false (sym deep ∙ w'.if-recursive.false)
            ]))
      ]),
      c.in_ok-found.ensures.goes_on ∙ c.loop-prefix.invariant.1,
      λ stays. read.2 ∙ c.loop-prefix.invariant.2 stays,
    )

pub loop-prefix-smaller-in_default-2 : goal.loop-prefix-smaller-in_default-2
loop-prefix-smaller-in_default-2 g c =
    let s = g.S.Store.contents c.args.storage.now in
    let v = c.args.version.now in
    let r = c.args.recursive in
    let b = c.args.path.now in
    let ps = c.pop.new.self.items in
    let ig = c.loop-prefix.ignored.items in
    let fs = c.loop-prefix.notes.faults.items in
    let at = subst (HasFed g.K.NodeSink.takes s v r b c.args.sink.now c.loop-prefix.sink ig fs) c.in-Some.ensures.items c.loop-prefix.invariant.0 in
    falls_alone s v r b c.in-Some.prefix (g.S.Store.can_fail c.args.storage.now) at.nodes ig fs ps at.nodes ig at.walked c.loop-prefix.pending.items ps c.in-Some.ensures.items refl

pub loop-prefix-smaller : goal.loop-prefix-smaller
loop-prefix-smaller g c =
    let s = g.S.Store.contents c.args.storage.now in
    let v = c.args.version.now in
    let r = c.args.recursive in
    let b = c.args.path.now in
    let ps = c.pop.new.self.items in
    let child = c.in-Some.prefix in
    let can_fail = g.S.Store.can_fail c.args.storage.now in
    let read : c.loop-prefix.pending.items ≡ ps ++ child ∷ [] = c.in-Some.ensures.items in
    let ig = c.loop-prefix.ignored.items in
    let fs = c.loop-prefix.notes.faults.items in
    let at = subst (HasFed g.K.NodeSink.takes s v r b c.args.sink.now c.loop-prefix.sink ig fs) read c.loop-prefix.invariant.0 in
    let xs = at.nodes in
    elim c.if-recursive.branch [
      | then-recursive+then-is_group+in_ok-push_children-2 w ↦
          let p = w.in_ok-push_children-2.ensures.ok in
          falls_deeper s v r b child can_fail xs ig fs ps xs ig at.walked p.children p.discovered c.loop-prefix.pending.items c.if-recursive.pending.items read (ap (λ x. x.items) w.pending-is ∙ p.stacked)
      | else-recursive w ↦ falls_alone s v r b child can_fail xs ig fs ps xs ig at.walked c.loop-prefix.pending.items c.if-recursive.pending.items read (ap (λ x. x.items) w.pending-is)
    ]

pub returns-clause-takes : goal.returns-clause-takes
returns-clause-takes g c =
    fed_forest g.K.NodeSink.takes (g.S.Store.contents c.args.storage.now) c.args.version.now c.args.recursive c.args.path.now c.args.sink.now c.loop-prefix.sink _ _ _ (left_none _ _ _ c.in_default.ensures.items c.in_default.ensures.rest c.in_default.ensures.cases.0) c.loop-prefix.invariant.0

pub returns-clause-ignored : goal.returns-clause-ignored
returns-clause-ignored g c =
    fed_ignored g.K.NodeSink.takes (g.S.Store.contents c.args.storage.now) c.args.version.now c.args.recursive c.args.path.now c.args.sink.now c.loop-prefix.sink _ _ _ (left_none _ _ _ c.in_default.ensures.items c.in_default.ensures.rest c.in_default.ensures.cases.0) c.loop-prefix.invariant.0

pub returns-clause-faults : goal.returns-clause-faults
returns-clause-faults g c =
    fed_faults g.K.NodeSink.takes (g.S.Store.contents c.args.storage.now) c.args.version.now c.args.recursive c.args.path.now c.args.sink.now c.loop-prefix.sink _ _ _ (left_none _ _ _ c.in_default.ensures.items c.in_default.ensures.rest c.in_default.ensures.cases.0) c.loop-prefix.invariant.0
