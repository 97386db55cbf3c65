use Rattle.std.proofs.Common.{rules, ◌≡◌, ◌<◌, ◌+◌, ◌++◌, true, false, Some, None, length, drop, slice_range, refl, sym, ◌∙◌, ap, subst, append-nil, arith}
use Rattle.std.specs.Prelude.{All}
use Rattle.std.specs.Map.{keys_of}
use Rattle.zarrs_store.specs.Entries.{is_below}
use Rattle.zarrs_store.specs.StepsOfStores.{child_name, child_prefixes}
use Rattle.zarrs_store.proofs.Ranges.{is_before, left_at}
use Rattle.zarrs_store.proofs.Runs.{child_from, no_child_step, run_child, range_ends, range_begins, first_children, last_children}
use Rattle.zarrs_store.proofs.listing.children_below.Goals as goal

pub loop-at-init : goal.loop-at-init
loop-at-init c =
    let es = c.args.entries.now in
    let p = c.args.prefix.now in
    let range = c.requires.range in
    record {
      behind_first = omega arith;
      inside = range_begins es p c.args.first c.args.end range;
      prefixes = ap (λ xs. xs ++ child_prefixes p (keys_of (drop c.args.first es))) c.new-prefixes.ensures.items ∙ first_children es p c.args.first c.args.end range;
    }

-- a key directly below the prefix
pub loop-at-preserved-in_default : goal.loop-at-preserved-in_default
loop-at-preserved-in_default c =
    let es = c.args.entries.now in
    let p = c.args.prefix.now in
    let i = c.loop-at.at in
    let x = c.index-entries-at.result in
    let h = c.loop-at.invariant in
    let inside : i < length es = omega (arith, c.loop-at-test.true, range_ends es p c.args.first c.args.end c.requires.range) in
    let none : child_name p x.0 ≡ None = search rules in
    record {
      behind_first = omega (arith, h.behind_first);
      inside = omega (arith, inside);
      prefixes = no_child_step p x.0 x.1 _ _ (left_at i es x inside c.index-entries-at.is) none _ _ h.prefixes;
    }

pub end_near-at-requires-clause-from : goal.end_near-at-requires-clause-from
end_near-at-requires-clause-from c =
    let es = c.args.entries.now in
    let p = c.args.prefix.now in
    let i = c.loop-at.at in
    let x = c.index-entries-at.result in
    let inside : i < length es = omega (arith, c.loop-at-test.true, range_ends es p c.args.first c.args.end c.requires.range) in
    let name : child_name p x.0 ≡ Some c.in-Some.name.now = sym c.in-Some.ensures.name in
    subst (λ q. All (λ e. is_before q e.0 ≡ false) (drop (i + 1) es)) (sym c.in_ok-child.ensures)
    (child_from es c.requires.ascending p c.in-Some.name.now i (i + 1) x c.index-entries-at.is inside refl name)

-- the keys of a child
pub loop-at-preserved : goal.loop-at-preserved
loop-at-preserved c =
    let es = c.args.entries.now in
    let p = c.args.prefix.now in
    let i = c.loop-at.at in
    let n = c.in-Some.name.now in
    let end = c.end_near-at.result.0 in
    let x = c.index-entries-at.result in
    let h = c.loop-at.invariant in
    let found = c.end_near-at.ensures in
    let inside : i < length es = omega (arith, c.loop-at-test.true, range_ends es p c.args.first c.args.end c.requires.range) in
    let name : child_name p x.0 ≡ Some n = sym c.in-Some.ensures.name in
    let run = subst (λ q. All (λ e. is_below q e.0 ≡ true) (slice_range es (i + 1) end)) c.in_ok-child.ensures found.within in
    let rest = subst (λ q. All (λ e. is_below q e.0 ≡ false) (drop end es)) c.in_ok-child.ensures found.behind in
    record {
      behind_first = omega (arith, h.behind_first, found.ordered);
      inside = found.inside;
      prefixes = run_child es p n i (i + 1) end found.ordered run rest x (left_at i es x inside c.index-entries-at.is) name c.in_ok-child.child _ _ _ c.in_ok-push.ensures.items c.in_ok-child.ensures h.prefixes;
    }

pub returns : goal.returns
returns c =
    sym (append-nil c.loop-at.prefixes.items)
    ∙ ap (λ r. c.loop-at.prefixes.items ++ r) (sym (last_children c.args.entries.now c.args.prefix.now c.args.first c.args.end c.requires.range c.loop-at.at c.loop-at-test.false))
    ∙ c.loop-at.invariant.prefixes
