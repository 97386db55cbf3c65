use Rattle.std.proofs.Common.{rules, ◌≡◌, ◌<◌, ◌≤◌, ◌+◌, ◌-◌, ◌*◌, ◌++◌, true, false, Some, None, length, drop, slice_range, refl, sym, ◌∙◌, ap, subst, append-nil, arith}
use Rattle.std.specs.Prelude.{All, filter, max}
use Rattle.std.specs.Map.{keys_of}
use Rattle.std.proofs.lemmas.List.{length_push}
use Rattle.zarrs_store.specs.Entries.{is_below}
use Rattle.zarrs_store.specs.StepsOfStores.{is_child_key, child_name, child_prefixes}
use Rattle.zarrs_store.specs.Places.{digits}
use Rattle.zarrs_store.proofs.Ranges.{is_before, left_at, no_child_key, kept_step, child_key_from}
use Rattle.zarrs_store.proofs.Runs.{child_from, no_child_step, run_keys, run_child, run_inside, range_ends, below_there, first_keys, first_children, last_keys, last_children, many_step, few_step}
use Rattle.zarrs_store.proofs.listing.directly_below.Goals as goal

pub loop-at-init : goal.loop-at-init
loop-at-init c =
    let es = c.args.entries.now in
    let p = c.args.prefix.now in
    let range = c.requires.range in
    record {
      behind_first = omega arith;
      inside = range.ordered;
      keys = ap (λ xs. xs ++ filter (is_child_key p) (keys_of (drop c.args.first es))) c.new-keys.ensures.items ∙ first_keys es p c.args.first c.args.end range (is_child_key p) (no_child_key p);
      prefixes = ap (λ xs. xs ++ child_prefixes p (keys_of (drop c.args.first es))) c.new-prefixes.ensures.items ∙ first_children es p c.args.first c.args.end range;
      bounded = omega arith;
      few = omega arith;
    }

-- a key directly below the prefix
pub loop-at-preserved-in_default : goal.loop-at-preserved-in_default
loop-at-preserved-in_default c =
    let es = c.args.entries.now in
    let p = c.args.prefix.now in
    let i = c.loop-at.at in
    let x = c.index-entries-at.result in
    let h = c.loop-at.invariant in
    let range = c.requires.range in
    let inside : i < length es = omega (arith, c.loop-at-test.true, range_ends es p c.args.first c.args.end range) in
    let left = left_at i es x inside c.index-entries-at.is in
    let below = below_there es p c.args.first c.args.end range i x h.behind_first c.loop-at-test.true c.index-entries-at.is in
    let none : child_name p x.0 ≡ None = search rules in
    let same : c.in_ok-try_clone.field-0 ≡ x.0 = search rules in
    let next : length c.push.new.self.items ≡ length c.loop-at.keys.items + 1 = ap length c.in_ok-push.ensures.items ∙ length_push c.loop-at.keys.items c.in_ok-try_clone.field-0 in
    record {
      behind_first = omega (arith, h.behind_first);
      inside = omega (arith, c.loop-at-test.true);
      keys = kept_step x.0 x.1 _ _ left (is_child_key p) c.in_ok-try_clone.field-0 _ _ _ (child_key_from p x.0 none below) c.in_ok-push.ensures.items same h.keys;
      prefixes = no_child_step p x.0 x.1 _ _ left none _ _ h.prefixes;
      bounded = omega (arith, h.bounded, next);
      few = omega (arith, h.few);
    }

pub end_near-behind-requires-clause-from : goal.end_near-behind-requires-clause-from
end_near-behind-requires-clause-from c =
    let es = c.args.entries.now in
    let p = c.args.prefix.now in
    let i = c.loop-at.at in
    let x = c.index-entries-at.result in
    let inside : i < length es = omega (arith, c.loop-at-test.true, range_ends es p c.args.first c.args.end c.requires.range) in
    let name : child_name p x.0 ≡ Some c.in-Some.name.now = sym c.in-Some.ensures.name in
    subst (λ q. All (λ e. is_before q e.0 ≡ false) (drop (i + 1) es)) (sym c.in_ok-child.ensures)
    (child_from es c.requires.ascending p c.in-Some.name.now i (i + 1) x c.index-entries-at.is inside refl name)

-- the keys of a child
pub loop-at-preserved : goal.loop-at-preserved
loop-at-preserved c =
    let es = c.args.entries.now in
    let p = c.args.prefix.now in
    let i = c.loop-at.at in
    let n = c.in-Some.name.now in
    let end = c.end_near-behind.result.0 in
    let x = c.index-entries-at.result in
    let h = c.loop-at.invariant in
    let found = c.end_near-behind.ensures in
    let inside : i < length es = omega (arith, c.loop-at-test.true, range_ends es p c.args.first c.args.end c.requires.range) in
    let left = left_at i es x inside c.index-entries-at.is in
    let name : child_name p x.0 ≡ Some n = sym c.in-Some.ensures.name in
    let run = subst (λ q. All (λ e. is_below q e.0 ≡ true) (slice_range es (i + 1) end)) c.in_ok-child.ensures found.within in
    let rest = subst (λ q. All (λ e. is_below q e.0 ≡ false) (drop end es)) c.in_ok-child.ensures found.behind in
    let ends = run_inside es p c.args.first c.args.end c.requires.range n x (i + 1) end (omega (arith, h.behind_first)) (omega (arith, c.loop-at-test.true)) found.inside run in
    let compared : c.from.result ≤ max 1 (2 * digits (end - (i + 1))) = omega (arith, c.from.ensures, found.comparisons) in
    let pushed = c.in_ok-push-2.ensures.items in
    let next : length c.push-in-loop-at.new.self.items ≡ length c.loop-at.prefixes.items + 1 = ap length pushed ∙ length_push c.loop-at.prefixes.items c.in_ok-child.child in
    record {
      behind_first = omega (arith, h.behind_first, found.ordered);
      inside = ends;
      keys = run_keys es p n i (i + 1) end found.ordered run rest x left name _ _ h.keys;
      prefixes = run_child es p n i (i + 1) end found.ordered run rest x left name c.in_ok-child.child _ _ _ pushed c.in_ok-child.ensures h.prefixes;
      bounded = many_step _ _ _ _ _ (end - (i + 1)) (c.args.end - c.args.first) h.bounded compared (omega (arith, ends, h.behind_first, c.loop-at-test.true)) next;
      few = few_step _ _ i end h.few compared found.ordered;
    }

pub returns-clause-keys : goal.returns-clause-keys
returns-clause-keys c =
    let p = c.args.prefix.now in
    sym (append-nil c.loop-at.keys.items)
    ∙ ap (λ r. c.loop-at.keys.items ++ r) (sym (last_keys c.args.entries.now p c.args.first c.args.end c.requires.range c.loop-at.at c.loop-at-test.false (is_child_key p) (no_child_key p)))
    ∙ c.loop-at.invariant.keys

pub returns-clause-prefixes : goal.returns-clause-prefixes
returns-clause-prefixes c =
    sym (append-nil c.loop-at.prefixes.items)
    ∙ ap (λ r. c.loop-at.prefixes.items ++ r) (sym (last_children c.args.entries.now c.args.prefix.now c.args.first c.args.end c.requires.range c.loop-at.at c.loop-at-test.false))
    ∙ c.loop-at.invariant.prefixes
