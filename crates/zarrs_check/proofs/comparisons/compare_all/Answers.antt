use Rattle.std.proofs.Common.{◌<◌, ◌+◌, get_or, length, refl, sym, subst, ◌∙◌, arith, true≢false}
use Rattle.std.proofs.lemmas.List.{get_or_default}
use Rattle.zarrs_check.specs.StepsOfComparisons.{IsNextBelow}
use Rattle.zarrs_check.proofs.Places.{IsPartly, partly_none, partly_more, partly_past, partly_all}
use Rattle.zarrs_check.proofs.comparisons.compare_all.Goals.{in-Some+in_ok-take_below, in_default}
use Rattle.zarrs_check.proofs.comparisons.compare_all.Goals as goal

pub loop-place-init : goal.loop-place-init
loop-place-init c = λ up. partly_none _ _ _

pub loop-place-preserved : goal.loop-place-preserved
loop-place-preserved c = elim c.match-get_mut.branch [
  | in-Some+in_ok-take_below w ↦
      let js = c.args.places.now in
      let i = c.loop-place.place-index in
      let now = c.loop-place.blocks in
      let within : get_or js i 0 < length now.items = let lt = w.in-Some.ensures.variant.0 refl in let size = now.ok.0 in omega (arith, lt, size) in
      λ up. subst (λ bs. IsPartly js (i + 1) (c.args.path.now, c.args.metadata.now) c.args.blocks.now.items bs.items) (sym w.blocks-is)
      (partly_more js up i (c.args.path.now, c.args.metadata.now) c.args.blocks.now.items now.items c.loop-place-test.true (c.loop-place.invariant up) w.take_below.new.self within
      (λ d. subst (λ x. IsNextBelow x (c.args.path.now, c.args.metadata.now) w.take_below.new.self) (w.in-Some.ensures.value ∙ get_or_default now.items (get_or js i 0) w.in-Some.block.now d within) w.in_ok-take_below.ensures))
  | in_default w ↦
      let js = c.args.places.now in
      let i = c.loop-place.place-index in
      let now = c.loop-place.blocks in
      let past : get_or js i 0 < length now.items → ⊥ = λ lt. let size = now.ok.0 in true≢false (sym (w.in_default.ensures.variant.1 (omega (arith, lt, size)))) in
      λ up. subst (λ bs. IsPartly js (i + 1) (c.args.path.now, c.args.metadata.now) c.args.blocks.now.items bs.items) (sym w.blocks-is) (partly_past js up i (c.args.path.now, c.args.metadata.now) c.args.blocks.now.items now.items c.loop-place-test.true (c.loop-place.invariant up) past)
]

pub returns : goal.returns
returns c = λ up. partly_all _ c.loop-place.place-index _ _ _ c.loop-place-test.false c.loop-place.auto.place-index-end (c.loop-place.invariant up)
