use Rattle.std.proofs.Common.{◌≡◌, ◌∷◌, ◌+◌, drop, refl, ap, sym, subst, ◌∙◌, arith}
use Rattle.std.proofs.lemmas.List.{drop_more, drop_all}
use Rattle.zarrs_check.specs.declared.finding.Finding.{Finding}
use Rattle.zarrs_check.specs.declared.finding.FindingKind.TheVariants.{BadKey}
use Rattle.zarrs_check.proofs.KeysRid.{IsLeft, rid_start, rid_other, rid_key, rid_end}
use Rattle.zarrs_check.proofs.keys.without_bad_keys.Goals.{in-BadKey, in_default}
use Rattle.zarrs_check.proofs.keys.without_bad_keys.Goals as goal

pub loop-finding-init : goal.loop-finding-init
loop-finding-init c = rid_start c.args.found.now c.args.block c.args.found.now refl

pub loop-finding-preserved : goal.loop-finding-preserved
loop-finding-preserved c =
    let xs = c.args.found.now in
    let x = c.finding-item.result in
    let i = c.loop-finding.finding-index in
    let here : drop i xs ≡ x ∷ drop (i + 1) xs = drop_more xs i x (omega arith) ∙ ap (λ (y : Finding). y ∷ drop (i + 1) xs) (sym c.finding-item.is) in
    elim c.match-finding.branch [
      | in-BadKey w ↦ subst (IsLeft xs c.args.block (drop (i + 1) xs)) (sym w.block-is)
          (rid_key xs c.args.block (drop i xs) (drop (i + 1) xs) x here c.loop-finding.block c.loop-finding.invariant w.as_str.result.now w.remove.new.self (w.in-BadKey.is ∙ ap (λ k. BadKey k) (sym w.as_str.ensures)) w.remove.ensures.gone w.remove.ensures.others)
      | in_default w ↦ subst (IsLeft xs c.args.block (drop (i + 1) xs)) (sym w.block-is)
          (rid_other xs c.args.block (drop i xs) (drop (i + 1) xs) x here c.loop-finding.block c.loop-finding.invariant w.in_default.not-BadKey)
    ]

pub returns : goal.returns
returns c = rid_end c.args.found.now c.args.block _ c.loop-finding.block (drop_all c.loop-finding.finding-index c.args.found.now (omega arith)) c.loop-finding.invariant
