use Rattle.std.proofs.Common.{sym, subst, ap, ap₂, ◌∙◌, Ok, string_bytes, Vec, Global}
use Rattle.serde_json.specs.View.{members_view}
use Rattle.zarrs_block.specs.StepsOfZmetadata.{gathered_at, tree_among, IsPlace}
use Rattle.zarrs_block.specs.declared.zmetadata.Run.{Run}
use Rattle.zarrs_block.proofs.Runs.{among_last}
use Rattle.zarrs_block.proofs.ZmetadataSteps.{IsGathered, passed_over, put_there, all_gathered}
use Rattle.zarrs_block.proofs.zmetadata.runs_of.Goals.{in-Some-2+in_ok-run-in-Some-2, in-None-2}
use Rattle.zarrs_block.proofs.zmetadata.runs_of.Goals as goal

pub loop-key-preserved : goal.loop-key-preserved
loop-key-preserved c =
    let l = c.loop-key in
    let ms = members_view c.args.documents.entries in
    let k = string_bytes c.in-Some.key in
    let got = gathered_at l.runs.items l.run in
    let place : IsPlace k (Ok c.in_ok-path.field-0) = subst (λ t. IsPlace t (Ok c.in_ok-path.field-0)) c.as_str.ensures.value c.in_ok-path.ensures in
    elim c.match-branch-2.branch [
      | in-Some-2+in_ok-run-in-Some-2 w ↦
          let here = subst (λ o. IsPlace k (Ok o)) w.in-Some-2.is place in
          subst (λ now. IsGathered ms now c.next.new.self) (ap₂ (λ (runs : Vec Run Global) (run : Run). gathered_at runs.items run) (sym w.runs-is) (sym w.run-is))
          (put_there ms got l.key-iterator (c.in-Some.key, c.in-Some.document) c.next.new.self c.in-Some.ensures.steps l.invariant (gathered_at w.put_document.new.runs.items w.in_ok-run-in-Some-2.run')
          w.in-Some-2.path.now w.in-Some-2.file here.0 here.1 w.in_ok-run-in-Some-2.ensures)
      | in-None-2 w ↦
          subst (λ now. IsGathered ms now c.next.new.self) (ap₂ (λ (runs : Vec Run Global) (run : Run). gathered_at runs.items run) (sym w.runs-is) (sym w.run-is))
          (passed_over ms got l.key-iterator (c.in-Some.key, c.in-Some.document) c.next.new.self c.in-Some.ensures.steps l.invariant (subst (λ o. IsPlace k (Ok o)) w.in-None-2.is place))
    ]

pub returns-clause-all : goal.returns-clause-all
returns-clause-all c t file =
    let l = c.loop-key in
    ap (λ runs. tree_among runs t file) c.in_ok-push.ensures.items ∙ among_last l.runs.items l.run t file
    ∙ (all_gathered (members_view c.args.documents.entries) (gathered_at l.runs.items l.run) l.key-iterator c.in-None.ensures.steps.0 l.invariant).0 t file
