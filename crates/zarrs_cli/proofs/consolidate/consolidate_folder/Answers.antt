use Rattle.std.proofs.Common.{◌≡◌, Err, rules, subst}
use Rattle.std.specs.Io.KnownBytes.{Appends}
use Rattle.zarrs_cli.specs.ConsolidationRefusals.{RefusesConsolidationOfEach, RefusesConsolidationOfSome}
use Rattle.zarrs_cli.specs.declared.fault.ZarrsFault.TheVariants.{Node, Replace}
use Rattle.zarrs_cli.proofs.Consolidations.{path_of_some, path_of_each, plan_of_some, plan_of_each, broken_of_some, broken_of_each, unwritten_of_some, unwritten_of_each, done_of_some, done_of_each}
use Rattle.zarrs_cli.proofs.Runs.{err_given}
use Rattle.zarrs_cli.proofs.consolidate.consolidate_folder.Goals as goal

pub returns-in_err-base-clause-refused : goal.returns-in_err-base-clause-refused
returns-in_err-base-clause-refused g c =
    let is : c.from_residual.result ≡ Err (Node c.in_err-base.field-0.0) = search rules in
    err_given (RefusesConsolidationOfSome c.args.request.options c.args.request.path.now (g.P.Place.calls c.args.place.now) (g.P.Place.calls c.args.place.now)) c.from_residual.result (Node c.in_err-base.field-0.0) is
    (path_of_some c.args.request.options c.args.request.path.now (g.P.Place.calls c.args.place.now) c.in_err-base.field-0.0 c.in_err-base.ensures.err)

pub returns-in_err-base-clause-whole_refused : goal.returns-in_err-base-clause-whole_refused
returns-in_err-base-clause-whole_refused g c =
    let is : c.from_residual.result ≡ Err (Node c.in_err-base.field-0.0) = search rules in
    err_given (RefusesConsolidationOfEach c.args.request.options c.args.request.path.now (g.F.Folder.agrees c.args.folder.now) (g.P.Place.calls c.args.place.now) (g.P.Place.calls c.args.place.now)) c.from_residual.result (Node c.in_err-base.field-0.0) is
    (path_of_each c.args.request.options c.args.request.path.now (g.F.Folder.agrees c.args.folder.now) (g.P.Place.calls c.args.place.now) c.in_err-base.field-0.0 c.in_err-base.ensures.err)

pub returns-in_err-made-clause-refused : goal.returns-in_err-made-clause-refused
returns-in_err-made-clause-refused g c =
    let is : c.from_residual-in_err-made.result ≡ Err c.in_err-made.field-0.0 = search rules in
    err_given (RefusesConsolidationOfSome c.args.request.options c.args.request.path.now (g.P.Place.calls c.args.place.now) (g.P.Place.calls c.args.place.now)) c.from_residual-in_err-made.result c.in_err-made.field-0.0 is
    (plan_of_some c.args.request.options c.args.request.path.now c.in_ok-base.base c.in_ok-base.ensures.ok.0 c.in_ok-base.ensures.ok.1 (g.P.Place.calls c.args.place.now) c.in_err-made.field-0.0 c.in_err-made.ensures.err)

pub returns-in_err-made-clause-whole_refused : goal.returns-in_err-made-clause-whole_refused
returns-in_err-made-clause-whole_refused g c =
    let is : c.from_residual-in_err-made.result ≡ Err c.in_err-made.field-0.0 = search rules in
    err_given (RefusesConsolidationOfEach c.args.request.options c.args.request.path.now (g.F.Folder.agrees c.planned.new.folder) (g.P.Place.calls c.args.place.now) (g.P.Place.calls c.args.place.now)) c.from_residual-in_err-made.result c.in_err-made.field-0.0 is
    (plan_of_each c.args.request.options c.args.request.path.now c.in_ok-base.base c.in_ok-base.ensures.ok.0 c.in_ok-base.ensures.ok.1 (g.F.Folder.agrees c.planned.new.folder) (g.P.Place.calls c.args.place.now) c.in_err-made.field-0.0 c.in_err-made.ensures.whole_err)

pub returns-in_err-end-clause-refused : goal.returns-in_err-end-clause-refused
returns-in_err-end-clause-refused g c =
    let is : c.from_residual-in_err-end.result ≡ Err (Replace c.in_err-end.field-0.0) = search rules in
    err_given (RefusesConsolidationOfSome c.args.request.options c.args.request.path.now (g.P.Place.calls c.args.place.now) (g.P.Place.calls c.carry_out.new.place)) c.from_residual-in_err-end.result (Replace c.in_err-end.field-0.0) is
    (broken_of_some c.args.request.options c.args.request.path.now c.in_ok-base.base c.in_ok-base.ensures.ok.0 c.in_ok-base.ensures.ok.1 c.in_ok-made.made (g.P.Place.calls c.args.place.now) (g.P.Place.calls c.carry_out.new.place) c.in_err-end.field-0.0 c.in_err-end.ensures.change c.in_err-end.ensures.err c.in_ok-made.ensures.ok)

pub returns-in_err-end-clause-whole_refused : goal.returns-in_err-end-clause-whole_refused
returns-in_err-end-clause-whole_refused g c =
    let is : c.from_residual-in_err-end.result ≡ Err (Replace c.in_err-end.field-0.0) = search rules in
    err_given (RefusesConsolidationOfEach c.args.request.options c.args.request.path.now (g.F.Folder.agrees c.planned.new.folder) (g.P.Place.calls c.args.place.now) (g.P.Place.calls c.carry_out.new.place)) c.from_residual-in_err-end.result (Replace c.in_err-end.field-0.0) is
    (broken_of_each c.args.request.options c.args.request.path.now c.in_ok-base.base c.in_ok-base.ensures.ok.0 c.in_ok-base.ensures.ok.1 c.in_ok-made.made (g.P.Place.calls c.args.place.now) (g.P.Place.calls c.carry_out.new.place) (g.F.Folder.agrees c.planned.new.folder) c.in_err-end.field-0.0 c.in_err-end.ensures.change c.in_err-end.ensures.err c.in_ok-made.ensures.whole)

pub returns-in_err-write_output-clause-refused : goal.returns-in_err-write_output-clause-refused
returns-in_err-write_output-clause-refused g c =
    let is : c.from_residual-in_err-write_output.result ≡ Err c.in_err-write_output.field-0.0 = search rules in
    err_given (RefusesConsolidationOfSome c.args.request.options c.args.request.path.now (g.P.Place.calls c.args.place.now) (g.P.Place.calls c.carry_out.new.place)) c.from_residual-in_err-write_output.result c.in_err-write_output.field-0.0 is
    (unwritten_of_some c.args.request.options c.args.request.path.now c.in_ok-base.base c.in_ok-base.ensures.ok.0 c.in_ok-base.ensures.ok.1 c.in_ok-made.made (g.P.Place.calls c.args.place.now) (g.P.Place.calls c.carry_out.new.place) c.in_err-write_output.field-0.0 c.in_err-write_output.ensures.err c.in_ok-end.ensures.asks c.in_ok-made.ensures.ok)

pub returns-in_err-write_output-clause-whole_refused : goal.returns-in_err-write_output-clause-whole_refused
returns-in_err-write_output-clause-whole_refused g c =
    let is : c.from_residual-in_err-write_output.result ≡ Err c.in_err-write_output.field-0.0 = search rules in
    err_given (RefusesConsolidationOfEach c.args.request.options c.args.request.path.now (g.F.Folder.agrees c.planned.new.folder) (g.P.Place.calls c.args.place.now) (g.P.Place.calls c.carry_out.new.place)) c.from_residual-in_err-write_output.result c.in_err-write_output.field-0.0 is
    (unwritten_of_each c.args.request.options c.args.request.path.now c.in_ok-base.base c.in_ok-base.ensures.ok.0 c.in_ok-base.ensures.ok.1 c.in_ok-made.made (g.P.Place.calls c.args.place.now) (g.P.Place.calls c.carry_out.new.place) (g.F.Folder.agrees c.planned.new.folder) c.in_err-write_output.field-0.0 c.in_err-write_output.ensures.err c.in_ok-end.ensures.asks c.in_ok-made.ensures.whole)

pub returns-clause-ok : goal.returns-clause-ok
returns-clause-ok g c =
    done_of_some c.args.request.options c.args.request.path.now c.in_ok-base.base c.in_ok-base.ensures.ok.0 c.in_ok-base.ensures.ok.1 c.in_ok-made.made (g.P.Place.calls c.args.place.now) (g.P.Place.calls c.carry_out.new.place) (g.W.Write.contents c.args.writer.now) (g.W.Write.contents c.write_output.new.writer) c.in_ok-end.end c.in_ok-end.ensures.asks c.in_ok-end.ensures.ends
    (subst (Appends (g.W.Write.contents c.args.writer.now) (g.W.Write.contents c.write_output.new.writer)) c.as_str.ensures.value c.in_ok-write_output.ensures.ok) c.in_ok-made.ensures.ok

pub returns-clause-whole : goal.returns-clause-whole
returns-clause-whole g c =
    done_of_each c.args.request.options c.args.request.path.now c.in_ok-base.base c.in_ok-base.ensures.ok.0 c.in_ok-base.ensures.ok.1 c.in_ok-made.made (g.P.Place.calls c.args.place.now) (g.P.Place.calls c.carry_out.new.place) (g.W.Write.contents c.args.writer.now) (g.W.Write.contents c.write_output.new.writer) c.in_ok-end.end c.in_ok-end.ensures.asks c.in_ok-end.ensures.ends
    (subst (Appends (g.W.Write.contents c.args.writer.now) (g.W.Write.contents c.write_output.new.writer)) c.as_str.ensures.value c.in_ok-write_output.ensures.ok) (g.F.Folder.agrees c.planned.new.folder) c.in_ok-made.ensures.whole
