use Rattle.std.proofs.Common.{◌≡◌, Err, rules, subst}
use Rattle.std.specs.Io.KnownBytes.{Appends}
use Rattle.zarrs_cli.specs.Refusals.{RefusesOverSome, RefusesOverEach}
use Rattle.zarrs_cli.specs.declared.fault.ZarrsFault.TheVariants.{Node}
use Rattle.zarrs_cli.proofs.Runs.{err_given, base_of_some, refused_of_some, refused_of_each, unwritten_of_some, written_of_some}
use Rattle.zarrs_cli.proofs.folder.run_of_folder.Goals as goal

pub returns-in_err-base-clause-refused : goal.returns-in_err-base-clause-refused
returns-in_err-base-clause-refused g c =
    let is : c.from_residual.result ≡ Err (Node c.in_err-base.field-0.0) = search rules in
    err_given (RefusesOverSome c.args.word c.args.path.now) c.from_residual.result (Node c.in_err-base.field-0.0) is (base_of_some c.args.word c.args.path.now c.in_err-base.field-0.0 c.in_err-base.ensures.err)

pub returns-in_err-made-clause-refused : goal.returns-in_err-made-clause-refused
returns-in_err-made-clause-refused g c =
    let is : c.from_residual-in_err-made.result ≡ Err c.in_err-made.field-0.0 = search rules in
    err_given (RefusesOverSome c.args.word c.args.path.now) c.from_residual-in_err-made.result c.in_err-made.field-0.0 is
    (refused_of_some c.args.word c.args.path.now c.in_ok-base.base c.in_ok-base.ensures.ok.0 c.in_ok-base.ensures.ok.1 c.in_err-made.field-0.0 c.in_err-made.ensures.err)

pub returns-in_err-made-clause-whole_refused : goal.returns-in_err-made-clause-whole_refused
returns-in_err-made-clause-whole_refused g c =
    let is : c.from_residual-in_err-made.result ≡ Err c.in_err-made.field-0.0 = search rules in
    err_given (RefusesOverEach c.args.word c.args.path.now (g.F.Folder.agrees c.output_of_folder.new.folder)) c.from_residual-in_err-made.result c.in_err-made.field-0.0 is
    (refused_of_each c.args.word c.args.path.now c.in_ok-base.base c.in_ok-base.ensures.ok.0 c.in_ok-base.ensures.ok.1 (g.F.Folder.agrees c.output_of_folder.new.folder) c.in_err-made.field-0.0
    c.in_err-made.ensures.whole_err)

pub returns-in_err-write_output-clause-refused : goal.returns-in_err-write_output-clause-refused
returns-in_err-write_output-clause-refused g c =
    let is : c.from_residual-in_err-write_output.result ≡ Err c.in_err-write_output.field-0.0 = search rules in
    err_given (RefusesOverSome c.args.word c.args.path.now) c.from_residual-in_err-write_output.result c.in_err-write_output.field-0.0 is
    (unwritten_of_some c.args.word c.args.path.now c.in_ok-base.base c.in_ok-base.ensures.ok.0 c.in_ok-base.ensures.ok.1 c.in_ok-made.made c.in_err-write_output.field-0.0 c.in_ok-made.ensures.ok c.in_err-write_output.ensures.err)

pub returns-clause-ok : goal.returns-clause-ok
returns-clause-ok g c =
    written_of_some c.args.word c.args.path.now c.in_ok-base.base c.in_ok-base.ensures.ok.0 c.in_ok-base.ensures.ok.1 c.in_ok-made.made _ _
    (subst (Appends (g.W.Write.contents c.args.writer.now) (g.W.Write.contents c.write_output.new.writer)) c.as_str.ensures.value c.in_ok-write_output.ensures.ok) c.in_ok-made.ensures.ok
