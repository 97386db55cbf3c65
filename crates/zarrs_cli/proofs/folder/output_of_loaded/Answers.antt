use Rattle.std.proofs.Common.{Some, sym, subst, string_bytes}
use Rattle.zarrs_cli.specs.Output.{IsWordText}
use Rattle.zarrs_cli.specs.StepsOfRuns.{loaded_store}
use Rattle.zarrs_cli.proofs.folder.output_of_loaded.Goals as goal

pub returns-in_ok-made-in-Check-Some-clause-ok : goal.returns-in_ok-made-in-Check-Some-clause-ok
returns-in_ok-made-in-Check-Some-clause-ok g c =
    let made = c.in_ok-made-in-Check-Some.made in
    subst (λ w. IsWordText w (loaded_store c.args.loaded.now) c.args.base.now (Some made.0) (string_bytes made.1)) (sym c.in-Check-Some.is-0)
    (c.in_ok-made-in-Check-Some.ensures (loaded_store c.args.loaded.now) (c.requires.checked c.in-Check-Some.checked c.in-Check-Some.is-1))
