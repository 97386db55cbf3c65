use Rattle.std.proofs.Common.{refl, subst}
use Rattle.zarrs_program.specs.Words.{texts}
use Rattle.zarrs_cli.specs.Words.{AskFor}
use Rattle.zarrs_cli.proofs.Runs.{help_answered, help_refused, version_answered, version_refused, command_answered, command_refused}
use Rattle.zarrs_cli.proofs.answers.run_words.Goals as goal

pub returns-in-Help-clause-ok : goal.returns-in-Help-clause-ok
returns-in-Help-clause-ok g c = help_answered _ _ _ _ _ _ c.write_alone.result c.in_ok-parse.ensures.ok c.in-Help.is refl c.write_alone.ensures.none c.write_alone.ensures.ok

pub returns-in-Help-clause-refused : goal.returns-in-Help-clause-refused
returns-in-Help-clause-refused g c = help_refused _ _ _ _ c.write_alone.result c.in_ok-parse.ensures.ok c.in-Help.is c.write_alone.ensures.err

pub returns-in-Version-clause-refused : goal.returns-in-Version-clause-refused
returns-in-Version-clause-refused g c = version_refused _ _ _ _ c.write_alone-in-Version.result c.in_ok-parse.ensures.ok c.in-Version.is c.write_alone-in-Version.ensures.err

pub returns-in-Version-clause-ok : goal.returns-in-Version-clause-ok
returns-in-Version-clause-ok g c =
    version_answered _ _ _ _ _ _ c.write_alone-in-Version.result c.in_ok-parse.ensures.ok c.in-Version.is refl c.write_alone-in-Version.ensures.none c.write_alone-in-Version.ensures.ok

pub returns-in-Store-clause-ok : goal.returns-in-Store-clause-ok
returns-in-Store-clause-ok g c =
    command_answered _ c.in-Store.command _ _ _ c.run_command.result (subst (AskFor (texts c.args.words.now)) c.in-Store.is c.in_ok-parse.ensures.ok) c.run_command.ensures.ok

pub returns-in-Store-clause-refused : goal.returns-in-Store-clause-refused
returns-in-Store-clause-refused g c =
    command_refused _ c.in-Store.command _ _ c.run_command.result (subst (AskFor (texts c.args.words.now)) c.in-Store.is c.in_ok-parse.ensures.ok) c.run_command.ensures.refused
