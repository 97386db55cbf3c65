use Rattle.std.proofs.Common.{true, rules, arith}
use Rattle.std.proofs.lemmas.Grind.{common_steps}
use Rattle.zarrs_group.specs.Children.{block_choice}
use Rattle.zarrs_group.proofs.Together.{clean_listed}
use Rattle.zarrs_group.proofs.group.Group.traverse.Goals as goal

pub returns-in-None-clause-clean : goal.returns-in-None-clause-clean
returns-in-None-clause-clean g c =
    clean_listed (g.S.Store.contents c.args.storage.now) (block_choice (g.S.Store.contents c.args.storage.now).numbers c.args.self.now c.args.config.now) c.args.self.now.path true c.get_all_nodes_of.result _ _ c.get_all_nodes_of.ensures.clean
    (first_of (search rules, cc, grind (arith, common_steps))) (first_of (search rules, cc, grind (arith, common_steps))) (first_of (search rules, cc, grind (arith, common_steps)))
