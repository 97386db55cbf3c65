use Rattle.std.proofs.Common.{rules, sym, subst}
use Rattle.std.proofs.lemmas.Fn.{filter_same}
use Rattle.zarrs_store.specs.Contents.{Lists, IsKeyBelow}
use Rattle.zarrs_store.specs.Entries.{is_below}
use Rattle.zarrs_examples.proofs.KeyLists.{Lists-with_prefix}
use Rattle.zarrs_examples.proofs.key_list.keys_with_prefix.Goals as goal

pub returns : goal.returns
returns c = λ S all.
    let p = c.args.prefix.now in
    subst (Lists (IsKeyBelow S p))
    (sym (filter_same _ (is_below p) _ (λ x b f' k. search rules) _ _ c.retain.ensures.filtered))
    (Lists-with_prefix S p c.args.keys.items all)
