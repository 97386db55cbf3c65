use Rattle.std.proofs.Common.{◌∙◌, sym, bytes_eq}
use Rattle.zarrs_form.proofs.MemberLists.{list_any-map}
use Rattle.zarrs_form.proofs.members.is_one_of.Goals as goal

pub returns : goal.returns
returns c = c.contains.ensures.value ∙ sym (list_any-map (λ n. bytes_eq n c.args.name.now) (λ n. n.now) c.args.names.now)
