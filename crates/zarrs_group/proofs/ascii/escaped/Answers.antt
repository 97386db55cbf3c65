use Rattle.std.proofs.Common.{flat_map, sym, ap, ◌∙◌, map-id}
use Rattle.std.proofs.lemmas.Iterator.{YieldsList-from_chars}
use Rattle.std.proofs.lemmas.Iterator.Consumers.{YieldsList-end}
use Rattle.zarrs_group.specs.AsciiTexts.{ascii_char}
use Rattle.zarrs_group.proofs.ascii.escaped.Goals as goal

-- the loop has gone through all characters
pub returns : goal.returns
returns c =
    let loop = c.loop-letter in
    let characters = YieldsList-from_chars c.args.text.now c.utf8.text cc in
    let end = YieldsList-end characters loop.yielded _ loop.yielded_by _ _ c.in-None.is c.next.ensures.steps in
    loop.invariant ∙ ap (flat_map ascii_char) (sym (map-id loop.yielded) ∙ end.0)
