use Rattle.std.proofs.Common.{◌++◌, ap, ◌∙◌}
use Rattle.zarrs_form.specs.declared.layout.Layout.TheVariants.{Compact}
use Rattle.zarrs_form.specs.Layouts.{text_in}
use Rattle.zarrs_form.proofs.CompactTexts.{compact_is}
use Rattle.zarrs_meta.proofs.written_document.WrittenDocument.to_text.Goals as goal

pub returns : goal.returns
returns g c = λ plain.
    let d = g.Self.WrittenDocument.tree c.args.self.now in
    c.in_ok-write.ensures.ok (c.plain_is_whole.ensures plain) ∙ ap (λ s. s ++ text_in Compact d) c.in_ok-out.ensures.bytes ∙ compact_is d
