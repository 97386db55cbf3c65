use Rattle.std.proofs.Common.{◌<◌, ◌^◌, ◌++◌, false, length, not, string_bytes, ap, ◌∙◌, arith}
use Rattle.zarrs_form.specs.declared.layout.Layout.TheVariants.{Pretty}
use Rattle.zarrs_form.specs.Layouts.{close_line}
use Rattle.zarrs_form.specs.StepsOfTexts.{entries_text}
use Rattle.zarrs_block.specs.Block.{documents}
use Rattle.zarrs_block.proofs.PrettyBlock.{head, tail, block_written, documents_whole}
use Rattle.zarrs_block.proofs.consolidated.ConsolidatedMetadata.to_pretty_text.Goals as goal

pub returns : goal.returns
returns c = record {
  layout = λ whole.
      let B = c.args.self.now.metadata in
      let text = string_bytes c.push_str-2.new.self in
      let fits : length text < 2 ^ 64 = omega arith in
      let begun = c.in_ok-push_str.ensures.bytes ∙ ap (λ s. s ++ head) c.new-out.ensures.bytes in
      let nodes = c.in_ok-write_nodes.ensures.ok (documents_whole B whole) ∙ ap (λ s. s ++ entries_text false (documents B)) begun in
      let closed = c.in_ok-write_close.ensures.ok ∙ ap (λ s. s ++ close_line (not c.is_empty.result) (Pretty 1)) nodes in
      let room = c.in_ok-reserve.ensures.bytes ∙ closed in
      let end = c.in_ok-push_str-2.ensures.bytes ∙ ap (λ s. s ++ tail) room in
      block_written B text fits (end ∙ ap (λ b. ((head ++ entries_text false (documents B)) ++ close_line (not b) (Pretty 1)) ++ tail) c.is_empty.ensures);
}
