use Rattle.std.proofs.Common.{sym, ◌∙◌}
use Rattle.serde_json.specs.View.{view}
use Rattle.zarrs_fault.specs.declared.numbers.Numbers.TheVariants.{Whole}
use Rattle.zarrs_meta.proofs.WrittenDocuments.{found_reads}
use Rattle.zarrs_meta.proofs.node.NodeMetadata.to_document.Goals as goal

pub returns-clause-reads : goal.returns-clause-reads
returns-clause-reads c =
    found_reads (λ bytes. bytes.items) Whole c.in_ok-found.found (view c.in_ok-value.value) c.args.self.now c.in_ok-found.ensures.text c.in_ok-value.ensures
    (sym c.is_plain.ensures ∙ c.if-not-is_plain.false)
