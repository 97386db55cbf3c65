use Rattle.std.proofs.Common.{rules, refl}
use Rattle.zarrs_block.specs.Zmetadata.{RefusesZmetadata}
use Rattle.zarrs_block.proofs.ZmetadataDocuments.{holds_written, tree_written}
use Rattle.zarrs_block.proofs.ZmetadataWritten.{copy_version_2, copy_refused}
use Rattle.zarrs_block.proofs.consolidated.ConsolidatedMetadata.into_zmetadata.Goals as goal

pub returns-in_err-documents-clause-err : goal.returns-in_err-documents-clause-err
returns-in_err-documents-clause-err c =
    let refused : RefusesZmetadata c.args.self.metadata c.in_err-documents.field-0.0 =
    copy_refused c.args.self.metadata c.args.self.metadata _ c.in_ok-pairs.pairs.items refl c.in_ok-root.ensures.ok
    c.in_ok-pairs.ensures.pairs c.in_ok-pairs.ensures.ordered c.in_ok-pairs.ensures.keys c.in_err-documents.field-0.0 c.in_err-documents.ensures.err in
    search rules

pub returns-clause-version : goal.returns-clause-version
returns-clause-version c =
    copy_version_2 c.args.self.metadata c.args.self.metadata _ c.in_ok-pairs.pairs.items refl c.in_ok-root.ensures.ok
    c.in_ok-pairs.ensures.pairs c.in_ok-pairs.ensures.ordered c.in_ok-pairs.ensures.keys c.in_ok-documents.ensures.version

pub returns-clause-tree : goal.returns-clause-tree
returns-clause-tree c =
    tree_written _ c.args.group c.args.self.metadata c.args.self.metadata _ c.in_ok-pairs.pairs.items _ _ _
    refl c.in_ok-root.ensures.ok refl c.in_ok-pairs.ensures.ordered c.in_ok-pairs.ensures.keys
    c.in_ok-pairs.ensures.pairs c.in_ok-documents.ensures.ok c.in_ok-put_group.ensures c.in_ok-with_format.ensures

pub returns-clause-documents : goal.returns-clause-documents
returns-clause-documents c =
    holds_written _ c.args.group c.args.self.metadata c.args.self.metadata _ c.in_ok-pairs.pairs.items _ _ _
    refl c.in_ok-root.ensures.ok refl c.in_ok-pairs.ensures.ordered c.in_ok-pairs.ensures.keys
    c.in_ok-pairs.ensures.pairs c.in_ok-documents.ensures.ok c.in_ok-put_group.ensures c.in_ok-with_format.ensures
