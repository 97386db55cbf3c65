-- What a word answers over a loaded store it answers over the whole.
use Rattle.std.proofs.Common.{◌≡◌, inl, inr, ⊎_elim, ℕ, Bool, List, Option, Some, None, sym, ◌∙◌}
use Rattle.zarrs_store.specs.Contents.{Contents}
use Rattle.zarrs_path.specs.Paths.{Path, IsPath}
use Rattle.zarrs_meta.specs.declared.node.NodeMetadata.{NodeMetadata}
use Rattle.zarrs_config.specs.declared.version.UseConsolidatedMetadata.{UseConsolidatedMetadata}
use Rattle.zarrs_config.specs.declared.version.UseConsolidatedMetadata.TheVariants.{Auto, Never}
use Rattle.zarrs_config.specs.declared.version.MetadataRetrieveVersion.TheVariants.{Default}
use Rattle.zarrs_meaning.specs.Meaning.{meaning}
use Rattle.zarrs_node.specs.OpeningNodes.{RefusesNode}
use Rattle.zarrs_cli.specs.NodeDocuments.{IsShownDocument}
use Rattle.zarrs_meaning.specs.declared.node_create_error.NodeCreateError.{NodeCreateError}
use Rattle.zarrs_folder.specs.Openings.{OpenSame}
use Rattle.zarrs_cli.specs.declared.report.Tally.{Tally}
use Rattle.zarrs_cli.specs.declared.words.CheckOptions.{CheckOptions}
use Rattle.zarrs_cli.specs.declared.words.Word.{Word}
use Rattle.zarrs_cli.specs.declared.words.Word.TheVariants.{Tree, StoreTree, List as ListAll, Show, Check}
use Rattle.zarrs_cli.specs.Output.{IsReported, IsWordText}
use Rattle.zarrs_cli.specs.StepsOfRuns.{IsCheckable}
use Rattle.zarrs_cli.specs.Refusals.{IsTooDeepFor, RefusesAnswer}
use Rattle.zarrs_cli.specs.NodeLines.{IsShown, tree_line, list_line}
use Rattle.zarrs_cli.proofs.LoadedOpenings.{opened_over, refused_over}
use Rattle.zarrs_cli.proofs.LoadedChecks.{report_from_over}

-- what of two stores has to be the same, for a word to answer the same at b
abbrev pub IsSameFor : Word → Contents → Contents → Path → Type 0
IsSameFor Tree S L b = OpenSame S L Auto b
IsSameFor StoreTree S L b = OpenSame S L Never b
IsSameFor ListAll S L b = OpenSame S L Never b
IsSameFor Show S L b = meaning L Default b ≡ meaning S Default b
IsSameFor (Check options) S L b = IsCheckable S L b

-- what is shown as lines is the same
shown_over : (S L : Contents) (policy : UseConsolidatedMetadata) (b : Path) (line_of : Path × NodeMetadata → List ℕ) (text : List ℕ) → IsPath b → OpenSame S L policy b → IsShown L policy b line_of text → IsShown S policy b line_of text
shown_over S L policy b line_of text valid same (h, opened, is) = (h, opened_over S L policy b same valid h opened, is)

-- so is what is reported
reported_over : (options : CheckOptions) (S L : Contents) (b : Path) (tally : Option Tally) (text : List ℕ) → IsCheckable S L b → IsReported options L b tally text → IsReported options S b tally text
reported_over options S L b None text same h = h
reported_over options S L b (Some tally) text loaded h = report_from_over S L b loaded options tally text h

-- so is the document that is shown
document_over : (S L : Contents) (b : Path) (text : List ℕ) → meaning L Default b ≡ meaning S Default b → IsShownDocument L b text → IsShownDocument S b text
document_over S L b text same (m, bytes, means, written, ends) = (m, bytes, sym same ∙ means, written, ends)

-- and what nests too deep
pub deep_over : (w : Word) (S L : Contents) (b : Path) → IsSameFor w S L b → IsTooDeepFor w L b → IsTooDeepFor w S b
deep_over Tree S L b same h = h
deep_over StoreTree S L b same h = h
deep_over ListAll S L b same h = h
deep_over Show S L b same (m, means, deep) = (m, sym same ∙ means, deep)
deep_over (Check options) S L b same h = h

-- the node that is refused in the one is refused in the other
node_refused_over : (S L : Contents) (b : Path) (e : NodeCreateError) → meaning L Default b ≡ meaning S Default b → RefusesNode L Default b e → RefusesNode S Default b e
node_refused_over S L b e same = ⊎_elim (λ w. inl (sym same ∙ w.0, w.1)) (λ w. inr (sym same ∙ w))

-- what a word writes
pub writes_over : (w : Word) (S L : Contents) (b : Path) (tally : Option Tally) (text : List ℕ) → IsPath b → IsSameFor w S L b → IsWordText w L b tally text → IsWordText w S b tally text
writes_over Tree S L b tally text valid same h = (h.0, shown_over S L Auto b (tree_line b) text valid same h.1)
writes_over StoreTree S L b tally text valid same h = (h.0, shown_over S L Never b (tree_line b) text valid same h.1)
writes_over ListAll S L b tally text valid same h = (h.0, shown_over S L Never b list_line text valid same h.1)
writes_over Show S L b tally text valid same h = (h.0, document_over S L b text same h.1)
writes_over (Check options) S L b tally text valid same h = reported_over options S L b tally text same h

-- and what it refuses
pub refuses_over : (can_fail : Bool) (w : Word) (S L : Contents) (b : Path) (e : NodeCreateError) → IsPath b → IsSameFor w S L b → RefusesAnswer can_fail w L b e → RefusesAnswer can_fail w S b e
refuses_over can_fail Tree S L b e valid same h = ⊎_elim inl (λ r. inr (refused_over S L Auto b same valid e r)) h
refuses_over can_fail StoreTree S L b e valid same h = ⊎_elim inl (λ r. inr (refused_over S L Never b same valid e r)) h
refuses_over can_fail ListAll S L b e valid same h = ⊎_elim inl (λ r. inr (refused_over S L Never b same valid e r)) h
refuses_over can_fail Show S L b e valid same h = ⊎_elim inl (λ r. inr (node_refused_over S L b e same r)) h
refuses_over can_fail (Check options) S L b e valid same h = h
