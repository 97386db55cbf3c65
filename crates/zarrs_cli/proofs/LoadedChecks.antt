-- What a check tells of a loaded store, an array too.
use Rattle.std.proofs.Common.{◌≡◌, inl, inr, ⊎_elim, ℕ, List, sym, ◌∙◌}
use Rattle.zarrs_store.specs.Contents.{Contents}
use Rattle.zarrs_path.specs.Paths.{Path}
use Rattle.zarrs_config.specs.declared.version.MetadataRetrieveVersion.TheVariants.{Default}
use Rattle.zarrs_meaning.specs.Meaning.{meaning}
use Rattle.zarrs_folder.specs.PrunedStores.{IsArrayAt}
use Rattle.zarrs_folder.proofs.PrunedListings.{base_shows_same}
use Rattle.zarrs_cli.specs.declared.report.Tally.{Tally}
use Rattle.zarrs_cli.specs.declared.words.CheckOptions.{CheckOptions}
use Rattle.zarrs_cli.specs.StepsOfRuns.{IsCheckable}
use Rattle.zarrs_cli.specs.Report.{IsArrayRemark, IsArrayReport, IsReportFrom}
use Rattle.zarrs_cli.proofs.LoadedAbove.{above_remarks_same}
use Rattle.zarrs_cli.proofs.LoadedReports.{either_same, loaded_report, array_remarks_same, same_reported}

-- a path that means the same means an array in both
array_same : (S L : Contents) (b : Path) → meaning L Default b ≡ meaning S Default b → IsArrayAt S b → IsArrayAt L b
array_same S L b same (m, is, kind) = (m, same ∙ is, kind)

module _ (S L : Contents) (b : Path) (h : IsCheckable S L b) (options : CheckOptions) (tally : Tally) (text : List ℕ) where
  -- the report on an array that is loaded is that on the array
  array_report_over : IsArrayReport L b options tally text → IsArrayReport S b options tally text
  array_report_over (m, is, r) = (
    m,
    (sym ((base_shows_same S L b h.loaded.base).0 Default) ∙ is.0, is.1),
    same_reported (IsArrayRemark L b m) (IsArrayRemark S b m) (λ x. either_same (array_remarks_same S L b m is.1 h.loaded.base.documents x) (above_remarks_same S L b h.loaded h.above h.settled x)) options 1 tally text r,
  )

  -- the report on a loaded store is that on the whole
  pub report_from_over : IsReportFrom L b options tally text → IsReportFrom S b options tally text
  report_from_over = ⊎_elim
      (λ w. inl (array_report_over w))
      (λ w.
      let none : IsArrayAt S b → ⊥ = λ array. w.0 (array_same S L b ((base_shows_same S L b h.loaded.base).0 Default) array) in
      let settled = h.from none in
      inr (none, loaded_report S L b h.loaded settled.0 settled.1 none (above_remarks_same S L b h.loaded h.above h.settled) options tally text w.1))
