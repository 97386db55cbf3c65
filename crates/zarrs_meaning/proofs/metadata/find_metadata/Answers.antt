use Rattle.std.proofs.Common.{ap, ◌∙◌, inl, inr, ⊎_elim}
use Rattle.std.proofs.lemmas.Result.{err_from_is_err_and}
use Rattle.zarrs_meaning.specs.DocumentsAtKeys.{in_bytes}
use Rattle.zarrs_meaning.specs.Meaning.{meaning, zarr_json_line, zarray_line, zgroup_line}
use Rattle.zarrs_meaning.proofs.Meanings.{default_is, v3_is, v2_is, follows_some, follows_none, finds_by}
use Rattle.zarrs_meaning.proofs.metadata.find_metadata.Goals as goal

pub returns-in_err-metadata-in-Default : goal.returns-in_err-metadata-in-Default
returns-in_err-metadata-in-Default g c =
    let s = g.S.Store.contents c.args.storage.now in
    let is = ap (λ v. meaning s v c.args.prefix.now) c.in-Default.is ∙ default_is s c.args.prefix.now in
    let p = err_from_is_err_and c.from_residual.result c.from_residual.ensures.1 in
    record { found = rw (p.1, p.2) (⊎_elim inl (λ all. inr (is ∙ all _)) c.in_err-metadata-in-Default.ensures) }

pub returns-in-Some : goal.returns-in-Some
returns-in-Some g c =
    let s = g.S.Store.contents c.args.storage.now in
    record {
      found = ap (λ v. meaning s v c.args.prefix.now) c.in-Default.is ∙ default_is s c.args.prefix.now
          ∙ follows_some (g.S.Store.can_fail c.args.storage.now) (zarr_json_line (in_bytes s.numbers) s.values c.args.prefix.now) _ _ c.in-Some.is c.in_ok-metadata-in-Default.ensures _;
    }

pub returns-in-None : goal.returns-in-None
returns-in-None g c =
    let s = g.S.Store.contents c.args.storage.now in
    record {
      found = finds_by _ c.find_v2.result (λ after. zarray_line (in_bytes s.numbers) s.values c.args.prefix.now (zgroup_line (in_bytes s.numbers) s.values c.args.prefix.now after)) _
          (ap (λ v. meaning s v c.args.prefix.now) c.in-Default.is ∙ default_is s c.args.prefix.now
          ∙ follows_none (g.S.Store.can_fail c.args.storage.now) (zarr_json_line (in_bytes s.numbers) s.values c.args.prefix.now) _ c.in-None.is c.in_ok-metadata-in-Default.ensures _)
          c.find_v2.ensures;
    }

pub returns-in-V3 : goal.returns-in-V3
returns-in-V3 g c =
    let s = g.S.Store.contents c.args.storage.now in
    record { found = finds_by _ c.find_v3-in-V3.result (zarr_json_line (in_bytes s.numbers) s.values c.args.prefix.now) _ (ap (λ v. meaning s v c.args.prefix.now) c.in-V3.is ∙ v3_is s c.args.prefix.now) c.find_v3-in-V3.ensures }

pub returns-in-V2 : goal.returns-in-V2
returns-in-V2 g c =
    let s = g.S.Store.contents c.args.storage.now in
    record { found = finds_by _ c.find_v2-in-V2.result (λ after. zarray_line (in_bytes s.numbers) s.values c.args.prefix.now (zgroup_line (in_bytes s.numbers) s.values c.args.prefix.now after)) _ (ap (λ v. meaning s v c.args.prefix.now) c.in-V2.is ∙ v2_is s c.args.prefix.now) c.find_v2-in-V2.ensures }
