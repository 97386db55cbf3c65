use Rattle.std.proofs.Common.{◌≡◌, Err, rules}
use Rattle.std.specs.FinMap as map
use Rattle.zarrs_store.specs.Segments.{key_cmp}
use Rattle.zarrs_tool.proofs.Folders.{folder_fault_result, store_fault_result, written_folder}
use Rattle.zarrs_tool.proofs.run_folder.Goals as goal

pub returns-in_err-store-clause-refused : goal.returns-in_err-store-clause-refused
returns-in_err-store-clause-refused g c =
    let is : c.from_residual.result ≡ Err c.in_err-store.field-0.0 = search rules in
    folder_fault_result _ _ c.in_err-store.field-0.0 is c.in_err-store.ensures.err

pub returns-clause-ok : goal.returns-clause-ok
returns-clause-ok g c = written_folder _ (map.from_entries {R = key_cmp} c.in_ok-store.store) _ _ c.run_store-outcome.result c.in_ok-store.ensures.ok c.run_store-outcome.ensures.ok

pub returns-clause-refused : goal.returns-clause-refused
returns-clause-refused g c = store_fault_result _ (map.from_entries {R = key_cmp} c.in_ok-store.store) c.run_store-outcome.result c.in_ok-store.ensures.ok c.run_store-outcome.ensures.refused
