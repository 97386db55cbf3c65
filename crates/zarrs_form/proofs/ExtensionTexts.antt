-- The text of an extension that is an object.
use Rattle.std.proofs.Common.{◌≡◌, ℕ, List, Option, [], ◌∷◌, ◌++◌, ◌&&◌, false, if◌then◌else◌, is_none, Some, codes, option_map, ap, sym, ◌∙◌}
use Rattle.serde_json.specs.Data.{Data, boolean, member, no_members, object, string}
use Rattle.serde_json.specs.Written.{has_float, members_have_float}
use Rattle.zarrs_form.specs.declared.extension.MetadataV3.{MetadataV3}
use Rattle.zarrs_form.specs.declared.layout.Layout.{Layout}
use Rattle.zarrs_form.specs.Forms.{extension_data, put_rows, unless}
use Rattle.zarrs_form.specs.Layouts.{members_in, row_in, text_in}
use Rattle.zarrs_form.proofs.TableTexts.{AreWhole, rows_whole, table_written}
use Rattle.zarrs_form.proofs.RowLaws.{◌◂◌}
use Rattle.zarrs_form.proofs.TextLaws.{extension_rows, rows_before}

-- the rows of an extension in the order of their names, but for its name
abbrev pub extension_table : MetadataV3 → List (List ℕ × Option Data)
extension_table m = (codes "configuration", option_map object m.configuration) ∷ (codes "must_understand", unless m.must_understand (boolean false)) ∷ []

-- the extension is no bare name
module _ (m : MetadataV3) (l : Layout) (other : (is_none m.configuration && m.must_understand) ≡ false) where
  -- what is written of an extension that is an object
  written_is : extension_data m ≡ object (put_rows ((codes "name", Some (string m.name)) ∷ extension_table m) no_members)
  written_is = ap (λ b. if b then string m.name else object (put_rows ((codes "name", Some (string m.name)) ∷ extension_table m) no_members)) other

  -- its rows in the order of their names, and then its name
  sorted : put_rows ((codes "name", Some (string m.name)) ∷ extension_table m) no_members ≡ rows_before (extension_table m) (member (codes "name") (string m.name) no_members)
  sorted = extension_rows (string m.name) (option_map object m.configuration) (unless m.must_understand (boolean false))

  -- where it has no fraction, no row has
  pub extension_whole : has_float (extension_data m) ≡ false → AreWhole (extension_table m)
  extension_whole h = rows_whole (extension_table m) _ (ap members_have_float (sym sorted) ∙ ap has_float (sym written_is) ∙ h)

  -- the whole text, row after row
  pub ended : (old start first second new : List ℕ) → start ≡ old ++ 123 ∷ [] → first ≡ start ++ row_in l (codes "configuration") (option_map object m.configuration)
      → second ≡ first ++ row_in l (codes "must_understand") (unless m.must_understand (boolean false)) → new ≡ second ++ members_in false l (member (codes "name") (string m.name) no_members)
      → new ≡ old ++ text_in l (extension_data m)
  ended old start first second new opened e f g =
      table_written l (extension_table m) (codes "name") (string m.name) _ old start new (first ∷ second ∷ []) opened (e ◂ f ◂ tt) g sorted ∙ ap (λ d. old ++ text_in l d) (sym written_is)
