-- Edits that are changes, taken apart.
use Rattle.std.proofs.Common.{◌≡◌, List, [], ◌∷◌, Option, Some, None, refl, ap}
use Rattle.serde_json.specs.Data.{Data}
use Rattle.zarrs_store.specs.Segments.{Segments}
use Rattle.zarrs_group.specs.Edits.{Edit, edit_key}
use Rattle.zarrs_group.specs.StoringGroups.{AreEditsOf, IsEditAt, KeyChange}

-- the edit of a change is at its key
pub key_of : (key : Segments) (t : Option Data) (e : Edit) → IsEditAt key t e → edit_key e ≡ key
key_of key (Some d) e (bytes, is, text) = ap edit_key is
key_of key None e is = ap edit_key is

-- the edits of one change are one
pub one_edit : (c : KeyChange) (es : List Edit) → AreEditsOf (c ∷ []) es → (x : Edit) × (es ≡ x ∷ []) × IsEditAt c.0 c.1 x
one_edit c [] h = absurd h
one_edit c (x ∷ []) h = (x, refl, h.0)
one_edit c (x ∷ y ∷ es) h = absurd h.1

-- those of three changes are three
pub three_edits : (b c d : KeyChange) (es : List Edit) → AreEditsOf (b ∷ c ∷ d ∷ []) es
    → (x : Edit) × (y : Edit) × (z : Edit) × (es ≡ x ∷ y ∷ z ∷ []) × IsEditAt b.0 b.1 x × IsEditAt c.0 c.1 y × IsEditAt d.0 d.1 z
three_edits b c d [] h = absurd h
three_edits b c d (x ∷ []) h = absurd h.1
three_edits b c d (x ∷ y ∷ []) h = absurd h.1.1
three_edits b c d (x ∷ y ∷ z ∷ []) h = (x, y, z, refl, h.0, h.1.0, h.1.1.0)
three_edits b c d (x ∷ y ∷ z ∷ w ∷ es) h = absurd h.1.1.1
