-- Members that stand in the order of their names, as RFC 8259, "Objects", lets them stand in any: each name once.
-- <https://www.rfc-editor.org/rfc/rfc8259#section-4>
--     NamesAscend      that entries stand in the order of their names
use Rattle.std.specs.Prelude.{List, String, string_cmp}
use Rattle.std.specs.Global.{Global}
use Rattle.std.specs.List.Sorted.{IsStrictlySortedBy}
use Rattle.std.specs.Map.{keys_of}

-- the names ascend strictly by their bytes
abbrev pub NamesAscend : {X : Type 0} → List (String Global × X) → Type 0
NamesAscend es = IsStrictlySortedBy string_cmp (keys_of es)
