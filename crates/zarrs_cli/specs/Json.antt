-- What there is to tell of a store as JSON (RFC 8259), for scripts.
-- <https://www.rfc-editor.org/rfc/rfc8259>
--     remark_data r      the object of a remark
--     json_text rs      the text of the array of them, and a newline
use Rattle.std.specs.Prelude.{ℕ, List, [], ◌∷◌, ◌++◌, map, Option, Some, None, codes}
use Rattle.serde_json.specs.Data.{Data, null, string, array, object, member, no_members}
use Rattle.serde_json.specs.View.{items_of}
use Rattle.serde_json.specs.Written.{compact_text}
use Rattle.zarrs_path.specs.Paths.{Path, path_text}
use Rattle.zarrs_cli.specs.declared.remark.Remark.{Remark}
use Rattle.zarrs_cli.specs.Kinds.{kind_word}
use Rattle.zarrs_fault.specs.Bytes.{newline}

-- a text, or null
abbrev pub text_or_null : Option (List ℕ) → Data
text_or_null None = null
text_or_null (Some text) = string text

-- the text of a path, or null
abbrev pub path_or_null : Option Path → Data
path_or_null None = null
path_or_null (Some p) = string (path_text p)

-- the object of a remark: the group whose block is wrong, the wrong key of the block, the kind, the path, and what
-- its line says behind the path
abbrev pub remark_data : Remark → Data
remark_data r =
    object
    (member (codes "block") (path_or_null r.group)
    (member (codes "key") (text_or_null r.key)
    (member (codes "kind") (string (kind_word r.kind))
    (member (codes "path") (string (path_text r.path)) (member (codes "text") (string r.text) no_members)))))

-- the array of the objects of remarks
abbrev pub remarks_data : List Remark → Data
remarks_data rs = array (items_of (map remark_data rs))

-- its text without spaces, and a newline
abbrev pub json_text : List Remark → List ℕ
json_text rs = compact_text (remarks_data rs) ++ newline ∷ []
