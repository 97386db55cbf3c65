use Rattle.std.proofs.Common.{refl}
use Rattle.std.proofs.lemmas.Str.{is_utf8-from_IsUtf8}
use Rattle.zarrs_form.specs.Documents.{json_of}
use Rattle.zarrs_group.proofs.stored_text.pretty_bytes.Goals as goal

pub returns : goal.returns
unfolding json_of
returns c =
    let e = c.in_ok-bytes.ensures in
    record {
      utf8 = e.utf8;
      layout = e.layout;
      order = e.order;
      reads = λ shallow. rw (is_utf8-from_IsUtf8 c.in_ok-bytes.bytes.items e.utf8, e.reads_back shallow) refl;
    }
