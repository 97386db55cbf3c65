use Rattle.std.proofs.lemmas.Str.{is_utf8-from_IsUtf8}
use Rattle.std.proofs.Common.{refl}
use Rattle.zarrs_form.specs.Documents.{json_of}
use Rattle.zarrs_form.proofs.document_bytes.document_text.Goals as goal

pub returns-clause-text : goal.returns-clause-text
unfolding json_of
returns-clause-text c =
    let e = c.in_ok-bytes.ensures in
    record {
      utf8 = e.utf8;
      layout = e.layout;
      order = e.order;
      reads = rw (is_utf8-from_IsUtf8 c.in_ok-bytes.bytes.items e.utf8, e.reads_back (c.is_shallow.ensures.0 c.if-not-is_shallow.false)) refl;
    }
